use Rattle.std.proofs.Common.{◌∙◌}
use Rattle.office_journal.proofs.Judged.{noted}
use Rattle.office_journal.proofs.journal.Journal.note.Goals as goal

pub returns-clause-noted : goal.returns-clause-noted
returns-clause-noted g c = λ fields tokens numbers shallow.
    noted _ c.args.self.now _ c.write.result fields c.args.members.tokens _ tokens numbers shallow c.in_ok-text.ensures.utf8
    (c.deref.ensures.value ∙ c.in_ok-text.ensures.text) c.write.ensures.written c.write.ensures.number c.write.ensures.unwritten
