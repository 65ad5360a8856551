use Rattle.office_journal.specs.Members.{answered_fields}
use Rattle.office_journal.proofs.Judged.{judged}
use Rattle.office_journal.proofs.Put.{all_tokens}
use Rattle.office_journal.proofs.journal.Journal.note_answered.Goals as goal

pub returns-clause-noted : goal.returns-clause-noted
returns-clause-noted g c =
    c.note.ensures.noted (answered_fields c.args.answered.now) (all_tokens _ _ _ c.new_members-members.ensures.tokens c.in_ok-put.ensures.put) c.in_ok-put.ensures.put.numbers c.in_ok-put.ensures.put.shallow

pub returns-clause-read : goal.returns-clause-read
returns-clause-read g c = judged _ c.note.result c.in_ok-put.ensures.read c.note.ensures.texts
