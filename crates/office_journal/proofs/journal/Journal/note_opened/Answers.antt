use Rattle.office_journal.specs.Kinds.{begun_fields}
use Rattle.office_journal.proofs.Put.{all_tokens}
use Rattle.office_journal.proofs.journal.Journal.note_opened.Goals as goal

pub returns-clause-noted : goal.returns-clause-noted
returns-clause-noted g c =
    c.note.ensures.noted (begun_fields c.args.opened.now) (all_tokens _ _ _ c.new_members-members.ensures.tokens c.in_ok-put.ensures) c.in_ok-put.ensures.numbers c.in_ok-put.ensures.shallow
