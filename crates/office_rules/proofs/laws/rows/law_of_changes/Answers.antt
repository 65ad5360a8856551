use Rattle.office_rules.proofs.Changes.{office_changed, rows_changed}
use Rattle.office_rules.proofs.FreeRefs.{refs_free}
use Rattle.office_rules.proofs.laws.rows.law_of_changes.Goals as goal

pub returns : goal.returns
returns c = record { office = office_changed; rows = rows_changed; refs = refs_free }
