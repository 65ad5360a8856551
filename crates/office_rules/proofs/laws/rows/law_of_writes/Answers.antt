use Rattle.office_rules.proofs.RowWrites.{all_written, written}
use Rattle.office_rules.proofs.laws.rows.law_of_writes.Goals as goal

pub returns : goal.returns
returns c = record { each = written; all = all_written }
