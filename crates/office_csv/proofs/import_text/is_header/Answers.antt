use Rattle.office_csv.specs.ImportRows.{named}
use Rattle.office_csv.proofs.import_text.is_header.Goals as goal

pub returns-in-Some-clause-yes : goal.returns-in-Some-clause-yes
returns-in-Some-clause-yes c = λ yes. (named c.in-Some.it, c.in-Some.ensures.some, rw c.is_header.ensures at yes)
