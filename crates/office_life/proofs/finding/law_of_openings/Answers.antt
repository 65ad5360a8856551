use Rattle.office_life.proofs.Openings.{files_not_refused, office_not_refused}
use Rattle.office_life.proofs.finding.law_of_openings.Goals as goal

pub returns-clause-files : goal.returns-clause-files
returns-clause-files g c = files_not_refused g.D.Disk

pub returns-clause-office : goal.returns-clause-office
returns-clause-office g c = office_not_refused g.D.Disk
