use Rattle.office_rules.proofs.Contents.{step_contents, content_added, content_stays}
use Rattle.office_rules.proofs.laws.contents.law_of_contents.Goals as goal

pub returns : goal.returns
returns c = record { step = step_contents; added = content_added; others = content_stays }
