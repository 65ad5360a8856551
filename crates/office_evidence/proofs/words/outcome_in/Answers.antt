use Rattle.std.proofs.Common.{◌∙◌, ap}
use Rattle.office_rules.specs.Outcomes.{outcome_named}
use Rattle.office_evidence.proofs.ReadWords.{named_again}
use Rattle.office_evidence.proofs.words.outcome_in.Goals as goal

pub returns : goal.returns
returns c o same = c.read.ensures ∙ ap outcome_named same ∙ named_again o
