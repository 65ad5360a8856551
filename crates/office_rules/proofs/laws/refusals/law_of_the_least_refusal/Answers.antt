use Rattle.office_rules.proofs.Refused.{answered, least}
use Rattle.office_rules.proofs.laws.refusals.law_of_the_least_refusal.Goals as goal

pub returns : goal.returns
returns c = record { least = least; answered = answered }
