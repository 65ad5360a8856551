use Rattle.office_rules.proofs.Candidates.{candidates_are, candidates_rise, next_is_candidate, next_is_least, none_is_candidate}
use Rattle.office_rules.proofs.laws.disposal_runs.law_of_candidates.Goals as goal

pub returns : goal.returns
returns c = record { these = candidates_are; by_number = candidates_rise; next = next_is_candidate; least = next_is_least; none = none_is_candidate }
