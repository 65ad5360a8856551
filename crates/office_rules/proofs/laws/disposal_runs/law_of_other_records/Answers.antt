use Rattle.std.proofs.Common.{refl}
use Rattle.office_rules.specs.Runs.{with_outcomes}
use Rattle.office_rules.proofs.Untaken.{content_untaken, status_untaken}
use Rattle.office_rules.proofs.laws.disposal_runs.law_of_other_records.Goals as goal

-- all but the status and the content are read from parts that an outcome does not write
pub returns : goal.returns
unfolding with_outcomes
returns c = record {
  class = λ s run r taken. refl;
  plan = λ s run r taken. refl;
  start = λ s run r taken. refl;
  due = λ s run r taken. refl;
  held = λ s run r taken. refl;
  covering = λ s run r taken. refl;
  confirmation = λ s run r taken. refl;
  status = λ s run r taken untaken. status_untaken s.office taken r s.office.tree.statuses untaken;
  content = λ s run r taken untaken. content_untaken s.office taken r s.contents untaken;
}
