use Rattle.std.proofs.Common.{◌≡◌, drop}
use Rattle.serde_json.specs.View.{items_view}
use Rattle.office_json.specs.Lists.{acts_from}
use Rattle.office_json.proofs.ListSteps.{with_prefix}
use Rattle.office_json.proofs.lists.read_all.Given as goal

abbrev pub invariant-loop-value : goal.invariant-loop-value
invariant-loop-value l =
    (l.place ≡ l.value-index)
    × (with_prefix l.acts.items (acts_from l.place (items_view (drop l.value-index l.values))) ≡ acts_from 0 (items_view l.values))
