use Rattle.std.proofs.Common.{◌≡◌, ◌≤◌, false, map, take}
use Rattle.serde_json.specs.Data.{items_depth}
use Rattle.serde_json.specs.View.{items_view, view}
use Rattle.serde_json.specs.Written.{items_have_float}
use Rattle.office_notes.specs.Acts.{noted}
use Rattle.office_notes.proofs.text.acts_value.Given as goal

abbrev pub invariant-loop-act : goal.invariant-loop-act
invariant-loop-act l =
    (map view l.values.items ≡ map noted (take l.act-index l.acts))
    × ((items_have_float (items_view l.values.items) ≡ false) × (items_depth (items_view l.values.items) ≤ 2))
