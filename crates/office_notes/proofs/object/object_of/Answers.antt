use Rattle.std.proofs.Common.{ap, arith}
use Rattle.serde_json.proofs.Views.{view-Object}
use Rattle.serde_json.specs.View.{members_view}
use Rattle.office_notes.proofs.FlatValues.{flat_put}
use Rattle.office_notes.proofs.object.object_of.Goals as goal

pub returns-clause-flat : goal.returns-clause-flat
returns-clause-flat c =
    let none = ap (λ entries. members_view entries) c.new-map.ensures.empty in
    let flat = flat_put c.args.members.now _ _ none c.in_ok-put_all.ensures in
    rw (view-Object c.put_all.new.map) (flat.0, omega (arith, flat))
