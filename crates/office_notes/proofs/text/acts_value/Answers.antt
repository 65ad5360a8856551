use Rattle.std.proofs.Common.{◌≡◌, arith, map, refl, take}
use Rattle.std.proofs.lemmas.Grind.{common_steps}
use Rattle.std.proofs.lemmas.List.{take_all}
use Rattle.serde_json.proofs.Views.{view-Array}
use Rattle.serde_json.specs.View.{view}
use Rattle.office_notes.specs.Acts.{noted}
use Rattle.office_notes.proofs.FlatValues.{more_flat}
use Rattle.office_notes.proofs.text.acts_value.Goals as goal

pub loop-act-preserved : goal.loop-act-preserved
loop-act-preserved c =
    let before : map view c.loop-act.values.items ≡ map noted (take c.loop-act.act-index c.args.acts.now) = c.loop-act.invariant.0 in
    (grind (arith, common_steps, before), rw c.in_ok-push.ensures.items (more_flat _ _ c.loop-act.invariant.1 c.in_ok-act_value.ensures.flat))

pub returns-clause-value : goal.returns-clause-value
returns-clause-value c =
    let all = take_all c.loop-act.act-index c.args.acts.now c.loop-act-test.false in
    rw (view-Array c.loop-act.values, c.loop-act.invariant.0, all) refl

pub returns-clause-no_float : goal.returns-clause-no_float
returns-clause-no_float c = rw (view-Array c.loop-act.values) c.loop-act.invariant.1.0

pub returns-clause-shallow : goal.returns-clause-shallow
returns-clause-shallow c =
    let low = c.loop-act.invariant.1.1 in
    rw (view-Array c.loop-act.values) (omega (arith, low))
