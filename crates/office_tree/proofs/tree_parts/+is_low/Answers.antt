use Rattle.std.proofs.Common.{◌≡◌, ◌≢◌, ◌<◌, ◌-◌, ℕ, zero, suc, refl, sym, ap, ◌∙◌, arith, length}
use Rattle.std.specs.Prelude.{nat_le}
use Rattle.office_records.proofs.Places.{numbered_read}
use Rattle.office_records.proofs.Placed.{are_well_placed, low_none, low_step, not_low}
use Rattle.office_records.proofs.Walk.{up_from, parent_fits}
use Rattle.office_tree.proofs.tree_parts.+is_low.Goals as goal

smaller : (k t : ℕ) → k ≡ t → k ≢ 0 → k - 1 < t
smaller zero t e some = absurd (some refl)
smaller (suc k) t e some = omega (arith, e)

pub returns-then-steps-eq0 : goal.returns-then-steps-eq0
returns-then-steps-eq0 t c =
    let w = rw c.in-Some.is at c.requires.within in
    not_low c.args.aggregations.now c.in-Some.at c.args.steps w.0 c.if-steps-eq0.true ∙ ap (λ next. nat_le (length (up_from c.args.aggregations.now next)) c.args.steps) (sym c.in-Some.is)

pub is_low-requires : goal.is_low-requires
is_low-requires t c =
    let w = rw c.in-Some.is at c.requires.within in
    let it = numbered_read c.args.aggregations.now c.in-Some.at c.index-aggregations-at.result w.0 w.1 c.index-aggregations-at.is in
    let placed = are_well_placed c.args.aggregations.now c.requires.below c.requires.roots c.in-Some.at c.index-aggregations-at.result it in
    (smaller c.args.steps t c.decreases c.if-steps-eq0.false, (c.requires.below, (c.requires.roots, parent_fits c.args.aggregations.now c.in-Some.at c.index-aggregations-at.result.parent c.index-aggregations-at.result w.1 refl placed)))

pub returns-in-None : goal.returns-in-None
returns-in-None t c = low_none c.args.aggregations.now c.args.next c.args.steps c.in-None.is

pub returns-else-steps-eq0 : goal.returns-else-steps-eq0
returns-else-steps-eq0 t c =
    let w = rw c.in-Some.is at c.requires.within in
    let it = numbered_read c.args.aggregations.now c.in-Some.at c.index-aggregations-at.result w.0 w.1 c.index-aggregations-at.is in
    c.is_low.ensures ∙ low_step c.args.aggregations.now c.requires.below c.requires.roots c.in-Some.at c.args.steps c.index-aggregations-at.result w.0 it c.if-steps-eq0.false
    ∙ ap (λ next. nat_le (length (up_from c.args.aggregations.now next)) c.args.steps) (sym c.in-Some.is)
