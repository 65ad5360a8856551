use Rattle.std.proofs.Common.{◌≡◌, ℕ, ◌-◌, ◌<◌, ◌≤◌, ◌∷◌, ◌∙◌, List, Some, ap, get_or, length, refl, sym, subst}
use Rattle.std.specs.Prelude.{IsTrue}
use Rattle.office_records.specs.Lists.{numbered}
use Rattle.office_records.specs.Tree.{TreeState, chain_of, has_aggregation}
use Rattle.office_records.specs.declared.aggregation.Aggregation.{Aggregation}
use Rattle.office_records.proofs.Places.{numbered_read}
use Rattle.office_records.proofs.Reading.{aggregation_within}
use Rattle.office_records.proofs.Walk.{parent_fits, placed_in, up_from, up_none, up_step}
use Rattle.office_tree.proofs.tree.Tree.aggregations_above.Goals as goal

-- what was read at an aggregation's place is the aggregation
aggregation_read : (rows : List Aggregation) (tree : TreeState) (a : ℕ) (x : Aggregation) → rows ≡ tree.aggregations → IsTrue (has_aggregation tree a) → x ≡ get_or rows (a - 1) x
    → (0 < a) × (a ≤ length rows) × (numbered rows a ≡ Some x)
aggregation_read rows tree a x same there e =
    let within = aggregation_within tree a there in
    let high = subst (λ (xs : List Aggregation). a ≤ length xs) (sym same) within.1 in
    (within.0, high, numbered_read rows a x within.0 high e)

pub chain_of-requires-clause-low : goal.chain_of-requires-clause-low
chain_of-requires-clause-low c =
    let rows = c.self.inside.aggregations.items in
    let sound = c.self.invariant.stored.sound in
    let it = aggregation_read rows c.args.self.now c.args.aggregation c.index.result.now (ap (λ t. t.aggregations) c.self.view_is) c.requires c.index.ensures in
    let placed = placed_in rows sound.forest sound.names.root_classes c.args.aggregation c.index.result.now it.2 in
    (rw c.in-Some.is at (parent_fits rows c.args.aggregation c.index.result.now.parent c.index.result.now it.1 refl placed)).0

pub chain_of-requires-clause-high : goal.chain_of-requires-clause-high
chain_of-requires-clause-high c =
    let rows = c.self.inside.aggregations.items in
    let sound = c.self.invariant.stored.sound in
    let it = aggregation_read rows c.args.self.now c.args.aggregation c.index.result.now (ap (λ t. t.aggregations) c.self.view_is) c.requires c.index.ensures in
    let placed = placed_in rows sound.forest sound.names.root_classes c.args.aggregation c.index.result.now it.2 in
    subst (λ (xs : List Aggregation). c.in-Some.parent ≤ length xs) (sym c.deref.ensures.value)
    (rw c.in-Some.is at (parent_fits rows c.args.aggregation c.index.result.now.parent c.index.result.now it.1 refl placed)).1

pub returns-in-Some : goal.returns-in-Some
returns-in-Some c =
    let rows = c.self.inside.aggregations.items in
    let a = c.args.aggregation in
    let sound = c.self.invariant.stored.sound in
    let same = ap (λ t. t.aggregations) c.self.view_is in
    let it = aggregation_read rows c.args.self.now a c.index.result.now same c.requires c.index.ensures in
    let step = up_step rows (placed_in rows sound.forest sound.names.root_classes) a c.index.result.now it.0 it.2 in
    ap (λ xs. a ∷ xs) (c.chain_of.ensures ∙ ap (λ (xs : List Aggregation). chain_of xs c.in-Some.parent) c.deref.ensures.value)
    ∙ ap (λ o. a ∷ up_from rows o) (sym c.in-Some.is)
    ∙ sym step
    ∙ ap (λ (xs : List Aggregation). chain_of xs a) same

pub returns-in-None : goal.returns-in-None
returns-in-None c =
    let rows = c.self.inside.aggregations.items in
    let a = c.args.aggregation in
    let sound = c.self.invariant.stored.sound in
    let same = ap (λ t. t.aggregations) c.self.view_is in
    let it = aggregation_read rows c.args.self.now a c.index.result.now same c.requires c.index.ensures in
    let step = up_step rows (placed_in rows sound.forest sound.names.root_classes) a c.index.result.now it.0 it.2 in
    ap (λ xs. a ∷ xs) (c.new.ensures ∙ sym (up_none rows c.index.result.now.parent c.in-None.is))
    ∙ sym step
    ∙ ap (λ (xs : List Aggregation). chain_of xs a) same
