use Rattle.std.proofs.Common.{◌≡◌, ◌<◌, ◌≤◌, ◌++◌, ◌∷◌, [], ℕ, List, length, arith, ap, ◌∙◌, sym, refl, append_assoc, append-nil, length-append, lit<}
use Rattle.office_records.proofs.Places.{numbered_read}
use Rattle.office_records.proofs.Walk.{up_from, up_step, up_none, chain_begins, parent_fits, parent_smaller, placed_in}
use Rattle.office_tree.proofs.classification.chain_of.Goals as goal

-- one more number of those that are at most eight
room : (xs ys zs : List ℕ) (a : ℕ) → xs ++ (a ∷ ys) ≡ zs → length zs ≤ 8 → length xs < 8
room xs ys zs a e h = let n = ap length e in omega (arith, n, length-append xs (a ∷ ys))

pub push-requires : goal.push-requires
push-requires c =
    let w = rw c.in-Some.is at c.loop-next.invariant.within in
    let all = rw c.in-Some.is at c.loop-next.invariant.all in
    let up = chain_begins c.args.aggregations.now c.in-Some.at w.0 in
    (lit< tt, room c.loop-next.numbers.items up.0 _ c.in-Some.at (ap (λ xs. c.loop-next.numbers.items ++ xs) (sym up.1) ∙ all) (c.requires.forest.depth c.args.aggregation))

pub loop-next-smaller : goal.loop-next-smaller
loop-next-smaller c =
    let w = rw c.in-Some.is at c.loop-next.invariant.within in
    let it = numbered_read c.args.aggregations.now c.in-Some.at c.index-aggregations-at.result w.0 w.1 c.index-aggregations-at.is in
    let placed = placed_in c.args.aggregations.now c.requires.forest c.requires.roots c.in-Some.at c.index-aggregations-at.result it in
    rw c.in-Some.is (parent_smaller c.in-Some.at c.index-aggregations-at.result.parent c.index-aggregations-at.result w.0 refl placed)

pub loop-next-preserved : goal.loop-next-preserved
loop-next-preserved c =
    let w = rw c.in-Some.is at c.loop-next.invariant.within in
    let all = rw c.in-Some.is at c.loop-next.invariant.all in
    let it = numbered_read c.args.aggregations.now c.in-Some.at c.index-aggregations-at.result w.0 w.1 c.index-aggregations-at.is in
    let placed = placed_in c.args.aggregations.now c.requires.forest c.requires.roots c.in-Some.at c.index-aggregations-at.result it in
    let step = up_step c.args.aggregations.now (placed_in c.args.aggregations.now c.requires.forest c.requires.roots) c.in-Some.at c.index-aggregations-at.result w.0 it in
    record {
      within = parent_fits c.args.aggregations.now c.in-Some.at c.index-aggregations-at.result.parent c.index-aggregations-at.result w.1 refl placed;
      all = ap (λ xs. xs ++ up_from c.args.aggregations.now c.index-aggregations-at.result.parent) c.push.ensures.items ∙ append_assoc c.loop-next.numbers.items (c.in-Some.at ∷ []) (up_from c.args.aggregations.now c.index-aggregations-at.result.parent)
          ∙ ap (λ xs. c.loop-next.numbers.items ++ xs) (sym step) ∙ all;
    }

pub returns : goal.returns
returns c = sym (append-nil c.loop-next.numbers.items) ∙ ap (λ xs. c.loop-next.numbers.items ++ xs) (sym (up_none c.args.aggregations.now c.loop-next.next c.in_default.is)) ∙ c.loop-next.invariant.all
