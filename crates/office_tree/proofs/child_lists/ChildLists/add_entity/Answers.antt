use Rattle.std.proofs.Common.{◌≡◌, ◌≤◌, ◌+◌, ◌-◌, ◌∙◌, ◌++◌, ◌∷◌, [], List, ℕ, length, length-append, set, sym, ap, subst, arith}
use Rattle.office_tree.specs.ChildLists.{AreLinked}
use Rattle.office_records.specs.Lists.{put}
use Rattle.office_tree.proofs.Linked.{linked_record}
use Rattle.office_records.proofs.Putting.{put_within}
use Rattle.office_tree.proofs.child_lists.ChildLists.add_entity.Goals as goal

pub returns : goal.returns
returns c containers count right =
    let last = c.args.self.now.last.items in
    let before = c.args.self.now.before.items in
    let aggregation = c.args.aggregation in
    let n = length before + 1 in
    let number : n ≡ c.len.result = omega (arith, c.len.ensures, ap length c.push_row.ensures, length-append before (c.last-before.result ∷ [])) in
    let high : aggregation ≤ count = omega (arith, c.requires.high, right.aggregations) in
    let written : put last aggregation n ≡ set last (aggregation - 1) c.len.result = put_within last aggregation (aggregation - 1) n (omega (arith, c.requires.low)) c.requires.high ∙ ap (set last (aggregation - 1)) number in
    let linked = linked_record containers count last before aggregation c.last-before.result right c.requires.low high c.last-before.ensures in
    subst (λ (its : List ℕ). AreLinked (containers ++ aggregation ∷ []) count (set last (aggregation - 1) c.len.result) its) (sym c.push_row.ensures)
    (subst (λ (its : List ℕ). AreLinked (containers ++ aggregation ∷ []) count its (before ++ c.last-before.result ∷ [])) written linked)
