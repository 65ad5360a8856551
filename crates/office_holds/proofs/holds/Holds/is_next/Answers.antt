use Rattle.std.proofs.Common.{◌≡◌, ℕ, List, map, ap, subst, sym, ◌∙◌}
use Rattle.std.specs.FinMap.{entries}
use Rattle.std.specs.List.{All}
use Rattle.std.specs.declared.cmp.Ordering.TheVariants.{Less}
use Rattle.office_records.specs.Tree.{code_cmp}
use Rattle.office_records.proofs.Maps.{entries_of_ordered}
use Rattle.office_rules.specs.Holds.{HoldState}
use Rattle.office_holds.proofs.holds.Holds.is_next.Goals as goal

-- the code is above those of these entries
abbrev IsAboveThese : List ℕ → List (List ℕ × HoldState) → Type 0
IsAboveThese code es = All (λ q. code_cmp q code ≡ Less) (map (λ e. e.0) es)

pub returns-clause-above : goal.returns-clause-above
returns-clause-above c = λ reported.
    let same = ap entries (sym c.self.view_is) ∙ entries_of_ordered c.self.inside.by_code.entries c.len.ensures.ordered in
    subst (IsAboveThese c.args.code.now) (sym same) (c.follows.ensures.below reported)

pub returns-clause-not_above : goal.returns-clause-not_above
returns-clause-not_above c = λ reported above.
    let same = ap entries (sym c.self.view_is) ∙ entries_of_ordered c.self.inside.by_code.entries c.len.ensures.ordered in
    c.follows.ensures.not_below reported (subst (IsAboveThese c.args.code.now) same above)
