-- How many entries have such an outcome, counted in a slice of references.
use Rattle.std.proofs.Common.{◌≡◌, ◌∙◌, sym, ap, refl, suc, Bool, true, false, cond, List, [], ◌∷◌, length, filter, map, count_by, Bor}
use Rattle.std.proofs.lemmas.List.Sums.{length-filter}
use Rattle.office_rules.specs.declared.entry.Entry.{Entry}
use Rattle.office_rules.specs.declared.outcome.Outcome.{Outcome}

by_first : {X Y : Type 0} (first : Bool) (x : X) (y : Y) (xs : List X) (ys : List Y) → length xs ≡ length ys → length (cond first (x ∷ xs) xs) ≡ length (cond first (y ∷ ys) ys)
by_first true x y xs ys same = ap suc same
by_first false x y xs ys same = same

through : {X Y : Type 0} (p : Y → Bool) (f : X → Y) (xs : List X) → length (filter (λ x. p (f x)) xs) ≡ length (filter p (map f xs))
through p f [] = refl
through p f (x ∷ xs) = by_first (p (f x)) x (f x) _ _ (through p f xs)

pub counted_is : (test : Outcome → Bool) (entries : List (Bor Entry))
    → count_by (λ entry. test entry.now.outcome) entries ≡ length (filter (λ e. test e.outcome) (map (λ entry. entry.now) entries))
counted_is test entries =
    sym (length-filter (λ entry. test entry.now.outcome) entries) ∙ through (λ e. test e.outcome) (λ entry. entry.now) entries
