-- What it says that no condition of a table holds.
use Rattle.std.proofs.Common.{◌≡◌, ℕ, zero, suc, ◌<◌, List, [], ◌∷◌, Option, Some, None, refl, sym, ap, ◌∙◌, cond, Bool, true, false, arith}
use Rattle.std.specs.Prelude.{not, nat_le, ◌||◌}
use Rattle.std.specs.List.{AllByRecursion, list_any}
use Rattle.std.proofs.lemmas.Bool.Decides.{nat_tests}
use Rattle.office_base.specs.declared.refusal.Refusal.{Refusal}
use Rattle.office_records.specs.Conditions.{first_of}
use Rattle.office_records.specs.Lists.{numbered}

none_first : (r : Refusal) (b : Bool) (rest : Option Refusal) → cond b (Some r) rest ≡ None → (b ≡ false) × (rest ≡ None)
none_first r true rest e = absurd cc
none_first r false rest e = (refl, e)

-- where there is no refusal no condition holds
pub none_holds : (cs : List (Refusal × Bool)) → first_of cs ≡ None → AllByRecursion (λ c. c.1 ≡ false) cs
none_holds [] e = tt
none_holds (c ∷ cs) e = let first = none_first c.0 c.1 (first_of cs) e in (first.0, none_holds cs first.1)

pub not_false : (b : Bool) → not b ≡ false → b ≡ true
not_false true e = refl
not_false false e = absurd cc

pub neither : (a b : Bool) → (a || b) ≡ false → (a ≡ false) × (b ≡ false)
neither true b e = absurd cc
neither false b e = (refl, e)

pub below : (n k : ℕ) → nat_le k n ≡ false → n < k
below n k e = grind (arith, nat_tests)

-- where none passes, no numbered one does
pub none_at : {A : Type 0} (test : A → Bool) (xs : List A) (n : ℕ) (x : A) → list_any test xs ≡ false → numbered xs n ≡ Some x → test x ≡ false
none_at test [] zero x none e = absurd cc
none_at test [] (suc n) x none e = absurd cc
none_at test (y ∷ ys) zero x none e = absurd cc
none_at test (y ∷ ys) (suc zero) x none e = let same : y ≡ x = cc in ap test (sym same) ∙ (neither (test y) (list_any test ys) none).0
none_at test (y ∷ ys) (suc (suc n)) x none e = none_at test ys (suc n) x (neither (test y) (list_any test ys) none).1 e
