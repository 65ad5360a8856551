-- Words that the office writes are read as what they were written of.
use Rattle.std.proofs.Common.{◌≡◌, ◌≢◌, ℕ, zero, suc, ◌<◌, ◌==◌, true, not, List, [], ◌∷◌, length, get_or, Some, refl, arith}
use Rattle.std.specs.List.{list_all}
use Rattle.std.proofs.lemmas.Bool.{and_parts}
use Rattle.std.proofs.lemmas.Bool.Decides.{nat_tests}
use Rattle.office_rules.specs.Outcomes.{outcome_named, outcome_word}
use Rattle.office_rules.specs.declared.outcome.Outcome.{Outcome}
use Rattle.office_rules.specs.declared.outcome.Outcome.TheVariants.{Destroyed, Transferred, Sent, Skipped}

pub named_again : (o : Outcome) → outcome_named (outcome_word o) ≡ Some o
named_again Destroyed = refl
named_again Transferred = refl
named_again Sent = refl
named_again Skipped = refl

-- no byte of a literal is another one
pub lacks : (v : ℕ) (word : List ℕ) → list_all (λ b. not (b == v)) word ≡ true → (i : ℕ) → i < length word → get_or word i 0 ≢ v
lacks v [] all i low = absurd (omega arith)
lacks v (b ∷ bs) all zero low = other b v (and_parts (not (b == v)) (list_all (λ b. not (b == v)) bs) all).0
  where
    other : (b v : ℕ) → not (b == v) ≡ true → b ≢ v
    other b v e = grind (arith, nat_tests)
lacks v (b ∷ bs) all (suc i) low = lacks v bs (and_parts (not (b == v)) (list_all (λ b. not (b == v)) bs) all).1 i (omega arith)
