-- The numbers after a number, one by one.
use Rattle.std.proofs.Common.{◌≡◌, ◌<◌, ◌+◌, ◌-◌, ℕ, suc, ◌∷◌, ap, ◌∙◌, arith}
use Rattle.office_records.specs.Lists.{numbers_after}

-- the next number is the first of those after
pub one_after : (count before : ℕ) → before < count → numbers_after before (count - before) ≡ (before + 1) ∷ numbers_after (before + 1) (count - (before + 1))
one_after count before h =
    let left : count - before ≡ suc (count - (before + 1)) = omega arith in
    let more : suc before ≡ before + 1 = omega arith in
    ap (numbers_after before) left ∙ ap (λ n. n ∷ numbers_after n (count - (before + 1))) more
