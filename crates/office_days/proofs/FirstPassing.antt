-- The first of some days in a row that passes a test.
use Rattle.std.proofs.Common.{◌≡◌, ◌⊎◌, ℕ, zero, suc, ◌<◌, inl, inr, ℤ, pos, ◌+ℤ◌, ◌≤ℤ◌, Some, None, arith, refl, sym, ◌∙◌, subst, cond, true, false, Bool}
use Rattle.jiff_core.proofs.SignedLemmas.{signed_arith}
use Rattle.office_days.specs.Search.{first_passing}

pub cond-true : {A : Type 0} (b : Bool) (x y : A) → b ≡ true → cond b x y ≡ x
cond-true b x y e = rw e refl

pub cond-false : {A : Type 0} (b : Bool) (x y : A) → b ≡ false → cond b x y ≡ y
cond-false b x y e = rw e refl

start : (test : ℤ → Bool) (b : Bool) (day : ℤ) → test (day +ℤ pos 0) ≡ b → test day ≡ b
start test b day h =
    let e : day +ℤ pos 0 ≡ day = omega (arith, signed_arith) in
    subst (λ (z : ℤ). test z ≡ b) e h

step : (day : ℤ) (j : ℕ) → day +ℤ pos (suc j) ≡ (day +ℤ pos 1) +ℤ pos j
step day j = omega (arith, signed_arith)

-- it is the one that passes with none before it
pub first_passing-is : (test : ℤ → Bool) (n k : ℕ) (day : ℤ) → k < n → test (day +ℤ pos k) ≡ true → ((j : ℕ) → j < k → test (day +ℤ pos j) ≡ false) → first_passing test n day ≡ Some (day +ℤ pos k)
unfolding first_passing
first_passing-is test zero k day lt here before = absurd (omega (arith, lt))
first_passing-is test (suc n) zero day lt here before =
    let e : day ≡ day +ℤ pos 0 = omega (arith, signed_arith) in
    cond-true (test day) _ _ (start test true day here) ∙ subst (λ (z : ℤ). Some day ≡ Some z) e refl
first_passing-is test (suc n) (suc k) day lt here before =
    cond-false (test day) _ _ (start test false day (before 0 (omega arith)))
    ∙ first_passing-is test n k (day +ℤ pos 1) (omega (arith, lt)) (subst (λ (z : ℤ). test z ≡ true) (step day k) here) (λ j lj. subst (λ (z : ℤ). test z ≡ false) (step day j) (before (suc j) (omega (arith, lj))))
    ∙ subst (λ (z : ℤ). Some z ≡ Some (day +ℤ pos (suc k))) (step day k) refl

-- there is none where none passes
pub first_passing-none : (test : ℤ → Bool) (n : ℕ) (day : ℤ) → ((j : ℕ) → j < n → test (day +ℤ pos j) ≡ false) → first_passing test n day ≡ None
unfolding first_passing
first_passing-none test zero day before = refl
first_passing-none test (suc n) day before =
    cond-false (test day) _ _ (start test false day (before 0 (omega arith)))
    ∙ first_passing-none test n (day +ℤ pos 1) (λ j lj. subst (λ (z : ℤ). test z ≡ false) (step day j) (before (suc j) (omega (arith, lj))))

-- what was found is the least day from a day on that passes the test
pub record IsFirstPassing (test : ℤ → Bool) (day found : ℤ) : Type 0 where
  pub not_before : day ≤ℤ found
  pub passes : test found ≡ true
  pub least : (other : ℤ) → day ≤ℤ other → test other ≡ true → found ≤ℤ other

cases_test : (b : Bool) → (b ≡ true) ⊎ (b ≡ false)
cases_test true = inl refl
cases_test false = inr refl

cases_day : (day other : ℤ) → day ≤ℤ other → (other ≡ day) ⊎ ((day +ℤ pos 1) ≤ℤ other)
cases_day day other h = grind (arith, signed_arith)

pub first_passing-least : (test : ℤ → Bool) (n : ℕ) (day found : ℤ) → first_passing test n day ≡ Some found → IsFirstPassing test day found
unfolding first_passing
first_passing-least test zero day found e = cc
first_passing-least test (suc n) day found e =
    elim (cases_test (test day)) [
      | inl here ↦
          let some : Some day ≡ Some found = sym (cond-true (test day) _ _ here) ∙ e in
          let same : day ≡ found = cc in
          record {
            not_before = omega (arith, signed_arith, same);
            passes = subst (λ (z : ℤ). test z ≡ true) same here;
            least = λ other low passes. omega (arith, signed_arith, same, low);
          }
      | inr not_here ↦
          let rest = first_passing-least test n (day +ℤ pos 1) found (sym (cond-false (test day) _ _ not_here) ∙ e) in
          record {
            not_before = omega (arith, signed_arith, rest.not_before);
            passes = rest.passes;
            least = λ other low passes. elim (cases_day day other low) [
              | inl same ↦
                  let bad : true ≡ false = sym passes ∙ subst (λ (z : ℤ). test z ≡ false) (sym same) not_here in
                  absurd (cc)
              | inr later ↦ rest.least other later passes
            ];
          }
    ]
