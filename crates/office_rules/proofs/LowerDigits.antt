-- Lower-case hexadecimal digits: what writes a digest has no others.
use Rattle.std.proofs.Common.{◌≡◌, ◌+◌, ◌/◌, ◌%◌, ◌<◌, ◌≤◌, ℕ, List, [], ◌∷◌, length, get_or, All, Bool, true, false, ◌&&◌, refl, ◌∙◌, ap, sym, subst, arith, inl, inr}
use Rattle.std.specs.List.{AllByRecursion}
use Rattle.std.specs.Prelude.{slice_index}
use Rattle.std.proofs.lemmas.Bool.{cases_lt}
use Rattle.std.proofs.lemmas.List.Elements.{All-from_recursion, recursion_from_All}
use Rattle.hex.specs.Hex.{encode_lower, encode_with, lower_digits}
use Rattle.office_records.specs.Forms.{IsDigest}
use Rattle.office_rules.specs.Digits.{IsLowerDigit}

-- ---- what writes bytes

each_lower : AllByRecursion IsLowerDigit lower_digits
each_lower =
    let number : (b : ℕ) → 48 ≤ b → b ≤ 57 → IsLowerDigit b = λ b low high. inl (low, high) in
    let letter : (b : ℕ) → 97 ≤ b → b ≤ 102 → IsLowerDigit b = λ b low high. inr (low, high) in (
      number 48 (omega arith) (omega arith),
      (
        number 49 (omega arith) (omega arith),
        (
          number 50 (omega arith) (omega arith),
          (
            number 51 (omega arith) (omega arith),
            (
              number 52 (omega arith) (omega arith),
              (
                number 53 (omega arith) (omega arith),
                (
                  number 54 (omega arith) (omega arith),
                  (
                    number 55 (omega arith) (omega arith),
                    (
                      number 56 (omega arith) (omega arith),
                      (
                        number 57 (omega arith) (omega arith),
                        (
                          letter 97 (omega arith) (omega arith),
                          (
                            letter 98 (omega arith) (omega arith),
                            (
                              letter 99 (omega arith) (omega arith),
                              (
                                letter 100 (omega arith) (omega arith),
                                (
                                  letter 101 (omega arith) (omega arith),
                                  (
                                    letter 102 (omega arith) (omega arith),
                                    tt,
                                  ),
                                ),
                              ),
                            ),
                          ),
                        ),
                      ),
                    ),
                  ),
                ),
              ),
            ),
          ),
        ),
      ),
    )

lower_digit : (v : ℕ) → v < 16 → IsLowerDigit (slice_index lower_digits v)
lower_digit v small = All-from_recursion IsLowerDigit lower_digits each_lower v 0 small

bytes_written : (bytes : List ℕ) → AllByRecursion (λ b. b < 256) bytes → AllByRecursion IsLowerDigit (encode_lower bytes)
unfolding encode_with
bytes_written [] small = tt
bytes_written (b ∷ bs) small =
    let first = small.0 in
    (lower_digit (b / 16) (omega (arith, first)), (lower_digit (b % 16) (omega arith), bytes_written bs small.1))

-- a digest is written in lower-case digits
pub digest_digits : (digest : List ℕ) → IsDigest digest → All IsLowerDigit (encode_lower digest)
digest_digits digest formed = All-from_recursion IsLowerDigit (encode_lower digest) (bytes_written digest (recursion_from_All (λ b. b < 256) digest formed.1))

-- ---- one more byte

-- whether the first i are digits
pub record TellsDigits (text : List ℕ) (i : ℕ) (are : Bool) : Type 0 where
  pub yes : are ≡ true → (k d : ℕ) → k < i → k < length text → IsLowerDigit (get_or text k d)
  pub no : are ≡ false → All IsLowerDigit text → ⊥

pub tells_none : (text : List ℕ) → TellsDigits text 0 true
tells_none text = record { yes = λ _ k d before low. absurd (omega (arith, before)); no = λ e all. absurd cc }

pub tells_more : (text : List ℕ) (i b : ℕ) (are is : Bool) → i < length text → ((d : ℕ) → b ≡ get_or text i d) → TellsDigits text i are → (is ≡ true → IsLowerDigit b) → (is ≡ false → IsLowerDigit b → ⊥) → TellsDigits text (i + 1) (are && is)
tells_more text i b true true low at tells fits fails = record {
  yes = λ _ k d before within. elim (cases_lt k i) [
    | inl earlier ↦ tells.yes refl k d earlier within
    | inr later ↦
        let same : i ≡ k = omega (arith, before, later) in
        subst IsLowerDigit (at d ∙ ap (λ j. get_or text j d) same) (fits refl)
  ];
  no = λ e all. absurd cc;
}
tells_more text i b true false low at tells fits fails = record { yes = λ e. absurd cc; no = λ _ all. fails refl (subst IsLowerDigit (sym (at 0)) (all i 0 low)) }
tells_more text i b false is low at tells fits fails = record { yes = λ e. absurd cc; no = λ _ all. tells.no refl all }
