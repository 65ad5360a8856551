-- Words as flags.
use Rattle.std.proofs.Common.{◌≡◌, ◌≢◌, ℕ, ◌+◌, ◌-◌, ◌*◌, ◌/◌, ◌%◌, ◌^◌, ◌<◌, ◌≤◌, ◌++◌, ◌∷◌, [], Bool, false, eqb, List, length, get_or, set, sym, ◌∙◌, ap, inl, inr, arith, ext_get_or, length-set, get_or-set_same, get_or-set_other, eq-eqb, w64}
use Rattle.std.proofs.lemmas.List.{get_or_past, get_or_append_left, get_or_push, length_push}
use Rattle.std.proofs.lemmas.List.FromFn.{length-map-range_with_len, get_or-map-range_with_len}
use Rattle.std.proofs.lemmas.Bool.{cases_eq, cases_lt}
use Rattle.std.proofs.lemmas.Nat.{shr-shr, shr_le}
use Rattle.std.proofs.lemmas.Nat.Bits.{bit_at-zero, bit_at-trailing_zeros, bit_at_above}
use Rattle.std.specs.Int.{bit_at, trailing_zeros}
use Rattle.office_tree.specs.Flags.{flag_at, HasNoneUpTo, IsFirstFrom}
use Rattle.office_tree.specs.Levels.{bit_of, bits_of}

pub length-bits_of : (words : List ℕ) → length (bits_of words) ≡ 64 * length words
unfolding bits_of
length-bits_of words = length-map-range_with_len (bit_of words) 0 (64 * length words)

pub flag_at-bits_of : (words : List ℕ) (k : ℕ) → flag_at (bits_of words) k ≡ bit_of words k
unfolding bits_of
flag_at-bits_of words k =
    elim (cases_lt k (64 * length words)) [
      | inl within ↦ get_or-map-range_with_len (bit_of words) 0 (64 * length words) k k false within (omega arith)
      | inr past ↦
          get_or_past (bits_of words) k false (omega (arith, length-bits_of words))
          ∙ sym (ap (λ x. eqb (bit_at x (k % 64)) 1) (get_or_past words (k / 64) 0 (omega arith)) ∙ ap (λ x. eqb x 1) (bit_at-zero (k % 64)))
    ]

get_or_push_zero : (words : List ℕ) (i : ℕ) → get_or (words ++ 0 ∷ []) i 0 ≡ get_or words i 0
get_or_push_zero words i =
    elim (cases_lt i (length words)) [
      | inl lower ↦ get_or_append_left words (0 ∷ []) 0 i lower
      | inr past ↦
          (elim (cases_eq i (length words)) as (λ _. get_or (words ++ 0 ∷ []) i 0 ≡ 0) [
            | inl last ↦ get_or_push words 0 0 i (sym last)
            | inr beyond ↦ get_or_past (words ++ 0 ∷ []) i 0 (omega (arith, length_push words 0))
          ])
          ∙ sym (get_or_past words i 0 past)
    ]

-- a word that keeps its other bits keeps the other flags
pub bits_of-set : (words : List ℕ) (n value : ℕ) (b : Bool) → n < 64 * length words → eqb (bit_at value (n % 64)) 1 ≡ b
    → ((i : ℕ) → i < 64 → i ≢ n % 64 → bit_at value i ≡ bit_at (get_or words (n / 64) 0) i)
    → bits_of (set words (n / 64) value) ≡ set (bits_of words) n b
bits_of-set words n value b within here others =
    let len : length (set words (n / 64) value) ≡ length words = length-set words (n / 64) value in
    let word_in : n / 64 < length words = omega arith in
    ext_get_or false _ _
    (length-bits_of _ ∙ ap (λ x. 64 * x) len ∙ sym (length-bits_of words) ∙ sym (length-set (bits_of words) n b))
    (λ k _.
    flag_at-bits_of _ k
    ∙ (elim (cases_eq k n) as (λ _. bit_of (set words (n / 64) value) k ≡ get_or (set (bits_of words) n b) k false) [
      | inl same ↦
          rw same
          (ap (λ x. eqb (bit_at x (n % 64)) 1) (get_or-set_same words (n / 64) value 0 word_in)
          ∙ here
          ∙ sym (get_or-set_same (bits_of words) n b false (omega (arith, length-bits_of words))))
      | inr other ↦
          (elim (cases_eq (k / 64) (n / 64)) as (λ _. bit_of (set words (n / 64) value) k ≡ bit_of words k) [
            | inl row ↦
                ap (λ x. eqb (bit_at (get_or (set words (n / 64) value) x 0) (k % 64)) 1) row
                ∙ ap (λ x. eqb (bit_at x (k % 64)) 1) (get_or-set_same words (n / 64) value 0 word_in)
                ∙ ap (λ x. eqb x 1) (others (k % 64) (omega arith) (omega arith))
                ∙ ap (λ x. eqb (bit_at (get_or words x 0) (k % 64)) 1) (sym row)
            | inr apart ↦ ap (λ x. eqb (bit_at x (k % 64)) 1) (get_or-set_other words (n / 64) (k / 64) value 0 apart)
          ])
          ∙ sym (flag_at-bits_of words k)
          ∙ sym (get_or-set_other (bits_of words) n k b false other)
    ]))

-- a word of zeros at the end sets no flag
pub flag_at-push : (words : List ℕ) (k : ℕ) → flag_at (bits_of (words ++ 0 ∷ [])) k ≡ flag_at (bits_of words) k
flag_at-push words k =
    flag_at-bits_of _ k
    ∙ ap (λ x. eqb (bit_at x (k % 64)) 1) (get_or_push_zero words (k / 64))
    ∙ sym (flag_at-bits_of words k)

-- past the last word no flag is set
pub none_past : (words : List ℕ) (from : ℕ) → length words ≤ from / 64 → HasNoneUpTo (bits_of words) from ((from / 64 + 1) * 64)
none_past words from past k low _ = get_or_past (bits_of words) k false (omega (arith, length-bits_of words))

module _ (words : List ℕ) (from word : ℕ) (is : word ≡ get_or words (from / 64) 0) where
  -- a bit of the shifted word is a flag further on
  shifted : (k : ℕ) → from ≤ k → k < (from / 64 + 1) * 64 → flag_at (bits_of words) k ≡ eqb (bit_at (word / 2 ^ (from % 64)) (k - from)) 1
  shifted k low high =
      let row : k / 64 ≡ from / 64 = omega arith in
      let place : from % 64 + (k - from) ≡ k % 64 = omega arith in
      flag_at-bits_of words k
      ∙ ap (λ x. eqb (bit_at (get_or words x 0) (k % 64)) 1) row
      ∙ ap (λ x. eqb (bit_at x (k % 64)) 1) (sym is)
      ∙ ap (λ x. eqb (bit_at word x) 1) (sym place)
      ∙ ap (λ x. eqb (x % 2) 1) (sym (shr-shr word (from % 64) (k - from)))

  pub none_left : word / 2 ^ (from % 64) ≡ 0 → HasNoneUpTo (bits_of words) from ((from / 64 + 1) * 64)
  none_left zero k low high =
      shifted k low high ∙ ap (λ x. eqb (bit_at x (k - from)) 1) zero ∙ ap (λ x. eqb x 1) (bit_at-zero (k - from))

  module _ (some : 0 < word / 2 ^ (from % 64)) (fits : word < 2 ^ 64) where
    pub first_inside : from + trailing_zeros w64 (word / 2 ^ (from % 64)) < (from / 64 + 1) * 64
    first_inside =
        let left : ℕ = word / 2 ^ (from % 64) in
        let lowest = bit_at-trailing_zeros w64 left some (omega (arith, shr_le word (from % 64))) in
        let at : bit_at word (from % 64 + trailing_zeros w64 left) ≡ 1 = ap (λ x. x % 2) (sym (shr-shr word (from % 64) (trailing_zeros w64 left))) ∙ lowest.1 in
        elim (cases_lt (from % 64 + trailing_zeros w64 left) 64) [
          | inl small ↦ omega arith
          | inr big ↦
              let none : bit_at word (from % 64 + trailing_zeros w64 left) ≡ 0 = bit_at_above word 64 _ fits big in
              absurd (omega arith)
        ]

    pub first_found : IsFirstFrom (bits_of words) from (from + trailing_zeros w64 (word / 2 ^ (from % 64)))
    first_found =
        let left : ℕ = word / 2 ^ (from % 64) in
        let zeros : ℕ = trailing_zeros w64 left in
        let lowest = bit_at-trailing_zeros w64 left some (omega (arith, shr_le word (from % 64))) in
        let place : from + zeros - from ≡ zeros = omega arith in
        record {
          at = omega arith;
          set = shifted (from + zeros) (omega arith) first_inside ∙ ap (λ x. eqb (bit_at left x) 1) place ∙ eq-eqb _ 1 lowest.1;
          before = λ k low high.
              shifted k low (omega (arith, first_inside)) ∙ ap (λ x. eqb x 1) (lowest.2 (k - from) (omega arith));
        }
