-- A byte by its two digits, and a digest by its digits, one byte after another.
use Rattle.std.proofs.Common.{◌≡◌, ℕ, zero, suc, ◌+◌, ◌*◌, ◌/◌, ◌%◌, ◌<◌, List, [], ◌∷◌, ◌++◌, length, get_or, take, set, slice_index, refl, sym, ap, ◌∙◌, arith}
use Rattle.std.proofs.lemmas.List.{length-set, take_all, take_more, take_more_set}
use Rattle.std.proofs.lemmas.List.Elements.{All-set}
use Rattle.hex.specs.Hex.{encode_lower, encode_with, lower_digits}
use Rattle.office_records.specs.Forms.{IsDigest}

-- ---- bytes

pair_of : (b : ℕ) → encode_lower (b ∷ []) ≡ slice_index lower_digits (b / 16) ∷ slice_index lower_digits (b % 16) ∷ []
unfolding encode_with
pair_of b = refl

pub byte_written : (h l high low b : ℕ) → l < 16 → slice_index lower_digits h ≡ high → slice_index lower_digits l ≡ low → b ≡ h * 16 + l → encode_lower (b ∷ []) ≡ high ∷ low ∷ []
byte_written h l high low b small is_high is_low is =
    let first : b / 16 ≡ h = omega (arith, small, is) in
    let second : b % 16 ≡ l = omega (arith, small, is) in
    pair_of b
    ∙ ap (λ x. x ∷ slice_index lower_digits (b % 16) ∷ []) (ap (slice_index lower_digits) first ∙ is_high)
    ∙ ap (λ x. high ∷ x ∷ []) (ap (slice_index lower_digits) second ∙ is_low)

pub high_of : (b high low : ℕ) → encode_lower (b ∷ []) ≡ high ∷ low ∷ [] → slice_index lower_digits (b / 16) ≡ high
high_of b high low e = ap (λ xs. get_or xs 0 0) (sym (pair_of b) ∙ e)

pub low_of : (b high low : ℕ) → encode_lower (b ∷ []) ≡ high ∷ low ∷ [] → slice_index lower_digits (b % 16) ≡ low
low_of b high low e = ap (λ xs. get_or xs 1 0) (sym (pair_of b) ∙ e)

-- ---- digests

encode_append : (xs ys : List ℕ) → encode_lower (xs ++ ys) ≡ encode_lower xs ++ encode_lower ys
unfolding encode_with
encode_append [] ys = refl
encode_append (x ∷ xs) ys = ap (λ zs. slice_index lower_digits (x / 16) ∷ slice_index lower_digits (x % 16) ∷ zs) (encode_append xs ys)

append_two : (xs : List ℕ) (a b : ℕ) → (xs ++ a ∷ []) ++ b ∷ [] ≡ xs ++ a ∷ b ∷ []
append_two [] a b = refl
append_two (x ∷ xs) a b = ap (λ zs. x ∷ zs) (append_two xs a b)

take_two : (text : List ℕ) (i : ℕ) → 2 * i + 1 < length text → take (2 * (i + 1)) text ≡ take (2 * i) text ++ get_or text (2 * i) 0 ∷ get_or text (2 * i + 1) 0 ∷ []
take_two text i within =
    let twice : 2 * (i + 1) ≡ 2 * i + 1 + 1 = omega arith in
    ap (λ n. take n text) twice
    ∙ take_more text (2 * i + 1) 0 within
    ∙ ap (λ xs. xs ++ get_or text (2 * i + 1) 0 ∷ []) (take_more text (2 * i) 0 (omega (arith, within)))
    ∙ append_two (take (2 * i) text) (get_or text (2 * i) 0) (get_or text (2 * i + 1) 0)

pub written_none : encode_lower [] ≡ []
unfolding encode_with
written_none = refl

-- one byte more
pub written_more : (digest text : List ℕ) (i b : ℕ) → i < length digest → 2 * i + 1 < length text
    → encode_lower (b ∷ []) ≡ get_or text (2 * i) 0 ∷ get_or text (2 * i + 1) 0 ∷ []
    → encode_lower (take i digest) ≡ take (2 * i) text → encode_lower (take (i + 1) (set digest i b)) ≡ take (2 * (i + 1)) text
written_more digest text i b within inside pair so_far =
    ap encode_lower (take_more_set digest i b within)
    ∙ encode_append (take i digest) (b ∷ [])
    ∙ ap (λ xs. xs ++ encode_lower (b ∷ [])) so_far
    ∙ ap (λ xs. take (2 * i) text ++ xs) pair
    ∙ sym (take_two text i inside)

-- all bytes
pub written_all : (digest text : List ℕ) (i : ℕ) → length digest ≡ i → length text ≡ 2 * i → encode_lower (take i digest) ≡ take (2 * i) text → text ≡ encode_lower digest
written_all digest text i long twice so_far =
    sym (take_all (2 * i) text (omega (arith, twice))) ∙ sym so_far ∙ ap encode_lower (take_all i digest (omega (arith, long)))

-- a digest with another byte
pub with_byte : (digest : List ℕ) (i b : ℕ) → b < 256 → IsDigest digest → IsDigest (set digest i b)
with_byte digest i b small formed = (length-set digest i b ∙ formed.0, All-set (λ x. x < 256) digest i b small formed.1)

-- the two digits of one byte of a digest
pub digits_at : (digest : List ℕ) (i : ℕ) → i < length digest
    → (get_or (encode_lower digest) (2 * i) 0 ≡ slice_index lower_digits (get_or digest i 0 / 16)) × (get_or (encode_lower digest) (2 * i + 1) 0 ≡ slice_index lower_digits (get_or digest i 0 % 16))
unfolding encode_with
digits_at [] i low = absurd (omega (arith, low))
digits_at (b ∷ bs) zero low = (refl, refl)
digits_at (b ∷ bs) (suc i) low =
    let rest = digits_at bs i (omega (arith, low)) in
    let first : 2 * suc i ≡ suc (suc (2 * i)) = omega arith in
    let second : 2 * suc i + 1 ≡ suc (suc (2 * i + 1)) = omega arith in
    (ap (λ n. get_or (encode_lower (b ∷ bs)) n 0) first ∙ rest.0, ap (λ n. get_or (encode_lower (b ∷ bs)) n 0) second ∙ rest.1)

-- what is read of a text at one byte of the digest that it writes
pub pair_at : (digest text : List ℕ) (i : ℕ) → text ≡ encode_lower digest → i < length digest → encode_lower (get_or digest i 0 ∷ []) ≡ get_or text (2 * i) 0 ∷ get_or text (2 * i + 1) 0 ∷ []
pair_at digest text i same within =
    let both = digits_at digest i within in
    pair_of (get_or digest i 0)
    ∙ ap (λ x. x ∷ slice_index lower_digits (get_or digest i 0 % 16) ∷ []) (sym both.0 ∙ ap (λ t. get_or t (2 * i) 0) (sym same))
    ∙ ap (λ x. get_or text (2 * i) 0 ∷ x ∷ []) (sym both.1 ∙ ap (λ t. get_or t (2 * i + 1) 0) (sym same))
