-- What is read of a digest's digits is the digest.
use Rattle.std.proofs.Common.{◌≡◌, ◌∙◌, ℕ, zero, suc, ◌<◌, ◌*◌, true, cond, inl, inr, List, [], ◌∷◌, length, get_or, All, Option, Some, None, Result, Ok, Err, refl, sym, ap, subst, arith}
use Rattle.std.specs.Option.{IfSome}
use Rattle.std.specs.Str.{bytes_eq}
use Rattle.std.proofs.Math.ListN.{get_or-eq_default}
use Rattle.std.proofs.lemmas.Bool.{cases_Bool, cases_lt}
use Rattle.std.proofs.lemmas.Slice.Eq.{bytes_eq-Decides}
use Rattle.hex.specs.Hex.{IsBytes, decode_sized, encode_lower, lower_digits}
use Rattle.hex.specs.declared.error.FromHexError.{FromHexError}
use Rattle.hex.proofs.HexLemmas.{decode_of-ok, decode_sized-encode_lower, decode_sized-ok, decode_sized-twice, length-encode_with}
use Rattle.office_records.specs.Forms.{IsDigest}
use Rattle.office_rules.specs.Digits.{digest_named, digest_written}

pub IsBytes-digest : (digest : List ℕ) → IsDigest digest → IsBytes digest
IsBytes-digest digest formed k =
    elim (cases_lt k (length digest)) [
      | inl within ↦ formed.1 k 0 within
      | inr past ↦ let zero : get_or digest k 0 ≡ 0 = get_or-eq_default digest 0 past in omega (arith, zero)
    ]

pub digest_read : (text digest : List ℕ) (read : Result (List ℕ) FromHexError) → IsDigest digest → text ≡ encode_lower digest → read ≡ decode_sized text 32 → read ≡ Ok digest
digest_read text digest read formed same e =
    e ∙ ap (λ (t : List ℕ). decode_sized t 32) same ∙ decode_sized-encode_lower digest 32 formed.0 (IsBytes-digest digest formed)

-- the digest that a text names, by the digest whose digits it is
pub named_some : (text digest : List ℕ) → IsDigest digest → text ≡ encode_lower digest → Some digest ≡ digest_named text
unfolding digest_named
named_some text digest formed same =
    let read : decode_sized text 32 ≡ Ok digest = digest_read text digest (decode_sized text 32) formed same refl in
    let written : bytes_eq (encode_lower digest) text ≡ true = (bytes_eq-Decides (encode_lower digest) text).1 (sym same) in
    sym (ap (λ r. digest_written r text) read ∙ ap (λ b. cond b (Some digest) None) written)

none_by : (text : List ℕ) (read : Result (List ℕ) FromHexError) → decode_sized text 32 ≡ read → ((digest : List ℕ) → IsDigest digest → text ≡ encode_lower digest → ⊥) → None ≡ digest_written read text
none_by text (Err e) is none = refl
none_by text (Ok digest) is none = elim (cases_Bool (bytes_eq (encode_lower digest) text)) [
  | inl written ↦
      let long = decode_sized-ok text 32 digest is in
      let decoded = decode_of-ok text digest (sym (decode_sized-twice text 32 long) ∙ is) in
      let many : length digest ≡ 32 = let twice = decoded.2 in omega (arith, long, twice) in
      let small : All (λ b. b < 256) digest = λ k d low. subst (λ b. b < 256) (default digest k d low) (decoded.3 k) in
      absurd (none digest (many, small) (sym ((bytes_eq-Decides (encode_lower digest) text).0 written)))
  | inr other ↦ ap (λ b. cond b (Some digest) None) (sym other)
]
  where
    default : (xs : List ℕ) (k d : ℕ) → k < length xs → get_or xs k 0 ≡ get_or xs k d
    default [] k d h = absurd (omega (arith, h))
    default (x ∷ xs) zero d h = refl
    default (x ∷ xs) (suc k) d h = default xs k d (omega (arith, h))

-- and a text names none where it is the digits of none
pub named_none : (text : List ℕ) → ((digest : List ℕ) → IsDigest digest → text ≡ encode_lower digest → ⊥) → None ≡ digest_named text
unfolding digest_named
named_none text none = none_by text (decode_sized text 32) refl none

-- 64 characters write a digest
pub long_text : (text digest : List ℕ) → IsDigest digest → text ≡ encode_lower digest → length text ≡ 64
long_text text digest formed same =
    let long : length text ≡ 2 * length digest = ap length same ∙ length-encode_with lower_digits digest in
    let many = formed.0 in
    omega (arith, long, many)

-- what was read of a text, exactly and where there is one, is the digest that it names
pub named_by : (text : List ℕ) (read : Option (List ℕ)) → IfSome read IsDigest → IfSome read (λ digest. text ≡ encode_lower digest)
    → (read ≡ None → (digest : List ℕ) → IsDigest digest → text ≡ encode_lower digest → ⊥) → read ≡ digest_named text
named_by text None formed exact none = named_none text (none refl)
named_by text (Some digest) formed exact none = named_some text digest formed exact
