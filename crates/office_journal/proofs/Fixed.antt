-- A head fixes the lines, unless two texts have one digest.
use Rattle.std.proofs.Common.{◌≡◌, ◌⊎◌, inl, inr, ℕ, ◌+◌, ◌*◌, Bool, true, false, List, [], ◌∷◌, ◌++◌, length, get_or, take, drop, refl, sym, ap, ◌∙◌, arith, append_assoc, Result, Ok}
use Rattle.std.specs.Fmt.{decimal}
use Rattle.std.specs.Prelude.{codes}
use Rattle.std.specs.Str.{bytes_eq}
use Rattle.std.proofs.Math.ListN.{get_or-eq_default}
use Rattle.std.proofs.Math.Seq.{take-append_seam}
use Rattle.std.proofs.lemmas.Bool.{cases_lt}
use Rattle.std.proofs.lemmas.Slice.Eq.{bytes_eq-Decides}
use Rattle.hex.specs.Hex.{IsBytes, decode_sized, encode_lower, lower_digits}
use Rattle.hex.specs.declared.error.FromHexError.{FromHexError}
use Rattle.hex.proofs.HexLemmas.{decode_sized-encode_lower, length-encode_with}
use Rattle.sha2.specs.Sha256.{sha256}
use Rattle.office_journal.proofs.Digests.{IsDigest-sha256}
use Rattle.office_journal.specs.declared.head.Head.{Head}
use Rattle.office_journal.specs.Chain.{Collision, Follows, IsDigest, LeadTo}
use Rattle.office_journal.specs.Lines.{head_after, opening}

-- ---- digests by their digits

bytes_of : (digest : List ℕ) → IsDigest digest → IsBytes digest
bytes_of digest formed k =
    elim (cases_lt k (length digest)) [
      | inl within ↦ formed.1 k 0 within
      | inr past ↦ let zero : get_or digest k 0 ≡ 0 = get_or-eq_default digest 0 past in omega (arith, zero)
    ]

same_digest : (d e : List ℕ) → IsDigest d → IsDigest e → encode_lower d ≡ encode_lower e → d ≡ e
same_digest d e one other same =
    let read : decode_sized (encode_lower d) 32 ≡ Ok d = decode_sized-encode_lower d 32 one.0 (bytes_of d one) in
    let again : decode_sized (encode_lower e) 32 ≡ Ok e = decode_sized-encode_lower e 32 other.0 (bytes_of e other) in
    let both : decode_sized (encode_lower d) 32 ≡ decode_sized (encode_lower e) 32 = ap (λ (t : List ℕ). decode_sized t 32) same in
    ok_same d e (sym read ∙ both ∙ again)
  where
    ok_same : (a b : List ℕ) → (let r : Result (List ℕ) FromHexError = Ok a in r) ≡ Ok b → a ≡ b
    ok_same a b h = cc

-- ---- lines that begin alike

-- two texts that begin in as many bytes are alike there
prefixes : (a b c d : List ℕ) → length a ≡ length c → a ++ b ≡ c ++ d → a ≡ c
prefixes a b c d n e = sym (take-append_seam a b) ∙ ap (take (length a)) e ∙ ap (λ k. take k (c ++ d)) n ∙ take-append_seam c d

cut : (a b c : List ℕ) → a ++ b ≡ a ++ c → b ≡ c
cut [] b c h = h
cut (x ∷ a) b c h = cut a b c (tail h)
  where
    tail : (x ∷ (a ++ b)) ≡ (x ∷ (a ++ c)) → a ++ b ≡ a ++ c
    tail e = ap (drop 1) e

regroup : (a h m n k t : List ℕ) → ((((a ++ h) ++ m) ++ n) ++ k) ++ t ≡ a ++ (h ++ (((m ++ n) ++ k) ++ t))
regroup a h m n k t = simp append_assoc

same_before : (d e t u : List ℕ) (n : ℕ) → IsDigest d → IsDigest e → opening d n ++ t ≡ opening e n ++ u → d ≡ e
same_before d e t u n one other h =
    let mid = codes "\",\"line\":" in
    let rest : List ℕ = ((mid ++ decimal n) ++ codes ",") ++ t in
    let more : List ℕ = ((mid ++ decimal n) ++ codes ",") ++ u in
    let parted : codes "{\"before\":\"" ++ (encode_lower d ++ rest) ≡ codes "{\"before\":\"" ++ (encode_lower e ++ more) =
    sym (regroup (codes "{\"before\":\"") (encode_lower d) mid (decimal n) (codes ",") t) ∙ h
    ∙ regroup (codes "{\"before\":\"") (encode_lower e) mid (decimal n) (codes ",") u in
    let digits : encode_lower d ++ rest ≡ encode_lower e ++ more = cut (codes "{\"before\":\"") (encode_lower d ++ rest) (encode_lower e ++ more) parted in
    let long : length (encode_lower d) ≡ length (encode_lower e) =
    length-encode_with lower_digits d ∙ ap (λ k. 2 * k) (one.0 ∙ sym other.0) ∙ sym (length-encode_with lower_digits e) in
    same_digest d e one other (prefixes (encode_lower d) rest (encode_lower e) more long digits)

-- ---- lines from two heads

-- two texts with one digest are one, or collide
one_or_two : (a b : List ℕ) (same : Bool) → bytes_eq a b ≡ same → sha256 a ≡ sha256 b → (a ≡ b) ⊎ Collision
one_or_two a b true is h = inl ((bytes_eq-Decides a b).0 is)
one_or_two a b false is h = inr (record { one = a; other = b; differ = λ e. differs a b is e; same = h })
  where
    differs : (x y : List ℕ) → bytes_eq x y ≡ false → x ≡ y → ⊥
    differs x y off e = let on : bytes_eq x y ≡ true = (bytes_eq-Decides x y).1 e in absurd cc

-- the last line has the number of the first head and as many more as there are lines
last_number : (head last : Head) (lines : List (List ℕ)) → LeadTo head lines last → last.line ≡ head.line + length lines
last_number head last [] h = let e : head.line ≡ last.line = ap (λ (k : Head). k.line) h in omega (arith, e)
last_number head last (line ∷ rest) h =
    let later = last_number (head_after head line) last rest h.1 in omega (arith, later)

abbrev SameFrom : Head → Head → List (List ℕ) → List (List ℕ) → Type 0
SameFrom head other xs ys = (head.digest ≡ other.digest) × (xs ≡ ys)

-- the same bytes in a line, and in those after it, from heads with one number
same_lines : (head other : Head) (x y : List ℕ) (xs ys : List (List ℕ)) → head.line ≡ other.line → IsDigest head.digest → IsDigest other.digest
    → Follows head x → Follows other y → x ≡ y → xs ≡ ys → SameFrom head other (x ∷ xs) (y ∷ ys)
same_lines head other x y xs ys n one two f g same rest =
    let bytes : opening head.digest (head.line + 1) ++ f.0 ≡ opening head.digest (head.line + 1) ++ f.0 = refl in
    let texts : opening head.digest (head.line + 1) ++ f.0 ≡ opening other.digest (head.line + 1) ++ g.0 =
    sym f.1 ∙ same ∙ g.1 ∙ ap (λ k. opening other.digest (k + 1) ++ g.0) (sym n) in
    (same_before head.digest other.digest f.0 g.0 (head.line + 1) one two texts, cc)

same_by : (head other : Head) (x y : List ℕ) (xs ys : List (List ℕ)) → head.line ≡ other.line → IsDigest head.digest → IsDigest other.digest
    → Follows head x → Follows other y → xs ≡ ys → ((x ≡ y) ⊎ Collision) → SameFrom head other (x ∷ xs) (y ∷ ys) ⊎ Collision
same_by head other x y xs ys n one two f g rest (inl same) = inl (same_lines head other x y xs ys n one two f g same rest)
same_by head other x y xs ys n one two f g rest (inr found) = inr found

same_after : (head other : Head) (x y : List ℕ) (xs ys : List (List ℕ)) → head.line ≡ other.line → IsDigest head.digest → IsDigest other.digest
    → Follows head x → Follows other y → SameFrom (head_after head x) (head_after other y) xs ys ⊎ Collision
    → SameFrom head other (x ∷ xs) (y ∷ ys) ⊎ Collision
same_after head other x y xs ys n one two f g (inl rest) =
    same_by head other x y xs ys n one two f g rest.1 (one_or_two x y (bytes_eq x y) refl rest.0)
same_after head other x y xs ys n one two f g (inr found) = inr found

same_from : (head other last : Head) (xs ys : List (List ℕ)) → head.line ≡ other.line → IsDigest head.digest → IsDigest other.digest
    → LeadTo head xs last → LeadTo other ys last → SameFrom head other xs ys ⊎ Collision
same_from head other last [] [] n one two h k = inl (ap (λ (a : Head). a.digest) (h ∙ sym k), refl)
same_from head other last [] (y ∷ ys) n one two h k =
    let here = last_number head last [] h in let there = last_number other last (y ∷ ys) k in absurd (omega (arith, here, there, n))
same_from head other last (x ∷ xs) [] n one two h k =
    let here = last_number head last (x ∷ xs) h in let there = last_number other last [] k in absurd (omega (arith, here, there, n))
same_from head other last (x ∷ xs) (y ∷ ys) n one two h k =
    same_after head other x y xs ys n one two h.0 k.0
    (same_from (head_after head x) (head_after other y) last xs ys (ap (λ m. m + 1) n) (IsDigest-sha256 x) (IsDigest-sha256 y) h.1 k.1)

forget : (head other : Head) (xs ys : List (List ℕ)) → SameFrom head other xs ys ⊎ Collision → (xs ≡ ys) ⊎ Collision
forget head other xs ys (inl same) = inl same.1
forget head other xs ys (inr found) = inr found

pub head_fixes : (start last : Head) (lines others : List (List ℕ)) → IsDigest start.digest → LeadTo start lines last → LeadTo start others last
    → (lines ≡ others) ⊎ Collision
head_fixes start last lines others formed h k = forget start start lines others (same_from start start last lines others refl formed formed h k)
