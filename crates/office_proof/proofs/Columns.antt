-- No byte of a text, a code, a numeral or a date is a tab or a line feed.
use Rattle.std.proofs.Common.{◌≡◌, ◌≢◌, ◌⊎◌, ℕ, zero, suc, ◌<◌, ◌≤◌, ◌+◌, ◌/◌, ◌%◌, Bool, true, false, cond, ◌&&◌, not, ◌==◌, ltb, List, [], ◌∷◌, get_or, slice_index, codes, unwrap_or, IfSome, Option, Some, None, refl, subst, inl, inr, arith, le-ltb, if◌then◌else◌, ℤ}
use Rattle.std.specs.Char.{encode_utf8}
use Rattle.std.specs.Fmt.{decimal, digits, digits_onto, digit_glyph}
use Rattle.std.specs.List.{AllByRecursion, list_all}
use Rattle.std.specs.Str.{chars, is_utf8, encode_utf8_all}
use Rattle.std.proofs.lemmas.Bool.{and_parts}
use Rattle.std.proofs.lemmas.Bool.Decides.{nat_tests, leb_tells}
use Rattle.std.proofs.lemmas.List.Elements.{All-nil, All-cons, All-append, All-weaker, All-from_recursion}
use Rattle.std.proofs.lemmas.Str.{encode_ascii, encodes-chars, IsUtf8-from_is_utf8}
use Rattle.hex.specs.Hex.{encode_with, encode_lower, lower_digits}
use Rattle.office_days.specs.Calendar.{CivilDay, civil}
use Rattle.office_days.specs.Texts.{day_text}
use Rattle.office_records.specs.Codes.{is_code_byte}
use Rattle.office_records.specs.Forms.{IsCode, IsText}
use Rattle.office_records.specs.TextForms.{is_text_character}
use Rattle.office_rules.specs.Certificates.{date_text}
use Rattle.office_proof.specs.Meanings.{IsOneLine, IsOneColumn}

-- neither a tab nor a line feed
abbrev pub IsPlain : ℕ → Type 0
IsPlain b = (b ≢ 9) × (b ≢ 10)

abbrev is_plain : ℕ → Bool
is_plain b = not (b == 9) && not (b == 10)

pub line_from_column : (word : List ℕ) → IsOneColumn word → IsOneLine word
line_from_column word one = All-weaker IsPlain (λ b. b ≢ 10) (λ b p. p.1) word one

-- ---- where a test of each byte holds

plain : (b : ℕ) → is_plain b ≡ true → IsPlain b
plain b t = grind (arith, nat_tests)

by_tests : (test : ℕ → Bool) → ((b : ℕ) → test b ≡ true → IsPlain b) → (word : List ℕ) → list_all test word ≡ true → IsOneColumn word
by_tests test each [] t = All-nil IsPlain
by_tests test each (b ∷ bs) t =
    let parts = and_parts (test b) (list_all test bs) t in
    All-cons IsPlain b bs (each b parts.0) (by_tests test each bs parts.1)

-- for a literal, where the test computes
pub literal_column : (word : List ℕ) → list_all is_plain word ≡ true → IsOneColumn word
literal_column = by_tests is_plain plain

-- ---- codes

code_byte : (b : ℕ) → is_code_byte b ≡ true → IsPlain b
code_byte b t = grind (arith, nat_tests)

pub code_column : (code : List ℕ) → IsCode code → IsOneColumn code
code_column code formed = by_tests is_code_byte code_byte code (and_parts _ _ formed).1

-- ---- texts

text_byte : (c : ℕ) → c < 128 → is_text_character c ≡ true → IsPlain c
text_byte c low t = grind (arith, nat_tests)

-- each byte of a character beyond ASCII is at least 128
wide : (c : ℕ) (two three : Bool) → 128 ≤ c → AllByRecursion IsPlain (cond two ((192 + c / 64) ∷ (128 + c % 64) ∷ []) (cond three ((224 + c / 4096) ∷ (128 + c / 64 % 64) ∷ (128 + c % 64) ∷ []) ((240 + c / 262144) ∷ (128 + c / 4096 % 64) ∷ (128 + c / 64 % 64) ∷ (128 + c % 64) ∷ [])))
wide c true three high = ((omega arith, omega arith), ((omega arith, omega arith), tt))
wide c false true high = ((omega arith, omega arith), ((omega arith, omega arith), ((omega arith, omega arith), tt)))
wide c false false high = ((omega arith, omega arith), ((omega arith, omega arith), ((omega arith, omega arith), ((omega arith, omega arith), tt))))

wide_column : (c : ℕ) → 128 ≤ c → AllByRecursion IsPlain (encode_utf8 c)
unfolding encode_utf8
wide_column c high = rw (le-ltb c 128 high) (wide c (ltb c 2048) (ltb c 65536) high)

character_column : (c : ℕ) → is_text_character c ≡ true → (c < 128) ⊎ (128 ≤ c) → IsOneColumn (encode_utf8 c)
character_column c t (inl low) = rw (encode_ascii c low) (All-cons IsPlain c [] (text_byte c low t) (All-nil IsPlain))
character_column c t (inr high) = All-from_recursion IsPlain (encode_utf8 c) (wide_column c high)

low_or_high : (c : ℕ) → (c < 128) ⊎ (128 ≤ c)
low_or_high c = elim (leb_tells 128 c) [ inl at_least ↦ inr at_least.1 | inr below ↦ inl below.1 ]

characters_column : (cs : List ℕ) → list_all is_text_character cs ≡ true → IsOneColumn (encode_utf8_all cs)
characters_column [] t = All-nil IsPlain
characters_column (c ∷ cs) t =
    let parts = and_parts (is_text_character c) (list_all is_text_character cs) t in
    All-append IsPlain (encode_utf8 c) (encode_utf8_all cs) (character_column c parts.0 (low_or_high c)) (characters_column cs parts.1)

pub text_column : (text : List ℕ) → IsText text → IsOneColumn text
text_column text formed =
    let parts = and_parts (is_utf8 text) (list_all is_text_character (chars text)) (and_parts _ _ formed).1 in
    subst IsOneColumn (encodes-chars text (IsUtf8-from_is_utf8 text parts.0)) (characters_column (chars text) parts.1)

-- ---- numerals, dates and digests

glyph : (d : ℕ) → d < 10 → IsPlain (digit_glyph false d)
glyph d h = grind (arith, nat_tests)

by_last : (last : Bool) (here more : List ℕ) → IsOneColumn here → IsOneColumn more → IsOneColumn (if last then here else more)
by_last true here more one rest = one
by_last false here more one rest = rest

digits_column : (places n : ℕ) (onto : List ℕ) → IsOneColumn onto → IsOneColumn (digits_onto places 10 false n onto)
digits_column zero n onto one = one
digits_column (suc places) n onto one =
    let here = digit_glyph false (n % 10) ∷ onto in
    let whole : IsOneColumn here = All-cons IsPlain (digit_glyph false (n % 10)) onto (glyph (n % 10) (omega arith)) one in
    by_last (n / 10 == 0) here (digits_onto places 10 false (n / 10) here) whole (digits_column places (n / 10) here whole)

pub decimal_column : (n : ℕ) → IsOneColumn (decimal n)
unfolding digits
decimal_column n = digits_column 64 n [] (All-nil IsPlain)

pub date_column : (day : ℤ) → IsOneColumn (date_text day)
date_column day = by_day (civil day)
  where
    by_day : (c : CivilDay) → IsOneColumn (day_text c)
    by_day c = literal_column (day_text c) (grind (arith, nat_tests))

-- what is read from a table of plain bytes is plain
from_table : (table : List ℕ) (i : ℕ) → list_all is_plain table ≡ true → IsPlain (get_or table i 0)
from_table [] i t = plain 0 refl
from_table (b ∷ bs) zero t = plain b (and_parts (is_plain b) (list_all is_plain bs) t).0
from_table (b ∷ bs) (suc i) t = from_table bs i (and_parts (is_plain b) (list_all is_plain bs) t).1

pub digest_column : (digest : List ℕ) → IsOneColumn (encode_lower digest)
unfolding encode_with
digest_column [] = All-nil IsPlain
digest_column (b ∷ bs) =
    let high = slice_index lower_digits (b / 16) in
    let low = slice_index lower_digits (b % 16) in
    All-cons IsPlain high (low ∷ encode_lower bs) (from_table lower_digits (b / 16) refl) (All-cons IsPlain low (encode_lower bs) (from_table lower_digits (b % 16) refl) (digest_column bs))

-- ---- what may be absent

pub hold_column : (hold : Option (List ℕ)) → IfSome hold IsCode → IsOneColumn (unwrap_or hold (codes "-"))
hold_column None formed = literal_column (codes "-") refl
hold_column (Some code) formed = code_column code formed
