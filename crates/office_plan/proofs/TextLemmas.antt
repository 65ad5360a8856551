-- Codes and the digits of numbers have the form of a text.
use Rattle.std.proofs.Common.{◌≡◌, ℕ, zero, suc, ◌<◌, ◌≤◌, ◌^◌, List, [], ◌∷◌, length, Bool, true, false, ◌&&◌, nat_lt, nat_le, arith, refl, sym, subst, rules}
use Rattle.std.proofs.lemmas.Bool.Decides.{nat_tests}
use Rattle.std.proofs.lemmas.Str.{chars-IsAscii}
use Rattle.std.proofs.lemmas.Str.Parse.{IsDigitsTest, numerals_by_value}
use Rattle.std.proofs.lemmas.Fmt.{digits_decimal, length-decimal-le}
use Rattle.std.specs.Char.{is_ascii_digit}
use Rattle.std.specs.Fmt.{decimal}
use Rattle.std.specs.List.{list_all}
use Rattle.std.specs.Str.{IsAscii, is_utf8}
use Rattle.office_records.specs.Codes.{is_code, is_code_byte}
use Rattle.office_records.specs.TextForms.{is_text, is_text_character}

both_true : (a b : Bool) → (a && b) ≡ true → (a ≡ true) × (b ≡ true)
both_true true b e = (refl, e)
both_true false b e = absurd (cc)

all_true : (a b : Bool) → a ≡ true → b ≡ true → (a && b) ≡ true
all_true true b e f = f
all_true false b e f = absurd (cc)

implied : (p q : ℕ → Bool) → ((b : ℕ) → p b ≡ true → q b ≡ true) → (bs : List ℕ) → list_all p bs ≡ true → list_all q bs ≡ true
implied p q f [] h = refl
implied p q f (b ∷ bs) h =
    let both = both_true (p b) (list_all p bs) h in
    all_true (q b) (list_all q bs) (f b both.0) (implied p q f bs both.1)

ascii : (p : ℕ → Bool) → ((b : ℕ) → p b ≡ true → b < 128) → (bs : List ℕ) → list_all p bs ≡ true → IsAscii bs
ascii p f [] h i = omega arith
ascii p f (b ∷ bs) h zero = f b (both_true (p b) (list_all p bs) h).0
ascii p f (b ∷ bs) h (suc i) = ascii p f bs (both_true (p b) (list_all p bs) h).1 i

-- UTF-8 of few bytes, each an ASCII character that may be in a text
plain : (p : ℕ → Bool) → ((b : ℕ) → p b ≡ true → b < 128) → ((b : ℕ) → p b ≡ true → is_text_character b ≡ true) → (bs : List ℕ) → nat_lt 0 (length bs) ≡ true → nat_le (length bs) 200 ≡ true → is_utf8 bs ≡ true → list_all p bs ≡ true → is_text bs ≡ true
plain p low character bs long short utf8 all =
    let same = chars-IsAscii bs (ascii p low bs all) in
    let each = subst (λ (cs : List ℕ). list_all is_text_character cs ≡ true) (sym same) (implied p is_text_character character bs all) in
    all_true _ _ (all_true _ _ long short) (all_true _ _ utf8 each)

code_byte-low : (b : ℕ) → is_code_byte b ≡ true → b < 128
code_byte-low b h = grind (arith, nat_tests)

code_byte-character : (b : ℕ) → is_code_byte b ≡ true → is_text_character b ≡ true
code_byte-character b h = grind (arith, nat_tests)

digit-low : (b : ℕ) → is_ascii_digit b ≡ true → b < 128
digit-low b h = grind (arith, nat_tests)

digit-character : (b : ℕ) → is_ascii_digit b ≡ true → is_text_character b ≡ true
digit-character b h = grind (arith, nat_tests)

pub is_text-code : (bs : List ℕ) → is_code bs ≡ true → is_utf8 bs ≡ true → is_text bs ≡ true
is_text-code bs code utf8 =
    let parts = both_true (nat_lt 0 (length bs) && nat_le (length bs) 16) (list_all is_code_byte bs) code in
    let sizes = both_true (nat_lt 0 (length bs)) (nat_le (length bs) 16) parts.0 in
    let few = sizes.1 in
    plain is_code_byte code_byte-low code_byte-character bs sizes.0 (grind (arith, nat_tests)) utf8 parts.1

reports_digits : IsDigitsTest (λ ds. list_all is_ascii_digit ds ≡ true)
reports_digits = search rules

pub is_text-decimal : (n : ℕ) → n < 2 ^ 32 → 0 < length (decimal n) → is_utf8 (decimal n) ≡ true → is_text (decimal n) ≡ true
is_text-decimal n fits long utf8 =
    let all = digits_decimal (numerals_by_value _ reports_digits) n (omega (arith, fits)) in
    let short : length (decimal n) ≤ 10 = length-decimal-le 10 n (omega arith) (omega (arith, fits)) (omega (arith, fits)) in
    plain is_ascii_digit digit-low digit-character (decimal n) (grind (arith, nat_tests)) (grind (arith, nat_tests)) utf8 all

pub fits-64 : (n : ℕ) → n < 2 ^ 32 → n < 2 ^ 64
fits-64 n fits = omega (arith, fits)
