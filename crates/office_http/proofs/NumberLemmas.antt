-- Which bytes write a number, and that no length of 19 digits is cut.
use Rattle.std.proofs.Common.{◌≡◌, ap, refl, ℕ, zero, suc, ◌<◌, ◌≤◌, ◌-◌, ◌^◌, lit<, rules, ◌&&◌, List, [], ◌∷◌, length, Bool, true, false, nat_lt, min, arith, Some, None, if◌then◌else◌}
use Rattle.std.proofs.lemmas.Bool.Decides.{nat_tests}
use Rattle.std.proofs.lemmas.Str.{IsUtf8-from_ascii}
use Rattle.std.proofs.lemmas.Int.Digits.{digits_value-lt}
use Rattle.std.proofs.lemmas.Str.Parse.{IsDigitsTest, IsNumeralModel, numerals_by_value}
use Rattle.std.proofs.Math.Nat.{pow-le-pow_right}
use Rattle.std.specs.Char.{is_ascii_digit}
use Rattle.std.specs.List.{list_all}
use Rattle.std.specs.Option.{option_map}
use Rattle.std.specs.Str.{IsAscii, IsUtf8}
use Rattle.std.specs.Str.Parse.{digits_value}
use Rattle.office_base.specs.Numerals.{number_named}
use Rattle.office_http.specs.Numbers.{content_length}

pub both_true : (a b : Bool) → (a && b) ≡ true → (a ≡ true) × (b ≡ true)
both_true true b e = (refl, e)
both_true false b e = absurd (cc)

digit-low : (b : ℕ) → is_ascii_digit b ≡ true → b < 128
digit-low b h = grind (arith, nat_tests)

ascii : (bs : List ℕ) → list_all is_ascii_digit bs ≡ true → IsAscii bs
ascii [] h i = omega arith
ascii (b ∷ bs) h zero = digit-low b (both_true (is_ascii_digit b) (list_all is_ascii_digit bs) h).0
ascii (b ∷ bs) h (suc i) = ascii bs (both_true (is_ascii_digit b) (list_all is_ascii_digit bs) h).1 i

none_by : (a b : Bool) (n : ℕ) → ¬ (b ≡ true) → (if a && b then Some n else None) ≡ None
none_by true true n h = absurd (h refl)
none_by true false n h = refl
none_by false b n h = refl

-- bytes that are not UTF-8 write no number
pub number_named-not_utf8 : (bs : List ℕ) → ¬ (IsUtf8 bs) → number_named bs ≡ None
number_named-not_utf8 bs h = none_by (nat_lt 0 (length bs)) (list_all is_ascii_digit bs) _ (λ all. h (IsUtf8-from_ascii bs (ascii bs all)))

reports_digits : IsDigitsTest (λ ds. list_all is_ascii_digit ds ≡ true)
reports_digits = search rules

pub digits_model : IsNumeralModel (λ ds. list_all is_ascii_digit ds ≡ true) (digits_value 10)
digits_model = numerals_by_value _ reports_digits

-- 19 digits write less than 2 ^ 64
fits : (bs : List ℕ) → length bs ≤ 19 → list_all is_ascii_digit bs ≡ true → digits_value 10 bs < 2 ^ 64
fits bs short all =
    let below = digits_value-lt 10 bs (digits_model.to bs all) in
    let most : 10 ^ length bs ≤ 10 ^ 19 = pow-le-pow_right (lit< tt) {i = length bs} {j = 19} short in
    let same : 10 ^ 19 ≡ 10_000_000_000_000_000_000 = refl in
    let top : 2 ^ 64 ≡ 18_446_744_073_709_551_616 = refl in
    omega (arith, below, most, same, top)

least : (n : ℕ) → n < 2 ^ 64 → min n (2 ^ 64 - 1) ≡ n
least n h = omega (arith, h)

kept : (a b : Bool) (n : ℕ) → (b ≡ true → n < 2 ^ 64) → option_map (λ m. min m (2 ^ 64 - 1)) (if a && b then Some n else None) ≡ (if a && b then Some n else None)
kept true true n h = ap (λ m. Some m) (least n (h refl))
kept true false n h = refl
kept false b n h = refl

-- so of at most 19 bytes no number counts as a smaller one
pub short-number : (bs : List ℕ) → length bs ≤ 19 → option_map (λ n. min n (2 ^ 64 - 1)) (number_named bs) ≡ number_named bs
short-number bs short = kept (nat_lt 0 (length bs)) (list_all is_ascii_digit bs) _ (fits bs short)

-- of at most 19 bytes the number is the length that they say
pub said-short : (bs : List ℕ) → length bs ≤ 19 → number_named bs ≡ content_length bs
said-short bs short = grind (arith, nat_tests)
