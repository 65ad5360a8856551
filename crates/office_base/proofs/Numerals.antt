-- What `parse` gives at a text of digits, where a number that is too large counts as the greatest.
use Rattle.std.proofs.Common.{◌≡◌, ℕ, ◌-◌, ◌^◌, ◌<◌, min, List, length, Some, Result, Ok, Err, true, arith, rules}
use Rattle.std.specs.Result.{OkIff, result_unwrap_or}
use Rattle.std.specs.Char.{is_ascii_digit}
use Rattle.std.specs.List.{list_all}
use Rattle.std.specs.Str.Parse.{digits_value, ParsesUnsigned}
use Rattle.std.proofs.lemmas.Str.Parse.{IsDigitsTest, IsNumeralModel, numerals_by_value, parse_digits}
use Rattle.office_base.specs.Numerals.{number_named}

reports_digits : IsDigitsTest (λ ds. list_all is_ascii_digit ds ≡ true)
reports_digits = search rules

model : IsNumeralModel (λ ds. list_all is_ascii_digit ds ≡ true) (digits_value 10)
model = numerals_by_value _ reports_digits

pub number_named-digits : (text : List ℕ) → 0 < length text → list_all is_ascii_digit text ≡ true → number_named text ≡ Some (digits_value 10 text)
number_named-digits text long digits = grind arith

saturated : {E : Type 0} (r : Result ℕ E) (v : ℕ) (P : Type 0) → P → OkIff r (P × (v < 2 ^ 64)) v → result_unwrap_or r (2 ^ 64 - 1) ≡ min v (2 ^ 64 - 1)
saturated (Ok x) v P p h = omega (arith, h.0.1, h.1)
saturated (Err e) v P p h =
    let big : ¬ (v < 2 ^ 64) = λ lt. h (p, lt) in
    omega (arith, big)

pub parse-saturated : {E : Type 0} (text : List ℕ) (r : Result ℕ E) → ParsesUnsigned 64 10 text r → 0 < length text → list_all is_ascii_digit text ≡ true → result_unwrap_or r (2 ^ 64 - 1) ≡ min (digits_value 10 text) (2 ^ 64 - 1)
parse-saturated text r parsed long digits = saturated r (digits_value 10 text) (0 < length text) long (parse_digits model 64 text r parsed digits)
