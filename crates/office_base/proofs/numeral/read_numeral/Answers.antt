use Rattle.std.proofs.Common.{◌≡◌, ◌<◌, ◌^◌, ◌-◌, ◌∙◌, ap, sym, ℕ, Some, length, min, true, rules}
use Rattle.std.specs.Char.{is_ascii_digit}
use Rattle.std.specs.List.{list_all}
use Rattle.std.specs.Option.{option_map}
use Rattle.office_base.proofs.Numerals.{number_named-digits, parse-saturated}
use Rattle.office_base.proofs.numeral.read_numeral.Goals as goal

pub returns : goal.returns
returns c =
    let text = c.args.text.now in
    let long : 0 < length text = search rules in
    let digits : list_all is_ascii_digit text ≡ true = search rules in
    let value = c.unwrap_or.ensures ∙ parse-saturated text c.parse.result c.parse.ensures.value.0 long digits in
    ap (λ (n : ℕ). Some n) value ∙ ap (option_map (λ n. min n (2 ^ 64 - 1))) (sym (number_named-digits text long digits))
