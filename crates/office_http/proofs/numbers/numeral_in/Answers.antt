use Rattle.std.proofs.Common.{◌-◌, ◌^◌, ap, min, sym}
use Rattle.std.specs.Option.{option_map}
use Rattle.office_http.proofs.NumberLemmas.{number_named-not_utf8}
use Rattle.office_http.proofs.numbers.numeral_in.Goals as goal

pub returns-in-Err : goal.returns-in-Err
returns-in-Err c = ap (option_map (λ n. min n (2 ^ 64 - 1))) (sym (number_named-not_utf8 c.args.bytes.now c.in-Err.ensures.cases.0))
