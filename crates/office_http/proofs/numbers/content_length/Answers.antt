use Rattle.std.proofs.Common.{◌∙◌, ◌≤◌, arith, length}
use Rattle.office_http.proofs.NumberLemmas.{said-short, short-number}
use Rattle.office_http.proofs.numbers.content_length.Goals as goal

pub returns-else-value-gt19 : goal.returns-else-value-gt19
returns-else-value-gt19 c =
    let text = c.args.value.now in
    let short : length text ≤ 19 = omega (arith, c.if-value-gt19.false) in
    c.numeral_in.ensures ∙ short-number text short ∙ said-short text short
