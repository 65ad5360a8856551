use Rattle.std.proofs.Common.{ap, List, ℕ, Some, None, lit<}
use Rattle.std.proofs.lemmas.Str.Pattern.{split_after}
use Rattle.office_evidence.proofs.words.reported.Goals as goal

pub returns-in_err-rest : goal.returns-in_err-rest
returns-in_err-rest c kind rest lacks same = absurd (split_after 32 c.args.line.now kind rest None c.in_err-rest.ensures.cases (lit< tt) same lacks)

pub returns : goal.returns
returns c kind rest lacks same =
    ap (λ (t : List ℕ). Some t) (split_after 32 c.args.line.now kind rest (Some (c.in_ok-rest.field-0-0, c.in_ok-rest.rest)) c.in_ok-rest.ensures.cases (lit< tt) same lacks).1
