use Rattle.std.proofs.Common.{◌∙◌, ap, sym, Some}
use Rattle.office_journal.proofs.Parts.{not_stripped, stripped}
use Rattle.office_journal.proofs.link.rest_after.Goals as goal

pub returns-in-None : goal.returns-in-None
returns-in-None c = sym (not_stripped c.args.part.now c.args.text.now c.in-None.ensures.cases)

pub returns-in-Some : goal.returns-in-Some
returns-in-Some c =
    let found = c.in-Some.ensures.cases in
    ap (λ xs. Some xs) found.1 ∙ sym (stripped c.args.part.now c.args.text.now found.0)
