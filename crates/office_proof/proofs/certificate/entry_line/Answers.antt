use Rattle.std.proofs.Common.{◌≡◌, ◌∙◌, IfOk, subst}
use Rattle.std.specs.String.{string_bytes}
use Rattle.office_proof.proofs.Assembling.{reported_is}
use Rattle.office_proof.proofs.certificate.entry_line.Goals as goal

pub returns : goal.returns
returns c =
    subst (λ reported. IfOk c.line_reported.result (λ line. string_bytes line ≡ reported))
    (reported_is c.args.entry.now c.args.head.now c.as_str.result.now c.as_str-2.result.now c.as_str-3.result.now c.as_str-4.result.now
    (c.as_str.ensures.value ∙ c.in_ok-number.ensures) (c.as_str-2.ensures.value ∙ c.in_ok-due.ensures)
    (c.as_str-3.ensures.value ∙ c.in_ok-length.ensures) (c.as_str-4.ensures.value ∙ c.in_ok-digest.ensures))
    c.line_reported.ensures
