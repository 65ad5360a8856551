use Rattle.std.proofs.Common.{◌≡◌, ◌∙◌, List, ℕ, Some, None, Bool, true, cond, sym, ap, subst}
use Rattle.std.proofs.lemmas.Fmt.{decimal_nonempty}
use Rattle.std.proofs.lemmas.Str.{is_utf8-from_IsUtf8}
use Rattle.std.specs.Fmt.{decimal}
use Rattle.std.specs.Str.{is_utf8}
use Rattle.office_records.specs.TextForms.{is_text, text_named}
use Rattle.office_plan.proofs.TextLemmas.{is_text-decimal, fits-64}
use Rattle.office_plan.proofs.plan_step.digits_of.Goals as goal

pub unreachable-requires : goal.unreachable-requires
unreachable-requires c =
    let text = c.as_str.result.now in
    let utf8 : is_utf8 text ≡ true = is_utf8-from_IsUtf8 text c.as_str.utf8 in
    let same : text ≡ decimal c.args.number = c.as_str.ensures.value ∙ c.in_ok-digits.ensures.ok in
    let long = decimal_nonempty c.args.number (fits-64 c.args.number c.ranges.number.fits) in
    let is : is_text text ≡ true = rw same (is_text-decimal c.args.number c.ranges.number.fits long (subst (λ (bs : List ℕ). is_utf8 bs ≡ true) same utf8)) in
    let named : text_named text ≡ Some text = ap (λ (b : Bool). cond b (Some text) None) is in
    let none : text_named text ≡ None = sym c.in_ok-text.ensures.value ∙ c.in-None.is in
    cc
