use Rattle.std.proofs.Common.{◌≡◌, ◌∙◌, List, ℕ, Some, None, Bool, true, cond, sym, ap, subst}
use Rattle.std.proofs.lemmas.Str.{is_utf8-from_IsUtf8}
use Rattle.std.specs.Str.{is_utf8}
use Rattle.office_records.specs.TextForms.{is_text, text_named}
use Rattle.office_plan.proofs.TextLemmas.{is_text-code}
use Rattle.office_plan.proofs.plan_step.title_of.Goals as goal

pub unreachable-requires : goal.unreachable-requires
unreachable-requires c =
    let text = c.text.result.now in
    let utf8 : is_utf8 text ≡ true = is_utf8-from_IsUtf8 text c.text.utf8 in
    let same : text ≡ c.args.code.now = c.text.ensures.value in
    let is : is_text text ≡ true = rw same (is_text-code c.args.code.now c.text.ensures.code (subst (λ (bs : List ℕ). is_utf8 bs ≡ true) same utf8)) in
    let named : text_named text ≡ Some text = ap (λ (b : Bool). cond b (Some text) None) is in
    let none : text_named text ≡ None = sym c.in_ok-text.ensures.value ∙ c.in-None.is in
    cc
