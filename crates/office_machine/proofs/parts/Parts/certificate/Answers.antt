use Rattle.std.proofs.Common.{◌≡◌, ap, sym, ◌∙◌, Some, None}
use Rattle.std.specs.Cmp.{nat_cmp_total}
use Rattle.std.specs.FinMap.{get, nat_cmp-IsAntisymmetric}
use Rattle.office_machine.proofs.Stored.{get_is}
use Rattle.office_machine.proofs.parts.Parts.certificate.Goals as goal

-- a certificate that was found is there
pub returns-in_err-from_str-in-Some-clause-absent : goal.returns-in_err-from_str-in-Some-clause-absent
returns-in_err-from_str-in-Some-clause-absent c = λ none.
    let found =
    c.in-Some.ensures.value
    ∙ sym (get_is nat_cmp_total nat_cmp-IsAntisymmetric c.self.inside.certificates.entries c.args.run)
    ∙ ap (λ office. get office.certificates c.args.run) c.self.view_is in
    let bad : Some _ ≡ None = found ∙ none in
    cc

pub returns-in_ok-from_str-in-Some-clause-absent : goal.returns-in_ok-from_str-in-Some-clause-absent
returns-in_ok-from_str-in-Some-clause-absent c = λ none.
    let found =
    c.in-Some.ensures.value
    ∙ sym (get_is nat_cmp_total nat_cmp-IsAntisymmetric c.self.inside.certificates.entries c.args.run)
    ∙ ap (λ office. get office.certificates c.args.run) c.self.view_is in
    let bad : Some _ ≡ None = found ∙ none in
    cc

pub returns-in_ok-from_str-in-Some-clause-read : goal.returns-in_ok-from_str-in-Some-clause-read
returns-in_ok-from_str-in-Some-clause-read c =
    ap Some (c.in_ok-from_str-in-Some.ensures.ok ∙ c.text.ensures)
    ∙ c.in-Some.ensures.value
    ∙ sym (get_is nat_cmp_total nat_cmp-IsAntisymmetric c.self.inside.certificates.entries c.args.run)
    ∙ ap (λ office. get office.certificates c.args.run) c.self.view_is

pub returns-in-None-clause-read : goal.returns-in-None-clause-read
returns-in-None-clause-read c =
    c.in-None.ensures.value
    ∙ sym (get_is nat_cmp_total nat_cmp-IsAntisymmetric c.self.inside.certificates.entries c.args.run)
    ∙ ap (λ office. get office.certificates c.args.run) c.self.view_is
