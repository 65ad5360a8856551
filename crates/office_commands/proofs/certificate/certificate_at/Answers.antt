use Rattle.std.proofs.Common.{◌≡◌, ◌∙◌, inl, inr, List, Option, Some, None, refl, sym, ap, subst, ℕ}
use Rattle.std.specs.FinMap.{get}
use Rattle.std.specs.Option.{option_map}
use Rattle.std.specs.String.{string_bytes}
use Rattle.office_base.specs.declared.refusal.Refusal.TheVariants as refused
use Rattle.office_wire.proofs.Unreported.{some_there}
use Rattle.office_commands.specs.Certifying.{ReportsCertificate}
use Rattle.office_commands.specs.declared.exit.Exit.TheVariants as how
use Rattle.office_commands.proofs.Certificates.{memory_alone}
use Rattle.office_commands.proofs.certificate.certificate_at.Goals as goal

pub returns-in-Ok-Some : goal.returns-in-Ok-Some
returns-in-Ok-Some g c =
    let is : get c.args.desk.now.office.certificates c.args.run ≡ Some c.as_str.result.now =
    sym c.in-Ok-Some.ensures.reads.ok ∙ ap (λ (text : _). option_map (λ it. string_bytes it) text) c.in-Ok-Some.field-0-is ∙ ap Some (sym c.as_str.ensures.value) in
    inl (subst (λ (text : Option (List ℕ)). ReportsCertificate text (g.W.Write.contents c.args.out.now) (g.W.Write.contents c.report_text.new.out) c.report_text.result) (sym is) c.report_text.ensures)

pub returns-in-Ok-None : goal.returns-in-Ok-None
returns-in-Ok-None g c =
    let is : get c.args.desk.now.office.certificates c.args.run ≡ None = sym c.in-Ok-None.ensures.reads.ok ∙ ap (λ (text : _). option_map (λ it. string_bytes it) text) c.in-Ok-None.field-0-is in
    inl (subst (λ (text : Option (List ℕ)). ReportsCertificate text (g.W.Write.contents c.args.out.now) (g.W.Write.contents c.args.out.now) (how.Refused refused.NoSuch)) (sym is) (refl, refl))

pub returns-in-Err : goal.returns-in-Err
returns-in-Err g c = inr (
  some_there (get c.args.desk.now.office.certificates c.args.run) _ c.in-Err.fault refl (c.in-Err.ensures.absent c.requires),
  ap how.Fault (memory_alone c.in-Err.fault c.args.desk.now.is_poisoned c.requires c.in-Err.ensures.reads.err),
  refl,
)
