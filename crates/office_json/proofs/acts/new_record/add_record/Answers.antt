use Rattle.std.proofs.Common.{◌≡◌, ◌∙◌, ℕ, List, rules, sym, subst, true, ap, codes, Ok, Result}
use Rattle.serde_json.specs.Find.{get}
use Rattle.serde_json.specs.View.{view}
use Rattle.office_base.specs.declared.refusal.Refusal.{Refusal}
use Rattle.office_json.specs.Acts.{added, add_record_parsed}
use Rattle.office_rules.specs.declared.act.Act.{Act}
use Rattle.office_json.specs.Contents.{content_part}
use Rattle.office_rules.specs.Parts.{IsReadAs}
use Rattle.office_json.proofs.Faults.{act_fault, act_ok, plain_fault}
use Rattle.office_json.proofs.acts.new_record.add_record.Goals as goal

pub returns-in-Ok-clause-ok : goal.returns-in-Ok-clause-ok
unfolding add_record_parsed
returns-in-Ok-clause-ok c =
    let plain : c.has_only.result ≡ true = search rules in
    let content : IsReadAs (content_part (get (codes "content") (view c.args.value.now))) c.as_part.result = subst (λ (part : Result (List ℕ) Refusal). IsReadAs part c.as_part.result) c.in_ok-content.ensures.part c.as_part.ensures in
    let accepted : Act → Result Act Refusal = λ it. Ok it in
    act_ok _ added _ _ (sym c.has_only.ensures ∙ plain) (c.in-Ok.ensures _ _ c.read_fields.ensures content) ∙ ap accepted (sym c.act_of.ensures)

pub returns-in-Err-clause-err : goal.returns-in-Err-clause-err
unfolding add_record_parsed
returns-in-Err-clause-err c =
    let plain : c.has_only.result ≡ true = search rules in
    let content : IsReadAs (content_part (get (codes "content") (view c.args.value.now))) c.as_part.result = subst (λ (part : Result (List ℕ) Refusal). IsReadAs part c.as_part.result) c.in_ok-content.ensures.part c.as_part.ensures in
    plain_fault (view c.args.value.now) _ _ (act_fault _ added _ _ (sym c.has_only.ensures ∙ plain) (c.in-Err.ensures _ _ c.read_fields.ensures content))
