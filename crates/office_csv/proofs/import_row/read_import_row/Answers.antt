use Rattle.std.proofs.Common.{◌∙◌, ℕ, List, Ok, Result, ap, inr, subst, sym}
use Rattle.office_base.specs.declared.refusal.Refusal.{Refusal}
use Rattle.office_rules.specs.declared.act.Act.{Act}
use Rattle.office_rules.specs.Parts.{IsReadAs, made}
use Rattle.office_rules.proofs.Made.{fault_made}
use Rattle.office_csv.specs.ImportRows.{parsed_row, addition}
use Rattle.office_csv.proofs.import_row.read_import_row.Goals as goal

pub returns-in-Ok : goal.returns-in-Ok
unfolding parsed_row
returns-in-Ok c =
    let content = subst (λ (part : Result (List ℕ) Refusal). IsReadAs part c.as_part-content.result) c.in_ok-read_content.ensures c.as_part-content.ensures in
    let accepted : Act → Result Act Refusal = λ it. Ok it in
    ap (made (addition c.args.day)) (c.in-Ok.ensures _ _ (c.both.ensures _ _ (c.both-named.ensures _ _ c.read_words.ensures c.read_words-2.ensures) (c.both-placed.ensures _ _ c.day_of.ensures c.number_of.ensures))
    (c.both-2.ensures _ _ (c.both-planned.ensures _ _ c.code_of.ensures c.code_of-2.ensures) content)) ∙ ap accepted (sym c.act_of.ensures)

pub returns-in-Err : goal.returns-in-Err
unfolding parsed_row
returns-in-Err c =
    let content = subst (λ (part : Result (List ℕ) Refusal). IsReadAs part c.as_part-content.result) c.in_ok-read_content.ensures c.as_part-content.ensures in
    inr (c.in-Err.ensures _ _ (c.both.ensures _ _ (c.both-named.ensures _ _ c.read_words.ensures c.read_words-2.ensures) (c.both-placed.ensures _ _ c.day_of.ensures c.number_of.ensures))
    (c.both-2.ensures _ _ (c.both-planned.ensures _ _ c.code_of.ensures c.code_of-2.ensures) content) ∙ sym (fault_made (addition c.args.day) _))
