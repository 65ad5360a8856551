use Rattle.std.proofs.Common.{◌≡◌, ◌∙◌, Ok, Result, rules, sym, ap, true}
use Rattle.office_base.specs.declared.refusal.Refusal.{Refusal}
use Rattle.office_json.specs.Acts.{event_parsed}
use Rattle.office_rules.specs.declared.act.Act.{Act}
use Rattle.office_json.proofs.Faults.{act_fault, act_ok}
use Rattle.office_json.proofs.acts.records.event.Goals as goal

pub returns-in-Ok : goal.returns-in-Ok
unfolding event_parsed
returns-in-Ok c =
    let plain : c.has_only.result ≡ true = search rules in
    let accepted : Act → Result Act Refusal = λ it. Ok it in
    act_ok _ _ _ _ (sym c.has_only.ensures ∙ plain) (c.in-Ok.ensures _ _ (c.both-which.ensures _ _ c.day_at.ensures c.number_at.ensures) (c.both-how.ensures _ _ c.day_at-2.ensures c.words_at.ensures)) ∙ ap accepted (sym c.event_of.ensures)

pub returns-in-Err : goal.returns-in-Err
unfolding event_parsed
returns-in-Err c =
    let plain : c.has_only.result ≡ true = search rules in
    act_fault _ _ _ _ (sym c.has_only.ensures ∙ plain) (c.in-Err.ensures _ _ (c.both-which.ensures _ _ c.day_at.ensures c.number_at.ensures) (c.both-how.ensures _ _ c.day_at-2.ensures c.words_at.ensures))
