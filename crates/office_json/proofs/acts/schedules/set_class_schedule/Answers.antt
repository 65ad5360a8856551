use Rattle.std.proofs.Common.{◌≡◌, ◌∙◌, rules, sym, true}
use Rattle.office_json.specs.Acts.{set_class_schedule_parsed}
use Rattle.office_json.proofs.Faults.{act_fault, act_ok}
use Rattle.office_json.proofs.acts.schedules.set_class_schedule.Goals as goal

pub returns-in-Ok : goal.returns-in-Ok
unfolding set_class_schedule_parsed
returns-in-Ok c =
    let plain : c.has_only.result ≡ true = search rules in
    act_ok _ _ _ _ (sym c.has_only.ensures ∙ plain) (c.in-Ok.ensures _ _ c.day_at.ensures (c.both-codes.ensures _ _ c.code_at.ensures c.code_at-2.ensures))

pub returns-in-Err : goal.returns-in-Err
unfolding set_class_schedule_parsed
returns-in-Err c =
    let plain : c.has_only.result ≡ true = search rules in
    act_fault _ _ _ _ (sym c.has_only.ensures ∙ plain) (c.in-Err.ensures _ _ c.day_at.ensures (c.both-codes.ensures _ _ c.code_at.ensures c.code_at-2.ensures))
