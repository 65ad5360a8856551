use Rattle.std.proofs.Common.{◌≡◌, ◌∙◌, rules, sym, true}
use Rattle.office_json.specs.Acts.{add_schedule_parsed}
use Rattle.office_json.proofs.Faults.{act_fault, act_ok}
use Rattle.office_json.proofs.acts.schedules.add_schedule.Goals as goal

pub returns-in-Ok : goal.returns-in-Ok
unfolding add_schedule_parsed
returns-in-Ok c =
    let plain : c.has_only.result ≡ true = search rules in
    act_ok _ _ _ _ (sym c.has_only.ensures ∙ plain) (c.in-Ok.ensures _ _ (c.both-named.ensures _ _ c.day_at.ensures c.code_at.ensures) (c.both.ensures _ _ (c.both-kept.ensures _ _ c.trigger_at.ensures c.period_at.ensures) (c.both-disposed.ensures _ _ c.offset_at.ensures c.action_at.ensures)))

pub returns-in-Err : goal.returns-in-Err
unfolding add_schedule_parsed
returns-in-Err c =
    let plain : c.has_only.result ≡ true = search rules in
    act_fault _ _ _ _ (sym c.has_only.ensures ∙ plain) (c.in-Err.ensures _ _ (c.both-named.ensures _ _ c.day_at.ensures c.code_at.ensures) (c.both.ensures _ _ (c.both-kept.ensures _ _ c.trigger_at.ensures c.period_at.ensures) (c.both-disposed.ensures _ _ c.offset_at.ensures c.action_at.ensures)))
