use Rattle.std.proofs.Common.{◌≡◌, ◌∙◌, rules, sym, true}
use Rattle.office_json.specs.Acts.{add_aggregation_parsed}
use Rattle.office_json.proofs.Faults.{act_fault, act_ok}
use Rattle.office_json.proofs.acts.aggregations.add_aggregation.Goals as goal

pub returns-in-Ok : goal.returns-in-Ok
unfolding add_aggregation_parsed
returns-in-Ok c =
    let plain : c.has_only.result ≡ true = search rules in
    act_ok _ _ _ _ (sym c.has_only.ensures ∙ plain) (c.in-Ok.ensures _ _ c.day_at.ensures (c.both.ensures _ _ (c.both-named.ensures _ _ c.words_at.ensures c.words_at-2.ensures) (c.both-placed.ensures _ _ c.optional_number_at.ensures c.optional_code_at.ensures)))

pub returns-in-Err : goal.returns-in-Err
unfolding add_aggregation_parsed
returns-in-Err c =
    let plain : c.has_only.result ≡ true = search rules in
    act_fault _ _ _ _ (sym c.has_only.ensures ∙ plain) (c.in-Err.ensures _ _ c.day_at.ensures (c.both.ensures _ _ (c.both-named.ensures _ _ c.words_at.ensures c.words_at-2.ensures) (c.both-placed.ensures _ _ c.optional_number_at.ensures c.optional_code_at.ensures)))
