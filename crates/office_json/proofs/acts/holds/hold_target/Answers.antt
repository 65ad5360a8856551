use Rattle.std.proofs.Common.{◌≡◌, ◌∙◌, rules, sym, true}
use Rattle.office_json.specs.Acts.{hold_target_part}
use Rattle.office_json.proofs.Faults.{only_read}
use Rattle.office_json.proofs.acts.holds.hold_target.Goals as goal

pub returns : goal.returns
unfolding hold_target_part
returns c =
    let plain : c.has_only.result ≡ true = search rules in
    only_read _ _ _ (sym c.has_only.ensures ∙ plain) (c.both.ensures _ _ c.day_at.ensures (c.both-what.ensures _ _ c.code_at.ensures c.target_at.ensures))
