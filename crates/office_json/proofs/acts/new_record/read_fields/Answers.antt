use Rattle.std.proofs.Common.{◌∙◌, ap, sym}
use Rattle.office_json.specs.Acts.{record_fields, fields_part}
use Rattle.office_rules.specs.Parts.{made}
use Rattle.office_rules.proofs.Made.{fault_made}
use Rattle.office_json.proofs.acts.new_record.read_fields.Goals as goal

pub returns-in-Ok : goal.returns-in-Ok
unfolding fields_part
returns-in-Ok c = ap (made record_fields) (c.in-Ok.ensures _ _ (c.both-placed.ensures _ _ c.day_at.ensures c.number_at.ensures) (c.both-2.ensures _ _ (c.both-named.ensures _ _ c.words_at.ensures c.words_at-2.ensures) (c.both.ensures _ _ c.day_at-originated.ensures (c.both-planned.ensures _ _ c.optional_code_at.ensures c.optional_code_at-2.ensures))))

pub returns-in-Err : goal.returns-in-Err
unfolding fields_part
returns-in-Err c = c.in-Err.ensures _ _ (c.both-placed.ensures _ _ c.day_at.ensures c.number_at.ensures) (c.both-2.ensures _ _ (c.both-named.ensures _ _ c.words_at.ensures c.words_at-2.ensures) (c.both.ensures _ _ c.day_at-originated.ensures (c.both-planned.ensures _ _ c.optional_code_at.ensures c.optional_code_at-2.ensures))) ∙ sym (fault_made record_fields _)
