use Rattle.std.proofs.Common.{ap, refl, sym}
use Rattle.office_csv.specs.ImportRows.{named}
use Rattle.office_base.specs.declared.refusal.Refusal.{Refusal}
use Rattle.office_rules.specs.declared.answer.Answer.TheVariants.{Refused}
use Rattle.office_wire.proofs.Calls.{not_called}
use Rattle.office_wire.proofs.Imported.{row_ended, row_refused}
use Rattle.office_wire.proofs.record_import.answer_row.Goals as goal

pub returns-in-Ok : goal.returns-in-Ok
returns-in-Ok g c =
    let it = c.perform.ensures in
    record {
      clean = it.rest.clean;
      shield = it.rest.shield;
      did = λ s clean at. row_ended g.S.Store c.args.day s (named c.args.row.now) c.in-Ok.act c.perform.result c.args.desk.now c.perform.new.self c.in-Ok.ensures
          (it.answered s at.is_open (sym at.office)) (it.leaves s clean at);
    }

pub returns-in-Err-Refused : goal.returns-in-Err-Refused
returns-in-Err-Refused g c =
    not_called g.S.Store _ _
    (λ s represents. (s, (rw (row_refused _ _ (rw c.in-Err-Refused.field-0-is at c.in-Err-Refused.ensures)) (ap (λ (why : Refusal). Refused why) c.in-Err-Refused.refusal-is, refl)), represents))
