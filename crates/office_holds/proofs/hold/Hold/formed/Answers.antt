use Rattle.std.proofs.Common.{subst, sym}
use Rattle.office_days.specs.Limits.{IsDayNumber}
use Rattle.office_records.specs.Forms.{IsCode}
use Rattle.office_holds.proofs.Representing.{at_codes}
use Rattle.office_holds.proofs.hold.Hold.formed.Goals as goal

pub returns : goal.returns
returns c = rw (sym c.self.view_is) (record {
  reason = c.text.ensures.form;
  placed = subst IsDayNumber c.number.ensures.value c.number.ensures.in_range;
  by = c.text-2.ensures.form;
  lifted = c.well_formed_day_or_none.ensures;
  classes = at_codes IsCode c.self.inside.classes.keys c.well_formed_codes.ensures;
})
