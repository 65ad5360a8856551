use Rattle.std.proofs.Common.{[], map, ap, ◌∙◌}
use Rattle.office_base.specs.Rows.{numbered_rows}
use Rattle.office_rules.specs.HoldLoading.{hold_rows}
use Rattle.office_rules.specs.Rows.{record_rows}
use Rattle.office_machine.proofs.Collected.{no_hold_rows, nothing_collected}
use Rattle.office_machine.proofs.loader.Loader.new.Goals as goal

pub invariant_of-result : goal.invariant_of-result
invariant_of-result c = rw (c.new-4.ensures.items, c.new-5.ensures.items, c.new-8.ensures, c.new-9.ensures, c.new-11.ensures.empty) nothing_collected

pub returns : goal.returns
returns c =
    let none = ap hold_rows c.new-8.ensures ∙ no_hold_rows in
    λ i. record {
      days = [];
      schedules = c.new.ensures.empty i;
      classes = c.new-2.ensures.empty i;
      aggregations = numbered_rows (c.new-3.ensures.items i);
      records = numbered_rows (record_rows (c.new-4.ensures.items i) (c.new-5.ensures.items i));
      events = c.new-6.ensures.empty i;
      contents = c.new-7.ensures i;
      holds = none i;
      targets = c.new-9.ensures i;
      runs = numbered_rows (c.new-10.ensures.items i);
      entries = map (λ e. e.1) (c.new-11.ensures.empty i);
      certificates = c.new-12.ensures.empty i;
    }
