use Rattle.std.proofs.Common.{◌≡◌, true, length, sym}
use Rattle.std.specs.FinMap.{contains_key}
use Rattle.office_holds.proofs.Representing.{at_codes, at_numbers, from_codes, from_numbers, not_both}
use Rattle.office_holds.proofs.hold.Hold.do_targets_exist.Goals as goal

pub returns-then-not-are_classes : goal.returns-then-not-are_classes
returns-then-not-are_classes c = (
  λ e. absurd cc,
  λ there.
      let inside = rw (sym c.self.view_is) at there in
      absurd (not_both c.are_classes.result (c.are_classes.ensures.1 (from_codes (λ code. contains_key c.args.tree.now.classes code ≡ true) c.self.inside.classes.keys inside.class_targets)) c.if-not-are_classes.true),
)

pub returns-then-not-are_aggregations : goal.returns-then-not-are_aggregations
returns-then-not-are_aggregations c = (
  λ e. absurd cc,
  λ there.
      let inside = rw (sym c.self.view_is) at there in
      absurd (not_both c.are_aggregations.result (c.are_aggregations.ensures.1 (from_numbers (length c.args.tree.now.aggregations) c.self.inside.aggregations.keys inside.aggregation_targets)) c.if-not-are_aggregations.true),
)

pub returns : goal.returns
returns c = (
  λ reported. rw (sym c.self.view_is) (record {
    class_targets = at_codes (λ code. contains_key c.args.tree.now.classes code ≡ true) c.self.inside.classes.keys (c.are_classes.ensures.0 c.if-not-are_classes.false);
    aggregation_targets = at_numbers (length c.args.tree.now.aggregations) c.self.inside.aggregations.keys (c.are_aggregations.ensures.0 c.if-not-are_aggregations.false);
    record_targets = at_numbers (length c.args.tree.now.records) c.self.inside.records.keys (c.are_records.ensures.0 reported);
  }),
  λ there. let inside = rw (sym c.self.view_is) at there in c.are_records.ensures.1 (from_numbers (length c.args.tree.now.records) c.self.inside.records.keys inside.record_targets),
)
