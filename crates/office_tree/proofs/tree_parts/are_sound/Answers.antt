use Rattle.std.proofs.Common.{◌≡◌, ◌∙◌, sym, arith, length}
use Rattle.std.proofs.lemmas.Bool.Decides.{nat_tests}
use Rattle.office_records.proofs.Named.{limits_hold}
use Rattle.office_records.proofs.Placed.{below_of, closed_of, all_pass}
use Rattle.office_tree.proofs.tree_parts.are_sound.Goals as goal

pub returns-then-not-are_placed-clause-no : goal.returns-then-not-are_placed-clause-no
returns-then-not-are_placed-clause-no c _ sound = c.are_placed.ensures.no c.if-not-are_placed.true (all_pass c.args.aggregations.now sound.forest.below sound.closed)

pub are_low-requires-clause-below : goal.are_low-requires-clause-below
are_low-requires-clause-below c = below_of c.args.aggregations.now (c.are_placed.ensures.yes c.if-not-are_placed.false)

pub returns-clause-yes : goal.returns-clause-yes
returns-clause-yes c reported =
    let pass = c.are_placed.ensures.yes c.if-not-are_placed.false in
    let same : length c.args.statuses.now ≡ length c.args.records.now = grind (arith, nat_tests) in
    record {
      limits = limits_hold _ _ _ _ (sym c.is_within_limits.ensures ∙ c.if-not-is_within_limits.false);
      forest = record { below = below_of c.args.aggregations.now pass; depth = c.are_low.ensures.yes c.if-not-are_low.false };
      names = c.do_names_exist.ensures.yes c.if-not-do_names_exist.false;
      closed = closed_of c.args.aggregations.now pass;
      statuses = same;
    }
