use Rattle.std.proofs.Common.{sym, subst}
use Rattle.office_rules.specs.HoldLoading.{same_target}
use Rattle.office_holds.specs.HoldCounts.{CountsDown}
use Rattle.office_records.specs.declared.target.Target.{Target}
use Rattle.office_holds.proofs.CountedTargets.{class_down, aggregation_down, record_down}
use Rattle.office_holds.proofs.counts.HoldCounts.count_down.Goals as goal

pub returns-in-Class : goal.returns-in-Class
returns-in-Class c =
    let counts = c.args.self.now in
    subst (λ (t : Target). CountsDown counts (record counts { classes = c.count_down.new.numbers }) (same_target t)) (sym c.in-Class.is) (class_down counts c.count_down.new.numbers c.in-Class.code c.count_down.ensures)

pub returns-in-Aggregation : goal.returns-in-Aggregation
returns-in-Aggregation c =
    let counts = c.args.self.now in
    subst (λ (t : Target). CountsDown counts (record counts { aggregations = c.count_down-in-Aggregation.new.numbers }) (same_target t)) (sym c.in-Aggregation.is) (aggregation_down counts c.count_down-in-Aggregation.new.numbers c.in-Aggregation.number c.count_down-in-Aggregation.ensures)

pub returns-in-Record : goal.returns-in-Record
returns-in-Record c =
    let counts = c.args.self.now in
    subst (λ (t : Target). CountsDown counts (record counts { records = c.count_down-in-Record.new.numbers }) (same_target t)) (sym c.in-Record.is) (record_down counts c.count_down-in-Record.new.numbers c.in-Record.number c.count_down-in-Record.ensures)
