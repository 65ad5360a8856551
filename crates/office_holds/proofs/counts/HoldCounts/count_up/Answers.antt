use Rattle.std.proofs.Common.{sym, subst}
use Rattle.office_rules.specs.HoldLoading.{same_target}
use Rattle.office_holds.specs.HoldCounts.{CountsUp}
use Rattle.office_records.specs.declared.target.Target.{Target}
use Rattle.office_holds.proofs.CountedTargets.{class_up, aggregation_up, record_up}
use Rattle.office_holds.proofs.counts.HoldCounts.count_up.Goals as goal

pub returns-in-Class : goal.returns-in-Class
returns-in-Class c =
    let counts = c.args.self.now in
    subst (λ (t : Target). CountsUp counts (record counts { classes = c.count_up.new.numbers }) (same_target t)) (sym c.in-Class.is) (class_up counts c.count_up.new.numbers c.in-Class.code c.count_up.ensures)

pub returns-in-Aggregation : goal.returns-in-Aggregation
returns-in-Aggregation c =
    let counts = c.args.self.now in
    subst (λ (t : Target). CountsUp counts (record counts { aggregations = c.count_up-in-Aggregation.new.numbers }) (same_target t)) (sym c.in-Aggregation.is) (aggregation_up counts c.count_up-in-Aggregation.new.numbers c.in-Aggregation.number c.count_up-in-Aggregation.ensures)

pub returns-in-Record : goal.returns-in-Record
returns-in-Record c =
    let counts = c.args.self.now in
    subst (λ (t : Target). CountsUp counts (record counts { records = c.count_up-in-Record.new.numbers }) (same_target t)) (sym c.in-Record.is) (record_up counts c.count_up-in-Record.new.numbers c.in-Record.number c.count_up-in-Record.ensures)
