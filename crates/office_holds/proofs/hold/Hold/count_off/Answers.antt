use Rattle.std.proofs.Common.{ap}
use Rattle.office_rules.specs.Holds.{HoldState}
use Rattle.office_holds.proofs.CountedTargets.{each_down}
use Rattle.office_holds.proofs.hold.Hold.count_off.Goals as goal

pub returns : goal.returns
returns c =
    each_down c.args.counts.now (record { classes = c.count_each_down.new.numbers; aggregations = c.count_each_down-2.new.numbers; records = c.count_each_down-3.new.numbers }) c.args.self.now
    c.self.inside.classes c.self.inside.aggregations c.self.inside.records (ap (λ (hold : HoldState). hold.classes) c.self.view_is) (ap (λ (hold : HoldState). hold.aggregations) c.self.view_is) (ap (λ (hold : HoldState). hold.records) c.self.view_is)
    c.count_each_down.ensures c.count_each_down-2.ensures c.count_each_down-3.ensures
