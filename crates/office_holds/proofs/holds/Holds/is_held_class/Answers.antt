use Rattle.std.proofs.Common.{ap, sym, ◌∙◌}
use Rattle.std.specs.Prelude.{nat_lt}
use Rattle.office_rules.specs.Holds.{is_held_class}
use Rattle.office_holds.specs.contracts.holds.Holds.{the_view}
use Rattle.office_records.specs.declared.target.Target.TheVariants as target
use Rattle.office_holds.proofs.BindingCounts.{class_by_count}
use Rattle.office_holds.proofs.holds.Holds.is_held_class.Goals as goal

pub returns : goal.returns
returns c =
    c.is_class_bound.ensures
    ∙ ap (nat_lt 0) (c.self.invariant.1.counted (target.Class c.args.class.now))
    ∙ sym (class_by_count (the_view c.self.inside) c.args.class.now)
    ∙ ap (λ holds. is_held_class holds c.args.class.now) c.self.view_is
