use Rattle.std.proofs.Common.{Some, ap, sym, ◌∙◌}
use Rattle.std.specs.FinMap.{get}
use Rattle.std.specs.Option.{is_none}
use Rattle.office_records.specs.Lists.{amended}
use Rattle.office_rules.specs.Holds.{HoldMap}
use Rattle.office_rules.specs.HoldRows.{hold_from}
use Rattle.office_holds.proofs.Cached.{lifted_then, put_over_lifted}
use Rattle.office_holds.proofs.holds.Holds.replace.Goals as goal

pub set_row-requires : goal.set_row-requires
set_row-requires c = λ hold is.
    lifted_then c.args.self.now c.args.code.now c.in-Some.day hold (sym (ap (λ (h : HoldMap). get h c.args.code.now) c.set_lifted.ensures) ∙ is) ∙ sym (ap is_none c.in-Some.is)

pub returns-in-Some : goal.returns-in-Some
returns-in-Some c =
    c.set_row.ensures
    ∙ ap (λ (h : HoldMap). amended h c.args.code.now (λ hold. hold_from c.args.row (Some hold))) c.set_lifted.ensures
    ∙ put_over_lifted c.args.self.now c.args.code.now c.args.row c.in-Some.day c.requires.there
