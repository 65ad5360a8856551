use Rattle.std.proofs.Common.{Option, Some, ap, sym, ◌∙◌}
use Rattle.office_records.specs.Lists.{is_some_and}
use Rattle.office_records.proofs.Plan.{get_is}
use Rattle.office_rules.specs.Holds.{HoldState, hold_covers}
use Rattle.office_holds.proofs.least_hold.covers.Goals as goal

pub returns-in-Some : goal.returns-in-Some
returns-in-Some c = c.covers.ensures ∙ ap (λ (o : Option HoldState). is_some_and o (λ hold. hold_covers hold c.args.record_no c.args.above.now (Some c.args.class.now))) (c.in-Some.ensures.value ∙ sym (get_is c.args.holds.now.entries c.args.code.now))

pub returns-in-None : goal.returns-in-None
returns-in-None c = ap (λ (o : Option HoldState). is_some_and o (λ hold. hold_covers hold c.args.record_no c.args.above.now (Some c.args.class.now))) (c.in-None.ensures.value ∙ sym (get_is c.args.holds.now.entries c.args.code.now))
