use Rattle.std.proofs.Common.{rules}
use Rattle.office_records.proofs.Least.{least_of_first}
use Rattle.office_rules.specs.HoldConditions.{conditions_of_hold_on}
use Rattle.office_holds.proofs.holds.Holds.check_cover.Goals as goal

pub returns-then-is_full-clause-least : goal.returns-then-is_full-clause-least
returns-then-is_full-clause-least c = least_of_first (conditions_of_hold_on c.args.self.now c.args.code.now c.args.target.now) _ (search rules) (search rules)
