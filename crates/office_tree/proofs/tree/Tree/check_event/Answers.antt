use Rattle.std.proofs.Common.{rules}
use Rattle.office_records.proofs.Least.{least_event}
use Rattle.office_tree.proofs.tree.Tree.check_event.Goals as goal

pub returns-clause-least : goal.returns-clause-least
returns-clause-least c = least_event c.args.self.now c.args.day c.args.record_no c.args.occurred _ (search rules)
