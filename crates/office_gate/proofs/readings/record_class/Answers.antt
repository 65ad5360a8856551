use Rattle.std.proofs.Common.{sym}
use Rattle.office_access.proofs.Absent.{no_class_of_record}
use Rattle.office_gate.proofs.readings.record_class.Goals as goal

pub returns-else-has_record : goal.returns-else-has_record
returns-else-has_record c = sym (no_class_of_record c.args.tree.now c.args.record_no (cc))
