use Rattle.std.proofs.Common.{◌∙◌, sym, ap}
use Rattle.std.specs.Cmp.{nat_cmp_total}
use Rattle.std.specs.FinMap.{nat_cmp-IsAntisymmetric}
use Rattle.std.specs.Option.{is_some}
use Rattle.office_machine.proofs.Stored.{get_is}
use Rattle.office_machine.proofs.examination.entries.is_noted.Goals as goal

pub returns : goal.returns
returns c = c.contains_key.ensures ∙ sym (ap is_some (get_is nat_cmp_total nat_cmp-IsAntisymmetric c.args.ends.now.entries c.args.record_no))
