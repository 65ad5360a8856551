use Rattle.std.proofs.Common.{ap, arith, length}
use Rattle.office_rules.specs.State.{Office}
use Rattle.office_machine.proofs.OfficeSound.{few_runs}
use Rattle.office_machine.proofs.parts.Parts.run_count.Goals as goal

pub overflow_cast-result : goal.overflow_cast-result
overflow_cast-result c =
    let few = few_runs c.args.self.now c.requires in
    let same = ap (λ (s : Office). length s.runs) c.self.view_is in
    omega (arith, few, same, c.len.ensures)
