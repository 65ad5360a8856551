use Rattle.office_commands.proofs.NextFiles.{command_leaves, gate_leaves, service_leaves, whole_office}
use Rattle.office_commands.proofs.next_command.law_of_each_command.Goals as goal

pub returns : goal.returns
returns g c =
    let one = c.law_of_one_database.ensures.one in
    let stay = c.law_of_soundness.ensures.step in
    let ends = c.law_of_resumption.ensures.ends in
    record { command = command_leaves one stay ends; service = service_leaves one stay ends; gate = gate_leaves one stay ends; whole = whole_office }
