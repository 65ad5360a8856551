use Rattle.std.proofs.Common.{◌≡◌, drop}
use Rattle.clap.specs.Words.{app_of}
use Rattle.office_command_line.specs.Command.{with_rows}
use Rattle.office_command_line.proofs.command.with_commands.Given as goal

abbrev pub invariant-loop-row : goal.invariant-loop-row
invariant-loop-row l = with_rows (app_of l.command) (drop l.row-index l.rows) ≡ with_rows (app_of l.fn.base) l.rows
