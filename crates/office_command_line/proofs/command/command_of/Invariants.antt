use Rattle.std.proofs.Common.{◌≡◌, false, drop}
use Rattle.clap.specs.Words.{app_of, new_app}
use Rattle.clap.specs.declared.builder.command.Command.TheViews.{out-Command as fields_of}
use Rattle.office_command_line.specs.Command.{with_operands}
use Rattle.office_command_line.proofs.command.command_of.Given as goal

abbrev pub invariant-loop-operand : goal.invariant-loop-operand
invariant-loop-operand l =
    (with_operands (app_of l.command) (drop l.operand-index l.operands) ≡ with_operands (new_app l.name) l.operands)
    × ((fields_of l.command).has_globals ≡ false)
