-- How `export` and `overdue` end. Source: own.
use Rattle.std.specs.Prelude.{◌≡◌, ◌⊎◌, ℕ, List, Option, Result, Ok, Err}
use Rattle.std.specs.Io.KnownBytes.{Appends}
use Rattle.sqlite.specs.State.{State as FileState}
use Rattle.office_rules.specs.State.{Office}
use Rattle.office_store.specs.declared.fault.Fault.TheVariants as fault
use Rattle.office_wire.specs.Exporting.{IsDueRegister, IsEntryRegister, IsOverdueRegister, IsSomeOut}
use Rattle.office_wire.specs.declared.registers.ExportStop.{ExportStop}
use Rattle.office_wire.specs.declared.registers.ExportStop.TheVariants as export
use Rattle.office_command_line.specs.declared.register.Register.{Register}
use Rattle.office_command_line.specs.declared.register.Register.TheVariants as register
use Rattle.office_commands.specs.declared.exit.Exit.{Exit}
use Rattle.office_commands.specs.declared.exit.Exit.TheVariants as how
use Rattle.office_commands.specs.Opening.{EndsOpenFailed, IsOpened}

-- what stopped an export is reported as such
abbrev pub exit_of_export : Result (Unit {0}) ExportStop → Exit
exit_of_export (Ok done) = how.Done
exit_of_export (Err (export.Fault f)) = how.Fault f
exit_of_export (Err export.Io) = how.File

-- the text of a register of the office
abbrev pub IsRegisterText : Register → Office → List ℕ → Type 0
IsRegisterText register.Entries = IsEntryRegister
IsRegisterText (register.Due day) = IsDueRegister day
IsRegisterText (register.Overdue day n) = IsOverdueRegister day n

-- the register of the office was written
abbrev pub IsRegister : Register → Option (List ℕ) → Option (List ℕ) → Office → Type 0
IsRegister it written after office = (text : List ℕ) × IsRegisterText it office text × Appends written after text

-- a register of the office was written; or the writer failed, or memory ran out, and its first bytes went out, or none
abbrev pub Exports : Office → Register → Option (List ℕ) → Option (List ℕ) → Exit → Type 0
Exports office it written after exit =
    (exit ≡ how.Done) × IsRegister it written after office
    ⊎ ((exit ≡ how.File) ⊎ (exit ≡ how.Fault fault.Memory)) × IsSomeOut (IsRegisterText it) office written after

-- `export FILE entries`, `export FILE DAY` or `overdue FILE DAY COUNT`, by its exit; an office of version 2 that was
-- opened stays as it was
abbrev pub ExportEnds : Register → FileState → FileState → Option (List ℕ) → Option (List ℕ) → Exit → Type 0
ExportEnds it old new written after exit =
    EndsOpenFailed old new written after exit
    ⊎ ((office : Office) × IsOpened old new office × Exports office it written after exit)
