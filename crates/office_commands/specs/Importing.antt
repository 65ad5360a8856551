-- How `import` ends. Source: own.
use Rattle.std.specs.Prelude.{◌≡◌, ◌⊎◌, ◌==◌, ℕ, ℤ, if◌then◌else◌, List, Option, Result, Ok, Err, option_map}
use Rattle.csv.specs.Reading.{strip_bom}
use Rattle.sqlite.specs.State.{State as FileState}
use Rattle.office_rules.specs.Acts.{step}
use Rattle.office_rules.specs.Forms.{IsWellFormedAct}
use Rattle.office_rules.specs.Rows.{rows_of}
use Rattle.office_rules.specs.State.{State}
use Rattle.office_rules.specs.declared.act.Act.{Act}
use Rattle.office_store.specs.RepresentsRows.{ContainsRows}
use Rattle.office_store.specs.declared.fault.Fault.{Fault}
use Rattle.office_store.specs.declared.fault.Fault.TheVariants as fault
use Rattle.office_desk.specs.Leaving.{StopsLeaving}
use Rattle.office_csv.specs.ImportRows.{Fields, parsed_row}
use Rattle.office_wire.specs.declared.record_import.ImportStop.{ImportStop}
use Rattle.office_wire.specs.declared.record_import.ImportStop.TheVariants as import
use Rattle.office_wire.specs.Importing.{ImportCameTo, ImportEnd, ImportOutcome, import_result, row_stopped}
use Rattle.office_commands.specs.Opening.{EndsOpenFailed, RepresentSome, WasFound}
use Rattle.office_commands.specs.declared.exit.Exit.{Exit}
use Rattle.office_commands.specs.declared.exit.Exit.TheVariants as how

-- a row that is refused is reported by the exit status alone, and what stopped an import as such
abbrev pub exit_of_import : Result ℕ ImportStop → Exit
exit_of_import (Ok refused) = if refused == 0 then how.Done else how.SomeRefused
exit_of_import (Err import.Header) = how.CsvHeader
exit_of_import (Err (import.Row number)) = how.CsvRow number
exit_of_import (Err (import.Fault f)) = how.Fault f
exit_of_import (Err import.Io) = how.File

-- a fault stopped a row: memory ran out to read it, or a crash leaves the tables before its act or after it
abbrev pub IsRowCut : ℤ → State → Fields → Fault → FileState → Type 0
IsRowCut day u row f new =
    ((f ≡ fault.Memory) × ContainsRows (rows_of u) new)
    ⊎ ((act : Act) × (parsed_row day row ≡ Ok act) × IsWellFormedAct act × StopsLeaving u (step u act).1 f new)

-- a crash leaves the tables of the state after the rows, or what the fault left of the next row
abbrev pub ImportLeaves : ℤ → State → ImportEnd → FileState → Type 0
ImportLeaves day u (row_stopped row f) file = IsRowCut day u row f file
ImportLeaves day u _ file = ContainsRows (rows_of u) file

-- from a state, what the rows of a text came to, and what a crash leaves of it
abbrev pub AreImported : ℤ → Option (List ℕ) → Result ℕ ImportStop → FileState → Option (List ℕ) → Option (List ℕ)
    → State → Type 0
AreImported day text done new written after t =
    (o : ImportOutcome) × (u : State) × (done ≡ import_result o) × ImportCameTo day t text o u written after
    × ImportLeaves day u o.why new

-- the rows of a text came to this from the state at which the office was, and that is the exit
abbrev pub ImportsAt : (State → Type 0) → ℤ → Option (List ℕ) → FileState → Option (List ℕ) → Option (List ℕ) → Exit
    → Type 0
ImportsAt Was day text new written after exit =
    (done : Result ℕ ImportStop) × (exit ≡ exit_of_import done)
    × ((s : State) → Was s → AreImported day text done new written after s)

-- `import FILE DAY CSV`, by the exit; a byte order mark at the start of the text is passed over
abbrev pub ImportEnds : ℤ → Option (List ℕ) → FileState → FileState → Option (List ℕ) → Option (List ℕ) → Exit
    → Type 0
ImportEnds day text old new written after exit =
    EndsOpenFailed old new written after exit
    ⊎ RepresentSome old new × ImportsAt (WasFound old new) day (option_map strip_bom text) new written after exit
