-- What the program is to do, with the operands of the commands on an office's file read. Source: own.
use Rattle.std.specs.Prelude.{ℕ, ℤ, Option, Some, None, Result, Ok, Err, codes, if◌then◌else◌, option_map}
use Rattle.std.specs.Str.{bytes_eq}
use Rattle.clap.specs.Words.{Text}
use Rattle.office_days.specs.ConfirmCounts.{confirm_days_named}
use Rattle.office_base.specs.EntityNumbers.{entity_number}
use Rattle.office_days.specs.Texts.{day_named}
use Rattle.office_base.specs.declared.refusal.Refusal.{Refusal}
use Rattle.office_base.specs.declared.refusal.Refusal.TheVariants.{BadText}
use Rattle.office_command_line.specs.Command.{CommandLine, no_line, apply_line, due_line, plan_line, init_line, resume_line, certificate_line, import_line, export_line, overdue_line, serve_line, gate_line}
use Rattle.office_command_line.specs.Services.{service_numbers}
use Rattle.office_command_line.specs.declared.register.Register.{Register}
use Rattle.office_command_line.specs.declared.register.Register.TheVariants as register
use Rattle.office_command_line.specs.declared.order.Order.{Order}
use Rattle.office_command_line.specs.declared.order.Order.TheVariants.{Apply, Certificate, Due, Export, Import, Init, Nothing, Overdue, Plan, Resume, Serve, Gate}

-- a command with its operands read; `due` and `plan` read theirs themselves
pub data Command : Type 0 where
  nothing : Command
  due : Text → Text → Text → Text → Command
  plan : Text → Command
  init : Text → Command
  apply : Text → Text → Command
  resume : Text → Command
  certificate : Text → ℕ → Command
  import : Text → ℤ → Text → Command
  export : Text → Register → Command
  overdue : Text → ℤ → ℕ → Command
  serve : Text → ℕ → ℕ → Command
  gate : Text → ℕ → ℕ → Text → Text → Text → Command

abbrev pub command : Order → Command
command (Due unit count offset day) = due unit.now count.now offset.now day.now
command (Plan file) = plan file.now
command (Init file) = init file.now
command (Apply file acts) = apply file.now acts.now
command (Resume file) = resume file.now
command (Certificate file run) = certificate file.now run
command (Import file day csv) = import file.now day csv.now
command (Export file register) = export file.now register
command (Overdue file day days) = overdue file.now day days
command (Serve file port count) = serve file.now port count
command (Gate file port count access token journal) =
    gate file.now port count access.now token.now journal.now
command Nothing = nothing

-- the certificate of the run with that number, where a text was read as one
abbrev pub certificate_of : Text → Result ℕ Refusal → Result Command Refusal
certificate_of file (Ok run) = Ok (certificate file run)
certificate_of file (Err refusal) = Err refusal

-- the import on a day, where a text was read as one
abbrev pub importation_of : Text → Text → Option ℤ → Result Command Refusal
importation_of file csv (Some day) = Ok (import file day csv)
importation_of file csv None = Err BadText

-- the register that a text names: `entries`, or the day of the due register
abbrev pub register_named : Text → Option Register
register_named text =
    if bytes_eq text (codes "entries") then Some register.Entries else option_map register.Due (day_named text)

-- the export of a register, where a text names one
abbrev pub exportation_of : Text → Option Register → Result Command Refusal
exportation_of file (Some it) = Ok (export file it)
exportation_of file None = Err BadText

-- what is overdue on a day, where texts were read as the day and as the days to confirm: a text that is no day is
-- reported first
abbrev pub overdue_of : Text → Option ℤ → Result ℕ Refusal → Result Command Refusal
overdue_of file (Some day) (Ok days) = Ok (overdue file day days)
overdue_of file (Some day) (Err refusal) = Err refusal
overdue_of file None days = Err BadText

-- the service at a port for so many connections, where texts were read as both
abbrev pub service_of : Text → Result (ℕ × ℕ) Refusal → Result Command Refusal
service_of file (Ok p) = Ok (serve file p.0 p.1)
service_of file (Err refusal) = Err refusal

-- the same for the names that a proxy states, by the settings in a file and the secret in another, with a journal
abbrev pub gate_of : Text → Text → Text → Text → Result (ℕ × ℕ) Refusal → Result Command Refusal
gate_of file access token journal (Ok p) = Ok (gate file p.0 p.1 access token journal)
gate_of file access token journal (Err refusal) = Err refusal

-- the command of a command line, or why an operand is refused
abbrev pub command_read : CommandLine → Result Command Refusal
command_read no_line = Ok nothing
command_read (due_line unit count offset day) = Ok (due unit count offset day)
command_read (plan_line file) = Ok (plan file)
command_read (init_line file) = Ok (init file)
command_read (apply_line file acts) = Ok (apply file acts)
command_read (resume_line file) = Ok (resume file)
command_read (certificate_line file number) = certificate_of file (entity_number number)
command_read (import_line file day csv) = importation_of file csv (day_named day)
command_read (export_line file text) = exportation_of file (register_named text)
command_read (overdue_line file day count) = overdue_of file (day_named day) (confirm_days_named count)
command_read (serve_line file port count) = service_of file (service_numbers port count)
command_read (gate_line file port count access token journal) =
    gate_of file access token journal (service_numbers port count)
