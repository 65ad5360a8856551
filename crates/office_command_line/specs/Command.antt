-- The command line of the office, as `clap` reads it, and what its words say. Source: own.
use Rattle.std.specs.Prelude.{true, codes, List, [], ◌∷◌, Option, Some, None, unwrap_or, if◌then◌else◌}
use Rattle.std.specs.Str.{bytes_eq}
use Rattle.clap.specs.Words.{App, Row, Rule, Text, first_of, new_app, new_rule, with_rule, with_subcommand}
use Rattle.office_command_line.specs.declared.command.CommandRow.{CommandRow}
use Rattle.office_command_line.specs.declared.command.Operand.{Operand}
use Rattle.office_command_line.specs.declared.words.Words.{Words}
use Rattle.office_command_line.specs.declared.words.Words.TheVariants.{Apply, Certificate, Due, Export, Import, Init, Nothing, Overdue, Plan, Resume, Serve, Gate}

-- an operand that must be there
abbrev pub operand : Text → Rule
operand name = record (new_rule name) { required = true }

-- with these operands
abbrev pub with_operands : App → List Operand → App
with_operands app [] = app
with_operands app (x ∷ xs) = with_operands (with_rule app (operand x.0.now)) xs

-- with the command of a row
abbrev pub with_row : App → CommandRow → App
with_row app row = with_subcommand app (with_operands (new_app row.name.now) row.operands.now).top

-- with the commands of these rows, one after another
abbrev pub with_rows : App → List CommandRow → App
with_rows app [] = app
with_rows app (row ∷ rows) = with_rows (with_row app row) rows

-- `due UNIT COUNT OFFSET DAY`
abbrev pub due_app : App
due_app =
    with_rule (with_rule (with_rule (with_rule (new_app (codes "due"))
    (operand (codes "UNIT"))) (operand (codes "COUNT"))) (operand (codes "OFFSET"))) (operand (codes "DAY"))

-- `plan FILE`
abbrev pub plan_app : App
plan_app = with_rule (new_app (codes "plan")) (operand (codes "FILE"))

-- `init FILE`
abbrev pub init_app : App
init_app = with_rule (new_app (codes "init")) (operand (codes "FILE"))

-- `apply FILE ACTS`
abbrev pub apply_app : App
apply_app = with_rule (with_rule (new_app (codes "apply")) (operand (codes "FILE"))) (operand (codes "ACTS"))

-- `resume FILE`
abbrev pub resume_app : App
resume_app = with_rule (new_app (codes "resume")) (operand (codes "FILE"))

-- `certificate FILE N`
abbrev pub certificate_app : App
certificate_app = with_rule (with_rule (new_app (codes "certificate")) (operand (codes "FILE"))) (operand (codes "N"))

-- `import FILE DAY CSV`
abbrev pub import_app : App
import_app =
    with_rule (with_rule (with_rule (new_app (codes "import"))
    (operand (codes "FILE"))) (operand (codes "DAY"))) (operand (codes "CSV"))

-- `export FILE REGISTER`
abbrev pub export_app : App
export_app = with_rule (with_rule (new_app (codes "export")) (operand (codes "FILE"))) (operand (codes "REGISTER"))

-- `overdue FILE DAY COUNT`
abbrev pub overdue_app : App
overdue_app =
    with_rule (with_rule (with_rule (new_app (codes "overdue"))
    (operand (codes "FILE"))) (operand (codes "DAY"))) (operand (codes "COUNT"))

-- `serve FILE PORT COUNT`
abbrev pub serve_app : App
serve_app =
    with_rule (with_rule (with_rule (new_app (codes "serve"))
    (operand (codes "FILE"))) (operand (codes "PORT"))) (operand (codes "COUNT"))

-- `gate FILE PORT COUNT ACCESS TOKEN JOURNAL`
abbrev pub gate_app : App
gate_app =
    with_rule (with_rule (with_rule (with_rule (with_rule (with_rule (new_app (codes "gate"))
    (operand (codes "FILE"))) (operand (codes "PORT"))) (operand (codes "COUNT")))
    (operand (codes "ACCESS"))) (operand (codes "TOKEN"))) (operand (codes "JOURNAL"))

-- a command that must have one of its subcommands, and shows its help where it has no word at all
abbrev pub with_commands : App → App
with_commands app = record app { top = record (app.top) { subcommand_required = true; arg_required_else_help = true } }

-- with the commands that open no office
unfoldable pub with_plain_commands : App → App
with_plain_commands app = with_subcommand (with_subcommand app due_app.top) plan_app.top

-- with the commands on the office in a file
unfoldable pub with_file_commands : App → App
with_file_commands app = with_subcommand (with_subcommand app init_app.top) apply_app.top

-- with the commands on the runs of that office
unfoldable pub with_run_commands : App → App
with_run_commands app = with_subcommand (with_subcommand app resume_app.top) certificate_app.top

-- with the command that adds records from a text of CSV
unfoldable pub with_import_command : App → App
with_import_command app = with_subcommand app import_app.top

-- with the commands that write registers as CSV
unfoldable pub with_register_commands : App → App
with_register_commands app = with_subcommand (with_subcommand app export_app.top) overdue_app.top

-- with the commands that take and give texts of CSV
unfoldable pub with_csv_commands : App → App
with_csv_commands app = with_register_commands (with_import_command app)

-- with the commands that answer requests to that office
unfoldable pub with_service_commands : App → App
with_service_commands app = with_subcommand (with_subcommand app serve_app.top) gate_app.top

-- `office COMMAND ..`
unfoldable pub office_app : App
office_app =
    with_service_commands (with_csv_commands
    (with_run_commands (with_file_commands (with_plain_commands (with_commands (new_app (codes "office")))))))

-- the text of an operand; `clap` takes no words in which one lacks
abbrev pub text_of : Text → List Row → Text
text_of name rows = unwrap_or (first_of name rows) []

-- a command with its operands as they are written
pub data CommandLine : Type 0 where
  no_line : CommandLine
  due_line : Text → Text → Text → Text → CommandLine
  plan_line : Text → CommandLine
  init_line : Text → CommandLine
  apply_line : Text → Text → CommandLine
  resume_line : Text → CommandLine
  certificate_line : Text → Text → CommandLine
  import_line : Text → Text → Text → CommandLine
  export_line : Text → Text → CommandLine
  overdue_line : Text → Text → Text → CommandLine
  serve_line : Text → Text → Text → CommandLine
  gate_line : Text → Text → Text → Text → Text → Text → CommandLine

abbrev pub line_of : Words → CommandLine
line_of (Due unit count offset day) = due_line unit.now count.now offset.now day.now
line_of (Plan file) = plan_line file.now
line_of (Init file) = init_line file.now
line_of (Apply file acts) = apply_line file.now acts.now
line_of (Resume file) = resume_line file.now
line_of (Certificate file number) = certificate_line file.now number.now
line_of (Import file day csv) = import_line file.now day.now csv.now
line_of (Export file register) = export_line file.now register.now
line_of (Overdue file day count) = overdue_line file.now day.now count.now
line_of (Serve file port count) = serve_line file.now port.now count.now
line_of (Gate file port count access token journal) =
    gate_line file.now port.now count.now access.now token.now journal.now
line_of Nothing = no_line

abbrev pub due_in : List Row → CommandLine
due_in rows =
    due_line (text_of (codes "UNIT") rows) (text_of (codes "COUNT") rows) (text_of (codes "OFFSET") rows)
    (text_of (codes "DAY") rows)

abbrev pub plan_in : List Row → CommandLine
plan_in rows = plan_line (text_of (codes "FILE") rows)

abbrev pub init_in : List Row → CommandLine
init_in rows = init_line (text_of (codes "FILE") rows)

abbrev pub apply_in : List Row → CommandLine
apply_in rows = apply_line (text_of (codes "FILE") rows) (text_of (codes "ACTS") rows)

abbrev pub resume_in : List Row → CommandLine
resume_in rows = resume_line (text_of (codes "FILE") rows)

abbrev pub certificate_in : List Row → CommandLine
certificate_in rows = certificate_line (text_of (codes "FILE") rows) (text_of (codes "N") rows)

abbrev pub import_in : List Row → CommandLine
import_in rows =
    import_line (text_of (codes "FILE") rows) (text_of (codes "DAY") rows) (text_of (codes "CSV") rows)

abbrev pub export_in : List Row → CommandLine
export_in rows = export_line (text_of (codes "FILE") rows) (text_of (codes "REGISTER") rows)

abbrev pub overdue_in : List Row → CommandLine
overdue_in rows =
    overdue_line (text_of (codes "FILE") rows) (text_of (codes "DAY") rows) (text_of (codes "COUNT") rows)

abbrev pub serve_in : List Row → CommandLine
serve_in rows =
    serve_line (text_of (codes "FILE") rows) (text_of (codes "PORT") rows) (text_of (codes "COUNT") rows)

abbrev pub gate_in : List Row → CommandLine
gate_in rows =
    gate_line (text_of (codes "FILE") rows) (text_of (codes "PORT") rows) (text_of (codes "COUNT") rows)
    (text_of (codes "ACCESS") rows) (text_of (codes "TOKEN") rows) (text_of (codes "JOURNAL") rows)

-- the command line of a subcommand that answers requests
abbrev pub service_in : Text → List Row → CommandLine
service_in name rows =
    if bytes_eq name (codes "serve") then serve_in rows
    else (if bytes_eq name (codes "gate") then gate_in rows else no_line)

-- the command line of a subcommand with its matches
abbrev pub line_in : Option (Text × List Row) → CommandLine
line_in None = no_line
line_in (Some p) =
    if bytes_eq p.0 (codes "due") then due_in p.1
    else (if bytes_eq p.0 (codes "plan") then plan_in p.1
    else (if bytes_eq p.0 (codes "init") then init_in p.1
    else (if bytes_eq p.0 (codes "apply") then apply_in p.1
    else (if bytes_eq p.0 (codes "resume") then resume_in p.1
    else (if bytes_eq p.0 (codes "certificate") then certificate_in p.1
    else (if bytes_eq p.0 (codes "import") then import_in p.1
    else (if bytes_eq p.0 (codes "export") then export_in p.1
    else (if bytes_eq p.0 (codes "overdue") then overdue_in p.1 else service_in p.0 p.1))))))))
