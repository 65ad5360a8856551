-- Records that are added by the rows of a text of CSV. Source: own; the text is that of RFC 4180.
use Rattle.std.specs.Prelude.{◌≡◌, ◌≢◌, ◌⊎◌, ◌+◌, ℕ, ℤ, Bool, true, false, IsTrue, List, MatchResult, [], ◌∷◌, ◌++◌, codes, length, option_map, Option, Result, Ok, Err}
use Rattle.std.specs.Fmt.{decimal}
use Rattle.std.specs.Io.KnownBytes.{Appends}
use Rattle.csv.specs.Reading.{strip_bom}
use Rattle.csv.specs.declared.parser.State.{State as Reading}
use Rattle.csv.specs.declared.parser.State.TheVariants.{StartRecord}
use Rattle.sqlite.specs.Held.{state}
use Rattle.sqlite_trees.specs.declared.store.Store.{Ghosts}
use Rattle.office_base.specs.Output.{AppendsSome}
use Rattle.office_base.specs.Refusals.{refusal_number}
use Rattle.office_base.specs.declared.refusal.Refusal.{Refusal}
use Rattle.office_rules.specs.Acts.{step}
use Rattle.office_rules.specs.Answers.{is_refusal}
use Rattle.office_rules.specs.Forms.{IsWellFormedAct}
use Rattle.office_rules.specs.State.{State}
use Rattle.office_rules.specs.declared.act.Act.{Act}
use Rattle.office_rules.specs.declared.answer.Answer.{Answer}
use Rattle.office_rules.specs.declared.answer.Answer.TheVariants as kind
use Rattle.office_store.specs.declared.fault.Fault.{Fault}
use Rattle.office_store.specs.declared.fault.Fault.TheVariants as fault
use Rattle.office_desk.specs.Desk.{DeskState}
use Rattle.office_desk.specs.Leaving.{IsAt, StopsAt, StopsLeaving}
use Rattle.office_csv.specs.ImportRows.{Fields, parsed_row, fields_in}
use Rattle.office_csv.specs.ImportText.{AreAtPrefix, HeadsText, IsBadNext, IsEnded, LacksHeader}
use Rattle.office_csv.specs.declared.import_text.RowStop.{RowStop}
use Rattle.office_csv.specs.declared.import_text.RowStop.TheVariants as row_stop
use Rattle.office_wire.specs.Calling.{CalledAt}
use Rattle.office_wire.specs.declared.record_import.ImportStop.{ImportStop}
use Rattle.office_wire.specs.declared.record_import.ImportStop.TheVariants as stop

-- ---- one row

-- a row is answered by the step of the act that it asks for, or with its refusal, and then nothing is done
abbrev pub IsAnsweredBy : State → Result Act Refusal → Answer → State → Type 0
IsAnsweredBy s (Ok act) answer t = IsWellFormedAct act × (answer ≡ (step s act).0) × (t ≡ (step s act).1)
IsAnsweredBy s (Err why) answer t = (answer ≡ kind.Refused why) × (t ≡ s)

-- the act of a row adds its record on the day
abbrev pub IsRowDone : ℤ → State → Fields → Answer → State → Type 0
IsRowDone day s row answer t = IsAnsweredBy s (parsed_row day row) answer t

-- a fault stopped an act on the way to the state after it
abbrev pub IsActStopped : {S : Type 0} → Ghosts S → State → Act → Fault → DeskState S → Type 0
IsActStopped g s act f desk = StopsAt s.office f desk × StopsLeaving s (step s act).1 f (state g desk.connection)

-- a fault stopped a row: memory ran out to read it, or the act that adds its record was stopped
abbrev pub IsRowStopped : {S : Type 0} → Ghosts S → ℤ → State → Fields → Fault → DeskState S → Type 0
IsRowStopped g day s row f desk =
    ((f ≡ fault.Memory) × IsAt g s desk)
    ⊎ ((act : Act) × (parsed_row day row ≡ Ok act) × IsWellFormedAct act × IsActStopped g s act f desk)

-- a row was answered, or stopped
abbrev pub EndsRow : {S : Type 0} → Ghosts S → ℤ → State → Fields → Result Answer Fault → DeskState S → Type 0
EndsRow g day s row ended desk =
    MatchResult ended (λ answer. (t : State) × IsRowDone day s row answer t × IsAt g t desk)
    (λ f. IsRowStopped g day s row f desk)

-- ---- one line

abbrev pub line_with : ℕ → List ℕ → ℕ → List ℕ
line_with number word n = decimal number ++ (word ++ (decimal n ++ codes "\n"))

-- the line of a row: its number, and the answer; a row is answered in these three ways alone
unfoldable pub line_of : ℕ → Answer → List ℕ
line_of number (kind.Number n) = line_with number (codes " number ") n
line_of number (kind.Same n) = line_with number (codes " same ") n
line_of number (kind.Refused why) = line_with number (codes " refused ") (refusal_number why)
line_of number kind.Done = decimal number ++ codes "\n"
line_of number (kind.Step r outcome) = decimal number ++ codes "\n"
line_of number (kind.RunClosed n) = decimal number ++ codes "\n"

-- ---- lines one after another

-- those of rows of which so many came before
abbrev pub lines_from : ℕ → List Answer → List ℕ
lines_from before [] = []
lines_from before (answer ∷ rest) = line_of (before + 1) answer ++ lines_from (before + 1) rest

abbrev pub one_if : Bool → ℕ
one_if true = 1
one_if false = 0

-- a row of seven fields was answered, and its line written; whether the row was refused
abbrev pub IsRowWritten : {S : Type 0} → Ghosts S → ℤ → State → ℕ → Fields → Bool → DeskState S → Option (List ℕ)
    → Option (List ℕ) → Type 0
IsRowWritten g day s number row refused desk old new =
    (answer : Answer) × (t : State) × IsRowDone day s row answer t × IsAt g t desk
    × Appends old new (line_of number answer) × (refused ≡ is_refusal answer)

-- what stopped a row: another number of fields, a fault, or a line that could not be written whole
abbrev pub TakeStops : {S : Type 0} → Ghosts S → ℤ → State → ℕ → List (List ℕ) → ImportStop → DeskState S
    → Option (List ℕ) → Option (List ℕ) → Type 0
TakeStops g day s place fields stop.Header desk old new = ⊥
TakeStops g day s place fields (stop.Row number) desk old new =
    (number ≡ place) × (length fields ≢ 7) × IsAt g s desk × (new ≡ old)
TakeStops g day s place fields (stop.Fault f) desk old new =
    (row : Fields) × (fields ≡ fields_in row) × IsRowStopped g day s row f desk × (new ≡ old)
TakeStops g day s place fields stop.Io desk old new =
    (row : Fields) × (answer : Answer) × (t : State) × (fields ≡ fields_in row) × IsRowDone day s row answer t
    × IsAt g t desk × AppendsSome old new (line_of place answer)

-- a row of any number of fields was answered and its line written, or the row was stopped
abbrev pub EndsTaking : {S : Type 0} → Ghosts S → ℤ → State → ℕ → List (List ℕ) → Result Bool ImportStop → DeskState S
    → Option (List ℕ) → Option (List ℕ) → Type 0
EndsTaking g day s number fields ended desk old new =
    MatchResult ended
    (λ refused. (row : Fields) × (fields ≡ fields_in row) × IsRowWritten g day s number row refused desk old new)
    (λ why. TakeStops g day s number fields why desk old new)

-- the lines of rows were written, of the last one perhaps a part alone
abbrev pub AreLinesOut : List Answer → Option (List ℕ) → Option (List ℕ) → Type 0
AreLinesOut answers old new =
    Appends old new (lines_from 0 answers)
    ⊎ ((before : List Answer) × (last : Answer) × (mid : Option (List ℕ)) × (answers ≡ before ++ last ∷ [])
    × Appends old mid (lines_from 0 before) × AppendsSome mid new (line_of (length before + 1) last))

-- how many answers are refusals
abbrev pub refused_count : List Answer → ℕ
refused_count [] = 0
refused_count (answer ∷ rest) = one_if (is_refusal answer) + refused_count rest

-- ---- rows one after another

abbrev pub AreRowsDone : ℤ → State → List Fields → List Answer → State → Type 0
AreRowsDone day s [] answers t = (answers ≡ []) × (t ≡ s)
AreRowsDone day s (row ∷ rows) answers t =
    (answer : Answer) × (rest : List Answer) × (m : State) × (answers ≡ answer ∷ rest) × IsRowDone day s row answer m
    × AreRowsDone day m rows rest t

-- ---- the text

-- a header, and rows at the head of what follows it, where the text is known; and what is left of it
abbrev pub AreFirstRows : Option (List ℕ) → List Fields → Reading → Option (List ℕ) → Type 0
AreFirstRows text rows s rest =
    (headed : Reading) × (behind : Option (List ℕ)) × HeadsText StartRecord text headed behind
    × AreAtPrefix headed behind rows s rest

-- all rows of a text with a header
abbrev pub AreAllRows : Option (List ℕ) → List Fields → Type 0
AreAllRows text rows = (s : Reading) × (rest : Option (List ℕ)) × AreFirstRows text rows s rest × IsEnded s rest

-- some first rows of it
abbrev pub AreSomeRows : Option (List ℕ) → List Fields → Type 0
AreSomeRows text rows = (s : Reading) × (rest : Option (List ℕ)) × AreFirstRows text rows s rest

-- some first rows of it, or none, whatever the text is
abbrev pub ArePrefixRows : Option (List ℕ) → List Fields → Type 0
ArePrefixRows text rows = (rows ≡ []) ⊎ AreSomeRows text rows

-- those before a row of another number of fields, or one that is not UTF-8
abbrev pub AreRowsBeforeBad : Option (List ℕ) → List Fields → Type 0
AreRowsBeforeBad text rows = (s : Reading) × (rest : Option (List ℕ)) × AreFirstRows text rows s rest × IsBadNext s rest

-- why an import stops where no row was read in a place
abbrev pub stop_at : RowStop → ℕ → ImportStop
stop_at row_stop.NotText number = stop.Row number
stop_at row_stop.Memory number = stop.Fault fault.Memory
stop_at row_stop.Io number = stop.Io

-- ---- what an import comes to

-- why an import ended
pub data ImportEnd : Type 0 where
  -- no row is left
  all_rows : ImportEnd
  -- the first row does not name the columns, or there is none
  no_header : ImportEnd
  -- the next row has another number of fields, or is not UTF-8
  bad_row : ImportEnd
  -- memory ran out before the next row was read
  out_of_memory : ImportEnd
  -- a fault stopped the next row
  row_stopped : Fields → Fault → ImportEnd
  -- reading or writing failed
  io_failed : ImportEnd

-- the rows that were done, their answers, and why the import ended then
pub record ImportOutcome : Type 0 where
  pub rows : List Fields
  pub answers : List Answer
  pub why : ImportEnd

-- how many rows are refused, or what stopped the import
abbrev pub result_by : List Fields → List Answer → ImportEnd → Result ℕ ImportStop
result_by rows answers all_rows = Ok (refused_count answers)
result_by rows answers no_header = Err stop.Header
result_by rows answers bad_row = Err (stop.Row (length rows + 1))
result_by rows answers out_of_memory = Err (stop.Fault fault.Memory)
result_by rows answers (row_stopped row f) = Err (stop.Fault f)
result_by rows answers io_failed = Err stop.Io

-- what the call returns for an outcome
abbrev pub import_result : ImportOutcome → Result ℕ ImportStop
import_result o = result_by o.rows o.answers o.why

-- the rows are the first of a text, in which an import can end so after them
abbrev pub FitsText : Option (List ℕ) → List Fields → ImportEnd → Type 0
FitsText text rows all_rows = AreAllRows text rows
FitsText text rows no_header = LacksHeader StartRecord text × (rows ≡ [])
FitsText text rows bad_row = AreRowsBeforeBad text rows
FitsText text rows out_of_memory = ArePrefixRows text rows
FitsText text rows (row_stopped row f) = AreSomeRows text (rows ++ row ∷ [])
FitsText text rows io_failed = ArePrefixRows text rows

-- the lines of all answers are written; if reading or writing failed, perhaps only a part of the last line
abbrev pub AreReported : List Answer → ImportEnd → Option (List ℕ) → Option (List ℕ) → Type 0
AreReported answers no_header old new = new ≡ old
AreReported answers io_failed old new = AreLinesOut answers old new
AreReported answers _ old new = Appends old new (lines_from 0 answers)

-- from a state the rows of a text came to an outcome, and lead to another state
pub record ImportCameTo (day : ℤ) (s : State) (text : Option (List ℕ)) (o : ImportOutcome) (u : State)
    (old new : Option (List ℕ)) : Type 0 where
  pub fits : FitsText text o.rows o.why
  pub done : AreRowsDone day s o.rows o.answers u
  pub reported : AreReported o.answers o.why old new

-- the desk is at the state after the rows; or, if a fault stopped the next row, as the fault left the desk
abbrev pub ImportLeads : {S : Type 0} → Ghosts S → ℤ → State → ImportEnd → DeskState S → Type 0
ImportLeads g day u (row_stopped row f) desk = IsRowStopped g day u row f desk
ImportLeads g day u _ desk = IsAt g u desk

-- an import at a desk came to an outcome, and returned the result of that outcome
abbrev pub EndsImport : {S : Type 0} → Ghosts S → ℤ → State → Option (List ℕ) → Result ℕ ImportStop → DeskState S
    → Option (List ℕ) → Option (List ℕ) → Type 0
EndsImport g day s text ended desk old new =
    (o : ImportOutcome) × (u : State) × (ended ≡ import_result o) × ImportCameTo day s text o u old new
    × ImportLeads g day u o.why desk

-- the records of a text were added at a desk; a byte order mark at its start is passed over, and a poisoned desk stays
-- as it was
pub record ImportsText {S W : Type 0} (g : Ghosts S) (day : ℤ) (text : Option (List ℕ)) (contents : W → Option (List ℕ))
    (out after : W) (ended : Result ℕ ImportStop) (old new : DeskState S) : Type 0 where
  pub call : CalledAt g old new
      (λ s. EndsImport g day s (option_map strip_bom text) ended new (contents out) (contents after))
  pub gone : IsTrue old.is_poisoned → (ended ≡ Err (stop.Fault fault.Reopen)) × (new ≡ old) × (after ≡ out)
