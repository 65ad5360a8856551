-- From one command of the program to the next: at which state a command leaves an office, and what its two files hold
-- then. Source: own.
use Rattle.std.specs.Prelude.{◌≡◌, ◌⊎◌, ◌+◌, ◌≤◌, ℕ, ℤ, IfSome, IsTrue, List, length, take, Option, Ok, Err, Some, option_map}
use Rattle.csv.specs.Reading.{strip_bom}
use Rattle.sqlite_disk.specs.declared.Disk.{Ghosts}
use Rattle.sqlite_store.specs.FileStore.{recovers, state as store_state, view}
use Rattle.sqlite_store.specs.Unopened.{state_of as unopened_state}
use Rattle.sqlite_trees.specs.Tree.{Trees}
use Rattle.sqlite_trees.specs.View.{IsClean}
use Rattle.sqlite_wal.specs.Files.{outcomes}
use Rattle.sqlite_wal.specs.Reads.{AreClean}
use Rattle.sqlite_wal.specs.Recovery.{Image}
use Rattle.sqlite.specs.Files.{HoldsDatabase, image_of}
use Rattle.sqlite.specs.State.{State as FileState}
use Rattle.sqlite.specs.declared.file.Leftover.{Leftover}
use Rattle.sqlite.specs.declared.file.Leftover.TheVariants as leftover
use Rattle.office_access.specs.Settings.{Settings}
use Rattle.office_rules.specs.Acts.{after as after_acts, answers}
use Rattle.office_rules.specs.Forms.{AreWellFormed}
use Rattle.office_rules.specs.Runs.{after_steps, open_run, whole}
use Rattle.office_rules.specs.State.{State}
use Rattle.office_rules.specs.declared.act.Act.{Act}
use Rattle.office_rules.specs.declared.answer.Answer.{Answer}
use Rattle.office_store.specs.declared.fault.Fault.{Fault}
use Rattle.office_store.specs.declared.fault.Fault.TheVariants as fault
use Rattle.office_desk.specs.Leaving.{LeavesStep}
use Rattle.office_desk.specs.Outcomes.{ActsOutcome, CanComeTo, all_done, answered_acts, answers_of, stopped}
use Rattle.office_desk.specs.Resumptions.{IsRunOf, RunOutcome, none_open, run_closed, run_stopped}
use Rattle.office_life.specs.Life.{AreDoneAt}
use Rattle.office_life.specs.Opening.{StopsOffice}
use Rattle.office_life.specs.Tables.{ContainTables, IsOfficeAt}
use Rattle.office_command_line.specs.Orders as command
use Rattle.office_command_line.specs.Orders.{Command}
use Rattle.office_command_line.specs.declared.register.Register.TheVariants as register
use Rattle.office_gate.specs.InForce.{IsInForceSince}
use Rattle.office_gate.specs.Sessions.{CameByRights}
use Rattle.office_json.specs.Answers.{answer_lines}
use Rattle.office_json.specs.Lists.{NoActs, acts_in}
use Rattle.office_wire.specs.Importing.{AreAllRows, ImportCameTo, ImportEnd, ImportOutcome, IsRowDone, import_result, row_stopped}
use Rattle.office_commands.specs.Applying.{exit_of_none}
use Rattle.office_commands.specs.Calling.{Reports}
use Rattle.office_commands.specs.Certifying.{Certifies}
use Rattle.office_commands.specs.ExitStatuses.{exit_of_acts}
use Rattle.office_commands.specs.Exporting.{Exports}
use Rattle.office_commands.specs.Importing.{exit_of_import}
use Rattle.office_commands.specs.Making.{version_line}
use Rattle.office_commands.specs.Resuming.{IsRunReported}
use Rattle.office_commands.specs.declared.exit.Exit.{Exit}
use Rattle.office_commands.specs.declared.exit.Exit.TheVariants as how
use Rattle.office_commands.specs.declared.office_files.FilesLeft.{FilesLeft}
use Rattle.office_commands.specs.declared.office_files.FilesLeft.TheVariants as files

-- the two files hold an office at this state
pub record ContainOffice (image : Image) (u : State) : Type 0 where
  pub trees : Trees
  pub contained : ∥ HoldsDatabase image trees ∥₁
  pub office : IsOfficeAt trees u

-- and where the file has sums, each page has its sum
pub record ContainWholeOffice (image : Image) (u : State) : Type 0 where
  pub trees : Trees
  pub contained : ∥ ContainTables image trees ∥₁
  pub office : IsOfficeAt trees u

-- whatever a crash leaves, it is an office at a state of this kind
abbrev pub LeavesAt : (State → Type 0) → FileState → Type 0
LeavesAt Is s = (db : Trees) → s.may_leave db → (u : State) × Is u × IsOfficeAt db u

-- ---- at which state a command leaves an office

-- the exit says that all that was read was answered
abbrev pub SaysAll : Exit → Type 0
SaysAll exit = (exit ≡ how.Done) ⊎ (exit ≡ how.SomeRefused)

-- nothing was done, and nothing was written
abbrev pub IsUntouched : Option (List ℕ) → Option (List ℕ) → State → State → Type 0
IsUntouched written after s u = (u ≡ s) × (after ≡ written)

-- a fault is reported, by which the opening of the office may stop: nothing was done, and nothing was written
pub record IsFaultAlone (written after : Option (List ℕ)) (exit : Exit) (s u : State) : Type 0 where
  pub fault : Fault
  pub reported : exit ≡ how.Fault fault
  pub stops : StopsOffice s fault
  pub untouched : IsUntouched written after s u

-- why no act of a text was done: a fault by which the opening of the office may stop; the text could not be read to its
-- end; or it is no list of acts
abbrev pub IsNotApplied : State → List ℕ → Exit → Type 0
IsNotApplied s text exit =
    ((f : Fault) × (exit ≡ how.Fault f) × StopsOffice s f) ⊎ ((exit ≡ how.File)
    ⊎ ((why : NoActs) × (acts_in text ≡ Err why) × (exit ≡ exit_of_none why)))

-- the state after acts that came to an outcome: after all; or after those that were answered, or one more
abbrev pub IsAfterActs : State → List Act → ActsOutcome → State → Type 0
IsAfterActs s acts (all_done told) u = u ≡ after_acts s acts
IsAfterActs s acts (stopped told f) u =
    (u ≡ after_acts s (take (length told) acts)) ⊎ (u ≡ after_acts s (take (length told + 1) acts))

-- acts of the text were done: all of them, or those before a fault and at most one more. Their answers were written, and
-- the exit is that of the outcome; where writing failed, the first bytes of the answers went out, or none
pub record AreActsDone (text : List ℕ) (written after : Option (List ℕ)) (exit : Exit) (s u : State) : Type 0 where
  pub acts : List Act
  pub read : acts_in text ≡ Ok acts
  pub formed : AreWellFormed acts
  pub outcome : ActsOutcome
  pub fits : CanComeTo acts outcome
  pub answered : answers_of outcome ≡ answers s (answered_acts acts outcome)
  pub reported : Reports (answer_lines (answers_of outcome)) (exit_of_acts outcome) written after exit
  pub state : IsAfterActs s acts outcome u
  -- all of them, if the exit says so
  pub all : SaysAll exit → u ≡ after_acts s acts

-- the record of the row that a fault stopped is added too
abbrev pub IsOneMore : ℤ → State → ImportEnd → State → Type 0
IsOneMore day t (row_stopped row f) u = (answer : Answer) × IsRowDone day t row answer u
IsOneMore day t _ u = ⊥

-- an import of the text came to an outcome, which the exit reports: the rows of the outcome were added, in their order,
-- and at most the next one
pub record AreRowsAdded (day : ℤ) (text : Option (List ℕ)) (written after : Option (List ℕ)) (exit : Exit)
    (s u : State) : Type 0 where
  pub outcome : ImportOutcome
  pub reached : State
  pub came : ImportCameTo day s text outcome reached written after
  pub reported : exit ≡ exit_of_import (import_result outcome)
  pub state : (u ≡ reached) ⊎ IsOneMore day reached outcome.why u
  -- all of them, if the exit says so
  pub all : SaysAll exit → AreAllRows text outcome.rows × (u ≡ reached)

-- the state that a resumption of so many steps leaves: the whole of the run that it closed; the same, if none was open;
-- if a fault stopped the resumption, one step is left behind those that were taken, and that one may be done too
abbrev pub IsAfterRun : State → RunOutcome → ℕ → State → Type 0
IsAfterRun s (run_closed run) steps u = u ≡ whole s run
IsAfterRun s none_open steps u = u ≡ s
IsAfterRun s (run_stopped f) steps u = (taken : ℕ) × LeavesStep s f taken × AreDoneAt f taken steps

-- steps of the open run were taken, and what that came to is reported
pub record IsRunResumed (written after : Option (List ℕ)) (exit : Exit) (s u : State) : Type 0 where
  pub outcome : RunOutcome
  pub fits : IsRunOf s outcome
  pub reported : IsRunReported outcome written after exit
  pub count : ℕ
  pub steps : u ≡ after_steps s count
  pub state : IsAfterRun s outcome count u
  -- the run is still open if memory ran out
  pub still_open : exit ≡ how.Fault fault.Memory → open_run u.office ≡ open_run s.office
  -- to the end of the run, if the exit says so
  pub closed : exit ≡ how.Done → (run : ℕ) × (open_run s.office ≡ Some run) × (u ≡ whole s run)

-- the office was opened, and its version reported
abbrev pub IsVersionReported : Option (List ℕ) → Option (List ℕ) → Exit → Type 0
IsVersionReported written after exit = Reports version_line how.Done written after exit

-- what a command reads of the office at a state is reported, and that state is left; or a fault, and nothing was written
abbrev pub ReadsAt : Type 0 → Option (List ℕ) → Option (List ℕ) → Exit → State → State → Type 0
ReadsAt Is written after exit s u = IsFaultAlone written after exit s u ⊎ Is × (u ≡ s)

-- at which state an order leaves an office that was at one, by what it read and wrote and how it ended
abbrev pub IsLeftBy : Command → List ℕ → Option (List ℕ) → Option (List ℕ) → Exit → State → State → Type 0
IsLeftBy (command.apply file acts) text written after exit s u =
    IsUntouched written after s u × IsNotApplied s text exit ⊎ AreActsDone text written after exit s u
IsLeftBy (command.import file day csv) text written after exit s u =
    IsFaultAlone written after exit s u ⊎ AreRowsAdded day (option_map strip_bom (Some text)) written after exit s u
IsLeftBy (command.resume file) text written after exit s u =
    IsFaultAlone written after exit s u ⊎ IsRunResumed written after exit s u
IsLeftBy (command.init file) text written after exit s u =
    ReadsAt (IsVersionReported written after exit) written after exit s u
IsLeftBy (command.export file register) text written after exit s u =
    ReadsAt (Exports s.office register written after exit) written after exit s u
IsLeftBy (command.overdue file day n) text written after exit s u =
    ReadsAt (Exports s.office (register.Overdue day n) written after exit) written after exit s u
IsLeftBy (command.certificate file run) text written after exit s u =
    ReadsAt (Certifies s.office run written after exit) written after exit s u
IsLeftBy (command.serve file port count) text written after exit s u = IsUntouched written after s u
IsLeftBy (command.gate file port count access token journal) text written after exit s u = IsUntouched written after s u
IsLeftBy (command.plan file) text written after exit s u = IsUntouched written after s u
IsLeftBy (command.due unit count offset day) text written after exit s u = IsUntouched written after s u
IsLeftBy command.nothing text written after exit s u = IsUntouched written after s u

-- a service leaves an office after some acts
abbrev pub IsServedTo : State → State → Type 0
IsServedTo s u = (done : List Act) × AreWellFormed done × (u ≡ after_acts s done)

-- a gate leaves an office where it came by what was permitted alone, under these settings or later ones
abbrev pub IsGatedTo : Settings → State → State → Type 0
IsGatedTo first s u = CameByRights (IsInForceSince first) s u

-- ---- what the two files hold then

-- files that were not opened hold the office after any crash; a store of which the tables were not read stands for it
abbrev pub StaysOffice : {D : Type 0} {g : Ghosts D} → State → Leftover D g → Type 0
StaysOffice {g = g} s (leftover.Files it) =
    AreClean g it.log it.db → (image : Image) → outcomes g it.log it.db image → ContainWholeOffice image s
StaysOffice s (leftover.Unopened it) =
    IsTrue (unopened_state it).is_clean → (image : Image) → (unopened_state it).may_leave image
    → ContainWholeOffice image s
StaysOffice s (leftover.Store it) =
    IsTrue (view it).is_clean → (trees : Trees) → recovers it trees → IsOfficeAt trees s

-- of files that held an office at a state: not opened, they keep it, where each page had its sum; closed, they hold one at
-- a state of this kind as they read now and after any crash; not closed, after any crash, unless the closing shut a store
-- whose numbers are not known
abbrev pub LeavesFilesAt : {D : Type 0} {g : Ghosts D} → Image → State → (State → Type 0) → FilesLeft D g → Type 0
LeavesFilesAt old s Is (files.Unopened left) = ContainWholeOffice old s → IfSome left (λ it. StaysOffice s it)
LeavesFilesAt {g = g} old s Is (files.Closed it) =
    AreClean g it.log it.db
    → (u : State) × Is u × ContainWholeOffice (image_of g it) u
    × ((image : Image) → outcomes g it.log it.db image → ContainWholeOffice image u)
LeavesFilesAt old s Is (files.Unclosed store why) =
    IsClean (view store) → IsTrue (view store).is_open ⊎ IsTrue (view store).is_numbered
    → (image : Image) → (store_state store).may_leave image → ∥ ((u : State) × Is u × ContainWholeOffice image u) ∥₁
