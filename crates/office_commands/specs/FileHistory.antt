-- Runs of the program over an office's files, one after another, from no file on, and the states at which they leave
-- the office. Source: own.
use Rattle.std.specs.Prelude.{◌≡◌, ◌⊎◌, ℕ, IsTrue, List, [], ◌∷◌, ◌++◌, Option, None, Some}
use Rattle.sqlite_disk.specs.declared.Disk.{Ghosts}
use Rattle.sqlite_store.specs.FileStore.{state as store_state, view}
use Rattle.sqlite_store.specs.Unopened.{state_of as unopened_state}
use Rattle.sqlite_store.specs.declared.store.FileStore.{FileStore}
use Rattle.sqlite_trees.specs.View.{IsClean}
use Rattle.sqlite_wal.specs.Files.{outcomes}
use Rattle.sqlite_wal.specs.Reads.{AreClean}
use Rattle.sqlite_wal.specs.Recovery.{Image}
use Rattle.sqlite.specs.Files.{file_state, over_files}
use Rattle.sqlite.specs.Held.{Held}
use Rattle.sqlite.specs.State.{HasCleanDisk}
use Rattle.sqlite.specs.declared.file.Leftover.{Leftover}
use Rattle.sqlite.specs.declared.file.Leftover.TheVariants as leftover
use Rattle.office_access.specs.Settings.{Settings}
use Rattle.office_rules.specs.Acts.{after}
use Rattle.office_rules.specs.Forms.{AreWellFormed}
use Rattle.office_rules.specs.Sound.{IsSound}
use Rattle.office_rules.specs.State.{State}
use Rattle.office_rules.specs.declared.act.Act.{Act}
use Rattle.office_desk.specs.Fates.{AreContentsAfter}
use Rattle.office_life.specs.Standing.{IsKnownAt, Stage, StandsAt, remains_of, stage_after, stored}
use Rattle.office_life.specs.declared.reports.Remains.{Remains}
use Rattle.office_life.specs.declared.reports.Remains.TheVariants as remains
use Rattle.office_command_line.specs.Orders.{Command}
use Rattle.office_commands.specs.CommandActs.{AreActsOf}
use Rattle.office_commands.specs.Files.{EndsOver, GatesInFiles, RunsInFiles, ServesInFiles}
use Rattle.office_commands.specs.NextCommand.{IsGatedTo, IsLeftBy, IsServedTo}
use Rattle.office_commands.specs.OpenResult.{OpenResult}
use Rattle.office_commands.specs.Running.{RunEnds}
use Rattle.office_commands.specs.Serving.{GateEnds, ServiceEnds}
use Rattle.office_commands.specs.declared.exit.Exit.{Exit}
use Rattle.office_commands.specs.declared.office_files.FilesLeft.{FilesLeft}
use Rattle.office_commands.specs.declared.office_files.FilesLeft.TheVariants as files

-- ---- one run

-- a run of the program, by what it read, what was written before and after, and its exit
pub data ProgramRun : Type 0 where
  ran_command : Command → List ℕ → Option (List ℕ) → Option (List ℕ) → Exit → ProgramRun
  ran_service : ℕ → ℕ → Option (List ℕ) → Option (List ℕ) → Exit → ProgramRun
  ran_gate : Settings → ℕ → ℕ → Option (List ℕ) → Option (List ℕ) → Exit → ProgramRun

-- it was run over files that held this and were opened with that result, and left these
abbrev pub WasRun : {D : Type 0} {g : Ghosts D} → ProgramRun → Image → OpenResult g → FilesLeft D g → Type 0
WasRun (ran_command order text written after exit) image opened left =
    RunsInFiles left image opened order (Some text) written after exit
WasRun (ran_service port count written after exit) image opened left =
    ServesInFiles left image opened port count written after exit
WasRun (ran_gate first port count written after exit) image opened left =
    GatesInFiles left image opened first port count written after exit

-- it was killed over files that held this and were opened as the first connection, once its last call had left the
-- second; it closed nothing, so nothing is said of files that it left
abbrev pub WasKilled : {D : Type 0} {g : Ghosts D} → ProgramRun → Image → Held (FileStore D g) → Held (FileStore D g)
    → Type 0
WasKilled (ran_command order text written after exit) image =
    EndsOver (files.Unopened None) image (λ was last. RunEnds over_files order (Some text) was last written after exit)
WasKilled (ran_service port count written after exit) image =
    EndsOver (files.Unopened None) image (λ was last. ServiceEnds over_files port count was last written after exit)
WasKilled (ran_gate first port count written after exit) image =
    EndsOver (files.Unopened None) image (λ was last. GateEnds over_files first port count was last written after exit)

-- the state at which it leaves an office that was at one
abbrev pub IsLeftAt : ProgramRun → State → State → Type 0
IsLeftAt (ran_command order text written after exit) = IsLeftBy order text written after exit
IsLeftAt (ran_service port count written after exit) = IsServedTo
IsLeftAt (ran_gate first port count written after exit) = IsGatedTo first

-- ---- what the next run finds

-- what is known of the files that it left
abbrev pub remains_left : {D : Type 0} {g : Ghosts D} → FilesLeft D g → Remains
remains_left (files.Unopened None) = remains.Same
remains_left (files.Unopened (Some it)) = remains_of it
remains_left (files.Closed it) = remains.Held
remains_left (files.Unclosed store why) = remains.Held

-- of files that were not opened the next run finds what a crash may leave of them, and so may what they read
abbrev pub IsFoundOf : {D : Type 0} {g : Ghosts D} → Leftover D g → Image → Type 0
IsFoundOf {g = g} (leftover.Files it) next = AreClean g it.log it.db × outcomes g it.log it.db next
IsFoundOf (leftover.Unopened it) next = IsTrue (unopened_state it).is_clean × (unopened_state it).may_leave next
IsFoundOf (leftover.Store it) next = ⊥

-- the same of files that a run left; if it could not close them, its store is open or numbered
abbrev pub IsFoundNext : {D : Type 0} {g : Ghosts D} → FilesLeft D g → Image → Type 0
IsFoundNext (files.Unopened None) next = ⊥
IsFoundNext (files.Unopened (Some it)) next = IsFoundOf it next
IsFoundNext {g = g} (files.Closed it) next = AreClean g it.log it.db × outcomes g it.log it.db next
IsFoundNext (files.Unclosed store why) next =
    IsClean (view store) × (IsTrue (view store).is_open ⊎ IsTrue (view store).is_numbered)
    × (store_state store).may_leave next

-- what a crash leaves of a run that was killed; its store is numbered, as `law_of_a_killed_command` has it
pub record IsLeftKilled {D : Type 0} {g : Ghosts D} (last : Held (FileStore D g)) (next : Image) : Type 0 where
  pub clean : HasCleanDisk (file_state last)
  pub numbered : IsTrue (view last.store).is_numbered
  pub left : (store_state last.store).may_leave next

-- ---- from one run to the next

-- a run leads from files to files: if those stood for a state, these stand for one at which it leaves the office
abbrev pub RunLeads : ProgramRun → Stage → Image → Stage → Image → Type 0
RunLeads run was image is next =
    (s : State) → StandsAt was image s → ∥ ((u : State) × IsLeftAt run s u × StandsAt is next u) ∥₁

-- each run leads so, over whatever disk
abbrev pub RunsLead : {D : Type 0} → Ghosts D → Type 0
RunsLead {D} g =
    (run : ProgramRun) (stage : Stage) (image next : Image) (opened : OpenResult g) (left : FilesLeft D g)
    → WasRun run image opened left → IsKnownAt stage (remains_left left) → IsFoundNext left next
    → RunLeads run stage image (stage_after stage (remains_left left)) next

-- and so does each that was killed
abbrev pub KilledRunsLead : {D : Type 0} → Ghosts D → Type 0
KilledRunsLead {D} g =
    (run : ProgramRun) (stage : Stage) (image next : Image) (was last : Held (FileStore D g))
    → WasKilled run image was last → IsLeftKilled last next → RunLeads run stage image stored next

-- ---- any number of runs

-- one after another, each over the files that the one before led to
pub data FileHistory (start : Stage) (first : Image) : List ProgramRun → Stage → Image → Type 0 where
  began : FileHistory start first [] start first
  went_on : (runs : List ProgramRun) (was : Stage) (image : Image) (run : ProgramRun) (is : Stage) (next : Image)
      → FileHistory start first runs was image → RunLeads run was image is next
      → FileHistory start first (runs ++ run ∷ []) is next

-- the states at which they leave the office, one after another
pub data StateHistory (s : State) : List ProgramRun → State → Type 0 where
  stayed : StateHistory s [] s
  led : (runs : List ProgramRun) (run : ProgramRun) (t u : State) → StateHistory s runs t → IsLeftAt run t u
      → StateHistory s (runs ++ run ∷ []) u

-- the acts are those of a run; a service or a gate did some
abbrev pub AreActsOfRun : ProgramRun → List Act → Type 0
AreActsOfRun (ran_command order text written after exit) done = AreActsOf order text done
AreActsOfRun (ran_service port count written after exit) done = Unit {0}
AreActsOfRun (ran_gate first port count written after exit) done = Unit {0}

-- the runs did these acts in all, in their order: each did acts of its own, and left the office after them
pub data ActsOfRuns (s : State) : List ProgramRun → List Act → Type 0 where
  no_run : ActsOfRuns s [] []
  one_run : (runs : List ProgramRun) (run : ProgramRun) (done more : List Act) → ActsOfRuns s runs done
      → AreActsOfRun run more → IsLeftAt run (after s done) (after s (done ++ more))
      → ActsOfRuns s (runs ++ run ∷ []) (done ++ more)

-- such runs did acts, and these report the contents of the office
abbrev pub ReportsContents : Type 0
ReportsContents =
    (s u : State) (runs : List ProgramRun) → IsSound s → StateHistory s runs u
    → (done : List Act) × ActsOfRuns s runs done × AreWellFormed done × (u ≡ after s done) × AreContentsAfter s done u

-- after any number of runs the files stand for the state to which they led
abbrev pub FilesFollow : Type 0
FilesFollow =
    (start : Stage) (first : Image) (s : State) (runs : List ProgramRun) (stage : Stage) (image : Image)
    → StandsAt start first s → FileHistory start first runs stage image
    → ∥ ((u : State) × StateHistory s runs u × StandsAt stage image u) ∥₁
