-- Why files that stand for an office are not opened, or the office in them is not. Source: own.
use Rattle.std.specs.Prelude.{◌≡◌, ◌⊎◌}
use Rattle.sqlite_disk.specs.Disk.{MoreFaults}
use Rattle.sqlite_disk.specs.declared.Disk.{Ghosts}
use Rattle.sqlite_disk.specs.declared.Files.{Files}
use Rattle.sqlite_store.specs.Report.{named}
use Rattle.sqlite_store.specs.declared.store.FileStore.{FileStore}
use Rattle.sqlite_wal.specs.Reads.{tally_of_files}
use Rattle.sqlite.specs.Files.{FailsToOpenFiles, IsFullLeft, LeavesFiles, faults_left, faults_of, file_state, image_of, over_files, tally_left}
use Rattle.sqlite.specs.Held.{Held}
use Rattle.sqlite.specs.State.{HasCleanDisk, store_error}
use Rattle.sqlite.specs.declared.error.Error.{Error}
use Rattle.sqlite.specs.declared.error.Error.TheVariants.{SqliteFailure}
use Rattle.sqlite.specs.declared.error.ErrorCode.TheVariants.{DiskFull, OutOfMemory}
use Rattle.sqlite.specs.declared.file.Leftover.{Leftover}
use Rattle.office_rules.specs.State.{State}
use Rattle.office_store.specs.Adopted.{AreCertificatesTexts}
use Rattle.office_store.specs.declared.fault.Fault.{Fault}
use Rattle.office_store.specs.declared.fault.Fault.TheVariants as fault
use Rattle.office_desk.specs.Opening.{OpenFailed}
use Rattle.office_life.specs.Standing.{RestsAt, Stage, StandsAt}
use Rattle.office_life.specs.declared.finding.FindStop.{FindStop}
use Rattle.office_life.specs.declared.finding.FindStop.TheVariants as stop

-- ---- two files

module _ {D : Type 0} {g : Ghosts D} where
  -- a call of the disk failed during the opening, and the error names how; a store counts a limit that was met as such
  -- a call
  pub record HasFailed (files : Files D) (rest : Leftover D g) (e : Error) : Type 0 where
    pub names : e ≡ store_error (named (tally_of_files g (files.log, files.db)) (tally_left rest))
    pub counts : MoreFaults (faults_of g files) (faults_left rest)

  -- the files have no room left in their format
  pub record MeetsLimit (rest : Leftover D g) (e : Error) : Type 0 where
    pub names : e ≡ SqliteFailure DiskFull
    pub full : IsFullLeft rest

  -- memory ran out, a call of the disk failed, or a limit was met: the files were not refused
  abbrev pub StopsOpening : Files D → Leftover D g → Error → Type 0
  StopsOpening files rest e = (e ≡ SqliteFailure OutOfMemory) ⊎ (HasFailed files rest e ⊎ MeetsLimit rest e)

  -- the files were not opened, by this error, and this is left of them; if they stand for an office, they were not
  -- refused
  pub record AreUnopened (files : Files D) (rest : Leftover D g) (e : Error) : Type 0 where
    pub leaves : LeavesFiles files rest
    pub stops : (stage : Stage) (s : State) → StandsAt stage (image_of g files) s → StopsOpening files rest e

-- ---- the office in them

-- the faults by which the opening of an office at this state may stop: memory ran out, or a call of the database
-- failed; the tables are damaged only if a certificate is no text
abbrev pub StopsOffice : State → Fault → Type 0
StopsOffice s fault.Memory = Unit {0}
StopsOffice s fault.Store = Unit {0}
StopsOffice s fault.Reopen = ⊥
StopsOffice s fault.Damaged = AreCertificatesTexts s → ⊥
StopsOffice s fault.Version = ⊥

-- ---- both

-- why no office is found in files that stand for one at this state
abbrev pub StopsFinding : {D : Type 0} {g : Ghosts D} → Files D → State → FindStop D g → Type 0
StopsFinding files s (stop.Files e rest) = StopsOpening files rest e
StopsFinding files s (stop.Office f conn) = StopsOffice s f

-- what the database answers where files that stand for an office are not opened is no refusal
abbrev pub AreNotRefused : {D : Type 0} → Ghosts D → Type 0
AreNotRefused {D} g =
    (files : Files D) (rest : Leftover D g) (e : Error) (stage : Stage) (s : State)
    → StandsAt stage (image_of g files) s → FailsToOpenFiles files rest e → StopsOpening files rest e

-- and neither is what a desk answers where the office behind a connection to them is not
abbrev pub IsNotRefused : {D : Type 0} → Ghosts D → Type 0
IsNotRefused {D} g =
    (conn back : Held (FileStore D g)) (f : Fault) (s : State)
    → RestsAt (file_state conn) s → HasCleanDisk (file_state back) → OpenFailed over_files conn f back
    → StopsOffice s f
