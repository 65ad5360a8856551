-- What the reports of stints say of the files that each was given and left. Source: own.
use Rattle.std.specs.Prelude.{◌≡◌, ◌⊎◌, IsTrue, List, [], ◌∷◌, false}
use Rattle.sqlite_disk.specs.Disk.{MoreFaults}
use Rattle.sqlite_disk.specs.declared.Disk.{Ghosts}
use Rattle.sqlite_disk.specs.declared.Files.{Files}
use Rattle.sqlite_store.specs.FileStore.{faults, recovers, view}
use Rattle.sqlite_store.specs.declared.store.FileStore.{FileStore}
use Rattle.sqlite_trees.specs.Tree.{Trees}
use Rattle.sqlite_wal.specs.Files.{outcomes}
use Rattle.sqlite_wal.specs.Recovery.{Image}
use Rattle.sqlite.specs.Files.{image_of}
use Rattle.sqlite.specs.declared.error.Error.{Error}
use Rattle.sqlite.specs.declared.file.Leftover.{Leftover}
use Rattle.sqlite.specs.declared.file.Leftover.TheVariants as left
use Rattle.office_rules.specs.State.{State}
use Rattle.office_life.specs.Life.{Leads}
use Rattle.office_life.specs.Opening.{AreUnopened}
use Rattle.office_life.specs.Standing.{Stage, StandsAt, outcomes_left, remains_of}
use Rattle.office_life.specs.Tables.{AreTablesAt}
use Rattle.office_life.specs.declared.reports.Remains.{Remains}
use Rattle.office_life.specs.declared.reports.Remains.TheVariants as remains
use Rattle.office_life.specs.declared.reports.Report.{Report}
use Rattle.office_life.specs.declared.reports.StintEnd.{StintEnd}
use Rattle.office_life.specs.declared.reports.StintEnd.TheVariants as end
use Rattle.office_life.specs.declared.reports.Task.{Task}

-- the files were opened
abbrev pub WereOpened : StintEnd → Type 0
WereOpened (end.FilesShut e) = ⊥
WereOpened (end.OfficeShut f) = Unit {0}
WereOpened (end.Done given) = Unit {0}
WereOpened (end.Stopped given f) = Unit {0}
WereOpened (end.Resumed answer) = Unit {0}
WereOpened (end.Interrupted f) = Unit {0}

module _ {D : Type 0} {g : Ghosts D} where
  -- a store that was open was shut, since a call of its disk failed or a limit of the format was met
  pub record IsShut (before after : FileStore D g) : Type 0 where
    pub was_open : IsTrue (view before).is_open
    pub shut : (view after).is_open ≡ false
    pub failed : MoreFaults (faults before) (faults after)

  -- a closing left the two files; or it failed and shut the store, which was this before
  abbrev pub AreClosed : (FileStore D g → Type 0) → Remains → Leftover D g → Type 0
  AreClosed Was remains.Held (left.Files files) = Unit {0}
  AreClosed Was remains.Shut (left.Store store) = (before : FileStore D g) × Was before × IsShut before store
  AreClosed Was remains rest = ⊥

  -- the store with which a stint worked: whatever tables a crash leaves of it, the stint leads to them from the state
  -- for which its files stood
  abbrev pub IsWorkedOn : Task → StintEnd → Files D → FileStore D g → Type 0
  IsWorkedOn task ended files store =
      (stage : Stage) (s : State) → StandsAt stage (image_of g files) s
      → (db : Trees) → recovers store db → (u : State) × Leads task ended s u × AreTablesAt db u

  -- a report agrees with the files that its stint was given and with what is left of them: they were not opened, or
  -- they were closed
  abbrev pub IsTold : Task → Report → Files D → Leftover D g → Type 0
  IsTold task report files rest =
      ((e : Error) × (report.end ≡ end.FilesShut e) × (report.remains ≡ remains_of rest) × AreUnopened files rest e)
      ⊎ (WereOpened report.end × AreClosed (IsWorkedOn task report.end files) report.remains rest)

  -- files that a crash made of what was left
  abbrev pub IsCrashed : Leftover D g → Files D → Type 0
  IsCrashed rest later = (image : Image) → outcomes g later.log later.db image → outcomes_left rest image

-- one after another, each on what a crash made of the files that the one before left
abbrev pub AreTold : {D : Type 0} (g : Ghosts D) → Files D → List Task → List Report → Files D → Type 0
AreTold g files [] [] last = last ≡ files
AreTold {D} g files (task ∷ tasks) (report ∷ reports) last =
    (rest : Leftover D g) × (later : Files D) × IsTold task report files rest × IsCrashed rest later
    × AreTold g later tasks reports last
AreTold g files tasks reports last = ⊥
