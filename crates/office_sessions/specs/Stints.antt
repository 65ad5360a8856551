-- What a stint does that serves requests: which of them were answered, and which acts were done. Source: own.
use Rattle.std.specs.Prelude.{◌≡◌, ◌⊎◌, ℕ, List, [], ◌∷◌, ◌++◌, drop, length, map, take, Option, Some, None, option_map}
use Rattle.sqlite_disk.specs.declared.Disk.{Ghosts}
use Rattle.sqlite_disk.specs.declared.Files.{Files}
use Rattle.sqlite_store.specs.FileStore.{recovers}
use Rattle.sqlite_store.specs.declared.store.FileStore.{FileStore}
use Rattle.sqlite_trees.specs.Tree.{Trees}
use Rattle.sqlite.specs.Files.{image_of}
use Rattle.sqlite.specs.declared.error.Error.{Error}
use Rattle.sqlite.specs.declared.file.Leftover.{Leftover}
use Rattle.office_rules.specs.Acts.{after}
use Rattle.office_rules.specs.Forms.{AreWellFormed}
use Rattle.office_rules.specs.State.{State}
use Rattle.office_rules.specs.declared.act.Act.{Act}
use Rattle.office_life.specs.Life.{LeadsBy}
use Rattle.office_life.specs.Opening.{AreUnopened, StopsOffice}
use Rattle.office_life.specs.Standing.{Stage, StandsAt, remains_of}
use Rattle.office_life.specs.Tables.{AreTablesAt}
use Rattle.office_life.specs.Told.{AreClosed}
use Rattle.office_wire.specs.Sources.{Sent}
use Rattle.office_sessions.specs.Requests.{IsAnswered, IsUnanswered, IsWhole, sent_as}
use Rattle.office_sessions.specs.declared.reports.RequestsEnd.{RequestsEnd}
use Rattle.office_sessions.specs.declared.reports.RequestsEnd.TheVariants as end
use Rattle.office_sessions.specs.declared.reports.RequestsReport.{RequestsReport}

-- requests were answered one after another, each at the state after the acts of those before it; these are all the acts
pub data AreAnswered (s : State) : List (List ℕ) → List Sent → List Act → Type 0 where
  none : AreAnswered s [] [] []
  one_more : (came : List (List ℕ)) (sent : List Sent) (done : List Act) (bytes : List ℕ) (it : Sent) (more : List Act)
      → AreAnswered s came sent done → IsWhole it → IsAnswered (after s done) bytes it more
      → AreAnswered s (came ++ bytes ∷ []) (sent ++ it ∷ []) (done ++ more)

-- this went out to the first of the requests that are left; or none was read, for lack of memory
abbrev pub IsOneServed : Option Sent → List (List ℕ) → State → List Act → Type 0
IsOneServed None left s some = some ≡ []
IsOneServed (Some it) [] s some = ⊥
IsOneServed (Some it) (bytes ∷ later) s some = IsUnanswered s bytes it some

-- first requests were answered, and all their acts done; of one more some first acts
pub record AreStopped (came : List (List ℕ)) (sent : List Sent) (last : Option Sent) (s : State) (done : List Act) :
    Type 0 where
  pub first : List Act
  pub answered : AreAnswered s (take (length sent) came) sent first
  pub some : List Act
  pub next : IsOneServed last (drop (length sent) came) (after s first) some
  pub all : done ≡ first ++ some

-- of these requests a stint did those acts, from a state, by how it ended
abbrev pub DidServe : List (List ℕ) → RequestsEnd → State → List Act → Type 0
DidServe came (end.FilesShut e) s done = done ≡ []
DidServe came (end.OfficeShut f) s done = (done ≡ []) × StopsOffice s f
DidServe came (end.Answered sent) s done = AreAnswered s came (map sent_as sent.items) done
DidServe came (end.Stopped sent last) s done = AreStopped came (map sent_as sent.items) (option_map sent_as last) s done

-- and each act is of its form
pub record DidRequests (came : List (List ℕ)) (it : RequestsEnd) (s : State) (done : List Act) : Type 0 where
  pub formed : AreWellFormed done
  pub did : DidServe came it s done

-- ---- what it reports of the files

-- the files were opened
abbrev pub WereOpenedFor : RequestsEnd → Type 0
WereOpenedFor (end.FilesShut e) = ⊥
WereOpenedFor _ = Unit {0}

module _ {D : Type 0} {g : Ghosts D} where
  -- whatever tables a crash leaves of a store, a stint that ended so leads to them from the state for which its files stood
  abbrev pub IsServedOver : List (List ℕ) → RequestsEnd → Files D → FileStore D g → Type 0
  IsServedOver came ended files store =
      (stage : Stage) (s : State) → StandsAt stage (image_of g files) s
      → (db : Trees) → recovers store db → (u : State) × LeadsBy (DidRequests came ended) s u × AreTablesAt db u

  -- a stint reports so of the files that it was given and of what is left of them: they were not opened, or they were
  -- closed
  abbrev pub AreToldOf : List (List ℕ) → RequestsReport → Files D → Leftover D g → Type 0
  AreToldOf came report files rest =
      ((e : Error) × (report.end ≡ end.FilesShut e) × (report.remains ≡ remains_of rest) × AreUnopened files rest e)
      ⊎ (WereOpenedFor report.end × AreClosed (IsServedOver came report.end files) report.remains rest)
