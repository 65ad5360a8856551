-- What an office lives through, stint by stint: acts, a resumption or requests in each. Source: own.
use Rattle.std.specs.Prelude.{◌≡◌, ℕ, List, [], ◌∷◌, ◌++◌, map}
use Rattle.sqlite_disk.specs.declared.Disk.{Ghosts}
use Rattle.sqlite_disk.specs.declared.Files.{Files}
use Rattle.sqlite.specs.declared.file.Leftover.{Leftover}
use Rattle.office_rules.specs.Acts.{after}
use Rattle.office_rules.specs.State.{State}
use Rattle.office_rules.specs.declared.act.Act.{Act}
use Rattle.office_desk.specs.Fates.{AreContentsAfter}
use Rattle.office_life.specs.Life.{Did, LeadsBy}
use Rattle.office_life.specs.Standing.{IsKnownAt, Stage, stage_after}
use Rattle.office_life.specs.Told.{IsCrashed, IsTold}
use Rattle.office_life.specs.declared.reports.Remains.{Remains}
use Rattle.office_sessions.specs.Stints.{AreToldOf, DidRequests}
use Rattle.office_sessions.specs.declared.reports.Errand.{Errand}
use Rattle.office_sessions.specs.declared.reports.Errand.TheVariants as errand
use Rattle.office_sessions.specs.declared.reports.LifeReport.{LifeReport}
use Rattle.office_sessions.specs.declared.reports.LifeReport.TheVariants as report

-- the report is of what was asked, and these acts were done
abbrev pub DidErrand : Errand → LifeReport → State → List Act → Type 0
DidErrand (errand.Task task) (report.Task it) s done = Did task.now it.end s done
DidErrand (errand.Task task) (report.Requests it) s done = ⊥
DidErrand (errand.Requests requests) (report.Task it) s done = ⊥
DidErrand (errand.Requests requests) (report.Requests it) s done =
    DidRequests (map (λ bytes. bytes.now) requests.now) it.end s done

-- one after another, they did these acts in all
pub data LivedOn (s : State) : List Errand → List LifeReport → List Act → Type 0 where
  began : LivedOn s [] [] []
  lived : (errands : List Errand) (reports : List LifeReport) (done : List Act) (asked : Errand) (it : LifeReport)
      (more : List Act)
      → LivedOn s errands reports done → DidErrand asked it (after s done) more
      → LivedOn s (errands ++ asked ∷ []) (reports ++ it ∷ []) (done ++ more)

-- what is known of the files that a stint left
abbrev pub remains_in : LifeReport → Remains
remains_in (report.Task it) = it.remains
remains_in (report.Requests it) = it.remains

-- it is known for which state the files stand that each of them left, and at which stage the last are
abbrev pub AreAllKnown : Stage → List LifeReport → Type 0
AreAllKnown stage [] = Unit {0}
AreAllKnown stage (it ∷ rest) =
    IsKnownAt stage (remains_in it) × AreAllKnown (stage_after stage (remains_in it)) rest

abbrev pub stage_then : Stage → List LifeReport → Stage
stage_then stage [] = stage
stage_then stage (it ∷ rest) = stage_then (stage_after stage (remains_in it)) rest

-- the office at the end of stints: after all acts that they did, which report its contents
pub record IsAfterStints (errands : List Errand) (reports : List LifeReport) (s u : State) : Type 0 where
  pub done : List Act
  pub lived : LivedOn s errands reports done
  pub state : u ≡ after s done
  pub contents : AreContentsAfter s done u

-- ---- what they report of the files

-- a stint reports so of the files that it was given and of what is left of them
abbrev pub IsReported : {D : Type 0} {g : Ghosts D} → Errand → LifeReport → Files D → Leftover D g → Type 0
IsReported (errand.Task task) (report.Task it) files rest = IsTold task.now it files rest
IsReported (errand.Task task) (report.Requests it) files rest = ⊥
IsReported (errand.Requests requests) (report.Task it) files rest = ⊥
IsReported (errand.Requests requests) (report.Requests it) files rest =
    AreToldOf (map (λ bytes. bytes.now) requests.now) it files rest

-- one after another, each on what a crash made of the files that the one before left
abbrev pub AreAllReported : {D : Type 0} (g : Ghosts D) → Files D → List Errand → List LifeReport → Files D → Type 0
AreAllReported g files [] [] last = last ≡ files
AreAllReported {D} g files (asked ∷ errands) (it ∷ rest) last =
    (left : Leftover D g) × (later : Files D) × IsReported asked it files left × IsCrashed left later
    × AreAllReported g later errands rest last
AreAllReported g files errands reports last = ⊥
