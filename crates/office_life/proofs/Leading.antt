-- To which states a stint, a crash and an opening lead.
use Rattle.std.proofs.Common.{◌≡◌, ◌⊎◌, inl, inr, ℕ, ◌+◌, ◌<◌, ◌∙◌, ap, get_or, length, take, List, [], ◌∷◌, ◌++◌, refl, sym, subst}
use Rattle.std.proofs.lemmas.List.{take_more}
use Rattle.std.proofs.Math.Logic.{∥∥₁_elim, ∥∥₁_map}
use Rattle.sqlite_disk.specs.declared.Disk.{Ghosts}
use Rattle.sqlite_disk.specs.declared.Files.{Files}
use Rattle.sqlite_store.specs.declared.store.FileStore.{FileStore}
use Rattle.sqlite_trees.specs.Tree.{Trees}
use Rattle.sqlite_wal.specs.Files.{outcomes}
use Rattle.sqlite_wal.specs.Recovery.{Image}
use Rattle.sqlite_wal.proofs.LogLemmas.{SeenMayStay}
use Rattle.sqlite.specs.Files.{file_state, image_of, over_files}
use Rattle.sqlite.specs.Held.{Held}
use Rattle.sqlite.specs.declared.error.Error.{Error}
use Rattle.office_rules.specs.Acts.{after}
use Rattle.office_rules.specs.Sound.{IsSound}
use Rattle.office_rules.specs.State.{State, empty_state}
use Rattle.office_store.specs.declared.fault.Fault.{Fault}
use Rattle.office_desk.specs.Desk.{DeskState}
use Rattle.office_desk.specs.Leaving.{IsAt}
use Rattle.office_desk.proofs.Found.{after-append}
use Rattle.office_life.specs.Life.{AreKnownFrom, Did, Leads, LeadsOn, began, lived, stage_at_end}
use Rattle.office_life.specs.Opening.{StopsOffice}
use Rattle.office_life.specs.Standing.{FilesLead, FindsLed, IsKnownAt, LeavesAt, RestsAt, Stage, StandsAt, half_made, stage_after, stored, unmade}
use Rattle.office_life.specs.Tables.{ContainTables}
use Rattle.office_life.specs.declared.reports.Remains.{Remains}
use Rattle.office_life.specs.declared.reports.Remains.TheVariants as remains
use Rattle.office_life.specs.declared.reports.Report.{Report}
use Rattle.office_life.specs.declared.reports.StintEnd.TheVariants as end
use Rattle.office_life.specs.declared.reports.Task.{Task}
use Rattle.office_life.specs.declared.reports.Task.TheVariants as task

-- nothing was done
did_none : (asked : Task) (e : Error) (s : State) → Leads asked (end.FilesShut e) s s
did_none (task.Acts acts) e s = ([], refl, refl)
did_none task.Resumption e s = ([], refl, refl)

pub did_nothing : (asked : Task) (f : Fault) (s : State) → StopsOffice s f → Leads asked (end.OfficeShut f) s s
did_nothing (task.Acts acts) f s why = ([], (refl, why), refl)
did_nothing task.Resumption f s why = ([], (refl, why), refl)

-- what stands for a state at one stage does so at the next
on_stage : (stage : Stage) (it : Remains) → (it ≡ remains.Held → ⊥) → IsKnownAt stage it → (image : Image) (u : State) → StandsAt stage image u → StandsAt (stage_after stage it) image u
on_stage stage remains.Held other known image u stands = absurd (other refl)
on_stage stage remains.Same other known image u stands = stands
on_stage stored remains.Begun other known image u stands = stands
on_stage unmade remains.Begun other known image u (inl held) = inl held
on_stage unmade remains.Begun other known image u (inr none) = inr (inl none.0, none.1)
on_stage half_made remains.Begun other known image u stands = absurd known
on_stage stage remains.Unread other known image u stands = absurd known
on_stage stage remains.Shut other known image u stands = absurd known

module _ {D : Type 0} (g : Ghosts D) (stays : SeenMayStay g) (files : Files D) (new : Image → Type 0) where
  -- files that were opened lead on as their connection does
  pub worked :
      (stage : Stage) (was last : Held (FileStore D g)) (Leads : State → State → Type 0) → ((s : State) → StandsAt stage (image_of g files) s → RestsAt (file_state was) s)
      → ((s : State) → RestsAt (file_state was) s → LeavesAt (Leads s) (file_state last))
      → ((image : Image) → new image → ∥ ((db : Trees) × (file_state last).may_leave db × ContainTables image db) ∥₁)
      → FilesLead stage stored Leads (outcomes g files.log files.db) new
  worked stage was last Leads found leaves left image may = ∣ (
    image_of g files,
    (stays files.log, stays files.db),
    λ s stands. ∥∥₁_map (left image may) (λ db. let at = leaves s (found s stands) db.0 db.1 in (at.0, at.1, inl (db.0, db.2, at.2))),
  ) ∣₁

  -- and those that were not stay where they were
  pub not_worked : (stage : Stage) (asked : Task) (e : Error) (left : Remains) → (left ≡ remains.Held → ⊥) → IsKnownAt stage left
      → ((image : Image) → new image
      → outcomes g files.log files.db image ⊎ ((s : State) → StandsAt stage (image_of g files) s → ∥ StandsAt (stage_after stage left) image s ∥₁))
      → FilesLead stage (stage_after stage left) (Leads asked (end.FilesShut e)) (outcomes g files.log files.db) new
  not_worked stage asked e left other known spared image may = elim (spared image may) [
    | inl was ↦ ∣ (image, was, λ s stands. ∣ (s, did_none asked e s, on_stage stage left other known image s stands) ∣₁) ∣₁
    | inr same ↦ ∣ (image_of g files, (stays files.log, stays files.db), λ s stands. ∥∥₁_map (same s stands) (λ still. (s, did_none asked e s, still))) ∣₁
  ]

-- ---- one stint after another

pub known_parts : (reports : List Report) (it : Report) (stage : Stage) → AreKnownFrom stage (reports ++ it ∷ []) → AreKnownFrom stage reports × IsKnownAt (stage_at_end stage reports) it.remains
known_parts [] it stage all = (tt, all.0)
known_parts (x ∷ reports) it stage all = let rest = known_parts reports it (stage_after stage x.remains) all.1 in ((all.0, rest.0), rest.1)

stage_on : (reports : List Report) (it : Report) (stage : Stage) → stage_at_end stage (reports ++ it ∷ []) ≡ stage_after (stage_at_end stage reports) it.remains
stage_on [] it stage = refl
stage_on (x ∷ reports) it stage = stage_on reports it (stage_after stage x.remains)

pub began_at : (stage : Stage) (old : Image → Type 0) → FilesLead stage stage (LeadsOn [] []) old old
began_at stage old image may = ∣ (image, may, λ s stands. ∣ (s, ([], began, refl), stands) ∣₁) ∣₁

-- what was led to by stints is led on from by one more
one_more : (tasks : List Task) (reports : List Report) (asked : Task) (it : Report) (s t u : State) → LeadsOn tasks reports s t → Leads asked it.end t u → LeadsOn (tasks ++ asked ∷ []) (reports ++ it ∷ []) s u
one_more tasks reports asked it s t u (done, all, is) (more, did, next) = (
  done ++ more,
  lived tasks reports done asked it more all (subst (λ (x : State). Did asked it.end x more) is did),
  next ∙ ap (λ (x : State). after x more) is ∙ sym (after-append s done more),
)

pub lived_on : (stage : Stage) (tasks : List Task) (reports : List Report) (asked : Task) (it : Report) (old mid new later : Image → Type 0)
    → FilesLead stage (stage_at_end stage reports) (LeadsOn tasks reports) old mid
    → FilesLead (stage_at_end stage reports) (stage_after (stage_at_end stage reports) it.remains) (Leads asked it.end) mid new → ((image : Image) → later image → new image)
    → FilesLead stage (stage_at_end stage (reports ++ it ∷ [])) (LeadsOn (tasks ++ asked ∷ []) (reports ++ it ∷ [])) old later
lived_on stage tasks reports asked it old mid new later a b fewer =
    subst (λ (at : Stage). FilesLead stage at (LeadsOn (tasks ++ asked ∷ []) (reports ++ it ∷ [])) old later) (sym (stage_on reports it stage)) (λ image may.
    ∥∥₁_elim (b image (fewer image may)) squash₁ (λ m. ∥∥₁_map (a m.0 m.1) (λ k. (
      k.0,
      k.1,
      λ s stands. ∥∥₁_elim (k.2 s stands) squash₁ (λ t. ∥∥₁_map (m.2 t.0 t.2) (λ u. (u.0, one_more tasks reports asked it s t.0 u.0 t.1 u.1, u.2))),
    ))))

-- the same along a list of tasks
pub one_longer : (all : List Task) (i : ℕ) (asked : Task) → i < length all → asked ≡ get_or all i asked → take (i + 1) all ≡ take i all ++ asked ∷ []
one_longer all i asked within is = take_more all i asked within ∙ ap (λ (x : Task). take i all ++ x ∷ []) (sym is)

-- ---- a state for which files stand is sound

stands_sound : IsSound empty_state → (stage : Stage) (image : Image) (u : State) → StandsAt stage image u → IsSound u
stands_sound empty stage image u (inl (db, held, inl office)) = office.sound
stands_sound empty stage image u (inl (db, held, inr none)) = subst IsSound (sym none.1) empty
stands_sound empty stage image u (inr none) = subst IsSound (sym none.1) empty

pub lead_as : IsSound empty_state → (was is : Stage) (First Next : State → State → Type 0) (old new : Image → Type 0) → ((s u : State) → IsSound s → First s u → Next s u)
    → FilesLead was is First old new → FilesLead was is Next old new
lead_as empty was is First Next old new more lead image may =
    ∥∥₁_map (lead image may) (λ k. (k.0, k.1, λ s stands. ∥∥₁_map (k.2 s stands) (λ u. (u.0, more s u.0 (stands_sound empty was k.0 s stands) u.1, u.2))))

-- what is opened of files to which others led is at a state to which these led
module _ {D : Type 0} (g : Ghosts D) (stays : SeenMayStay g) (was is : Stage) (Leads : State → State → Type 0) (old : Image → Type 0) (files : Files D) where
  pub finds_led : FilesLead was is Leads old (outcomes g files.log files.db) → (desk : DeskState (FileStore D g))
      → ((stage : Stage) (s : State) → StandsAt stage (image_of g files) s → IsAt over_files s desk) → FindsLed was Leads old desk
  finds_led lead desk found =
      ∥∥₁_map (lead (image_of g files) (stays files.log, stays files.db)) (λ k. (k.0, k.1, λ s stands. ∥∥₁_map (k.2 s stands) (λ u. (u.0, u.1, found is u.0 u.2))))
