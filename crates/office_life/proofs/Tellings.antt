-- What a report tells of the files that are left.
use Rattle.std.proofs.Common.{◌≡◌, ◌++◌, ◌∷◌, [], List, refl, subst}
use Rattle.sqlite_disk.specs.declared.Disk.{Ghosts}
use Rattle.sqlite_disk.specs.declared.Files.{Files}
use Rattle.sqlite_store.specs.declared.store.FileStore.{FileStore}
use Rattle.sqlite.specs.declared.file.Leftover.{Leftover}
use Rattle.sqlite.specs.declared.file.Leftover.TheVariants as left
use Rattle.office_life.specs.Standing.{IsKnownAt, Stage, remains_of}
use Rattle.office_life.specs.Told.{AreClosed, AreTold, IsCrashed, IsTold}
use Rattle.office_life.specs.declared.reports.Remains.{Remains}
use Rattle.office_life.specs.declared.reports.Remains.TheVariants as remains
use Rattle.office_life.specs.declared.reports.Report.{Report}
use Rattle.office_life.specs.declared.reports.Task.{Task}

module _ {D : Type 0} {g : Ghosts D} where
  -- files that were not opened do not hold what they were opened for
  pub not_held : (rest : Leftover D g) → remains_of rest ≡ remains.Held → ⊥
  not_held (left.Files files) is = cc
  not_held (left.Unopened files) is = cc
  not_held (left.Store store) is = cc

  -- what is said of a store that was shut may be said of it in other words
  pub closed_as : (P Q : FileStore D g → Type 0) → ((store : FileStore D g) → P store → Q store) → (it : Remains) (rest : Leftover D g) → AreClosed P it rest → AreClosed Q it rest
  closed_as P Q more remains.Held (left.Files files) closed = tt
  closed_as P Q more remains.Held (left.Unopened files) closed = absurd closed
  closed_as P Q more remains.Held (left.Store store) closed = absurd closed
  closed_as P Q more remains.Shut (left.Files files) closed = absurd closed
  closed_as P Q more remains.Shut (left.Unopened files) closed = absurd closed
  closed_as P Q more remains.Shut (left.Store store) (before, was, shut) = (before, more before was, shut)
  closed_as P Q more remains.Same rest closed = absurd closed
  closed_as P Q more remains.Begun rest closed = absurd closed
  closed_as P Q more remains.Unread rest closed = absurd closed

  -- it is known what they hold only if they hold tables
  pub held_if_known : (Was : FileStore D g → Type 0) (stage : Stage) (it : Remains) (rest : Leftover D g) → AreClosed Was it rest → IsKnownAt stage it → it ≡ remains.Held
  held_if_known Was stage remains.Held rest closed known = refl
  held_if_known Was stage remains.Same rest closed known = absurd closed
  held_if_known Was stage remains.Begun rest closed known = absurd closed
  held_if_known Was stage remains.Unread rest closed known = absurd closed
  held_if_known Was stage remains.Shut rest closed known = absurd known

  -- one stint after another
  pub told_on :
      (tasks : List Task) (reports : List Report) (asked : Task) (it : Report) (files mid : Files D) (rest : Leftover D g) (last : Files D) → AreTold g files tasks reports mid → IsTold asked it mid rest
      → IsCrashed rest last → AreTold g files (tasks ++ asked ∷ []) (reports ++ it ∷ []) last
  told_on [] [] asked it files mid rest last is told crashed = (rest, last, subst (λ (f : Files D). IsTold asked it f rest) is told, crashed, refl)
  told_on [] (x ∷ reports) asked it files mid rest last is told crashed = absurd is
  told_on (t ∷ tasks) [] asked it files mid rest last is told crashed = absurd is
  told_on (t ∷ tasks) (x ∷ reports) asked it files mid rest last (first, later, was, came, more) told crashed =
      (first, later, was, came, told_on tasks reports asked it later mid rest last more told crashed)
