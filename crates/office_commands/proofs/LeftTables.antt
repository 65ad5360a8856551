-- What an opening that failed leaves of two files that held tables.
use Rattle.std.proofs.Common.{Bool, IfSome, cond, ◌∷◌, [], subst₂, ◌≡◌, ◌⊎◌, ◌∙◌, ℕ, IsTrue, List, Option, Some, None, sym, subst, inl, inr}
use Rattle.sqlite_disk.specs.Events.{Event, Model, replay, settled}
use Rattle.sqlite_disk.specs.History.{MayLeave}
use Rattle.sqlite_disk.specs.declared.Disk.{Ghosts}
use Rattle.sqlite_disk.specs.declared.Files.{Files}
use Rattle.sqlite_store.specs.Unopened.{state_of}
use Rattle.sqlite_wal.specs.Files.{outcomes}
use Rattle.sqlite_wal.specs.Recovery.{Image}
use Rattle.sqlite.specs.Files.{IsCleanLeft, IsNothing, LeavesFiles, image_of}
use Rattle.sqlite.specs.declared.file.Leftover.{Leftover}
use Rattle.sqlite.specs.declared.file.Leftover.TheVariants as left
use Rattle.sqlite.proofs.FileLemmas.{is_something}
use Rattle.office_life.specs.Tables.{ContainTables}
use Rattle.office_life.proofs.LeftTables.{database_of, stands_same}
use Rattle.office_life.proofs.Nothing.{finds_nothing}
use Rattle.office_commands.specs.Tables.{AreTablesIn, KeepsTables, SparesTables}

module _ {D : Type 0} {g : Ghosts D} where
  -- what an opening that failed left of files that held this alone, as they read and after a crash
  pub spares : (image : Image) (files : Files D) (rest : Leftover D g) → image_of g files ≡ image → ((later : Image) → outcomes g files.log files.db later → later ≡ image)
      → (IsCleanLeft rest → LeavesFiles files rest) → SparesTables image rest
  spares image files (left.Files now) seen only leaves = λ clean later may. only later (leaves clean later may)
  spares image files (left.Unopened now) seen only leaves = λ clean later may. subst (λ (i : Image). KeepsTables i later) seen (elim (leaves clean) [
    | inl nothing ↦ record {
      contained = λ trees contained. absurd (is_something (image_of g files) trees (database_of _ trees contained) nothing.0);
      none = λ none. elim (nothing.1 later may) [ inl was ↦ inl (subst IsNothing (sym (only later was ∙ sym seen)) none) | inr made ↦ made ];
    }
    | inr some ↦ record {
      contained = λ trees contained. elim (some.4 later may).same [
        | inl was ↦ subst (λ (i : Image). ContainTables i trees) (sym (only later was ∙ sym seen)) contained
        | inr stands ↦ stands_same (state_of now).page_size (image_of g files) later trees contained some.1 some.3 stands
      ];
      none = λ none. absurd (some.0 none);
    }
  ])
  spares image files (left.Store now) seen only leaves = λ clean found may. subst (λ (i : Image). AreTablesIn i found) seen (record {
    contained = λ trees contained. (leaves clean found may).1 trees (database_of _ trees contained);
    none = λ none. finds_nothing (image_of g files) found none (leaves clean found may).0;
  })

  -- and of files of which one or the other thing is known
  pub spared_left : (image : Image) (A B : Files D → Type 0) (Fails : Files D → Leftover D g → Type 0)
      → ((files : Files D) → A files → B files → (image_of g files ≡ image) × ((later : Image) → outcomes g files.log files.db later → later ≡ image))
      → (left : Option (Leftover D g)) → IfSome left (λ rest. (files : Files D) × A files × B files × (IsCleanLeft rest → Fails files rest × LeavesFiles files rest))
      → IfSome left (SparesTables image)
  spared_left image A B Fails fresh None it = tt
  spared_left image A B Fails fresh (Some rest) it = let at = fresh it.0 it.1 it.2 in spares image it.0 rest at.0 at.1 (λ clean. (it.3 clean).1)

-- ---- files that were just opened

abbrev pub image : List ℕ → List ℕ → Image
image log db = record { log = log; db = db }

abbrev pub model : List ℕ → List ℕ → Bool → List Event → Model
model log db is_log history = replay (cond is_log log db) history

abbrev pub seen : List ℕ → List ℕ → Bool → List Event → List ℕ
seen log db is_log history = (model log db is_log history).seen

-- what a crash may leave of one
abbrev pub LeftOf : Bool → Model → List ℕ → Type 0
LeftOf mixes m c = MayLeave mixes m.seen m.synced m.steps c

pub fresh_left : (log db : List ℕ) (mixes is_log was_log : Bool) (key : ℕ) (history : List Event) (c : List ℕ) → was_log ≡ is_log → history ≡ settled key ∷ [] → LeftOf mixes (model log db was_log history) c → c ≡ cond is_log log db
fresh_left log db mixes is_log was_log key history c same once may =
    elim (subst₂ (λ (b : Bool) (h : List Event). LeftOf mixes (model log db b h) c) same once may) [ inl is ↦ is | inr is ↦ is ]
