-- What a run took of its files after their opening was right, or a digest collided.
use Rattle.std.proofs.Common.{◌≡◌, ◌⊎◌, inl, inr, ℕ, List, Option, Ok, Err, IsTrue, subst, arith}
use Rattle.sqlite_disk.specs.declared.Disk.{Ghosts}
use Rattle.sqlite_disk.specs.Events.{Event, replay}
use Rattle.sqlite_trees.proofs.Doubt.{no_doubt}
use Rattle.sqlite_store.specs.FileStore.{files as two_files, is_shielded, view}
use Rattle.sqlite_store.specs.declared.store.FileStore.{FileStore}
use Rattle.sqlite_pool.proofs.StateLemmas.{clean_is}
use Rattle.sqlite_wal.specs.Reads.{AreClean}
use Rattle.sqlite_wal.specs.Recovery.{Image}
use Rattle.sqlite.specs.Files.{file_state}
use Rattle.sqlite.specs.Held.{Held}
use Rattle.sqlite.specs.State.{HasCleanDisk}
use Rattle.sqlite.proofs.Shield.{shield_means}
use Rattle.office_commands.specs.Damage.{FindsDamage, HasLeftCollided, HaveCollided, IsLeftClean}
use Rattle.office_commands.specs.Files.{EndsInFiles, IsLeftOf, IsLeftShielded}
use Rattle.office_commands.specs.OpenResult.{OpenResult}
use Rattle.office_commands.specs.declared.exit.Exit.{Exit}
use Rattle.office_commands.specs.declared.office_files.FilesLeft.{FilesLeft}
use Rattle.office_commands.specs.declared.office_files.FilesLeft.TheVariants as files

module _ {D : Type 0} {g : Ghosts D} where
  -- where the files that are left are clean, the connection was
  pub last_clean : (last : Held (FileStore D g)) (left : FilesLeft D g) → IsLeftOf last left → IsLeftClean left → HasCleanDisk (file_state last)
  last_clean last (files.Unopened rest) none clean = absurd none
  last_clean last (files.Closed it) copied clean = (copied clean).copied.was_clean
  last_clean last (files.Unclosed store why) it clean = let quiet = it.closed.quiet.clean in omega (arith, quiet, clean)

  module _ (start : D → List ℕ) (calls : D → List Event) (fair : (d : D) → g.is_fair d ≡ (replay (start d) (calls d)).is_fair) (honest : (d : D) → g.is_clean d ≡ (replay (start d) (calls d)).is_honest) where
    clean_or_collided : (store : FileStore D g) → is_shielded store → IsTrue (view store).is_clean ⊎ HaveCollided g start calls (two_files store)
    clean_or_collided store shielded = shield_means start calls fair honest store shielded

    pub left_clean : (left : FilesLeft D g) → IsLeftShielded left → IsLeftClean left ⊎ HasLeftCollided start calls left
    left_clean (files.Unopened rest) shielded = inl tt
    left_clean (files.Closed it) (store, same, shielded) = elim (clean_or_collided store shielded) [
      | inl clean ↦ inl (subst (λ p. AreClean g p.0 p.1) same (subst IsTrue (clean_is store.pool) clean))
      | inr collided ↦ inr (subst (HaveCollided g start calls) same collided)
    ]
    left_clean (files.Unclosed store why) shielded = elim (clean_or_collided store shielded) [ inl clean ↦ inl (no_doubt _ clean) | inr collided ↦ inr collided ]

    pub found : (left : FilesLeft D g) (image : Image) (opened : OpenResult g) (Ends : Held (FileStore D g) → Held (FileStore D g) → Type 0) (written after : Option (List ℕ)) (exit : Exit)
        → EndsInFiles left image opened Ends written after exit → FindsDamage start calls left image opened Ends written after exit
    found left image (Ok was) Ends written after exit (last, over, is_left) = (
      last,
      over.opened,
      over.ends,
      λ clean. elim (left_clean left (over.shield clean)) [
        | inl all ↦ inl (last_clean last left is_left all, all)
        | inr collided ↦ inr collided
      ],
    )
    found left image (Err e) Ends written after exit it = (it.fault, it.given, it.silent)
