-- What FILE contains, without its log, after a closing and after a command.
use Rattle.std.proofs.Common.{◌≡◌, ◌⊎◌, inl, inr, ℕ, IsTrue, List, Option, Some, Ok, Err, refl, sym, subst, arith}
use Rattle.std.proofs.Math.Logic.{∥∥₁_map}
use Rattle.sqlite_disk.specs.declared.Disk.{Ghosts}
use Rattle.sqlite_disk.specs.declared.Files.{Files}
use Rattle.sqlite_store.specs.declared.store.FileStore.{FileStore}
use Rattle.sqlite_trees.specs.View.{IsClean}
use Rattle.sqlite_wal.specs.Recovery.{Image}
use Rattle.sqlite_wal.specs.Files.{outcomes}
use Rattle.sqlite_wal.specs.Reads.{AreClean}
use Rattle.sqlite.specs.Closing.{HoldsAlone}
use Rattle.sqlite.specs.Files.{file_state, image_of, over_files}
use Rattle.sqlite.specs.Held.{Held}
use Rattle.sqlite.specs.State.{HasCleanDisk}
use Rattle.office_rules.specs.Rows.{rows_of}
use Rattle.office_rules.specs.State.{State}
use Rattle.office_store.specs.RepresentsRows.{RepresentsRowsIn}
use Rattle.office_life.specs.Tables.{IsOfficeAt}
use Rattle.office_command_line.specs.Orders.{Command}
use Rattle.office_commands.specs.Damage.{IsLeftClean}
use Rattle.office_commands.specs.FileAlone.{FileContainsOffice, IsFaultless, IsHindered, IsInFileAlone}
use Rattle.office_commands.specs.Files.{ContainedOffice, IsClosedCopy, IsLeftOf, RunsInFiles}
use Rattle.office_commands.specs.NextCommand.{ContainOffice, IsLeftBy, LeavesAt}
use Rattle.office_commands.specs.OpenResult.{OpenResult}
use Rattle.office_commands.specs.declared.exit.Exit.{Exit}
use Rattle.office_commands.specs.declared.office_files.FilesLeft.{FilesLeft}
use Rattle.office_commands.specs.declared.office_files.FilesLeft.TheVariants as files
use Rattle.office_commands.proofs.Closings.{hindered}
use Rattle.office_commands.proofs.FoundDamage.{last_clean}
use Rattle.office_commands.proofs.NextStates.{IsEnded, IsOneDatabase, StaySound, command_left, was_found}
use Rattle.office_commands.proofs.StaysOpen.{command_on}

module _ {D : Type 0} {g : Ghosts D} where
  -- a connection that was open was closed, or its closing was hindered
  pub closed_or_hindered : (last : Held (FileStore D g)) (left : FilesLeft D g) → IsLeftOf last left → IsLeftClean left → IsTrue (file_state last).is_open
      → ((pair : Files D) × (left ≡ files.Closed pair) × IsClosedCopy last pair) ⊎ IsHindered left
  closed_or_hindered last (files.Unopened rest) none clean on = absurd none
  closed_or_hindered last (files.Closed pair) copied clean on = inl (pair, refl, copied clean)
  closed_or_hindered last (files.Unclosed store why) unclosed clean on = inr (hindered last store why on (unclosed.failed clean))

  module _ (last : Held (FileStore D g)) (Is : State → Type 0) (at : (u : State) × Is u × IsOfficeAt (file_state last).committed.trees u) where
    alone : (image : Image) → HoldsAlone image (file_state last).committed.trees → FileContainsOffice image at.0
    alone image held = record { trees = (file_state last).committed.trees; contained = held.alone; office = at.2 }

    pub in_file : (left : FilesLeft D g) (pair : Files D) → left ≡ files.Closed pair → IsClosedCopy last pair → IsInFileAlone Is left
    in_file left pair is copy = record {
      pair = pair;
      closed = is;
      state = at.0;
      is = at.1;
      now = alone (image_of g pair) copy.copied.seen;
      after_a_crash = λ image may. alone image (copy.copied.left image may);
    }

-- each command leaves its files so
pub command_alone : IsOneDatabase → StaySound → IsEnded → {D : Type 0} {g : Ghosts D} (image : Image) (s : State) (order : Command) (text : List ℕ) (written after : Option (List ℕ)) (exit : Exit) (opened : OpenResult g) (left : FilesLeft D g)
    → ContainOffice image s → RunsInFiles left image opened order (Some text) written after exit → IsFaultless exit → IsLeftClean left → IsInFileAlone (IsLeftBy order text written after exit s) left ⊎ IsHindered left
command_alone one stay ends image s order text written after exit (Err e) left contained refused fine clean = absurd (fine.0 _ refused.fault)
command_alone one stay ends image s order text written after exit (Ok was) left contained (last, over, is_left) fine clean =
    let ed = contained.office.schema_version in
    let office : ContainedOffice ed image contained.trees = record { contained = contained.contained; office = contained.office.office } in
    let clean_last = last_clean last left is_left clean in
    let rest = over.opened.rest clean_last ed contained.trees office in
    let rows = subst (RepresentsRowsIn ed (rows_of s)) (sym rest.1) contained.office.rows in
    let sound = contained.office.sound in
    let on = command_on over_files was last s rest.0.is_open (was_found one stay ends (file_state was) (file_state last) s clean_last sound ed rest.0 rows) text written after exit fine order over.ends in
    let leaves = command_left one stay ends over_files was last s clean_last sound ed rest.0 rows order text written after exit over.ends in
    let at = leaves (file_state last).committed.trees (over.stays on) in
    elim (closed_or_hindered last left is_left clean on) [
      | inl closed ↦ inl (in_file last (IsLeftBy order text written after exit s) at left closed.0 closed.1 closed.2)
      | inr held_up ↦ inr held_up
    ]
