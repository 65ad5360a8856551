-- What the two files hold after a command, by what a crash leaves of its connection.
use Rattle.std.proofs.Common.{inl, inr, ℕ, IsTrue, IfSome, List, Option, Some, None, Ok, Err, ◌≡◌, sym, subst, arith}
use Rattle.std.proofs.Math.Logic.{∥∥₁_elim, ∥∥₁_map}
use Rattle.sqlite_disk.specs.declared.Disk.{Ghosts}
use Rattle.sqlite_disk.specs.declared.Files.{Files}
use Rattle.sqlite_store.specs.FileStore.{recovers, view}
use Rattle.sqlite_store.specs.declared.store.FileStore.{FileStore}
use Rattle.sqlite_trees.specs.Props.{Trees-set}
use Rattle.sqlite_trees.specs.Tree.{Trees}
use Rattle.sqlite_trees.specs.declared.error.StoreError.{StoreError}
use Rattle.sqlite_wal.specs.Reads.{AreClean}
use Rattle.sqlite_wal.specs.Recovery.{Image}
use Rattle.sqlite.specs.Files.{file_state, over_files}
use Rattle.sqlite.specs.Held.{AreDatabases, Held}
use Rattle.sqlite.specs.State.{HasCleanDisk}
use Rattle.sqlite.specs.declared.file.Leftover.{Leftover}
use Rattle.sqlite.specs.declared.file.Leftover.TheVariants as leftover
use Rattle.office_rules.specs.Rows.{rows_of}
use Rattle.office_rules.specs.Sound.{IsSound}
use Rattle.office_rules.specs.State.{State}
use Rattle.office_access.specs.Settings.{Settings}
use Rattle.office_desk.specs.Desk.{DeskState}
use Rattle.office_gate.specs.InForce.{IsInForceSince}
use Rattle.office_gate.specs.Sessions.{LeavesGated}
use Rattle.office_wire.specs.Serving.{LeavesServed}
use Rattle.office_store.specs.RepresentsRows.{RepresentsRowsIn}
use Rattle.office_command_line.specs.Orders.{Command}
use Rattle.office_commands.specs.Files.{ContainedOffice, EndsInFiles, GatesInFiles, IsClosedCopy, IsLeftOf, IsUnclosed, RunsInFiles, ServesInFiles}
use Rattle.office_commands.specs.OpenResult.{OpenResult}
use Rattle.office_commands.specs.NextCommand.{ContainOffice, ContainWholeOffice, IsGatedTo, IsLeftBy, IsServedTo, LeavesAt, LeavesFilesAt, StaysOffice}
use Rattle.office_life.specs.Tables.{ContainTables, IsOfficeAt}
use Rattle.office_life.proofs.LeftTables.{database_of, leaves_tables}
use Rattle.office_commands.specs.Serving.{ServiceEndsBy}
use Rattle.office_commands.specs.Tables.{SparesTables}
use Rattle.office_commands.specs.declared.exit.Exit.{Exit}
use Rattle.office_commands.specs.declared.office_files.FilesLeft.{FilesLeft}
use Rattle.office_commands.specs.declared.office_files.FilesLeft.TheVariants as files
use Rattle.office_commands.proofs.NextGate.{gated_left, rights_lead}
use Rattle.office_commands.proofs.NextService.{Leading, ServedAt, acts_lead, left_served, service_left}
use Rattle.office_commands.proofs.NextStates.{IsEnded, IsOneDatabase, StaySound, command_left}

-- an office of which each page has its sum is one
pub whole_office : (image : Image) (s : State) → ContainWholeOffice image s → ContainOffice image s
whole_office image s it = record { trees = it.trees; contained = ∥∥₁_map it.contained (λ (h : ContainTables image it.trees). database_of image it.trees h); office = it.office }

module _ {D : Type 0} {g : Ghosts D} (old : Image) (s : State) (Is : State → Type 0) where
  -- ---- of files that were not opened

  stays_office : (rest : Leftover D g) → SparesTables old rest → ContainWholeOffice old s → StaysOffice s rest
  stays_office (leftover.Files it) spared whole = λ clean image may. subst (λ (i : Image). ContainWholeOffice i s) (sym (spared clean image may)) whole
  stays_office (leftover.Unopened it) spared whole = λ clean image may.
      record { trees = whole.trees; contained = ∥∥₁_map whole.contained (λ (h : ContainTables old whole.trees). (spared clean image may).contained whole.trees h); office = whole.office }
  stays_office (leftover.Store it) spared whole = λ clean trees may.
      subst (λ (t : Trees). IsOfficeAt t s) (sym (∥∥₁_elim whole.contained (Trees-set _ _) (λ (h : ContainTables old whole.trees). (spared clean trees may).contained whole.trees h))) whole.office

  some_stays : (rest : Option (Leftover D g)) → IfSome rest (SparesTables old) → (ContainWholeOffice old s → IfSome rest (λ it. StaysOffice s it))
  some_stays None spared = λ whole. tt
  some_stays (Some rest) spared = λ whole. stays_office rest spared whole

  pub refused_at : (back : Option (Leftover D g)) (left : FilesLeft D g) → left ≡ files.Unopened back → IfSome back (SparesTables old) → LeavesFilesAt old s Is left
  refused_at back left is spared = subst (LeavesFilesAt old s Is) (sym is) (some_stays back spared)

  -- ---- of files that were closed, or not

  module _ (last : Held (FileStore D g)) (leaves : HasCleanDisk (file_state last) → LeavesAt Is (file_state last))
      (stays : IsTrue (file_state last).is_open → (file_state last).may_leave (file_state last).committed.trees) where
    closed_at : (it : Files D) → (AreClean g it.log it.db → IsClosedCopy last it) → LeavesFilesAt {g = g} old s Is (files.Closed it)
    closed_at it copied clean =
        let copy = copied clean in
        let trees = (file_state last).committed.trees in
        let at = leaves copy.copied.was_clean trees (stays copy.copied.was_open) in (
          at.0,
          at.1,
          record { trees = trees; contained = copy.now; office = at.2 },
          λ image may. record { trees = trees; contained = copy.left image may; office = at.2 },
        )

    unclosed_at : (store : FileStore D g) (why : StoreError) → IsUnclosed last store why → LeavesFilesAt {g = g} old s Is (files.Unclosed store why)
    unclosed_at store why it clean known image may =
        let closed = it.closed in
        let numbered : IsTrue (view store).is_numbered = elim known [ inl on ↦ it.numbered clean on | inr is ↦ is ] in
        let doubted = closed.quiet.clean in
        let was_clean : HasCleanDisk (file_state last) = omega (arith, doubted, clean) in
        let at = λ (db : Trees) (left : recovers store db). leaves was_clean db (closed.quiet.outcomes db left) in
        let sound : AreDatabases (recovers store) = λ db left. let is = (at db left).2.office in (is.0, is.1.has.database) in
        ∥∥₁_map (leaves_tables store numbered sound image may) (λ (db : (x : Trees) × recovers store x × ContainTables image x).
        let is = at db.0 db.1 in
        (is.0, is.1, record { trees = db.0; contained = ∣ db.2 ∣₁; office = is.2 }))

    pub files_at : (left : FilesLeft D g) → IsLeftOf last left → LeavesFilesAt old s Is left
    files_at (files.Unopened rest) it = absurd it
    files_at (files.Closed it) copied = closed_at it copied
    files_at (files.Unclosed store why) closed = unclosed_at store why closed

-- each command leaves its files so
pub command_leaves : IsOneDatabase → StaySound → IsEnded → {D : Type 0} {g : Ghosts D} (image : Image) (s : State) (order : Command) (text : List ℕ) (written after : Option (List ℕ)) (exit : Exit) (opened : OpenResult g) (left : FilesLeft D g)
    → ContainOffice image s → RunsInFiles left image opened order (Some text) written after exit → LeavesFilesAt image s (IsLeftBy order text written after exit s) left
command_leaves one stay ends image s order text written after exit (Err e) left holds it = refused_at image s (IsLeftBy order text written after exit s) e.1 left it.given it.kept
command_leaves one stay ends image s order text written after exit (Ok was) left holds (last, over, is_left) =
    let ed = holds.office.schema_version in
    let contained : ContainedOffice ed image holds.trees = record { contained = holds.contained; office = holds.office.office } in
    files_at image s (IsLeftBy order text written after exit s) last
    (λ clean.
    let at = over.opened.rest clean ed holds.trees contained in
    command_left one stay ends over_files was last s clean holds.office.sound ed at.0 (subst (RepresentsRowsIn ed (rows_of s)) (sym at.1) holds.office.rows) order text written after exit over.ends)
    over.stays left is_left

-- and so does a service, by where each request leaves a desk
module _ (one : IsOneDatabase) (stay : StaySound) (ends : IsEnded) (To : State → State → Type 0) (leading : Leading To) {D : Type 0} {g : Ghosts D} (Leaves : State → DeskState (FileStore D g) → Type 0)
    (left_so : (t : State) → IsSound t → (d : DeskState (FileStore D g)) → Leaves t d → ServedAt To leading stay ends IsOfficeAt (λ db u at. at) over_files t d) where
  pub serving_leaves : (image : Image) (s : State) (port count : ℕ) (written after : Option (List ℕ)) (exit : Exit) (opened : OpenResult g) (left : FilesLeft D g)
      → ContainOffice image s → EndsInFiles left image opened (λ was last. ServiceEndsBy Leaves over_files port count was last written after exit) written after exit → LeavesFilesAt image s (To s) left
  serving_leaves image s port count written after exit (Err e) left holds it = refused_at image s (To s) e.1 left it.given it.kept
  serving_leaves image s port count written after exit (Ok was) left holds (last, over, is_left) =
      let ed = holds.office.schema_version in
      let contained : ContainedOffice ed image holds.trees = record { contained = holds.contained; office = holds.office.office } in
      files_at image s (To s) last
      (λ clean.
      let at = over.opened.rest clean ed holds.trees contained in
      service_left one stay ends over_files was last s clean holds.office.sound To leading Leaves left_so ed at.0 (subst (RepresentsRowsIn ed (rows_of s)) (sym at.1) holds.office.rows) port count written after exit over.ends)
      over.stays left is_left

pub service_leaves : IsOneDatabase → StaySound → IsEnded → {D : Type 0} {g : Ghosts D} (image : Image) (s : State) (port count : ℕ) (written after : Option (List ℕ)) (exit : Exit) (opened : OpenResult g) (left : FilesLeft D g)
    → ContainOffice image s → ServesInFiles left image opened port count written after exit → LeavesFilesAt image s (IsServedTo s) left
service_leaves one stay ends image s port count written after exit opened left holds it =
    serving_leaves one stay ends IsServedTo acts_lead (LeavesServed over_files) (λ t sound d served. left_served stay ends IsOfficeAt (λ db u at. at) over_files t sound d served)
    image s port count written after exit opened left holds it

-- and a gate
pub gate_leaves : IsOneDatabase → StaySound → IsEnded → {D : Type 0} {g : Ghosts D} (image : Image) (s : State) (first : Settings) (port count : ℕ) (written after : Option (List ℕ)) (exit : Exit) (opened : OpenResult g) (left : FilesLeft D g)
    → ContainOffice image s → GatesInFiles left image opened first port count written after exit → LeavesFilesAt image s (IsGatedTo first s) left
gate_leaves one stay ends image s first port count written after exit opened left holds it =
    serving_leaves one stay ends (IsGatedTo first) (rights_lead (IsInForceSince first)) (LeavesGated over_files first) (λ t sound d served. gated_left stay ends IsOfficeAt (λ db u at. at) over_files first t sound d served)
    image s port count written after exit opened left holds it
