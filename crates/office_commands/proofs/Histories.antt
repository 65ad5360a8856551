-- What an office's files stand for after any number of runs of the program, from no file on.
use Rattle.std.proofs.Common.{◌≡◌, ◌⊎◌, ◌++◌, ◌∷◌, [], inl, inr, ℕ, IfSome, IsTrue, List, Option, None, Some, Ok, Err, refl, sym, subst, arith}
use Rattle.std.proofs.Math.Logic.{∥∥₁_elim, ∥∥₁_map}
use Rattle.sqlite_catalog.specs.Listing.{IsSound as IsSoundDatabase}
use Rattle.sqlite_disk.specs.declared.Disk.{Ghosts}
use Rattle.sqlite_disk.specs.declared.Files.{Files}
use Rattle.sqlite_store.specs.FileStore.{recovers, view}
use Rattle.sqlite_store.specs.declared.store.FileStore.{FileStore}
use Rattle.sqlite_trees.specs.Tree.{Trees}
use Rattle.sqlite_trees.specs.View.{IsClean}
use Rattle.sqlite_trees.specs.declared.error.StoreError.{StoreError}
use Rattle.sqlite_wal.specs.Reads.{AreClean}
use Rattle.sqlite_wal.specs.Recovery.{Image}
use Rattle.sqlite.specs.Files.{IsEmpty, file_state, over_files}
use Rattle.sqlite.specs.Held.{AreDatabases, Held}
use Rattle.sqlite.specs.State.{State as FileState, HasCleanDisk}
use Rattle.sqlite.specs.declared.file.Leftover.{Leftover}
use Rattle.sqlite.specs.declared.file.Leftover.TheVariants as leftover
use Rattle.office_gate.specs.InForce.{IsInForceSince}
use Rattle.office_gate.specs.Sessions.{LeavesGated, stayed as stayed_by_rights}
use Rattle.office_rules.specs.Rows.{rows_of}
use Rattle.office_rules.specs.Sound.{IsSound}
use Rattle.office_rules.specs.State.{State, empty_state}
use Rattle.office_store.specs.RepresentsRows.{RepresentsRowsIn}
use Rattle.office_store.specs.declared.fault.Fault.TheVariants as fault
use Rattle.office_life.specs.Standing.{IsKnownAt, RestsAt, Stage, StandsAt, half_made, remains_of, stage_after, stored, unmade}
use Rattle.office_life.specs.declared.reports.Remains.TheVariants as remains
use Rattle.office_life.specs.Tables.{ContainTables}
use Rattle.office_life.proofs.LeftTables.{database_of, leaves_tables}
use Rattle.office_life.proofs.Nothing.{finds_nothing}
use Rattle.office_commands.specs.FileHistory.{FileHistory, IsFoundNext, IsFoundOf, IsLeftAt, IsLeftKilled, ProgramRun, RunLeads, StateHistory, WasKilled, WasRun, began, led, ran_command, ran_gate, ran_service, remains_left, stayed, went_on}
use Rattle.office_commands.specs.Files.{EndsOver, IsClosedCopy, IsLeftOf, IsOpenedFrom, IsUnclosed}
use Rattle.office_command_line.specs.Orders as command
use Rattle.office_command_line.specs.Orders.{Command}
use Rattle.office_commands.specs.NextCommand.{IsFaultAlone, IsGatedTo, IsLeftBy, IsServedTo}
use Rattle.office_wire.specs.Serving.{LeavesServed}
use Rattle.office_commands.specs.OpenResult.{OpenResult}
use Rattle.office_commands.specs.Running.{RunEnds}
use Rattle.office_commands.specs.Serving.{GateEnds, ServiceEnds}
use Rattle.office_commands.specs.Tables.{KeepsTables, SparesTables}
use Rattle.office_commands.specs.declared.exit.Exit.{Exit}
use Rattle.office_commands.specs.declared.exit.Exit.TheVariants as how
use Rattle.office_commands.specs.declared.office_files.FilesLeft.{FilesLeft}
use Rattle.office_commands.specs.declared.office_files.FilesLeft.TheVariants as files
use Rattle.office_commands.proofs.FromNoFile.{IsOfficeOrBefore, command_from, service_from, tables_at}
use Rattle.office_commands.proofs.NextGate.{gated_left, rights_lead}
use Rattle.office_commands.proofs.NextService.{acts_lead, left_served}
use Rattle.office_commands.proofs.NextStates.{IsEnded, IsOneDatabase, StaySound}

-- so a run ended over a connection
abbrev EndedSo : {D : Type 0} {g : Ghosts D} → ProgramRun → Held (FileStore D g) → Held (FileStore D g) → Type 0
EndedSo (ran_command order text written after exit) was last = RunEnds over_files order (Some text) was last written after exit
EndedSo (ran_service port count written after exit) was last = ServiceEnds over_files port count was last written after exit
EndedSo (ran_gate first port count written after exit) was last = GateEnds over_files first port count was last written after exit

-- ---- files that were not opened

-- what was kept stands for the same state
kept_at : (image next : Image) → KeepsTables image next → (stage : Stage) (s : State) → IsKnownAt stage remains.Begun → StandsAt stage image s → ∥ StandsAt (stage_after stage remains.Begun) next s ∥₁
kept_at image next kept stage s known (inl (db, contained, at)) = ∣ inl (db, kept.contained db contained, at) ∣₁
kept_at image next kept stored s known (inr none) = absurd none.0
kept_at image next kept unmade s known (inr none) = elim (kept.none none.0) [
  | inl nothing ↦ ∣ inr (inl nothing, none.1) ∣₁
  | inr empty ↦ ∥∥₁_map empty (λ begun. inr (inr begun, none.1))
]
kept_at image next kept half_made s known (inr none) = absurd known

module _ {D : Type 0} {g : Ghosts D} (image next : Image) (stage : Stage) (s : State) (stands : StandsAt stage image s) where
  spared_at : (rest : Leftover D g) → SparesTables image rest → IsKnownAt stage (remains_of rest) → IsFoundOf rest next → ∥ StandsAt (stage_after stage (remains_of rest)) next s ∥₁
  spared_at (leftover.Files it) spared known (clean, may) = ∣ subst (λ (i : Image). StandsAt stage i s) (sym (spared clean next may)) stands ∣₁
  spared_at (leftover.Unopened it) spared known (clean, may) = kept_at image next (spared clean next may) stage s known stands
  spared_at (leftover.Store it) spared known found = absurd found

  -- where the database gave that back
  abbrev GoesOnUnopened : FilesLeft D g → Type 0
  GoesOnUnopened left = IsKnownAt stage (remains_left left) → IsFoundNext left next → ∥ StandsAt (stage_after stage (remains_left left)) next s ∥₁

  given_at : (back : Option (Leftover D g)) → IfSome back (SparesTables image) → GoesOnUnopened (files.Unopened back)
  given_at None spared = λ known found. absurd found
  given_at (Some rest) spared = λ known found. spared_at rest spared known found

  refused_at : (back : Option (Leftover D g)) (left : FilesLeft D g) → left ≡ files.Unopened back → IfSome back (SparesTables image) → GoesOnUnopened left
  refused_at back left is spared = subst GoesOnUnopened (sym is) (given_at back spared)

-- ---- files that were opened

-- the connection is at rest at the state for which they stood
rests_from : {D : Type 0} {g : Ghosts D} (image : Image) (was last : Held (FileStore D g)) → IsOpenedFrom image was last → HasCleanDisk (file_state last) → (stage : Stage) (s : State) → StandsAt stage image s → RestsAt (file_state was) s
rests_from image was last it clean stage s (inl (db, contained, inl office)) =
    let whole = database_of image db contained in
    let ed = office.schema_version in
    let at = it.rest clean ed db (record { contained = ∣ whole ∣₁; office = office.office }) in
    inl (ed, at.0, office.sound, subst (RepresentsRowsIn ed (rows_of s)) (sym at.1) office.rows)
rests_from image was last it clean stage s (inl (db, contained, inr none)) =
    let empty = subst IsEmpty (sym (it.holds clean db (database_of image db contained))) none.0 in inr (it.blank clean empty, empty, none.1)
rests_from image was last it clean stored s (inr none) = absurd none.0
rests_from image was last it clean unmade s (inr none) = let empty = finds_nothing image _ none.0 (it.found clean) in inr (it.blank clean empty, empty, none.1)
rests_from image was last it clean half_made s (inr (inl nothing, is)) = let empty = finds_nothing image _ nothing (it.found clean) in inr (it.blank clean empty, empty, is)
rests_from image was last it clean half_made s (inr (inr begun, is)) = let empty = subst IsEmpty (sym (it.holds clean begun.0 begun.1)) begun.2 in inr (it.blank clean empty, empty, is)

module _ {D : Type 0} {g : Ghosts D} (was last : Held (FileStore D g)) (Is : State → Type 0)
    (leaves : HasCleanDisk (file_state last) → (db : Trees) → (file_state last).may_leave db → (u : State) × Is u × IsOfficeOrBefore (file_state was) db u) (next : Image) where
  abbrev GoesOn : Type 0
  GoesOn = ∥ ((u : State) × Is u × StandsAt stored next u) ∥₁

  -- tables that a crash leaves of the connection, which the files hold
  goes_on : HasCleanDisk (file_state last) → (db : Trees) → (file_state last).may_leave db → ContainTables next db → (u : State) × Is u × StandsAt stored next u
  goes_on clean db may contained = let at = leaves clean db may in (at.0, at.1, inl (db, contained, tables_at (file_state was) db at.0 at.2))

  closed_at : (it : Files D) → IsClosedCopy last it → (file_state last).may_leave (file_state last).committed.trees → ∥ ContainTables next (file_state last).committed.trees ∥₁ → GoesOn
  closed_at it copy stays contained = ∥∥₁_map contained (λ (h : ContainTables next (file_state last).committed.trees). goes_on copy.copied.was_clean (file_state last).committed.trees stays h)

  unclosed_at : (store : FileStore D g) (why : StoreError) → IsUnclosed last store why → IsFoundNext {g = g} (files.Unclosed store why) next → GoesOn
  unclosed_at store why it (clean, known, may) =
      let closed = it.closed in
      let numbered : IsTrue (view store).is_numbered = elim known [ inl on ↦ it.numbered clean on | inr is ↦ is ] in
      let doubted = closed.quiet.clean in
      let was_clean : HasCleanDisk (file_state last) = omega (arith, doubted, clean) in
      ∥∥₁_map (leaves_tables store numbered (closed.sound clean) next may) (λ (db : (x : Trees) × recovers store x × ContainTables next x). goes_on was_clean db.0 (closed.quiet.outcomes db.0 db.1) db.2)

  pub left_at : (stays : IsTrue (file_state last).is_open → (file_state last).may_leave (file_state last).committed.trees) (left : FilesLeft D g) → IsLeftOf last left → IsFoundNext left next → GoesOn
  left_at stays (files.Unopened rest) it found = absurd it
  left_at stays (files.Closed it) copied (clean, may) = let copy = copied clean in closed_at it copy (stays copy.copied.was_open) (copy.left next may)
  left_at stays (files.Unclosed store why) it found = unclosed_at store why it found

  -- where the process was killed
  pub killed_at : IsLeftKilled last next → AreDatabases (recovers last.store) → GoesOn
  killed_at it sound = ∥∥₁_map (leaves_tables last.store it.numbered sound next it.left) (λ (db : (x : Trees) × recovers last.store x × ContainTables next x). goes_on it.clean db.0 db.1 db.2)

-- the database at which the connection was at rest is sound
sound_before : (old : FileState) (s : State) → RestsAt old s → IsSoundDatabase old.now.schema old.now.trees
sound_before old s (inl (ed, rest, sound, rows)) = rest.office.has.database
sound_before old s (inr (blank, none, is)) = blank.bare.has.database

-- and so is each that a crash leaves
are_databases : {D : Type 0} {g : Ghosts D} (was last : Held (FileStore D g)) (s : State) (Is : State → Type 0) → RestsAt (file_state was) s
    → ((db : Trees) → (file_state last).may_leave db → (u : State) × Is u × IsOfficeOrBefore (file_state was) db u) → AreDatabases (recovers last.store)
are_databases was last s Is rests leaves db may = elim (leaves db may).2 [
  | inl office ↦ (office.office.0, office.office.1.has.database)
  | inr before ↦
      let old = file_state was in (old.now.schema, subst (λ (t : Trees). IsSoundDatabase old.now.schema t) (sym before.0) (sound_before old s rests))
]

-- ---- one run

-- the run opened nothing: fault 31, with nothing written
abbrev WasRefused : ProgramRun → Type 0
WasRefused (ran_command order text written after exit) = (exit ≡ how.Fault fault.Store) × (after ≡ written)
WasRefused (ran_service port count written after exit) = (exit ≡ how.Fault fault.Store) × (after ≡ written)
WasRefused (ran_gate first port count written after exit) = (exit ≡ how.Fault fault.Store) × (after ≡ written)

fault_alone : {written after : Option (List ℕ)} {exit : Exit} (s : State) → (exit ≡ how.Fault fault.Store) × (after ≡ written) → IsFaultAlone written after exit s s
fault_alone s was = record { fault = fault.Store; reported = was.0; stops = tt; untouched = (refl, was.1) }

order_stays : (order : Command) (text : List ℕ) (written after : Option (List ℕ)) (exit : Exit) (s : State) → (exit ≡ how.Fault fault.Store) × (after ≡ written) → IsLeftBy order text written after exit s s
order_stays (command.apply file acts) text written after exit s was = inl ((refl, was.1), inl (fault.Store, was.0, tt))
order_stays (command.import file day csv) text written after exit s was = inl (fault_alone s was)
order_stays (command.resume file) text written after exit s was = inl (fault_alone s was)
order_stays (command.init file) text written after exit s was = inl (fault_alone s was)
order_stays (command.export file register) text written after exit s was = inl (fault_alone s was)
order_stays (command.overdue file day n) text written after exit s was = inl (fault_alone s was)
order_stays (command.certificate file run) text written after exit s was = inl (fault_alone s was)
order_stays (command.serve file port count) text written after exit s was = (refl, was.1)
order_stays (command.gate file port count access token journal) text written after exit s was = (refl, was.1)
order_stays (command.plan file) text written after exit s was = (refl, was.1)
order_stays (command.due unit count offset day) text written after exit s was = (refl, was.1)
order_stays command.nothing text written after exit s was = (refl, was.1)

-- files that were not opened are left at the same state
stays_at : (run : ProgramRun) (s : State) → WasRefused run → IsLeftAt run s s
stays_at (ran_command order text written after exit) s was = order_stays order text written after exit s was
stays_at (ran_service port count written after exit) s was = ([], tt, refl)
stays_at (ran_gate first port count written after exit) s was = stayed_by_rights

module _ (one : IsOneDatabase) (stay : StaySound) (empty : IsSound empty_state) (ends : IsEnded) {D : Type 0} {g : Ghosts D} where
  -- where a run leaves an office, whatever a crash leaves of its connection
  leaves_so : (run : ProgramRun) (was last : Held (FileStore D g)) (s : State) → RestsAt (file_state was) s → HasCleanDisk (file_state last) → EndedSo run was last
      → (db : Trees) → (file_state last).may_leave db → (u : State) × IsLeftAt run s u × IsOfficeOrBefore (file_state was) db u
  leaves_so (ran_command order text written after exit) was last s rests clean ended db may =
      let at = command_from one stay empty ends over_files was last s clean rests order text written after exit ended db may in (at.0, at.1, at.2)
  leaves_so (ran_service port count written after exit) was last s rests clean ended db may =
      let at =
      service_from one stay empty ends over_files was last s clean rests IsServedTo acts_lead (LeavesServed over_files)
      (λ t sound d served. left_served stay ends (IsOfficeOrBefore (file_state was)) (λ db u is. inl is) over_files t sound d served)
      port count written after exit ended db may in (at.0, at.1, at.2)
  leaves_so (ran_gate first port count written after exit) was last s rests clean ended db may =
      let at =
      service_from one stay empty ends over_files was last s clean rests (IsGatedTo first) (rights_lead (IsInForceSince first)) (LeavesGated over_files first)
      (λ t sound d served. gated_left stay ends (IsOfficeOrBefore (file_state was)) (λ db u is. inl is) over_files first t sound d served)
      port count written after exit ended db may in (at.0, at.1, at.2)

  module _ (run : ProgramRun) (stage : Stage) (image next : Image) where
    -- the run ended so, by what the database returned
    abbrev Came : OpenResult g → FilesLeft D g → Type 0
    Came (Ok was) left = (last : Held (FileStore D g)) × EndsOver left image (EndedSo run) was last × IsLeftOf last left
    Came (Err e) left = WasRefused run × (left ≡ files.Unopened e.1) × IfSome e.1 (SparesTables image)

    not_opened : WasRefused run → (back : Option (Leftover D g)) (left : FilesLeft D g) → left ≡ files.Unopened back → IfSome back (SparesTables image) → IsKnownAt stage (remains_left left) → IsFoundNext left next → RunLeads run stage image (stage_after stage (remains_left left)) next
    not_opened says back left is spared known found s stands = ∥∥₁_map (refused_at image next stage s stands back left is spared known found) (λ (at : StandsAt (stage_after stage (remains_left left)) next s). (s, stays_at run s says, at))

    -- the stage is that of files that hold tables
    opened_so : (was last : Held (FileStore D g)) (left : FilesLeft D g) → EndsOver left image (EndedSo run) was last → IsLeftOf last left → IsFoundNext left next → RunLeads run stage image stored next
    opened_so was last left over is_left found s stands =
        let rests = λ (clean : HasCleanDisk (file_state last)). rests_from image was last over.opened clean stage s stands in
        left_at was last (IsLeftAt run s) (λ clean. leaves_so run was last s (rests clean) clean over.ends) next over.stays left is_left found

    after_closing : (left : FilesLeft D g) (last : Held (FileStore D g)) → IsLeftOf last left → stage_after stage (remains_left left) ≡ stored
    after_closing (files.Unopened rest) last it = absurd it
    after_closing (files.Closed it) last copied = refl
    after_closing (files.Unclosed store why) last it = refl

    ended : (opened : OpenResult g) (left : FilesLeft D g) → Came opened left → IsKnownAt stage (remains_left left) → IsFoundNext left next → RunLeads run stage image (stage_after stage (remains_left left)) next
    ended (Ok was) left (last, over, is_left) known found = subst (λ (is : Stage). RunLeads run stage image is next) (sym (after_closing left last is_left)) (opened_so was last left over is_left found)
    ended (Err e) left (says, is, spared) known found = not_opened says e.1 left is spared known found

    killed : (was last : Held (FileStore D g)) → EndsOver (files.Unopened None) image (EndedSo run) was last → IsLeftKilled last next → RunLeads run stage image stored next
    killed was last over it s stands =
        let rests = rests_from image was last over.opened it.clean stage s stands in
        let leaves = leaves_so run was last s rests it.clean over.ends in
        killed_at was last (IsLeftAt run s) (λ clean. leaves) next it (are_databases was last s (IsLeftAt run s) rests leaves)

  pub runs_lead : (run : ProgramRun) (stage : Stage) (image next : Image) (opened : OpenResult g) (left : FilesLeft D g) → WasRun run image opened left → IsKnownAt stage (remains_left left) → IsFoundNext left next
      → RunLeads run stage image (stage_after stage (remains_left left)) next
  runs_lead (ran_command order text written after exit) stage image next (Ok was) left it known found = ended (ran_command order text written after exit) stage image next (Ok was) left it known found
  runs_lead (ran_command order text written after exit) stage image next (Err e) left it known found = ended (ran_command order text written after exit) stage image next (Err e) left ((it.fault, it.silent), it.given, it.kept) known found
  runs_lead (ran_service port count written after exit) stage image next (Ok was) left it known found = ended (ran_service port count written after exit) stage image next (Ok was) left it known found
  runs_lead (ran_service port count written after exit) stage image next (Err e) left it known found = ended (ran_service port count written after exit) stage image next (Err e) left ((it.fault, it.silent), it.given, it.kept) known found
  runs_lead (ran_gate first port count written after exit) stage image next (Ok was) left it known found = ended (ran_gate first port count written after exit) stage image next (Ok was) left it known found
  runs_lead (ran_gate first port count written after exit) stage image next (Err e) left it known found = ended (ran_gate first port count written after exit) stage image next (Err e) left ((it.fault, it.silent), it.given, it.kept) known found

  pub killed_lead : (run : ProgramRun) (stage : Stage) (image next : Image) (was last : Held (FileStore D g)) → WasKilled run image was last → IsLeftKilled last next → RunLeads run stage image stored next
  killed_lead (ran_command order text written after exit) stage image next was last over = killed (ran_command order text written after exit) stage image next was last over
  killed_lead (ran_service port count written after exit) stage image next was last over = killed (ran_service port count written after exit) stage image next was last over
  killed_lead (ran_gate first port count written after exit) stage image next was last over = killed (ran_gate first port count written after exit) stage image next was last over

-- ---- any number of runs

pub files_follow : (start : Stage) (first : Image) (s : State) (runs : List ProgramRun) (stage : Stage) (image : Image) → StandsAt start first s → FileHistory start first runs stage image → ∥ ((u : State) × StateHistory s runs u × StandsAt stage image u) ∥₁
files_follow start first s runs stage image stands (began) = ∣ (s, stayed, stands) ∣₁
files_follow start first s runs stage image stands (went_on before was contained run is next history leads) =
    ∥∥₁_elim (files_follow start first s before was contained stands history) squash₁ (λ (t : (x : State) × StateHistory s before x × StandsAt was contained x). ∥∥₁_map (leads t.0 t.2) (λ (u : (x : State) × IsLeftAt run t.0 x × StandsAt is next x). (u.0, led before run t.0 u.0 t.1 u.1, u.2)))
