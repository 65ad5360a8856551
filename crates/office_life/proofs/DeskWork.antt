-- Where acts and resumptions at a desk, and the opening of one, leave an office.
use Rattle.std.proofs.Common.{false, ◌≡◌, inl, inr, ℕ, zero, suc, ◌+◌, List, [], ◌∷◌, length, take, Ok, Err, Option, Some, None, Vec, refl, sym, ap, subst, ◌∙◌, arith}
use Rattle.std.specs.Global.{Global}
use Rattle.sqlite_trees.specs.Tree.{Trees}
use Rattle.sqlite_trees.specs.declared.store.Store.{Ghosts}
use Rattle.sqlite.specs.Files.{IsEmpty}
use Rattle.sqlite.specs.Held.{Held, state}
use Rattle.sqlite.specs.State.{State as FileState, HasCleanDisk}
use Rattle.office_rules.specs.Acts.{after, answers, step}
use Rattle.office_rules.specs.Forms.{AreWellFormed, IsWellFormedAct}
use Rattle.office_rules.specs.Rows.{rows_of}
use Rattle.office_rules.specs.Runs.{after_steps, candidates, open_run, whole, with_outcomes}
use Rattle.office_rules.specs.Sound.{IsSound}
use Rattle.office_rules.specs.State.{State, empty_state}
use Rattle.office_rules.specs.declared.act.Act.{Act}
use Rattle.office_rules.specs.declared.answer.Answer.{Answer}
use Rattle.office_rules.proofs.OpenRun.{closed_is_closed, length-runs, opened}
use Rattle.office_sql.specs.declared.schema_versions.SchemaVersion.{SchemaVersion}
use Rattle.office_sql.specs.declared.schema_versions.SchemaVersion.TheVariants as schema_version
use Rattle.office_sql.specs.Office.{IsAtRestOver, IsOfficeIn}
use Rattle.office_store.specs.RepresentsRows.{ContainsRows, RepresentsRows, RepresentsRowsIn}
use Rattle.office_store.specs.declared.fault.Fault.{Fault}
use Rattle.office_store.specs.declared.fault.Fault.TheVariants as fault
use Rattle.office_desk.proofs.StepFates.{after_run, are_steps, run_steps}
use Rattle.office_desk.specs.Desk.{DeskState}
use Rattle.office_desk.specs.Leaving.{IsAt, LeavesOne, LeavesStep, StopsLeaving}
use Rattle.office_desk.specs.Opening.{Finds, LeavesTables, OpenFailedLeaves}
use Rattle.office_desk.specs.Outcomes.{ActsCameTo, FromEach, acts_outcome}
use Rattle.office_desk.specs.Resuming.{AreRunSteps, resumed_answer}
use Rattle.office_desk.specs.Resumptions.{IsRunAnswered, RunCameTo, RunOutcome, none_open, run_closed, run_outcome, run_stopped}
use Rattle.office_life.specs.Life.{AreStopped, DidActs, DidSteps, IsInterrupted, IsResumedBy, LeadsBy}
use Rattle.office_life.specs.Standing.{LeavesAt, RestsAt}
use Rattle.office_life.specs.Tables.{AreTablesAt}
use Rattle.office_life.specs.declared.reports.StintEnd.TheVariants as end

abbrev pub IsOneDatabase : Type 0
IsOneDatabase = (ed : SchemaVersion) (s u : State) (db : Trees) → IsSound s → IsSound u → RepresentsRowsIn ed (rows_of s) db → RepresentsRowsIn ed (rows_of u) db → s ≡ u

abbrev pub StaySound : Type 0
StaySound = (s : State) (a : Act) → IsSound s → IsWellFormedAct a → IsSound (step s a).1

well_formed_prefix : (n : ℕ) (acts : List Act) → AreWellFormed acts → AreWellFormed (take n acts)
well_formed_prefix zero acts all = tt
well_formed_prefix (suc n) [] all = tt
well_formed_prefix (suc n) (a ∷ acts) (is, all) = (is, well_formed_prefix n acts all)

well_formed_steps : (acts : List Act) → AreRunSteps acts → AreWellFormed acts
well_formed_steps [] all = tt
well_formed_steps (a ∷ acts) (is, all) = (subst IsWellFormedAct (sym is) tt, well_formed_steps acts all)

steps_prefix : (n : ℕ) (acts : List Act) → AreRunSteps acts → AreRunSteps (take n acts)
steps_prefix zero acts all = tt
steps_prefix (suc n) [] all = tt
steps_prefix (suc n) (a ∷ acts) (is, all) = (is, steps_prefix n acts all)

-- so many steps are so many
length_steps : (n : ℕ) → length (run_steps n) ≡ n
length_steps zero = refl
length_steps (suc n) = ap suc (length_steps n)

one_more : (n : ℕ) → length (run_steps (suc n)) ≡ n + 1
one_more n = let many = length_steps (suc n) in omega (arith, many)

sound_acts : StaySound → (acts : List Act) (s : State) → IsSound s → AreWellFormed acts → IsSound (after s acts)
sound_acts stay [] s sound formed = sound
sound_acts stay (a ∷ acts) s sound (is, rest) = sound_acts stay acts (step s a).1 (stay s a sound is) rest

-- tables of version 2 that are those of a state
at_tables : (u : State) → IsSound u → (db : Trees) → IsOfficeIn schema_version.Two db → RepresentsRows (rows_of u) db → AreTablesAt db u
at_tables u sound db office rows = inl (record { schema_version = schema_version.Two; office = office; sound = sound; rows = rows })

-- and alone
at_rows : (new : FileState) (u : State) → IsSound u → ContainsRows (rows_of u) new → (db : Trees) → new.may_leave db → AreTablesAt db u
at_rows new u sound holds db may =
    let is = sym (holds.rest.only db may) in
    at_tables u sound db (subst (λ (t : Trees). IsOfficeIn schema_version.Two t) is (new.now.schema, holds.rest.office)) (subst (λ (t : Trees). RepresentsRows (rows_of u) t) is holds.represents)

-- ---- acts at a desk

module _ (stay : StaySound) (s : State) (sound : IsSound s) (acts : List Act) where
  sound_at : AreWellFormed acts → (n : ℕ) → IsSound (after s (take n acts))
  sound_at formed n = sound_acts stay (take n acts) s sound (well_formed_prefix n acts formed)

  -- a fault stopped them after so many
  stopped_at : AreWellFormed acts → (new : FileState) (given : List Answer) (f : Fault) → given ≡ answers s (take (length given) acts) → LeavesOne f (length given) acts
      → StopsLeaving (after s (take (length given) acts)) (after s (take (length given + 1) acts)) f new → ((db : Trees) → new.may_leave db → IsOfficeIn schema_version.Two db) → (db : Trees) → new.may_leave db
      → (done : List Act) × AreStopped acts given f s done × AreTablesAt db (after s done)
  stopped_at formed new given fault.Memory is one leaves offices db may =
      let n = length given in
      (take n acts, record { answered = is; left = one; count = n; counted = refl; are = refl }, at_rows new _ (sound_at formed n) leaves db may)
  stopped_at formed new given fault.Store is one leaves offices db may =
      let n = length given in
      elim (leaves.either db may) [
        | inl old ↦ (take n acts, record { answered = is; left = one; count = n; counted = inl refl; are = refl }, at_tables _ (sound_at formed n) db (offices db may) old)
        | inr next ↦ (take (n + 1) acts, record { answered = is; left = one; count = n + 1; counted = inr refl; are = refl }, at_tables _ (sound_at formed (n + 1)) db (offices db may) next)
      ]
  stopped_at formed new given fault.Reopen is one leaves offices db may =
      let n = length given in
      (take (n + 1) acts, record { answered = is; left = one; count = n + 1; counted = refl; are = refl }, at_rows new _ (sound_at formed (n + 1)) leaves db may)
  stopped_at formed new given fault.Damaged is one leaves offices db may = absurd leaves
  stopped_at formed new given fault.Version is one leaves offices db may = absurd leaves

  module _ (given found : Vec Answer Global) (none : given.items ≡ []) (new : FileState) where
    did_all : ActsCameTo s acts (acts_outcome (Ok tt) given.items found.items) new → LeavesAt (LeadsBy (DidActs acts (end.Done found)) s) new
    did_all came db may =
        let it = subst (λ (xs : List Answer). ActsCameTo s acts (acts_outcome (Ok tt) xs found.items) new) none came in
        (after s acts, (acts, (refl, it.answered), refl), at_rows new _ it.leaves.sound it.leaves.rows db may)

    did_some : (f : Fault) → ActsCameTo s acts (acts_outcome (Err f) given.items found.items) new → LeavesAt (LeadsBy (DidActs acts (end.Stopped found f)) s) new
    did_some f came db may =
        let it = subst (λ (xs : List Answer). ActsCameTo s acts (acts_outcome (Err f) xs found.items) new) none came in
        let left = stopped_at it.formed new found.items f it.answered it.fits.1 it.leaves it.offices db may in
        (after s left.0, (left.0, left.1, refl), left.2)

-- the same once the desk is closed
module _ (stay : StaySound) {S : Type 0} (g : Ghosts S) (acts : List Act) (given found : Vec Answer Global) (none : given.items ≡ []) (old new : DeskState S) (conn : Held S) (closed : conn ≡ new.connection) where
  pub acted : FromEach g old new (λ s. ActsCameTo s acts (acts_outcome (Ok tt) given.items found.items) (state g new.connection)) → HasCleanDisk (state g conn) → (s : State) → IsAt g s old
      → LeavesAt (LeadsBy (DidActs acts (end.Done found)) s) (state g conn)
  acted came clean s at =
      let before = subst (λ (h : Held S). HasCleanDisk (state g h)) closed clean in
      subst (λ (h : Held S). LeavesAt (LeadsBy (DidActs acts (end.Done found)) s) (state g h)) (sym closed) (did_all stay s at.sound acts given found none (state g new.connection) (came s before at))

  pub stopped : (f : Fault) → FromEach g old new (λ s. ActsCameTo s acts (acts_outcome (Err f) given.items found.items) (state g new.connection)) → HasCleanDisk (state g conn) → (s : State) → IsAt g s old
      → LeavesAt (LeadsBy (DidActs acts (end.Stopped found f)) s) (state g conn)
  stopped f came clean s at =
      let before = subst (λ (h : Held S). HasCleanDisk (state g h)) closed clean in
      subst (λ (h : Held S). LeavesAt (LeadsBy (DidActs acts (end.Stopped found f)) s) (state g h)) (sym closed) (did_some stay s at.sound acts given found none (state g new.connection) f (came s before at))

-- ---- resumptions at a desk

module _ (one : IsOneDatabase) (stay : StaySound) {S : Type 0} (g : Ghosts S) (s : State) (sound : IsSound s) where
  -- the whole run is closed
  whole_is_closed : (run : ℕ) → open_run s.office ≡ Some run → open_run (whole s run).office ≡ None
  whole_is_closed run is_open = closed_is_closed (with_outcomes s run (candidates s.office run)) run ((opened s run is_open).last ∙ sym (length-runs s run (candidates s.office run)))

  -- some steps of the run were taken
  module _ (o : RunOutcome) (new : DeskState S) (it : RunCameTo g s o new) (db : Trees) (may : (state g new.connection).may_leave db) where
    taken : (done : List Act) × AreRunSteps done × IsSound (after s done) × RepresentsRows (rows_of (after s done)) db
    taken =
        let left = it.fates.2 db may in
        let steps = take left.0 it.fates.0 in
        let are = steps_prefix left.0 it.fates.0 it.fates.1 in
        (steps, are, sound_acts stay steps s sound (well_formed_steps steps are), left.1.represents)

    there : AreTablesAt db (after s taken.0)
    there = at_tables _ taken.2 db (it.offices db may) taken.3

    -- they lead to where the desk is
    same_as : (u : State) → IsAt g u new → after s taken.0 ≡ u
    same_as u desk = one schema_version.Two (after s taken.0) u db taken.2 desk.sound taken.3 (subst (λ (t : Trees). RepresentsRows (rows_of u) t) (sym (desk.rows.rest.only db may)) desk.rows.represents)

  -- and where they were done, no run is open
  none_after : (answer : Answer) (was_open : Option ℕ) (new : DeskState S) (it : RunCameTo g s (run_outcome (Ok answer) was_open) new) (db : Trees) (may : (state g new.connection).may_leave db)
      → open_run (after s (taken (run_outcome (Ok answer) was_open) new it db may).0).office ≡ None
  none_after answer None new it db may = ap (λ (t : State). open_run t.office) (same_as none_open new it db may s it.leads) ∙ it.fits
  none_after answer (Some run) new it db may = ap (λ (t : State). open_run t.office) (same_as (run_closed run) new it db may (whole s run) it.leads) ∙ whole_is_closed run it.fits

  resumed_to : (answer : Answer) (old new : DeskState S) → s.office ≡ old.office → answer ≡ resumed_answer (open_run old.office) → RunCameTo g s (run_outcome (Ok answer) (open_run old.office)) new
      → LeavesAt (LeadsBy (DidSteps (end.Resumed answer)) s) (state g new.connection)
  resumed_to answer old new here answered it db may =
      let o = run_outcome (Ok answer) (open_run old.office) in
      let from = answered ∙ ap (λ x. resumed_answer (open_run x)) (sym here) in
      let how : IsResumedBy answer s (taken o new it db may).0 = record { steps = (taken o new it db may).1; answered = from; closed = none_after answer (open_run old.office) new it db may } in
      (after s (taken o new it db may).0, ((taken o new it db may).0, how, refl), there o new it db may)

  -- a fault stopped it after so many
  sound_after : (n : ℕ) → IsSound (after s (run_steps n))
  sound_after n = sound_acts stay (run_steps n) s sound (well_formed_steps (run_steps n) (are_steps n))

  -- the tables of the state after so many are those after so many acts
  at_steps : (n : ℕ) (db : Trees) → IsOfficeIn schema_version.Two db → RepresentsRows (rows_of (after_steps s n)) db → AreTablesAt db (after s (run_steps n))
  at_steps n db office rows = at_tables _ (sound_after n) db office (subst (λ (t : State). RepresentsRows (rows_of t) db) (sym (after_run n s)) rows)

  interrupted_by : (f : Fault) (file : FileState) → ((db : Trees) → file.may_leave db → IsOfficeIn schema_version.Two db) → (n : ℕ) → LeavesStep s f n
      → StopsLeaving (after_steps s n) (after_steps s (suc n)) f file → (db : Trees) → file.may_leave db → (done : List Act) × IsInterrupted f s done × AreTablesAt db (after s done)
  interrupted_by fault.Memory file offices n one leaves db may = (
    run_steps n,
    record { steps = are_steps n; taken = n; left = one; counted = length_steps n },
    at_steps n db (offices db may) (subst (RepresentsRows (rows_of (after_steps s n))) (sym (leaves.rest.only db may)) leaves.represents),
  )
  interrupted_by fault.Store file offices n one leaves db may = elim (leaves.either db may) [
    | inl old ↦ (run_steps n, record { steps = are_steps n; taken = n; left = one; counted = inl (length_steps n) }, at_steps n db (offices db may) old)
    | inr next ↦ (run_steps (suc n), record { steps = are_steps (suc n); taken = n; left = one; counted = inr (one_more n) }, at_steps (suc n) db (offices db may) next)
  ]
  interrupted_by fault.Reopen file offices n one leaves db may = (
    run_steps (suc n),
    record { steps = are_steps (suc n); taken = n; left = one; counted = one_more n },
    at_steps (suc n) db (offices db may) (subst (RepresentsRows (rows_of (after_steps s (suc n)))) (sym (leaves.rest.only db may)) leaves.represents),
  )
  interrupted_by fault.Damaged file offices n one leaves db may = absurd leaves
  interrupted_by fault.Version file offices n one leaves db may = absurd leaves

  interrupted_at : (f : Fault) (new : DeskState S) → RunCameTo g s (run_stopped f) new → LeavesAt (LeadsBy (DidSteps (end.Interrupted f)) s) (state g new.connection)
  interrupted_at f new it db may =
      let left = interrupted_by f (state g new.connection) it.offices it.leads.0 it.leads.1 it.leads.3 db may in
      (after s left.0, (left.0, left.1, refl), left.2)

-- the same once the desk is closed
module _ (one : IsOneDatabase) (stay : StaySound) {S : Type 0} (g : Ghosts S) (old new : DeskState S) (conn : Held S) (closed : conn ≡ new.connection) where
  pub resumed : (answer : Answer) → ((s : State) → old.is_poisoned ≡ false → s.office ≡ old.office → IsRunAnswered g s (Ok answer) old new)
      → FromEach g old new (λ s. RunCameTo g s (run_outcome (Ok answer) (open_run old.office)) new) → HasCleanDisk (state g conn) → (s : State) → IsAt g s old
      → LeavesAt (LeadsBy (DidSteps (end.Resumed answer)) s) (state g conn)
  resumed answer answers came clean s at =
      let before = subst (λ (h : Held S). HasCleanDisk (state g h)) closed clean in
      let here = sym at.office in
      subst (λ (h : Held S). LeavesAt (LeadsBy (DidSteps (end.Resumed answer)) s) (state g h)) (sym closed)
      (resumed_to one stay g s at.sound answer old new here (answers s at.is_open here).answered (came s before at))

  pub interrupted : (f : Fault) → FromEach g old new (λ s. RunCameTo g s (run_stopped f) new) → HasCleanDisk (state g conn) → (s : State) → IsAt g s old
      → LeavesAt (LeadsBy (DidSteps (end.Interrupted f)) s) (state g conn)
  interrupted f came clean s at =
      let before = subst (λ (h : Held S). HasCleanDisk (state g h)) closed clean in
      subst (λ (h : Held S). LeavesAt (LeadsBy (DidSteps (end.Interrupted f)) s) (state g h)) (sym closed) (interrupted_at one stay g s at.sound f new (came s before at))

-- ---- the opening of an office

module _ (one : IsOneDatabase) where
  -- the desk is at the state at which the connection was at rest
  pub found_at : (s : State) {S : Type 0} (g : Ghosts S) (conn : Held S) (desk : DeskState S) → Finds g conn desk → RestsAt (state g conn) s → IsAt g s desk
  found_at s g conn desk finds (inl (ed, rest, sound, rows)) =
      let it = finds.found ed rest in
      subst (λ (t : State). IsAt g t desk) (one ed it.0 s (state g conn).now.trees it.1.sound sound it.1.rows rows) it.2
  found_at s g conn desk finds (inr (blank, none, is)) = subst (λ (t : State). IsAt g t desk) (sym is) (finds.made blank)

  module _ (empty : IsSound empty_state) (s : State) (old : FileState) where
    at_before : (ed : SchemaVersion) → IsSound s → IsAtRestOver ed old → RepresentsRowsIn ed (rows_of s) old.now.trees → (db : Trees) → old.may_leave db → AreTablesAt db s
    at_before ed sound rest rows db may =
        let is = sym (rest.only db may) in
        inl (record {
          schema_version = ed;
          office = subst (λ (t : Trees). IsOfficeIn ed t) is (old.now.schema, rest.office);
          sound = sound;
          rows = subst (λ (t : Trees). RepresentsRowsIn ed (rows_of s) t) is rows;
        })

    unopened_over : (new : FileState) (ed : SchemaVersion) → IsSound s → IsAtRestOver ed old → RepresentsRowsIn ed (rows_of s) old.now.trees → LeavesTables ed old new → (db : Trees) → new.may_leave db → AreTablesAt db s
    unopened_over new schema_version.One sound rest rows leaves db may = elim (leaves db may) [
      | inl before ↦ at_before schema_version.One sound rest rows db before
      | inr next ↦
          let same : next.0 ≡ s = one schema_version.One next.0 s old.now.trees next.1.sound sound next.1.rows rows in
          at_tables s sound db next.3 (subst (λ (t : State). RepresentsRows (rows_of t) db) same next.2)
    ]
    unopened_over new schema_version.Two sound rest rows leaves db may = at_before schema_version.Two sound rest rows db (leaves db may)

    -- where none was opened, a crash leaves tables at that state
    pub unopened_at : (new : FileState) (f : Fault) → RestsAt old s → OpenFailedLeaves old new f → (db : Trees) → new.may_leave db → AreTablesAt db s
    unopened_at new f (inl (ed, rest, sound, rows)) leaves db may = unopened_over new ed sound rest rows (leaves.office ed rest).leaves db may
    unopened_at new f (inr (blank, none, is)) leaves db may = elim (leaves.first blank db may) [
      | inl before ↦ inr (subst IsEmpty (sym before) none, is)
      | inr made ↦ subst (AreTablesAt db) (sym is) (at_tables empty_state empty db made.1 made.0)
    ]
