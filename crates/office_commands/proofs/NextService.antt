-- At which state a service leaves an office, whatever a crash leaves of the office. What a service may lead to is a
-- parameter: any acts, or what was permitted.
use Rattle.std.proofs.Common.{◌≡◌, ◌⊎◌, inl, inr, ℕ, zero, suc, ◌+◌, IsTrue, Bool, false, List, [], ◌∷◌, ◌++◌, length, take, Option, Some, None, Result, Ok, Err, refl, sym, ap, subst, ◌∙◌}
use Rattle.sqlite.specs.Held.{Held, state}
use Rattle.sqlite.specs.State.{HasCleanDisk}
use Rattle.sqlite_trees.specs.Tree.{Trees}
use Rattle.sqlite_trees.specs.declared.store.Store.{Ghosts}
use Rattle.office_base.specs.declared.output.Io.{Io}
use Rattle.office_rules.specs.Acts.{after as after_acts}
use Rattle.office_rules.specs.Forms.{AreWellFormed}
use Rattle.office_rules.specs.Rows.{rows_of}
use Rattle.office_rules.specs.Runs.{after_steps, candidates, whole}
use Rattle.office_rules.specs.Sound.{IsSound}
use Rattle.office_rules.specs.State.{State}
use Rattle.office_rules.specs.declared.act.Act.{Act}
use Rattle.office_sql.specs.declared.schema_versions.SchemaVersion.{SchemaVersion}
use Rattle.office_sql.specs.declared.schema_versions.SchemaVersion.TheVariants as schema_version
use Rattle.office_sql.specs.Office.{IsAtRestOver}
use Rattle.office_store.specs.RepresentsRows.{ContainsRows, RepresentsRowsIn}
use Rattle.office_store.specs.declared.fault.Fault.{Fault}
use Rattle.office_store.specs.declared.fault.Fault.TheVariants as fault
use Rattle.office_desk.specs.Contents.{IsContentRead}
use Rattle.office_desk.specs.Desk.{DeskState}
use Rattle.office_desk.specs.Leaving.{IsAt, StopsAt, StopsLeaving}
use Rattle.office_desk.specs.Outcomes.{ActsCameTo, ActsLead, ActsOutcome, all_done, stopped}
use Rattle.office_desk.specs.Resumptions.{none_open, run_closed, run_stopped}
use Rattle.office_desk.proofs.Found.{after-append}
use Rattle.office_desk.proofs.StepFates.{after_run, run_steps}
use Rattle.office_json.specs.Lists.{NoActs, acts_in, bad_act, not_json}
use Rattle.office_wire.specs.Answering.{AnyAnswer, PerformsActs, Resumes, Serves}
use Rattle.office_wire.specs.Connections.{TurnBy, TurnsBy}
use Rattle.office_wire.specs.Serving.{LeavesServed}
use Rattle.office_http.specs.Replies.{Response}
use Rattle.office_http.specs.Receiving.{OfficeRequest, acts, cut, refused, requested}
use Rattle.office_http.specs.declared.path_request.PathRequest.TheVariants as path
use Rattle.office_life.specs.Tables.{IsOfficeAt}
use Rattle.office_commands.specs.NextCommand.{IsServedTo, LeavesAt}
use Rattle.office_commands.specs.Opening.{OfficeOpenFailed}
use Rattle.office_commands.specs.Serving.{IsDeskOf, ServiceEnds, ServiceEndsBy}
use Rattle.office_commands.specs.declared.exit.Exit.{Exit}
use Rattle.office_commands.proofs.NextStates.{IsEnded, IsOneDatabase, StaySound, at_rows, at_stop, at_unopened, well_formed_prefix, sound_acts, sound_steps, was_found}
use Rattle.office_commands.proofs.Services.{clean_turn, clean_turns}

pub well_formed_steps : (n : ℕ) → AreWellFormed (run_steps n)
well_formed_steps zero = tt
well_formed_steps (suc n) = (tt, well_formed_steps n)

pub formed-append : (xs ys : List Act) → AreWellFormed xs → AreWellFormed ys → AreWellFormed (xs ++ ys)
formed-append [] ys all more = more
formed-append (x ∷ xs) ys (is, all) more = (is, formed-append xs ys all more)

-- what a service leads to: nothing was done; or one thing after another
pub record Leading (To : State → State → Type 0) : Type 0 where
  pub still : (s : State) → To s s
  pub further : (s t u : State) → To s t → To t u → To s u

-- a request that changes nothing
abbrev pub IsReading : OfficeRequest → Type 0
IsReading (acts body) = ⊥
IsReading (requested path.Resume) = ⊥
IsReading _ = Unit {0}

module _ (To : State → State → Type 0) (leading : Leading To) (stay : StaySound) (ends : IsEnded) (At : Trees → State → Type 0) (office : (db : Trees) (u : State) → IsOfficeAt db u → At db u) {S : Type 0} (g : Ghosts S) where
  -- whatever a crash leaves of it is at a state to which it led
  abbrev pub LeftServed : State → Held S → Type 0
  LeftServed s h = (db : Trees) → (state g h).may_leave db → (u : State) × To s u × At db u

  -- a desk that was served is at a state to which that led; or it must be opened again, and a crash leaves such a state
  abbrev pub ServedAt : State → DeskState S → Type 0
  ServedAt s d = ((u : State) × To s u × IsAt g u d) ⊎ (IsTrue d.is_poisoned × LeftServed s d.connection)

  has_rows : (d : DeskState S) (u : State) → IsSound u → ContainsRows (rows_of u) (state g d.connection) → (db : Trees) → (state g d.connection).may_leave db → At db u
  has_rows d u sound holds db may = office db u (at_rows (state g d.connection) u sound holds db may)

  pub as_it_was : (s : State) (d : DeskState S) → IsAt g s d → ServedAt s d
  as_it_was s d represents = inl (s, leading.still s, represents)

  -- a fault stopped it on the way from one state to another
  stop_served : (s v w : State) → To s v → To s w → IsSound v → IsSound w → (f : Fault) (d : DeskState S) → StopsAt v.office f d → StopsLeaving v w f (state g d.connection) → ServedAt s d
  stop_served s v w to_v to_w sv sw fault.Memory d stops left = inl (v, to_v, record { is_open = stops.1; office = stops.0; sound = sv; rows = left })
  stop_served s v w to_v to_w sv sw fault.Store d stops left = inr (
    stops,
    λ db may. elim (at_stop (state g d.connection) v w fault.Store sv sw left db may) [
      | inl here ↦ (v, to_v, office db v here)
      | inr next ↦ (w, to_w, office db w next)
    ],
  )
  stop_served s v w to_v to_w sv sw fault.Reopen d stops left = inr (stops, λ db may. (w, to_w, has_rows d w sw left db may))
  stop_served s v w to_v to_w sv sw fault.Damaged d stops left = absurd stops
  stop_served s v w to_v to_w sv sw fault.Version d stops left = absurd stops

  module _ (t : State) (sound : IsSound t) (d : DeskState S) where
    pub outcome_served : (done : List Act) → ((n : ℕ) → AreWellFormed done → To t (after_acts t (take n done))) → (AreWellFormed done → To t (after_acts t done)) → (o : ActsOutcome) → ActsLead t done o d → ActsCameTo t done o (state g d.connection) → ServedAt t d
    outcome_served done first all (all_done replies) leads it = inl (after_acts t done, all it.formed, record { is_open = leads.1; office = leads.0; sound = it.leaves.sound; rows = it.leaves.rows })
    outcome_served done first all (stopped replies f) leads it =
        let n = length replies in
        let sound_at = λ (k : ℕ). sound_acts stay (take k done) t sound (well_formed_prefix k done it.formed) in
        stop_served t (after_acts t (take n done)) (after_acts t (take (n + 1) done)) (first n it.formed) (first (n + 1) it.formed) (sound_at n) (sound_at (n + 1)) f d leads it.leaves

    pub run_served : (Reported : Response → Type 0) → ((n : ℕ) → To t (after_steps t n)) → Resumes Reported g t d → ServedAt t d
    run_served Reported first (run_closed run, reported, it) =
        let n = suc (length (candidates t.office run)) in
        inl (whole t run, subst (To t) (ends t run it.fits) (first n), it.leads)
    run_served Reported first (none_open, reported, it) = as_it_was t d it.leads
    run_served Reported first (run_stopped f, reported, it) =
        let n = it.leads.0 in
        stop_served t (after_steps t n) (after_steps t (suc n)) (first n) (first (suc n)) (sound_steps stay n t sound) (sound_steps stay (suc n) t sound) f d it.leads.2 it.leads.3

    unread_served : (r : ℕ) (f : Fault) → IsContentRead g t r (Err f) d → ServedAt t d
    unread_served r fault.Store it = inr (it.ends.poisoned refl, λ db may. (t, leading.still t, office db t (record { schema_version = schema_version.Two; office = it.offices db may; sound = sound; rows = it.leaves db may })))
    unread_served r fault.Memory it = as_it_was t d (it.ends.kept (λ e. cc))
    unread_served r fault.Reopen it = as_it_was t d (it.ends.kept (λ e. cc))
    unread_served r fault.Damaged it = as_it_was t d (it.ends.kept (λ e. cc))
    unread_served r fault.Version it = as_it_was t d (it.ends.kept (λ e. cc))

    pub reading_served : (Reported : Response → Type 0) (it : OfficeRequest) → IsReading it → Serves Reported g t it d → ServedAt t d
    reading_served Reported (refused check) is served = as_it_was t d served.1
    reading_served Reported cut is served = as_it_was t d served.1
    reading_served Reported (acts body) is served = absurd is
    reading_served Reported (requested path.Resume) is served = absurd is
    reading_served Reported (requested (path.Record None)) is served = as_it_was t d served.1
    reading_served Reported (requested (path.Record (Some r))) is served = as_it_was t d served.1
    reading_served Reported (requested (path.Content None)) is served = as_it_was t d served.1
    reading_served Reported (requested (path.Content (Some r))) is (Ok content, reported, it, there) = as_it_was t d it.ends.represents
    reading_served Reported (requested (path.Content (Some r))) is (Err f, reported, it, there) = unread_served r f it
    reading_served Reported (requested (path.Due None)) is served = as_it_was t d served.1
    reading_served Reported (requested (path.Due (Some day))) is served = as_it_was t d served.1
    reading_served Reported (requested (path.Overdue None count)) is served = as_it_was t d served.1
    reading_served Reported (requested (path.Overdue (Some day) None)) is served = as_it_was t d served.1
    reading_served Reported (requested (path.Overdue (Some day) (Some n))) is served = as_it_was t d served.1
    reading_served Reported (requested (path.Certificate None)) is served = as_it_was t d served.1
    reading_served Reported (requested (path.Certificate (Some run))) is served = as_it_was t d served.1

  module _ (Leaves : State → DeskState S → Type 0) (left : (t : State) → IsSound t → (d : DeskState S) → Leaves t d → ServedAt t d) (s : State) where
    after_served : (t : State) (d : DeskState S) → To s t → ServedAt t d → ServedAt s d
    after_served t d to (inl (u, more, represents)) = inl (u, leading.further s t u to more, represents)
    after_served t d to (inr (gone, leaves)) = inr (gone, λ db may. let at = leaves db may in (at.0, leading.further s t at.0 to at.1, at.2))

    turn_served : (status : Result ℕ Io) (old new : DeskState S) → TurnBy Leaves g status old new → HasCleanDisk (state g new.connection) → ServedAt s old → ServedAt s new
    turn_served status old new (inl failed) clean at = subst (ServedAt s) (sym failed.1) at
    turn_served status old new (inr visited) clean (inl (t, to, represents)) =
        after_served t new to (left t represents.sound new (visited.call.did t clean represents))
    turn_served status old new (inr visited) clean (inr (gone, leaves)) = subst (ServedAt s) (sym (visited.kept gone)) (inr (gone, leaves))

    pub turns_served : (n : ℕ) (failed ended : Bool) (old new : DeskState S) → TurnsBy Leaves g n failed ended old new → HasCleanDisk (state g new.connection) → ServedAt s old → ServedAt s new
    unfolding TurnsBy
    turns_served zero failed ended old new turns clean at = subst (ServedAt s) (sym turns.2) at
    turns_served (suc n) failed ended old new (m, earlier, status, turns, turn, ended_so, is) clean at =
        turn_served status m new turn clean (turns_served n earlier false old m turns (clean_turn Leaves g status m new turn clean) at)

  left_at : (s : State) (d : DeskState S) → ServedAt s d → LeftServed s d.connection
  left_at s d (inl (u, to, represents)) db may = (u, to, has_rows d u represents.sound represents.rows db may)
  left_at s d (inr (gone, leaves)) db may = leaves db may

  -- ---- a service

  module _ (old new : Held S) (s : State) (clean : HasCleanDisk (state g new))
      (desk_at : (desk : DeskState S) → HasCleanDisk (state g desk.connection) → IsDeskOf g old desk → IsAt g s desk) (at_unopened : (f : Fault) → OfficeOpenFailed f (state g old) (state g new) → (db : Trees) → (state g new).may_leave db → At db s)
      (Leaves : State → DeskState S → Type 0) (left : (t : State) → IsSound t → (d : DeskState S) → Leaves t d → ServedAt t d) where
    closed_so : (last : DeskState S) → new ≡ last.connection → ServedAt s last → LeftServed s new
    closed_so last same at = subst (LeftServed s) (sym same) (left_at s last at)

    pub service_so : (port count : ℕ) (written after : Option (List ℕ)) (exit : Exit) → ServiceEndsBy Leaves g port count old new written after exit → LeftServed s new
    service_so port count written after exit (inl none) = λ db may. (s, leading.still s, at_unopened none.0 none.2 db may)
    service_so port count written after exit (inr (first, last, of, inl it, same)) =
        let clean_last : HasCleanDisk (state g last.connection) = subst (λ (h : Held S). HasCleanDisk (state g h)) same clean in
        let at = desk_at first (subst (λ (d : DeskState S). HasCleanDisk (state g d.connection)) it.1 clean_last) of in
        closed_so last same (subst (λ (d : DeskState S). ServedAt s d) (sym it.1) (as_it_was s first at))
    service_so port count written after exit (inr (first, last, of, inr (n, failed, ended, reported, turns, few, all, is), same)) =
        let clean_last : HasCleanDisk (state g last.connection) = subst (λ (h : Held S). HasCleanDisk (state g h)) same clean in
        let at = desk_at first (clean_turns Leaves g n failed ended first last turns clean_last) of in
        closed_so last same (turns_served Leaves left s n failed ended first last turns clean_last (as_it_was s first at))

module _ (one : IsOneDatabase) (stay : StaySound) (ends : IsEnded) {S : Type 0} (g : Ghosts S) (old new : Held S) (s : State) (clean : HasCleanDisk (state g new)) (sound : IsSound s) where
  -- the desk that was opened is at the state at which the office was
  pub desk_at : (ed : SchemaVersion) → IsAtRestOver ed (state g old) → RepresentsRowsIn ed (rows_of s) (state g old).now.trees → (desk : DeskState S) → HasCleanDisk (state g desk.connection) → IsDeskOf g old desk → IsAt g s desk
  desk_at ed rest rows desk clean_desk of = of.is_at s (was_found one stay ends (state g old) (state g desk.connection) s clean_desk sound ed rest rows)

  module _ (To : State → State → Type 0) (leading : Leading To) (Leaves : State → DeskState S → Type 0)
      (left : (t : State) → IsSound t → (d : DeskState S) → Leaves t d → ServedAt To leading stay ends IsOfficeAt (λ db u at. at) g t d) where
    pub service_left : (ed : SchemaVersion) → IsAtRestOver ed (state g old) → RepresentsRowsIn ed (rows_of s) (state g old).now.trees → (port count : ℕ) (written after : Option (List ℕ)) (exit : Exit) → ServiceEndsBy Leaves g port count old new written after exit
        → LeavesAt (To s) (state g new)
    service_left ed rest rows port count written after exit it =
        service_so To leading stay ends IsOfficeAt (λ db u at. at) g old new s clean (desk_at ed rest rows) (λ f unopened. at_unopened one stay ends (state g old) (state g new) s clean sound ed f rest rows unopened) Leaves left port count written after exit it

-- ---- a service that anybody may ask: any acts

-- steps of the open run are acts
steps_to : (n : ℕ) (s : State) → IsServedTo s (after_steps s n)
steps_to n s = (run_steps n, well_formed_steps n, sym (after_run n s))

prefix_to : (n : ℕ) (s : State) (done : List Act) → AreWellFormed done → IsServedTo s (after_acts s (take n done))
prefix_to n s done formed = (take n done, well_formed_prefix n done formed, refl)

-- acts after acts are acts
pub acts_lead : Leading IsServedTo
acts_lead = record {
  still = λ s. ([], tt, refl);
  further = λ s t u first more.
      (first.0 ++ more.0, formed-append first.0 more.0 first.1 more.1, more.2 ∙ ap (λ (x : State). after_acts x more.0) first.2 ∙ sym (after-append s first.0 more.0));
}

module _ (stay : StaySound) (ends : IsEnded) (At : Trees → State → Type 0) (office : (db : Trees) (u : State) → IsOfficeAt db u → At db u) {S : Type 0} (g : Ghosts S) (t : State) (sound : IsSound t) (d : DeskState S) where
  abbrev Served : Type 0
  Served = ServedAt IsServedTo acts_lead stay ends At office g t d

  acts_served : (asked : Result (List Act) NoActs) → PerformsActs AnyAnswer g t asked d → Served
  acts_served (Ok done) it = outcome_served IsServedTo acts_lead stay ends At office g t sound d done (λ n formed. prefix_to n t done formed) (λ formed. (done, formed, refl)) it.outcome it.leads it.came
  acts_served (Err not_json) it = as_it_was IsServedTo acts_lead stay ends At office g t d it.1
  acts_served (Err (bad_act place why)) it = as_it_was IsServedTo acts_lead stay ends At office g t d it.1

  as_reading : (it : OfficeRequest) → IsReading it → Serves AnyAnswer g t it d → Served
  as_reading it is served = reading_served IsServedTo acts_lead stay ends At office g t sound d AnyAnswer it is served

  request_served : (it : OfficeRequest) → Serves AnyAnswer g t it d → Served
  request_served (acts body) served = acts_served (acts_in body) served
  request_served (requested path.Resume) served = run_served IsServedTo acts_lead stay ends At office g t sound d AnyAnswer (λ n. steps_to n t) served
  request_served (refused check) served = as_reading (refused check) tt served
  request_served cut served = as_reading cut tt served
  request_served (requested (path.Record r)) served = as_reading (requested (path.Record r)) tt served
  request_served (requested (path.Content r)) served = as_reading (requested (path.Content r)) tt served
  request_served (requested (path.Due day)) served = as_reading (requested (path.Due day)) tt served
  request_served (requested (path.Overdue day n)) served = as_reading (requested (path.Overdue day n)) tt served
  request_served (requested (path.Certificate run)) served = as_reading (requested (path.Certificate run)) tt served

  pub left_served : LeavesServed g t d → Served
  left_served (it, served) = request_served it served
