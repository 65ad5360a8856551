-- An office stays sound over each step of a run.
use Rattle.std.proofs.Common.{◌≡◌, ◌≢◌, ◌↔◌, ℕ, ◌≤◌, ◌≤ℤ◌, List, [], ◌∷◌, length, Option, Some, None, refl, sym, ap, ◌∙◌, subst, true, false, ◌⊎◌, inl, inr, arith}
use Rattle.std.specs.Prelude.{IsSome, IsTrue}
use Rattle.std.specs.Option.{is_some, unwrap_or, option_map}
use Rattle.std.specs.FinMap.{get, insert}
use Rattle.office_records.specs.Lists.{numbered}
use Rattle.office_records.specs.declared.head.Confirmation.{Confirmation}
use Rattle.office_records.specs.declared.head.Record.{Record}
use Rattle.office_records.specs.declared.status.Status.{Status}
use Rattle.office_records.specs.declared.status.Status.TheVariants.{Here, Received, Ended}
use Rattle.office_records.proofs.Places.{numbered_edited, numbered_within, length-edited}
use Rattle.office_rules.specs.EntryForms.{IsWellFormedEntry}
use Rattle.office_rules.specs.Outcomes.{is_ending}
use Rattle.office_rules.specs.declared.entry.Entry.{Entry}
use Rattle.office_rules.specs.declared.outcome.Outcome.{Outcome}
use Rattle.office_rules.specs.declared.outcome.Outcome.TheVariants.{Transferred, Skipped}
use Rattle.office_rules.specs.Disposing.{entry_of, outcome_of}
use Rattle.office_rules.specs.Runs.{open_run, run_step, step_at, next_ready, with_outcomes, statuses_with, contents_with, entries_with, with_cursor}
use Rattle.office_rules.specs.Sound.{IsSound, IsWithinLimits, IsWellFormedRun, AllNamesExist, IsNamedEntry, ContentsAgree, DocumentsAgree, EntriesAgree, RunsAgree, NoDayIsAfter}
use Rattle.office_rules.specs.State.{State, EntryMap}
use Rattle.office_rules.specs.declared.run.Run.{Run}
use Rattle.office_rules.proofs.SoundMaps.{one_there, entry_total, entry_cmp-IsAntisymmetric, put_cases, put_here, put_elsewhere, same_or_not, edited_here, edited_elsewhere}
use Rattle.office_rules.proofs.SoundNewEntry.{new_entry_well_formed, new_entry_named, new_entry_hold}
use Rattle.office_rules.proofs.SoundOutcomes.{status_after, length-statuses_with, status_here, status_elsewhere, ends, ended_by_it, still_received, ContentsAgree-outcome}
use Rattle.office_rules.proofs.SoundRuns.{IsOpenIn, open_there, sound_closed}
use Rattle.office_rules.proofs.SoundTaken.{IsTaken, Taken, taken}

-- the state with an outcome of one record and its entry, and the cursor at it
abbrev pub with_outcome : State → ℕ → ℕ → Option Outcome → State
with_outcome s run r o = record {
  office = record (s.office) {
    tree = record (s.office.tree) { statuses = statuses_with s.office.tree.statuses r o };
    entries = entries_with s.office.entries run r (entry_of s.office run r) o;
    runs = with_cursor s.office.runs run r;
  };
  contents = contents_with s.contents r o;
}

-- ---- the cursor

abbrev to : ℕ → Run → Run
to r it = record it { cursor = r }

-- what is said of runs and does not read the cursor
kept_runs : (P : Run → Type 0) (runs : List Run) (run r : ℕ) → ((it : Run) → P it → P (to r it)) → ((n : ℕ) (it : Run) → numbered runs n ≡ Some it → P it) → (n : ℕ) (it : Run) → numbered (with_cursor runs run r) n ≡ Some it → P it
kept_runs P runs run r keeps all n it e =
    let came = numbered_edited runs run (to r) it n e in
    elim came.2 [
      | inl same ↦ subst P (sym same) (all n came.0 came.1)
      | inr changed ↦ subst P (sym changed.1) (keeps came.0 (all n came.0 came.1))
    ]

-- a run that is there and closed
abbrev IsClosedIn : List Run → ℕ → Type 0
IsClosedIn runs n = (it : Run) × (numbered runs n ≡ Some it) × (it.is_closed ≡ true)

closed_after : (runs : List Run) (run r n : ℕ) → IsClosedIn runs n → IsClosedIn (with_cursor runs run r) n
closed_after runs run r n (it, e, is) = elim (same_or_not n run) [
  | inl same ↦ (to r it, ap (numbered (with_cursor runs run r)) same ∙ edited_here runs run (to r) it (ap (numbered runs) (sym same) ∙ e), is)
  | inr other ↦ (it, edited_elsewhere runs run n (to r) other ∙ e, is)
]

closed_before : (runs : List Run) (run r n : ℕ) → IsClosedIn (with_cursor runs run r) n → IsClosedIn runs n
closed_before runs run r n (it, e, is) =
    let came = numbered_edited runs run (to r) it n e in
    elim came.2 [
      | inl same ↦ (came.0, came.1, ap (λ (x : Run). x.is_closed) (sym same) ∙ is)
      | inr changed ↦ (came.0, came.1, ap (λ (x : Run). x.is_closed) (sym changed.1) ∙ is)
    ]

-- ---- the items of soundness after the outcome of a record that is taken

module _ (s : State) (run r : ℕ) (head : Record) (was : Status) (confirmation : Confirmation) (o : Outcome) (sound : IsSound s) (is_open : IsOpenIn s.office.runs run) (t : IsTaken s run r head was confirmation o) where
  abbrev new_entry : Entry
  new_entry = entry_of s.office run r o

  abbrev new_entries : EntryMap
  new_entries = insert s.office.entries (run, r) new_entry

  abbrev new_statuses : List Status
  new_statuses = statuses_with s.office.tree.statuses r (Some o)

  abbrev new_runs : List Run
  new_runs = with_cursor s.office.runs run r

  -- the record has no entry of this run
  free : (e : Entry) → get s.office.entries (run, r) ≡ Some e → ⊥
  free e there =
      let passed = sound.entries.passed run r e is_open.0 there is_open.1 in
      let cursor = ap (λ o. unwrap_or (option_map (λ (it : Run). it.cursor) o) 0) is_open.1 in
      absurd (omega (arith, passed, cursor, t.above))

  old_stays : (a q : ℕ) (e : Entry) → get s.office.entries (a, q) ≡ Some e → get new_entries (a, q) ≡ Some e
  old_stays a q e there = put_elsewhere entry_total entry_cmp-IsAntisymmetric s.office.entries (run, r) new_entry (a, q) (λ same. free e (ap (get s.office.entries) (sym same) ∙ there)) ∙ there

  came_entry : (a q : ℕ) (e : Entry) → get new_entries (a, q) ≡ Some e → ((a ≡ run) × (q ≡ r) × (new_entry ≡ e)) ⊎ (get s.office.entries (a, q) ≡ Some e)
  came_entry a q e there = elim (put_cases entry_total entry_cmp-IsAntisymmetric s.office.entries (run, r) new_entry (a, q) e there) [
    | inl new ↦ inl (ap (λ (k : ℕ × ℕ). k.0) new.0, ap (λ (k : ℕ × ℕ). k.1) new.0, new.1)
    | inr old ↦ inr old
  ]

  -- what is said of the entries and of the new one
  all_entries : (P : ℕ → ℕ → Entry → Type 0) → ((a q : ℕ) (e : Entry) → get s.office.entries (a, q) ≡ Some e → P a q e) → P run r new_entry → (a q : ℕ) (e : Entry) → get new_entries (a, q) ≡ Some e → P a q e
  all_entries P all here a q e there = elim (came_entry a q e there) [
    | inl new ↦ subst (λ (x : Entry). P a q x) new.2 (subst (λ (n : ℕ). P a n new_entry) (sym new.1) (subst (λ (n : ℕ). P n r new_entry) (sym new.0) here))
    | inr old ↦ all a q e old
  ]

  -- a number at which a record was ended is not that of the record
  not_this : (q : ℕ) → numbered s.office.tree.statuses q ≡ Some Ended → q ≢ r
  not_this q e same = t.not_ended (one_there (numbered s.office.tree.statuses r) was Ended t.status (ap (numbered s.office.tree.statuses) (sym same) ∙ e))

  few_enough : r ≤ 4_294_967_295
  few_enough = omega (arith, (numbered_within s.office.tree.records r head t.there).1, sound.limits.tree_few.records_few)

  step_limits : IsWithinLimits (record (s.office.tree) { statuses = new_statuses }) s.office.holds new_runs new_entries s.office.day
  step_limits = record {
    tree_few = sound.limits.tree_few;
    tree_forms = record {
      schedules = sound.limits.tree_forms.schedules;
      classes = sound.limits.tree_forms.classes;
      aggregations = sound.limits.tree_forms.aggregations;
      records = sound.limits.tree_forms.records;
      events = sound.limits.tree_forms.events;
    };
    statuses = length-statuses_with s.office.tree.statuses r o ∙ sound.limits.statuses;
    holds_few = sound.limits.holds_few;
    hold_forms = sound.limits.hold_forms;
    runs_few = omega (arith, sound.limits.runs_few, length-edited s.office.runs run (to r));
    run_forms = kept_runs IsWellFormedRun s.office.runs run r (λ it h. record { day = h.day; by = h.by; cursor = few_enough }) sound.limits.run_forms;
    entry_forms = all_entries (λ a q e. IsWellFormedEntry e) sound.limits.entry_forms (new_entry_well_formed s run r head was confirmation o sound t);
    day_form = sound.limits.day_form;
  }

  step_names : AllNamesExist (record (s.office.tree) { statuses = new_statuses }) s.office.holds new_runs new_entries
  step_names =
      let named : ℕ → ℕ → ℕ → Entry → Type 0 = λ count a q e. IsNamedEntry s.office.tree.schedules s.office.tree.classes s.office.holds count (length s.office.tree.records) a q e in
      record {
        of_tree = sound.names.of_tree;
        of_holds = sound.names.of_holds;
        of_entries = λ a q e there.
            subst (λ (count : ℕ). named count a q e) (sym (length-edited s.office.runs run (to r)))
            (all_entries (named (length s.office.runs)) sound.names.of_entries (new_entry_named s run r head was confirmation o sound t is_open) a q e there);
      }

  step_contents : ContentsAgree new_statuses (contents_with s.contents r (Some o))
  step_contents = ContentsAgree-outcome s.office.tree.statuses s.contents r was o t.status t.not_ended sound.contents

  step_confirmed : (q : ℕ) (it : Record) (now : Status) → numbered s.office.tree.records q ≡ Some it → numbered new_statuses q ≡ Some now → now ≢ Here → IsSome it.confirmation
  step_confirmed q it now e is away = elim (same_or_not q r) [
    | inl same ↦ ap (λ (x : Record). is_some x.confirmation) (one_there (numbered s.office.tree.records r) it head (ap (numbered s.office.tree.records) (sym same) ∙ e) t.there) ∙ ap is_some t.confirmed
    | inr other ↦ sound.documents.confirmed q it now e (sym (status_elsewhere s.office.tree.statuses r q o other) ∙ is) away
  ]

  -- the status of the record after its outcome
  now_is : (q : ℕ) (now : Status) → q ≡ r → numbered new_statuses q ≡ Some now → status_after was o ≡ now
  now_is q now same is =
      one_there (numbered new_statuses r) (status_after was o) now (status_here s.office.tree.statuses r was o t.status) (ap (numbered new_statuses) (sym same) ∙ is)

  step_received : (q : ℕ) (it : Record) → numbered s.office.tree.records q ≡ Some it → numbered new_statuses q ≡ Some Received → IsSome it.receipt
  step_received q it e is = elim (same_or_not q r) [
    | inl same ↦ sound.documents.received r it (ap (numbered s.office.tree.records) (sym same) ∙ e) (t.status ∙ ap Some (still_received was o (now_is q Received same is)))
    | inr other ↦ sound.documents.received q it e (sym (status_elsewhere s.office.tree.statuses r q o other) ∙ is)
  ]

  step_documents : DocumentsAgree s.office.tree.records new_statuses new_entries
  step_documents = record {
    confirmed = step_confirmed;
    disposal = sound.documents.disposal;
    received = step_received;
    transferred = λ a q e it there. all_entries (λ a q e. e.outcome ≡ Transferred → numbered s.office.tree.records q ≡ Some it → IsSome it.receipt)
        (λ a q e old out at. sound.documents.transferred a q e it old out at)
        (λ out at. sound.documents.received r it at (t.status ∙ ap Some (t.received out))) a q e there;
  }

  step_ended : (q : ℕ) → numbered new_statuses q ≡ Some Ended → (a : ℕ) × (e : Entry) × (get new_entries (a, q) ≡ Some e) × IsTrue (is_ending e.outcome)
  step_ended q is = elim (same_or_not q r) [
    | inl same ↦ (run, new_entry, ap (λ (n : ℕ). get new_entries (run, n)) same ∙ put_here entry_total entry_cmp-IsAntisymmetric s.office.entries (run, r) new_entry, ended_by_it was o t.not_ended (now_is q Ended same is))
    | inr other ↦ let old = sound.entries.ended q (sym (status_elsewhere s.office.tree.statuses r q o other) ∙ is) in (old.0, old.1, old_stays old.0 q old.1 old.2, old.3)
  ]

  step_once : (a b q : ℕ) (e f : Entry) → get new_entries (a, q) ≡ Some e → get new_entries (b, q) ≡ Some f → IsTrue (is_ending e.outcome) → IsTrue (is_ending f.outcome) → a ≡ b
  step_once a b q e f one other first second = elim (came_entry a q e one) [
    | inl new ↦ elim (came_entry b q f other) [
      | inl again ↦ new.0 ∙ sym again.0
      | inr old ↦ absurd (not_this q (sound.entries.no_other b q f old second) new.1)
    ]
    | inr old ↦ elim (came_entry b q f other) [
      | inl new ↦ absurd (not_this q (sound.entries.no_other a q e old first) new.1)
      | inr older ↦ sound.entries.once a b q e f old older first second
    ]
  ]

  passed_old : (it : Run) (a q : ℕ) (e : Entry) → get s.office.entries (a, q) ≡ Some e → numbered new_runs a ≡ Some it → q ≤ it.cursor
  passed_old it a q e there at =
      let came = numbered_edited s.office.runs run (to r) it a at in
      let passed = sound.entries.passed a q e came.0 there came.1 in
      elim came.2 [
        | inl same ↦ subst (λ (x : Run). q ≤ x.cursor) (sym same) passed
        | inr changed ↦
            let cursor = ap (λ o. unwrap_or (option_map (λ (x : Run). x.cursor) o) 0) (ap (numbered s.office.runs) (sym changed.0) ∙ came.1) in
            subst (λ (x : Run). q ≤ x.cursor) (sym changed.1) (omega (arith, passed, cursor, t.above))
      ]

  passed_new : (it : Run) → numbered new_runs run ≡ Some it → r ≤ it.cursor
  passed_new it at =
      let same = one_there (numbered new_runs run) (to r is_open.0) it (edited_here s.office.runs run (to r) is_open.0 is_open.1) at in
      subst (λ (x : Run). r ≤ x.cursor) same (omega arith)

  step_passed : (a q : ℕ) (e : Entry) (it : Run) → get new_entries (a, q) ≡ Some e → numbered new_runs a ≡ Some it → q ≤ it.cursor
  step_passed a q e it there at = all_entries (λ a q e. numbered new_runs a ≡ Some it → q ≤ it.cursor) (passed_old it) (passed_new it) a q e there at

  step_entries : EntriesAgree new_statuses new_runs new_entries
  step_entries = record {
    keyed = all_entries (λ a q e. (e.run ≡ a) × (e.record_no ≡ q)) sound.entries.keyed (refl, refl);
    ended = step_ended;
    once = step_once;
    no_other = all_entries (λ a q e. IsTrue (is_ending e.outcome) → numbered new_statuses q ≡ Some Ended)
        (λ a q e old ending. let ended = sound.entries.no_other a q e old ending in status_elsewhere s.office.tree.statuses r q o (not_this q ended) ∙ ended)
        (λ ending. status_here s.office.tree.statuses r was o t.status ∙ ap Some (ends was o ending));
    holds = all_entries (λ a q e. IsSome e.hold ↔ (e.outcome ≡ Skipped)) sound.entries.holds (new_entry_hold s run r head was confirmation o sound t);
    passed = step_passed;
  }

  step_runs : RunsAgree new_runs s.office.certificates
  step_runs = record {
    last = λ n it e going.
        let came = numbered_edited s.office.runs run (to r) it n e in
        let was_going : came.0.is_closed ≡ false = elim came.2 [
          | inl same ↦ ap (λ (x : Run). x.is_closed) (sym same) ∙ going
          | inr changed ↦ ap (λ (x : Run). x.is_closed) (sym changed.1) ∙ going
        ] in
        sound.runs.last n came.0 came.1 was_going ∙ sym (length-edited s.office.runs run (to r));
    certified = λ n. (λ some. closed_after s.office.runs run r n ((sound.runs.certified n).0 some), λ is. (sound.runs.certified n).1 (closed_before s.office.runs run r n is));
  }

  step_days : NoDayIsAfter s.office.tree.aggregations s.office.tree.records s.office.holds new_runs s.office.day
  step_days = record {
    closed = sound.days.closed;
    added = sound.days.added;
    reviewed = sound.days.reviewed;
    confirmed = sound.days.confirmed;
    receipted = sound.days.receipted;
    held = sound.days.held;
    run_days = kept_runs (λ it. it.day ≤ℤ s.office.day) s.office.runs run r (λ it h. h) sound.days.run_days;
  }

  sound_outcome : IsSound (with_outcome s run r (Some o))
  sound_outcome = record {
    limits = step_limits;
    forest = sound.forest;
    names = step_names;
    closed = sound.closed;
    contents = step_contents;
    documents = step_documents;
    entries = step_entries;
    runs = step_runs;
    days = step_days;
    events = sound.events;
    refs = sound.refs;
  }

-- ---- the step

outcomes_are : (s : State) (run r : ℕ) → with_outcomes s run (r ∷ []) ≡ with_outcome s run r (outcome_of s.office r)
unfolding with_outcomes
outcomes_are s run r = refl

sound_next : (s : State) (run r : ℕ) → IsSound s → IsOpenIn s.office.runs run → Taken s run r → IsSound (with_outcomes s run (r ∷ []))
sound_next s run r sound is_open (head, was, confirmation, o, t) =
    subst IsSound (sym (outcomes_are s run r ∙ ap (with_outcome s run r) t.comes)) (sound_outcome s run r head was confirmation o sound is_open t)

sound_at : (s : State) (run : ℕ) (next : Option ℕ) → IsSound s → open_run s.office ≡ Some run → next_ready s.office run ≡ next → IsSound (step_at s run next)
sound_at s run None sound e next = sound_closed s run sound e
sound_at s run (Some r) sound e next = sound_next s run r sound (open_there s.office run e) (taken s run r sound next)

pub sound_run_step : (s : State) (run : ℕ) → IsSound s → open_run s.office ≡ Some run → IsSound (run_step s run)
unfolding run_step
sound_run_step s run sound e = sound_at s run (next_ready s.office run) sound e refl
