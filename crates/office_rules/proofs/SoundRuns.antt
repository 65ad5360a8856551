-- An office stays sound where a run is opened, and where one is closed.
use Rattle.std.proofs.Common.{◌≡◌, ◌↔◌, ℕ, ◌<◌, ◌≤◌, ◌≤ℤ◌, ℤ, List, [], ◌∷◌, ◌++◌, length, length-append, Option, Some, None, refl, sym, ap, ◌∙◌, subst, cond, Bool, true, false, inl, inr, arith}
use Rattle.std.specs.Prelude.{IsSome}
use Rattle.std.specs.Option.{is_some}
use Rattle.std.specs.Cmp.{nat_cmp_total}
use Rattle.std.specs.FinMap.{get, insert, nat_cmp-IsAntisymmetric}
use Rattle.std.specs.Int.Signed.{≤ℤ_refl}
use Rattle.office_days.specs.Limits.{IsDayNumber}
use Rattle.office_records.specs.Forms.{IsText}
use Rattle.office_records.specs.Lists.{numbered}
use Rattle.office_records.proofs.Accepting.{none_holds, below}
use Rattle.office_records.proofs.Places.{numbered_push, numbered_edited, length-edited}
use Rattle.office_rules.specs.declared.entry.Entry.{Entry}
use Rattle.office_rules.specs.Conditions.{conditions_of_open_run, refusals_of_open_run}
use Rattle.office_rules.specs.Effects.{after_open_run, new_run}
use Rattle.office_rules.specs.Meanings.{IsAccepted}
use Rattle.office_rules.specs.Runs.{open_run, open_by, closed, closed_runs, certificate_of}
use Rattle.office_rules.specs.Sound.{IsSound, IsWithinLimits, IsWellFormedRun, AllNamesExist, IsNamedEntry, EntriesAgree, RunsAgree, NoDayIsAfter}
use Rattle.office_rules.specs.State.{State, Office, with_office}
use Rattle.office_rules.specs.declared.run.Run.{Run}
use Rattle.office_rules.proofs.Accepted.{dated_accepted}
use Rattle.office_rules.proofs.SoundMaps.{put_here, put_elsewhere, same_or_not, pushed_keeps, pushed_all, edited_here, edited_elsewhere}
use Rattle.office_rules.proofs.SoundParts.{as_many, days_later, events_later}

-- ---- the open run

-- a run that is there and not closed is the open one
open_is : (s : Office) (run : ℕ) (it : Run) → RunsAgree s.runs s.certificates → numbered s.runs run ≡ Some it → it.is_closed ≡ false → open_run s ≡ Some run
open_is s run it runs e going =
    let last = runs.last run it e going in
    ap (λ n. open_by n (numbered s.runs n)) (sym last) ∙ ap (open_by run) e ∙ ap (λ b. cond b None (Some run)) going

-- a run that is the last and not closed
abbrev pub IsOpenIn : List Run → ℕ → Type 0
IsOpenIn runs run = (it : Run) × (numbered runs run ≡ Some it) × (it.is_closed ≡ false) × (run ≡ length runs)

open_if : (n run : ℕ) (b : Bool) → cond b None (Some n) ≡ Some run → (b ≡ false) × (run ≡ n)
open_if n run true e = absurd cc
open_if n run false e = (refl, cc)

open_there_by : (runs : List Run) (run : ℕ) (o : Option Run) → numbered runs (length runs) ≡ o → open_by (length runs) o ≡ Some run → IsOpenIn runs run
open_there_by runs run None e is = absurd cc
open_there_by runs run (Some it) e is = let going = open_if (length runs) run it.is_closed is in (it, ap (numbered runs) going.1 ∙ e, going.0, going.1)

pub open_there : (s : Office) (run : ℕ) → open_run s ≡ Some run → IsOpenIn s.runs run
open_there s run e = open_there_by s.runs run (numbered s.runs (length s.runs)) refl e

-- ---- opening a run

-- an entry is still named where there are more runs
IsNamedEntry-more : (s : State) (more run r : ℕ) (e : Entry) → length s.office.runs ≤ more → IsNamedEntry s.office.tree.schedules s.office.tree.classes s.office.holds (length s.office.runs) (length s.office.tree.records) run r e → IsNamedEntry s.office.tree.schedules s.office.tree.classes s.office.holds more (length s.office.tree.records) run r e
IsNamedEntry-more s more run r e h named = record {
  run_there = (named.run_there.0, omega (arith, named.run_there.1));
  record_there = named.record_there;
  class = named.class;
  schedule = named.schedule;
  hold = named.hold;
}

open_run_limits : (s : State) (day : ℤ) (by : List ℕ) → IsSound s → IsDayNumber day → IsText by → length s.office.runs < 10_000 → IsWithinLimits s.office.tree s.office.holds (s.office.runs ++ new_run day by ∷ []) s.office.entries day
open_run_limits s day by sound form text few = record {
  tree_few = sound.limits.tree_few;
  tree_forms = sound.limits.tree_forms;
  statuses = sound.limits.statuses;
  holds_few = sound.limits.holds_few;
  hold_forms = sound.limits.hold_forms;
  runs_few = omega (arith, few, length-append s.office.runs (new_run day by ∷ []));
  run_forms = pushed_all (λ _ it. IsWellFormedRun it) s.office.runs (new_run day by) sound.limits.run_forms (record { day = form; by = text; cursor = omega arith });
  entry_forms = sound.limits.entry_forms;
  day_form = form;
}

open_run_names : (s : State) (new : Run) → IsSound s → AllNamesExist s.office.tree s.office.holds (s.office.runs ++ new ∷ []) s.office.entries
open_run_names s new sound = record {
  of_tree = sound.names.of_tree;
  of_holds = sound.names.of_holds;
  of_entries = λ run r e there. IsNamedEntry-more s (length (s.office.runs ++ new ∷ [])) run r e (omega (arith, length-append s.office.runs (new ∷ []))) (sound.names.of_entries run r e there);
}

open_run_entries : (s : State) (new : Run) → IsSound s → EntriesAgree s.office.tree.statuses (s.office.runs ++ new ∷ []) s.office.entries
open_run_entries s new sound = record {
  keyed = sound.entries.keyed;
  ended = sound.entries.ended;
  once = sound.entries.once;
  no_other = sound.entries.no_other;
  holds = sound.entries.holds;
  passed = λ run r e it there at. elim (numbered_push s.office.runs new it run at) [
    | inl old ↦ sound.entries.passed run r e it there old
    | inr last ↦ absurd (omega (arith, last.0, (sound.names.of_entries run r e there).run_there.1))
  ];
}

open_run_runs : (s : State) (day : ℤ) (by : List ℕ) → IsSound s → is_some (open_run s.office) ≡ false → RunsAgree (s.office.runs ++ new_run day by ∷ []) s.office.certificates
open_run_runs s day by sound none = record {
  last = λ run it e going. elim (numbered_push s.office.runs (new_run day by) it run e) [
    | inl old ↦ let is : open_run s.office ≡ Some run = open_is s.office run it sound.runs old going in absurd cc
    | inr last ↦ omega (arith, last.0, length-append s.office.runs (new_run day by ∷ []))
  ];
  certified = λ run. (
    λ some. let old = (sound.runs.certified run).0 some in (old.0, pushed_keeps s.office.runs (new_run day by) run old.0 old.1, old.2),
    λ is. elim (numbered_push s.office.runs (new_run day by) is.0 run is.1) [
      | inl old ↦ (sound.runs.certified run).1 (is.0, old, is.2)
      | inr last ↦ let new_is_closed : false ≡ true = ap (λ (it : Run). it.is_closed) last.1 ∙ is.2 in absurd cc
    ],
  );
}

open_run_days : (s : State) (day : ℤ) (by : List ℕ) → IsSound s → s.office.day ≤ℤ day → NoDayIsAfter s.office.tree.aggregations s.office.tree.records s.office.holds (s.office.runs ++ new_run day by ∷ []) day
open_run_days s day by sound up =
    let days = days_later s day sound up in
    record {
      closed = days.closed;
      added = days.added;
      reviewed = days.reviewed;
      confirmed = days.confirmed;
      receipted = days.receipted;
      held = days.held;
      run_days = pushed_all (λ _ it. it.day ≤ℤ day) s.office.runs (new_run day by) days.run_days (≤ℤ_refl day);
    }

pub sound_open_run : (s : State) (day : ℤ) (by : List ℕ) → IsSound s → IsDayNumber day → IsText by → IsAccepted (refusals_of_open_run s.office day) → IsSound (with_office s (after_open_run s.office day by))
sound_open_run s day by sound form text accepted =
    let no = dated_accepted s.office day (conditions_of_open_run s.office) accepted in
    let none = none_holds (conditions_of_open_run s.office) no.1 in
    record {
      limits = open_run_limits s day by sound form text (below (length s.office.runs) 10_000 none.0);
      forest = sound.forest;
      names = open_run_names s (new_run day by) sound;
      closed = sound.closed;
      contents = sound.contents;
      documents = sound.documents;
      entries = open_run_entries s (new_run day by) sound;
      runs = open_run_runs s day by sound none.1.0;
      days = open_run_days s day by sound no.0;
      events = events_later s day sound no.0 (as_many (length s.office.tree.records));
      refs = sound.refs;
    }

-- ---- closing a run

abbrev as_closed : Run → Run
as_closed it = record it { is_closed = true }

closed_limits : (s : State) (run : ℕ) → IsSound s → IsWithinLimits s.office.tree s.office.holds (closed_runs s.office.runs run) s.office.entries s.office.day
closed_limits s run sound = record {
  tree_few = sound.limits.tree_few;
  tree_forms = sound.limits.tree_forms;
  statuses = sound.limits.statuses;
  holds_few = sound.limits.holds_few;
  hold_forms = sound.limits.hold_forms;
  runs_few = omega (arith, sound.limits.runs_few, length-edited s.office.runs run as_closed);
  run_forms = λ n it e.
      let came = numbered_edited s.office.runs run as_closed it n e in
      let old = sound.limits.run_forms n came.0 came.1 in
      elim came.2 [
        | inl same ↦ subst IsWellFormedRun (sym same) old
        | inr changed ↦ subst IsWellFormedRun (sym changed.1) (record { day = old.day; by = old.by; cursor = old.cursor })
      ];
  entry_forms = sound.limits.entry_forms;
  day_form = sound.limits.day_form;
}

closed_names : (s : State) (run : ℕ) → IsSound s → AllNamesExist s.office.tree s.office.holds (closed_runs s.office.runs run) s.office.entries
closed_names s run sound = record {
  of_tree = sound.names.of_tree;
  of_holds = sound.names.of_holds;
  of_entries = λ n r e there. IsNamedEntry-more s (length (closed_runs s.office.runs run)) n r e (omega (arith, length-edited s.office.runs run as_closed)) (sound.names.of_entries n r e there);
}

closed_entries : (s : State) (run : ℕ) → IsSound s → EntriesAgree s.office.tree.statuses (closed_runs s.office.runs run) s.office.entries
closed_entries s run sound = record {
  keyed = sound.entries.keyed;
  ended = sound.entries.ended;
  once = sound.entries.once;
  no_other = sound.entries.no_other;
  holds = sound.entries.holds;
  passed = λ n r e it there at.
      let came = numbered_edited s.office.runs run as_closed it n at in
      let old = sound.entries.passed n r e came.0 there came.1 in
      elim came.2 [
        | inl same ↦ subst (λ (x : Run). r ≤ x.cursor) (sym same) old
        | inr changed ↦ subst (λ (x : Run). r ≤ x.cursor) (sym changed.1) old
      ];
}

closed_days : (s : State) (run : ℕ) → IsSound s → NoDayIsAfter s.office.tree.aggregations s.office.tree.records s.office.holds (closed_runs s.office.runs run) s.office.day
closed_days s run sound = record {
  closed = sound.days.closed;
  added = sound.days.added;
  reviewed = sound.days.reviewed;
  confirmed = sound.days.confirmed;
  receipted = sound.days.receipted;
  held = sound.days.held;
  run_days = λ n it e.
      let came = numbered_edited s.office.runs run as_closed it n e in
      let old = sound.days.run_days n came.0 came.1 in
      elim came.2 [
        | inl same ↦ subst (λ (x : Run). x.day ≤ℤ s.office.day) (sym same) old
        | inr changed ↦ subst (λ (x : Run). x.day ≤ℤ s.office.day) (sym changed.1) old
      ];
}

-- the certificates are those of the closed runs, with that of a run which is now closed
closed_certified : (s : State) (run n : ℕ) (certificate : List ℕ) → IsSound s → IsOpenIn s.office.runs run → IsSome (get (insert s.office.certificates run certificate) n) ↔ ((it : Run) × (numbered (closed_runs s.office.runs run) n ≡ Some it) × (it.is_closed ≡ true))
closed_certified s run n certificate sound is_open =
    let runs = s.office.runs in
    let certificates = s.office.certificates in
    let here : (n ≡ run) → numbered (closed_runs runs run) n ≡ Some (as_closed is_open.0) = λ same. ap (numbered (closed_runs runs run)) same ∙ edited_here runs run as_closed is_open.0 is_open.1 in (
      λ some. elim (same_or_not n run) [
        | inl same ↦ (as_closed is_open.0, here same, refl)
        | inr other ↦
            let old = (sound.runs.certified n).0 (ap is_some (sym (put_elsewhere nat_cmp_total nat_cmp-IsAntisymmetric certificates run certificate n other)) ∙ some) in
            (old.0, edited_elsewhere runs run n as_closed other ∙ old.1, old.2)
      ],
      λ is. elim (same_or_not n run) [
        | inl same ↦ ap (λ k. is_some (get (insert certificates run certificate) k)) same ∙ ap is_some (put_here nat_cmp_total nat_cmp-IsAntisymmetric certificates run certificate)
        | inr other ↦
            ap is_some (put_elsewhere nat_cmp_total nat_cmp-IsAntisymmetric certificates run certificate n other)
            ∙ (sound.runs.certified n).1 (is.0, sym (edited_elsewhere runs run n as_closed other) ∙ is.1, is.2)
      ],
    )

closed_runs_agree : (s : State) (run : ℕ) (certificate : List ℕ) → IsSound s → IsOpenIn s.office.runs run → RunsAgree (closed_runs s.office.runs run) (insert s.office.certificates run certificate)
closed_runs_agree s run certificate sound is_open = record {
  last = λ n it e going.
      let came = numbered_edited s.office.runs run as_closed it n e in
      elim came.2 [
        | inl same ↦ sound.runs.last n came.0 came.1 (ap (λ (x : Run). x.is_closed) (sym same) ∙ going) ∙ sym (length-edited s.office.runs run as_closed)
        | inr changed ↦ let never : true ≡ false = ap (λ (x : Run). x.is_closed) (sym changed.1) ∙ going in absurd cc
      ];
  certified = λ n. closed_certified s run n certificate sound is_open;
}

pub sound_closed : (s : State) (run : ℕ) → IsSound s → open_run s.office ≡ Some run → IsSound (closed s run)
unfolding closed
sound_closed s run sound e = record {
  limits = closed_limits s run sound;
  forest = sound.forest;
  names = closed_names s run sound;
  closed = sound.closed;
  contents = sound.contents;
  documents = sound.documents;
  entries = closed_entries s run sound;
  runs = closed_runs_agree s run (certificate_of s.office run) sound (open_there s.office run e);
  days = closed_days s run sound;
  events = sound.events;
  refs = sound.refs;
}
