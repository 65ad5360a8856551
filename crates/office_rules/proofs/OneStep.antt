-- One step of a run: what it leaves of the other records, which candidates are left, and that the outcomes of one and
-- then of others are those of all.
use Rattle.std.proofs.Common.{◌≡◌, ◌≢◌, ℕ, ◌+◌, ◌-◌, ◌<◌, Bool, List, [], ◌∷◌, length, Option, Some, None, filter, refl, sym, ap, ◌∙◌, subst, arith, ℤ}
use Rattle.std.specs.Prelude.{slice_get}
use Rattle.office_records.specs.Lists.{numbered, numbers_after}
use Rattle.office_records.specs.Tree.{action_of}
use Rattle.office_records.specs.declared.status.Status.{Status}
use Rattle.office_rules.specs.Holds.{is_held}
use Rattle.office_rules.specs.declared.outcome.Outcome.{Outcome}
use Rattle.office_rules.specs.declared.outcome.Outcome.TheVariants as outcome
use Rattle.office_rules.specs.Disposing.{is_ready, outcome_of, entry_of, ready_by, outcome_by, may_begin}
use Rattle.office_rules.specs.Runs.{run_day, cursor_of, above_cursor, candidates, statuses_with, contents_with, entries_with, all_statuses, all_contents, all_entries, with_cursor, cursor_at_last, with_outcomes, closed, next_ready, step_at, run_step, open_run}
use Rattle.office_rules.specs.State.{State, Office, EntryMap, ByteMap}
use Rattle.office_rules.proofs.OpenRun.{run_day_kept, cursor_moved, opened}
use Rattle.office_rules.proofs.Places.{numbered_other}
use Rattle.office_rules.proofs.Rising.{AllAfter, AllAfter-filter, AllAfter-numbers, filter_after, IsFirst, first_of_filter, find-filter}

-- ---- one record's outcome leaves the others' statuses

pub statuses_other : (statuses : List Status) (c r : ℕ) (o : Option Outcome) → c ≢ r → numbered (statuses_with statuses c o) r ≡ numbered statuses r
statuses_other statuses c r None h = refl
statuses_other statuses c r (Some outcome.Sent) h = numbered_other statuses c r _ h
statuses_other statuses c r (Some outcome.Skipped) h = refl
statuses_other statuses c r (Some outcome.Destroyed) h = numbered_other statuses c r _ h
statuses_other statuses c r (Some outcome.Transferred) h = numbered_other statuses c r _ h

apart : (c r : ℕ) → c < r → c ≢ r
apart c r h e = omega (arith, h, e)

-- class, plan, start, due day, hold and confirmation are read from parts that an outcome does not write
outcome_other : (s : State) (run c r : ℕ) → c < r → outcome_of (with_outcomes s run (c ∷ [])).office r ≡ outcome_of s.office r
unfolding with_outcomes
outcome_other s run c r h = ap (λ status. outcome_by status (action_of s.office.tree r) (is_held s.office.holds s.office.tree r)) (statuses_other s.office.tree.statuses c r (outcome_of s.office c) (apart c r h))

ready_other : (s : State) (run c r : ℕ) (day : ℤ) → c < r → is_ready (with_outcomes s run (c ∷ [])).office day r ≡ is_ready s.office day r
unfolding with_outcomes
ready_other s run c r day h = ap (λ status. ready_by status (may_begin s.office.tree r day)) (statuses_other s.office.tree.statuses c r (outcome_of s.office c) (apart c r h))

entry_other : (s : State) (run c r : ℕ) → entry_of (with_outcomes s run (c ∷ [])).office run r ≡ entry_of s.office run r
unfolding with_outcomes
entry_other s run c r = refl

-- ---- the outcomes of c, and then those of the others, are the outcomes of all at once

all_statuses_other : (s : State) (run c : ℕ) (rs : List ℕ) (statuses : List Status) → AllAfter c rs → all_statuses (with_outcomes s run (c ∷ [])).office rs statuses ≡ all_statuses s.office rs statuses
all_statuses_other s run c [] statuses a = refl
all_statuses_other s run c (r ∷ rs) statuses (m, a) =
    ap (λ o. all_statuses (with_outcomes s run (c ∷ [])).office rs (statuses_with statuses r o)) (outcome_other s run c r m)
    ∙ all_statuses_other s run c rs (statuses_with statuses r (outcome_of s.office r)) a

all_contents_other : (s : State) (run c : ℕ) (rs : List ℕ) (contents : ByteMap) → AllAfter c rs → all_contents (with_outcomes s run (c ∷ [])).office rs contents ≡ all_contents s.office rs contents
all_contents_other s run c [] contents a = refl
all_contents_other s run c (r ∷ rs) contents (m, a) =
    ap (λ o. all_contents (with_outcomes s run (c ∷ [])).office rs (contents_with contents r o)) (outcome_other s run c r m)
    ∙ all_contents_other s run c rs (contents_with contents r (outcome_of s.office r)) a

all_entries_other : (s : State) (run c : ℕ) (rs : List ℕ) (entries : EntryMap) → AllAfter c rs → all_entries (with_outcomes s run (c ∷ [])).office run rs entries ≡ all_entries s.office run rs entries
all_entries_other s run c [] entries a = refl
all_entries_other s run c (r ∷ rs) entries (m, a) =
    ap (λ o. all_entries (with_outcomes s run (c ∷ [])).office run rs (entries_with entries run r (entry_of (with_outcomes s run (c ∷ [])).office run r) o)) (outcome_other s run c r m)
    ∙ ap (λ e. all_entries (with_outcomes s run (c ∷ [])).office run rs (entries_with entries run r e (outcome_of s.office r))) (entry_other s run c r)
    ∙ all_entries_other s run c rs (entries_with entries run r (entry_of s.office run r) (outcome_of s.office r)) a

pub outcomes_join : (s : State) (run c : ℕ) (rs : List ℕ) → AllAfter c rs → with_outcomes (with_outcomes s run (c ∷ [])) run rs ≡ with_outcomes s run (c ∷ rs)
unfolding with_outcomes
outcomes_join s run c rs a = λ i. record {
  office = record (s.office) {
    tree = record (s.office.tree) { statuses = all_statuses_other s run c rs (statuses_with s.office.tree.statuses c (outcome_of s.office c)) a i };
    entries = all_entries_other s run c rs (entries_with s.office.entries run c (entry_of s.office run c) (outcome_of s.office c)) a i;
    runs = cursor_at_last (with_cursor s.office.runs run c) run rs;
  };
  contents = all_contents_other s run c rs (contents_with s.contents c (outcome_of s.office c)) a i;
}

pub outcomes_none : (s : State) (run : ℕ) → with_outcomes s run [] ≡ s
unfolding with_outcomes
outcomes_none s run = refl

-- ---- the candidates after one step are the others

pub candidates_rest : (s : State) (run c : ℕ) (rest : List ℕ) → open_run s.office ≡ Some run → candidates s.office run ≡ c ∷ rest → (candidates (with_outcomes s run (c ∷ [])).office run ≡ rest) × AllAfter c rest
unfolding candidates with_outcomes
candidates_rest s run c rest is_open e =
    let o = opened s run is_open in
    let s1 : State = with_outcomes s run (c ∷ []) in
    let count : ℕ = length s.office.tree.records in
    let from : ℕ = cursor_of s.office run in
    let test : ℕ → Bool = is_ready s.office (run_day s.office run) in
    let f : IsFirst test from (count - from) c rest = first_of_filter test from (count - from) c rest e in
    let left : from + (count - from) - c ≡ count - c = omega arith in
    let rest_is : filter test (numbers_after c (count - c)) ≡ rest = ap (λ k. filter test (numbers_after c k)) (sym left) ∙ f.rest_is in (
      ap (λ k. filter (is_ready s1.office (run_day s1.office run)) (numbers_after k (count - k))) (cursor_moved s run c o.it o.there)
          ∙ ap (λ d. filter (is_ready s1.office d) (numbers_after c (count - c))) (run_day_kept s run c)
          ∙ filter_after (is_ready s1.office (run_day s.office run)) test c (numbers_after c (count - c)) (AllAfter-numbers c (count - c)) (λ r h. ready_other s run c r (run_day s.office run) h)
          ∙ rest_is,
      subst (AllAfter c) rest_is (AllAfter-filter test c _ (AllAfter-numbers c (count - c))),
    )

-- ---- a step, by the candidates

-- the next ready record is the first candidate
pub next_is : (s : Office) (run : ℕ) → next_ready s run ≡ slice_get (candidates s run) 0
unfolding candidates
next_is s run = find-filter (is_ready s (run_day s run)) (above_cursor s run)

pub step_some : (s : State) (run c : ℕ) (rest : List ℕ) → candidates s.office run ≡ c ∷ rest → run_step s run ≡ with_outcomes s run (c ∷ [])
unfolding run_step
step_some s run c rest e = ap (step_at s run) (next_is s.office run ∙ ap (λ xs. slice_get xs 0) e)

pub step_none : (s : State) (run : ℕ) → candidates s.office run ≡ [] → run_step s run ≡ closed s run
unfolding run_step
step_none s run e = ap (step_at s run) (next_is s.office run ∙ ap (λ xs. slice_get xs 0) e)
