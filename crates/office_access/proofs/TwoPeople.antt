-- Whoever opened a run confirmed none of the records that the run takes, if the rule was on at each act.
use Rattle.std.proofs.Common.{◌≡◌, ◌≢◌, ◌⊎◌, inl, inr, ℕ, zero, suc, ◌+◌, ◌<◌, ◌≤◌, nat_le, ℤ, Bool, true, false, cond, not, ◌&&◌, ◌||◌, List, [], ◌∷◌, ◌++◌, length, Option, Some, None, refl, sym, ap, subst, ◌∙◌, arith, length-append}
use Rattle.std.specs.Prelude.{slice_get}
use Rattle.std.specs.FinMap.{get}
use Rattle.std.specs.List.{find, list_any}
use Rattle.std.specs.Option.{is_none, is_some, option_and_then, option_map, unwrap_or}
use Rattle.std.specs.Str.{bytes_eq}
use Rattle.std.proofs.lemmas.Bool.{cases_lt}
use Rattle.std.proofs.lemmas.Slice.Eq.{bytes_eq-Decides}
use Rattle.office_base.specs.declared.refusal.Refusal.{Refusal}
use Rattle.office_base.specs.declared.refusal.Refusal.TheVariants.{NoRun}
use Rattle.office_records.specs.Conditions.{first_of}
use Rattle.office_records.specs.Disposal.{confirmation_of, is_ended}
use Rattle.office_records.specs.Lists.{edited, is_some_and, numbered, numbers_after}
use Rattle.office_records.specs.Tree.{TreeState, action_of, status_of}
use Rattle.office_records.specs.TextForms.{is_text}
use Rattle.office_records.specs.declared.head.Confirmation.{Confirmation}
use Rattle.office_records.specs.declared.head.Record.{Record}
use Rattle.office_records.specs.declared.status.Status.{Status}
use Rattle.office_records.specs.declared.status.Status.TheVariants as status
use Rattle.office_records.proofs.Places.{length-edited, numbered_edited, numbered_push}
use Rattle.office_rules.specs.Acts.{after, step}
use Rattle.office_rules.specs.Conditions.{refusals_of_open_run}
use Rattle.office_rules.specs.Disposing.{entry_of, is_ready, may_begin, outcome_by, outcome_of, ready_by}
use Rattle.office_rules.specs.Effects.{after_open_run, new_run}
use Rattle.office_rules.specs.Holds.{is_held}
use Rattle.office_rules.specs.Runs.{above_cursor, closed, closed_runs, entries_with, next_ready, open_by, open_run, opened_by, run_day, run_step, statuses_with, step_at, step_of, with_cursor, with_outcomes}
use Rattle.office_rules.specs.Sound.{IsSoundOffice}
use Rattle.office_rules.specs.State.{EntryMap, State, Office, with_office}
use Rattle.office_rules.specs.Steps.{answer_in, by_refusal, stepped}
use Rattle.office_rules.specs.declared.act.Act.{Act}
use Rattle.office_rules.specs.declared.act.Act.TheVariants as act
use Rattle.office_rules.specs.declared.answer.Answer.{Answer}
use Rattle.office_rules.specs.declared.answer.Answer.TheVariants as answer
use Rattle.office_rules.specs.declared.entry.Entry.{Entry}
use Rattle.office_rules.specs.declared.outcome.Outcome.{Outcome}
use Rattle.office_rules.specs.declared.outcome.Outcome.TheVariants as outcome
use Rattle.office_rules.specs.declared.run.Run.{Run}
use Rattle.office_rules.proofs.SoundMaps.{entry_cmp-IsAntisymmetric, entry_total, put_cases}
use Rattle.office_access.specs.Deeds.{AllPermitted, Deed, acts_of}
use Rattle.office_access.specs.Eyes.{forbids, has_part, has_trace, has_trace_anywhere, is_left, is_opener, opener_of}
use Rattle.office_access.specs.Kinds.{is_decision, opening_day}
use Rattle.office_access.specs.Permits.{Permits}
use Rattle.office_access.specs.Rights.{may_carry_out}
use Rattle.office_access.specs.Settings.{signs}
use Rattle.office_access.specs.Signing.{signature_of}
use Rattle.office_access.specs.TwoPeople.{AllKeepApart}
use Rattle.office_access.specs.declared.grants.Grants.{Grants}
use Rattle.office_access.specs.declared.rule.Rule.TheVariants as rule
use Rattle.office_access.specs.declared.trace.Trace.TheVariants as trace
use Rattle.office_access.proofs.Confirmed.{one_act}
use Rattle.office_access.proofs.Ended.{Frame, IsBesideRuns, ended_edited, framed, is_ended_at, left_before, not_ended}
use Rattle.office_access.proofs.Signed.{signed_by}

-- ---- the invariant, of the runs after the first N

pub record Apart (N : ℕ) (runs : List Run) (entries : EntryMap) (tree : TreeState) : Type 0 where
  -- each entry is of a run that is there
  pub there : (run r : ℕ) (e : Entry) → get entries (run, r) ≡ Some e → run ≤ length runs
  -- while a run is open, no record that is left has a confirmation by its opener
  pub held : (it : Run) → N < length runs → numbered runs (length runs) ≡ Some it → it.is_closed ≡ false
      → (r : ℕ) (c : Confirmation) → is_left tree r ≡ true → confirmation_of tree r ≡ Some c → c.by ≢ it.by
  -- and no entry was confirmed by who opened its run
  pub done : (run r : ℕ) (e : Entry) (it : Run) → N < run → get entries (run, r) ≡ Some e → numbered runs run ≡ Some it → e.confirmed_by ≡ it.by → it.by ≡ []

abbrev ApartAt : ℕ → State → Type 0
ApartAt N s = Apart N s.office.runs s.office.entries s.office.tree

-- ---- the run that is open

opened : (count n : ℕ) (o : Option Run) → open_by count o ≡ Some n → (it : Run) × (o ≡ Some it) × (it.is_closed ≡ false) × (n ≡ count)
opened count n None h = absurd cc
opened count n (Some it) h = at it.is_closed refl h
  where
    at : (b : Bool) → it.is_closed ≡ b → cond b None (Some count) ≡ Some n → (x : Run) × (Some it ≡ Some x) × (x.is_closed ≡ false) × (n ≡ count)
    at true is e = absurd cc
    at false is e = (it, refl, is, cc)

opener_is : (s : Office) (it : Run) → numbered s.runs (length s.runs) ≡ Some it → it.is_closed ≡ false → opener_of s ≡ Some it.by
opener_is s it there is_open =
    let run : open_run s ≡ Some (length s.runs) = ap (open_by (length s.runs)) there ∙ ap (λ b. cond b None (Some (length s.runs))) is_open in
    ap (option_map (opened_by s)) run ∙ ap (λ o. Some (unwrap_or (option_map (λ (x : Run). x.by) o) [])) there

-- ---- tests

and_off : (a b : Bool) → (a && b) ≡ false → a ≡ true → b ≡ false
and_off true b h on = h
and_off false b h on = absurd cc

or_off : (a b : Bool) → (a || b) ≡ false → (a ≡ false) × (b ≡ false)
or_off true b h = absurd cc
or_off false b h = (refl, h)

other : (xs ys : List ℕ) → bytes_eq xs ys ≡ false → xs ≢ ys
other xs ys off same = let on : bytes_eq xs ys ≡ true = (bytes_eq-Decides xs ys).1 same in absurd (cc)

passes : (test : ℕ → Bool) (xs : List ℕ) (r : ℕ) → find test xs ≡ Some r → test r ≡ true
passes test [] r h = absurd cc
passes test (x ∷ xs) r h = at (test x) refl h (λ e. passes test xs r e)
  where
    at : (b : Bool) → test x ≡ b → cond b (Some x) (find test xs) ≡ Some r → (find test xs ≡ Some r → test r ≡ true) → test r ≡ true
    at true is e more = let same : x ≡ r = cc in ap test (sym same) ∙ is
    at false is e more = more e

-- ---- what opens a run

any_none : (test : ℕ → Bool) (count from r : ℕ) → list_any test (numbers_after from count) ≡ false → from < r → r ≤ from + count → test r ≡ false
any_none test zero from r h low high = absurd (omega arith)
any_none test (suc count) from r h low high =
    let parts = or_off (test (suc from)) (list_any test (numbers_after (suc from) count)) h in
    elim (cases_lt (suc from) r) [
      | inl after ↦ any_none test count (suc from) r parts.1 after (omega (arith, high))
      | inr here ↦ let same : r ≡ suc from = omega arith in ap test same ∙ parts.0
    ]

place : {A : Type 0} (xs : List A) (i : ℕ) (x : A) → slice_get xs i ≡ Some x → i < length xs
place [] i x h = absurd cc
place (y ∷ xs) zero x h = omega arith
place (y ∷ xs) (suc i) x h = let more = place xs i x h in omega (arith, more)

within : (records : List Record) (r : ℕ) (c : Confirmation) → option_and_then (λ (head : Record). head.confirmation) (numbered records r) ≡ Some c → (0 < r) × (r ≤ 0 + length records)
within records zero c h = absurd cc
within records (suc k) c h = at (slice_get records k) refl h
  where
    at : (o : Option Record) → slice_get records k ≡ o → option_and_then (λ (head : Record). head.confirmation) o ≡ Some c → (0 < suc k) × (suc k ≤ 0 + length records)
    at None is e = absurd cc
    at (Some x) is e = let more = place records k x is in (omega arith, omega (arith, more))

-- nobody who has confirmed opens
none_confirmed : (tree : TreeState) (by : List ℕ) → has_trace_anywhere tree by trace.Confirmation ≡ false → (r : ℕ) (c : Confirmation) → is_left tree r ≡ true → confirmation_of tree r ≡ Some c → c.by ≢ by
none_confirmed tree by none r c left is =
    let at = within tree.records r c is in
    let test : has_trace tree by trace.Confirmation r ≡ false = any_none (has_trace tree by trace.Confirmation) (length tree.records) 0 r none at.0 at.1 in
    let off = and_off (is_left tree r) (is_some_and (confirmation_of tree r) (λ it. bytes_eq it.by by)) test left in
    other c.by by (ap (λ o. is_some_and o (λ (it : Confirmation). bytes_eq it.by by)) (sym is) ∙ off)

opens : (N : ℕ) (s : State) (day : ℤ) (by : List ℕ) → has_trace_anywhere s.office.tree by trace.Confirmation ≡ false → ApartAt N s → ApartAt N (with_office s (after_open_run s.office day by))
opens N s day by none apart =
    let more : length (s.office.runs ++ new_run day by ∷ []) ≡ length s.office.runs + 1 = length-append s.office.runs (new_run day by ∷ []) in
    record {
      there = λ run r e is. let low = apart.there run r e is in omega (arith, low, more);
      held = λ it _ last is_open r c left is.
          elim (numbered_push s.office.runs (new_run day by) it (length (s.office.runs ++ new_run day by ∷ [])) last) [
            | inl old ↦ absurd (past s.office.runs (length (s.office.runs ++ new_run day by ∷ [])) it old (omega (arith, more)))
            | inr new ↦ λ same. none_confirmed s.office.tree by none r c left is (same ∙ ap (λ (x : Run). x.by) (sym new.1))
          ];
      done = λ run r e it high is there.
          elim (numbered_push s.office.runs (new_run day by) it run there) [
            | inl old ↦ apart.done run r e it high is old
            | inr new ↦ let low = apart.there run r e is in absurd (let at : run ≡ length s.office.runs + 1 = new.0 in omega (arith, low, at))
          ];
    }
  where
    past : (xs : List Run) (n : ℕ) (x : Run) → numbered xs n ≡ Some x → length xs < n → ⊥
    past xs zero x h high = absurd cc
    past xs (suc k) x h high = let low = place xs k x h in omega (arith, low, high)

-- ---- what takes a step

closes : (N : ℕ) (s : State) (n : ℕ) → ApartAt N s → Apart N (closed_runs s.office.runs n) s.office.entries s.office.tree
closes N s n apart =
    let same = length-edited s.office.runs n (λ (it : Run). record it { is_closed = true }) in
    record {
      there = λ run r e is. let low = apart.there run r e is in omega (arith, low, same);
      held = λ it high last is_open r c left is.
          let came = numbered_edited s.office.runs n (λ (x : Run). record x { is_closed = true }) it (length (closed_runs s.office.runs n)) last in
          let at : numbered s.office.runs (length s.office.runs) ≡ Some came.0 = ap (numbered s.office.runs) (sym same) ∙ came.1 in
          elim came.2 [
            | inl kept ↦ λ by. apart.held came.0 (omega (arith, high, same)) at (ap (λ (x : Run). x.is_closed) (sym kept) ∙ is_open) r c left is (by ∙ ap (λ (x : Run). x.by) kept)
            | inr changed ↦ let on : it.is_closed ≡ true = ap (λ (x : Run). x.is_closed) changed.1 in absurd (cc)
          ];
      done = λ run r e it high is there.
          let came = numbered_edited s.office.runs n (λ (x : Run). record x { is_closed = true }) it run there in
          let by : it.by ≡ came.0.by = elim came.2 [ inl kept ↦ ap (λ (x : Run). x.by) kept | inr changed ↦ ap (λ (x : Run). x.by) changed.1 ] in
          λ confirmed. by ∙ apart.done run r e came.0 high is came.1 (confirmed ∙ by);
    }

-- a record that a step takes is not ended
ready_left : (s : Office) (day : ℤ) (r : ℕ) → is_ready s day r ≡ true → is_ended_at s.tree.statuses r ≡ false
ready_left s day r h = at (status_of s.tree r) h
  where
    at : (o : Option Status) → ready_by o (may_begin s.tree r day) ≡ true → is_some_and o is_ended ≡ false
    at None h = refl
    at (Some status.Here) h = refl
    at (Some status.Sent) h = refl
    at (Some status.Received) h = refl
    at (Some status.Ended) h = absurd cc

more_ended : (statuses : List Status) (r : ℕ) (o : Option Outcome) → is_ended_at statuses r ≡ false → (q : ℕ) → is_ended_at statuses q ≡ true → is_ended_at (statuses_with statuses r o) q ≡ true
more_ended statuses r None off q on = on
more_ended statuses r (Some outcome.Sent) off q on = ended_edited statuses r q (λ _. status.Sent) off on
more_ended statuses r (Some outcome.Skipped) off q on = on
more_ended statuses r (Some outcome.Destroyed) off q on = ended_edited statuses r q (λ _. status.Ended) off on
more_ended statuses r (Some outcome.Transferred) off q on = ended_edited statuses r q (λ _. status.Ended) off on

-- an entry is the new one, or was there
entry_cases : (entries : EntryMap) (n r : ℕ) (entry : Outcome → Entry) (o : Option Outcome) (run q : ℕ) (e : Entry) → get (entries_with entries n r entry o) (run, q) ≡ Some e
    → ((x : Outcome) × (run ≡ n) × (entry x ≡ e)) ⊎ (get entries (run, q) ≡ Some e)
entry_cases entries n r entry None run q e h = inr h
entry_cases entries n r entry (Some x) run q e h =
    elim (put_cases entry_total entry_cmp-IsAntisymmetric entries (n, r) (entry x) (run, q) e h) [
      | inl new ↦ inl (x, ap (λ (p : ℕ × ℕ). p.0) new.0, new.1)
      | inr old ↦ inr old
    ]

-- who confirmed the record of an entry did not open its run
entry_apart : (s : Office) (run r : ℕ) (x : Outcome) (by : List ℕ) → ((c : Confirmation) → confirmation_of s.tree r ≡ Some c → c.by ≢ by) → (entry_of s run r x).confirmed_by ≡ by → by ≡ []
entry_apart s run r x by apart h = at (confirmation_of s.tree r) refl h
  where
    at : (o : Option Confirmation) → confirmation_of s.tree r ≡ o → unwrap_or (option_map (λ (c : Confirmation). c.by) o) [] ≡ by → by ≡ []
    at None is e = sym e
    at (Some c) is e = absurd (apart c is e)

takes : (N : ℕ) (s : State) (n r : ℕ) (opening : Run) → numbered s.office.runs (length s.office.runs) ≡ Some opening → opening.is_closed ≡ false → n ≡ length s.office.runs → is_ended_at s.office.tree.statuses r ≡ false → ApartAt N s
    → Apart N (with_cursor s.office.runs n r) (entries_with s.office.entries n r (entry_of s.office n r) (outcome_of s.office r)) (record (s.office.tree) { statuses = statuses_with s.office.tree.statuses r (outcome_of s.office r) })
takes N s n r opening last is_open at off apart =
    let same = length-edited s.office.runs n (λ (it : Run). record it { cursor = r }) in
    let before : (q : ℕ) → not (is_ended_at (statuses_with s.office.tree.statuses r (outcome_of s.office r)) q) ≡ true → not (is_ended_at s.office.tree.statuses q) ≡ true
    = λ q left. left_before (is_ended_at s.office.tree.statuses q) (is_ended_at (statuses_with s.office.tree.statuses r (outcome_of s.office r)) q) (more_ended s.office.tree.statuses r (outcome_of s.office r) off q) left in
    record {
      there = λ run q e is. elim (entry_cases s.office.entries n r (entry_of s.office n r) (outcome_of s.office r) run q e is) [
        | inl new ↦ let here : run ≡ n = new.1 in omega (arith, here, at, same)
        | inr old ↦ let low = apart.there run q e old in omega (arith, low, same)
      ];
      held = λ it high end stays q c left is.
          let came = was it (length (with_cursor s.office.runs n r)) end in
          let there : numbered s.office.runs (length s.office.runs) ≡ Some came.0 = ap (numbered s.office.runs) (sym same) ∙ came.1 in
          λ by. apart.held came.0 (omega (arith, high, same)) there (sym came.3 ∙ stays) q c (before q left) is (by ∙ came.2);
      done = λ run q e it high is there.
          let came = was it run there in
          elim (entry_cases s.office.entries n r (entry_of s.office n r) (outcome_of s.office r) run q e is) [
            | inl new ↦
                let here : run ≡ length s.office.runs = new.1 ∙ at in
                let one : numbered s.office.runs (length s.office.runs) ≡ Some came.0 = ap (numbered s.office.runs) (sym here) ∙ came.1 in
                let same_run : opening ≡ came.0 = some_same opening came.0 (sym last ∙ one) in
                λ confirmed.
                came.2
                ∙ entry_apart s.office n r new.0 came.0.by
                (λ c is_confirmed. apart.held came.0 (omega (arith, high, here)) one (ap (λ (x : Run). x.is_closed) (sym same_run) ∙ is_open) r c (ap not off) is_confirmed)
                (ap (λ (x : Entry). x.confirmed_by) new.2 ∙ confirmed ∙ came.2)
            | inr old ↦ λ confirmed. came.2 ∙ apart.done run q e came.0 high old came.1 (confirmed ∙ came.2)
          ];
    }
  where
    some_same : (x y : Run) → Some x ≡ Some y → x ≡ y
    some_same x y h = cc

    was : (it : Run) (k : ℕ) → numbered (with_cursor s.office.runs n r) k ≡ Some it → (x : Run) × (numbered s.office.runs k ≡ Some x) × (it.by ≡ x.by) × (it.is_closed ≡ x.is_closed)
    was it k h =
        let came = numbered_edited s.office.runs n (λ (x : Run). record x { cursor = r }) it k h in
        elim came.2 [
          | inl kept ↦ (came.0, came.1, ap (λ (x : Run). x.by) kept, ap (λ (x : Run). x.is_closed) kept)
          | inr changed ↦ (came.0, came.1, ap (λ (x : Run). x.by) changed.1, ap (λ (x : Run). x.is_closed) changed.1)
        ]

taken : (N : ℕ) (s : State) (n : ℕ) (o : Option ℕ) → open_run s.office ≡ Some n → next_ready s.office n ≡ o → ApartAt N s → ApartAt N (step_at s n o)
unfolding closed with_outcomes
taken N s n None is next apart = closes N s n apart
taken N s n (Some r) is next apart =
    let last = opened (length s.office.runs) n (numbered s.office.runs (length s.office.runs)) is in
    let off = ready_left s.office (run_day s.office n) r (passes (is_ready s.office (run_day s.office n)) (above_cursor s.office n) r next) in
    takes N s n r last.0 last.1 last.2 last.3 off apart

steps : (N : ℕ) (s : State) (o : Option ℕ) → open_run s.office ≡ o → ApartAt N s → ApartAt N (stepped ((NoRun, is_none o) ∷ []) s (answer_in s.office o) (step_of s o)).1
unfolding run_step
steps N s None is apart = apart
steps N s (Some n) is apart = taken N s n (next_ready s.office n) is refl apart

-- ---- each act

-- what a step leaves, if it leaves runs and entries alone
kept : (N : ℕ) (s t : State) → Frame s t
    → ((it : Run) → numbered s.office.runs (length s.office.runs) ≡ Some it → it.is_closed ≡ false → (r : ℕ) (c : Confirmation) → confirmation_of t.office.tree r ≡ Some c → (confirmation_of s.office.tree r ≡ Some c) ⊎ (c.by ≢ it.by))
    → ApartAt N s → ApartAt N t
kept N s t frame confirmations apart =
    subst (λ (runs : List Run). Apart N runs t.office.entries t.office.tree) (sym frame.runs)
    (subst (λ (entries : EntryMap). Apart N s.office.runs entries t.office.tree) (sym frame.entries)
    (record {
      there = apart.there;
      held = λ it high last is_open r c left is. elim (confirmations it last is_open r c is) [
        | inl before ↦ apart.held it high last is_open r c (frame.left r left) before
        | inr apart_now ↦ apart_now
      ];
      done = apart.done;
    }))

-- whoever confirms did not open the run that is open
confirmer_apart : (s : Office) (name : List ℕ) (grants : Grants) (it : Run) → has_part s name grants ≡ false → numbered s.runs (length s.runs) ≡ Some it → it.is_closed ≡ false → name ≢ it.by
confirmer_apart s name grants it none last is_open =
    let opener = opener_is s it last is_open in
    let off = and_off (is_some (opener_of s)) (is_opener s name || may_carry_out grants) none (ap is_some opener) in
    let not_own = (or_off (is_opener s name) (may_carry_out grants) off).0 in
    other name it.by (ap (λ o. is_some_and o (bytes_eq name)) (sym opener) ∙ not_own)

module _ (d : Deed) (s : State) (may : Permits d.settings s.office d.today d.name d.act) (on : d.settings.rules.confirmer_does_not_open ≡ true) where
  -- the rule, at a permitted act
  rule_off : ((is_some (opening_day d.act) && has_trace_anywhere s.office.tree (signs d.settings d.name) trace.Confirmation) || (is_decision d.act && has_part s.office (signs d.settings d.name) may.grants)) ≡ false
  rule_off = and_off d.settings.rules.confirmer_does_not_open _ (may.apart rule.ConfirmerDoesNotOpen) on

  parts : ((is_some (opening_day d.act) && has_trace_anywhere s.office.tree (signs d.settings d.name) trace.Confirmation) ≡ false) × ((is_decision d.act && has_part s.office (signs d.settings d.name) may.grants) ≡ false)
  parts = or_off (is_some (opening_day d.act) && has_trace_anywhere s.office.tree (signs d.settings d.name) trace.Confirmation) (is_decision d.act && has_part s.office (signs d.settings d.name) may.grants) rule_off

  -- a confirmation after the act was there before, or is by a name that did not open the run that is open
  confirmations : (it : Run) → numbered s.office.runs (length s.office.runs) ≡ Some it → it.is_closed ≡ false → (r : ℕ) (c : Confirmation) → confirmation_of (step s d.act).1.office.tree r ≡ Some c → (confirmation_of s.office.tree r ≡ Some c) ⊎ (c.by ≢ it.by)
  confirmations it last is_open r c is = elim (one_act s d.act r c is) [
    | inl before ↦ inl before
    | inr now ↦
        let decides : is_decision d.act ≡ true = ap is_decision now in
        let none = and_off (is_decision d.act) (has_part s.office (signs d.settings d.name) may.grants) parts.1 decides in
        let signed : signs d.settings d.name ≡ c.by = signed_by d s.office c.by may (ap signature_of now) in
        inr (λ same. confirmer_apart s.office (signs d.settings d.name) may.grants it none last is_open (signed ∙ same))
  ]

  beside : (N : ℕ) → IsBesideRuns d.act → ApartAt N s → ApartAt N (step s d.act).1
  beside N is apart = kept N s (step s d.act).1 (framed s d.act is) confirmations apart

opened_run : (N : ℕ) (s : State) (day : ℤ) (by : List ℕ) → has_trace_anywhere s.office.tree by trace.Confirmation ≡ false → ApartAt N s → ApartAt N (step s (act.OpenRun day by)).1
unfolding step
opened_run N s day by none apart = at (first_of (refusals_of_open_run s.office day))
  where
    at : (o : Option Refusal) → ApartAt N (by_refusal o s (answer.Number (suc (length s.office.runs))) (with_office s (after_open_run s.office day by))).1
    at (Some refusal) = apart
    at None = opens N s day by none apart

stepped_run : (N : ℕ) (s : State) → ApartAt N s → ApartAt N (step s act.RunStep).1
unfolding step
stepped_run N s apart = steps N s (open_run s.office) refl apart

other_act : (N : ℕ) (s : State) (d : Deed) (a : Act) → d.act ≡ a → IsBesideRuns a → Permits d.settings s.office d.today d.name d.act → d.settings.rules.confirmer_does_not_open ≡ true → ApartAt N s → ApartAt N (step s a).1
other_act N s d a is beside_runs may on apart =
    subst (λ (x : Act). ApartAt N (step s x).1) is (beside d s may on N (subst IsBesideRuns (sym is) beside_runs) apart)

one_deed : (N : ℕ) (s : State) (d : Deed) (a : Act) → d.act ≡ a → Permits d.settings s.office d.today d.name d.act → d.settings.rules.confirmer_does_not_open ≡ true → ApartAt N s → ApartAt N (step s a).1
one_deed N s d (act.OpenRun day by) is may on apart =
    let off = and_off (is_some (opening_day d.act)) (has_trace_anywhere s.office.tree (signs d.settings d.name) trace.Confirmation) (parts d s may on).0 (ap (λ (x : Act). is_some (opening_day x)) is) in
    let signed : signs d.settings d.name ≡ by = signed_by d s.office by may (ap signature_of is) in
    opened_run N s day by (ap (λ (name : List ℕ). has_trace_anywhere s.office.tree name trace.Confirmation) (sym signed) ∙ off) apart
one_deed N s d act.RunStep is may on apart = stepped_run N s apart
one_deed N s d (act.AddSchedule day code trigger period offset action) is may on apart = other_act N s d _ is tt may on apart
one_deed N s d (act.AddClass day code title schedule) is may on apart = other_act N s d _ is tt may on apart
one_deed N s d (act.SetClassSchedule day class schedule) is may on apart = other_act N s d _ is tt may on apart
one_deed N s d (act.AddAggregation day ref_text title parent class) is may on apart = other_act N s d _ is tt may on apart
one_deed N s d (act.CloseAggregation day n) is may on apart = other_act N s d _ is tt may on apart
one_deed N s d (act.AddRecord day ref_text title originated aggregation class schedule content) is may on apart = other_act N s d _ is tt may on apart
one_deed N s d (act.SetRecordSchedule day n schedule) is may on apart = other_act N s d _ is tt may on apart
one_deed N s d (act.Reclassify day what class) is may on apart = other_act N s d _ is tt may on apart
one_deed N s d (act.Confirm day n named by) is may on apart = other_act N s d _ is tt may on apart
one_deed N s d (act.Review day n schedule by) is may on apart = other_act N s d _ is tt may on apart
one_deed N s d (act.Receipt day n digest by) is may on apart = other_act N s d _ is tt may on apart
one_deed N s d (act.Event day n occurred by) is may on apart = other_act N s d _ is tt may on apart
one_deed N s d (act.PlaceHold day code reason by) is may on apart = other_act N s d _ is tt may on apart
one_deed N s d (act.HoldOn day code target) is may on apart = other_act N s d _ is tt may on apart
one_deed N s d (act.HoldOff day code target) is may on apart = other_act N s d _ is tt may on apart
one_deed N s d (act.LiftHold day code) is may on apart = other_act N s d _ is tt may on apart

-- ---- all deeds

all_deeds : (N : ℕ) (s : State) (deeds : List Deed) → AllPermitted s deeds → AllKeepApart deeds → ApartAt N s → ApartAt N (after s (acts_of deeds))
all_deeds N s [] may on apart = apart
all_deeds N s (d ∷ rest) may on apart = all_deeds N (step s d.act).1 rest may.1 on.1 (one_deed N s d d.act refl may.0 on.0 apart)

starts : (s : State) → IsSoundOffice s.office → ApartAt (length s.office.runs) s
unfolding IsSoundOffice
starts s sound = record {
  there = λ run r e is. (sound.1.names.of_entries run r e is).run_there.1;
  held = λ it high. absurd (omega (arith, high));
  done = λ run r e it high is. let low = (sound.1.names.of_entries run r e is).run_there.1 in absurd (omega (arith, high, low));
}

-- who confirmed is a text, which is not empty
named : (s : Office) (run r : ℕ) (e : Entry) → IsSoundOffice s → get s.entries (run, r) ≡ Some e → e.confirmed_by ≡ [] → ⊥
unfolding IsSoundOffice
named s run r e sound is empty =
    let text : is_text e.confirmed_by ≡ true = (sound.1.limits.entry_forms run r e is).confirmed_by in
    let none : is_text [] ≡ true = ap is_text (sym empty) ∙ text in
    absurd (cc)

pub two_people : (s : State) (deeds : List Deed) (run r : ℕ) (it : Run) (e : Entry) → IsSoundOffice s.office → IsSoundOffice (after s (acts_of deeds)).office → AllPermitted s deeds → AllKeepApart deeds → length s.office.runs < run
    → numbered (after s (acts_of deeds)).office.runs run ≡ Some it → get (after s (acts_of deeds)).office.entries (run, r) ≡ Some e → e.confirmed_by ≢ it.by
two_people s deeds run r it e sound sound_after may on high there is same =
    let apart = all_deeds (length s.office.runs) s deeds may on (starts s sound) in
    named (after s (acts_of deeds)).office run r e sound_after is (same ∙ apart.done run r e it high is there same)
