-- Each line of a run's certificate is true of its step, and each step has its line.
use Rattle.std.proofs.Common.{◌≡◌, ◌≢◌, ◌⊎◌, inl, inr, ℕ, suc, ◌<◌, ◌≤◌, ℤ, true, false, List, [], length, take, Option, Some, None, refl, sym, ap, subst, ◌∙◌, arith, unwrap_or, option_map, option_and_then, pos}
use Rattle.std.specs.Prelude.{IsSome, IsTrue, slice_get}
use Rattle.std.specs.Option.{is_some}
use Rattle.std.specs.FinMap.{get}
use Rattle.office_records.specs.Disposal.{confirmation_of}
use Rattle.office_records.specs.Lists.{numbered}
use Rattle.office_records.specs.Tree.{class_of, plan_of}
use Rattle.office_records.specs.declared.head.Confirmation.{Confirmation}
use Rattle.office_records.specs.declared.head.Record.{Record}
use Rattle.office_records.specs.declared.status.Status.{Status}
use Rattle.office_records.specs.declared.status.Status.TheVariants as status
use Rattle.office_records.proofs.Places.{numbered_within}
use Rattle.office_rules.specs.Disposing.{entry_of}
use Rattle.office_rules.specs.Forms.{AreWellFormed}
use Rattle.office_rules.specs.Outcomes.{is_ending}
use Rattle.office_rules.specs.Runs.{run_day}
use Rattle.office_rules.specs.Sound.{IsSound}
use Rattle.office_rules.specs.State.{State}
use Rattle.office_rules.specs.declared.act.Act.{Act}
use Rattle.office_rules.specs.declared.answer.Answer.{Answer}
use Rattle.office_rules.specs.declared.answer.Answer.TheVariants as answer
use Rattle.office_rules.specs.declared.entry.Entry.{Entry}
use Rattle.office_rules.specs.declared.outcome.Outcome.{Outcome}
use Rattle.office_rules.specs.declared.run.Run.{Run}
use Rattle.office_rules.proofs.Repeating.{reported_again}
use Rattle.office_rules.proofs.SoundMaps.{is_there, one_there}
use Rattle.office_rules.proofs.SoundPlans.{class_there, numbered_there, plan_there}
use Rattle.office_rules.proofs.SoundTaken.{taken}
use Rattle.office_evidence.specs.History.{IsStepAt, before}
use Rattle.office_evidence.specs.Truth.{IsRecorded, IsTrueLine, IsWarranted, WasAdded}
use Rattle.office_evidence.proofs.ActKinds.{kind_of}
use Rattle.office_evidence.proofs.ActKinds.Kind.{adds, closes, opens, quiet, takes}
use Rattle.office_evidence.proofs.Adding.{answers_get, stays_as_added, taken_get}
use Rattle.office_evidence.proofs.Coming.{DidAdd, DidTake, record_comes, taken_by}
use Rattle.office_evidence.proofs.Lasting.{HasEntry, HasHead, HasRecords, HasRun, entry_lasts, head_lasts}
use Rattle.office_evidence.proofs.Places.{answered_at, came, done_at, lasts_from, next_at, sound_at}
use Rattle.office_evidence.proofs.Viewed.{line_by}
use Rattle.office_evidence.proofs.Warrants.{warranted}

-- ---- small facts

some_of : {A : Type 0} (o : Option A) (x d : A) → o ≡ Some x → o ≡ Some (unwrap_or o d)
some_of None x d is = absurd cc
some_of (Some y) x d is = refl

none_or_some : {A : Type 0} (o : Option A) → (o ≡ None) ⊎ ((x : A) × (o ≡ Some x))
none_or_some None = inl refl
none_or_some (Some x) = inr (x, refl)

ended_or : (it : Status) → (it ≡ status.Ended) ⊎ (it ≢ status.Ended)
ended_or status.Here = inr (λ e. absurd cc)
ended_or status.Sent = inr (λ e. absurd cc)
ended_or status.Received = inr (λ e. absurd cc)
ended_or status.Ended = inl refl

-- an ended record has no content
pub ended_gone : (s : State) (r : ℕ) → IsSound s → numbered s.office.tree.statuses r ≡ Some status.Ended → get s.contents r ≡ None
ended_gone s r sound ended = elim (none_or_some (get s.contents r)) [
  | inl none ↦ none
  | inr some ↦
      let it = (sound.contents r).0 (is_there (get s.contents r) some.0 some.1) in
      absurd (it.2 (one_there (numbered s.office.tree.statuses r) it.0 status.Ended it.1 ended))
]

-- and a record without content is ended
pub gone_ended : (s : State) (r : ℕ) → IsSound s → 0 < r → r ≤ length s.office.tree.statuses → get s.contents r ≡ None → numbered s.office.tree.statuses r ≡ Some status.Ended
gone_ended s r sound low high none =
    let it = numbered_there s.office.tree.statuses r low high in
    elim (ended_or it.0) [
      | inl is ↦ it.1 ∙ ap (λ (x : Status). Some x) is
      | inr alive ↦
          let some : IsSome (get s.contents r) = (sound.contents r).1 (it.0, it.1, alive) in
          let no : false ≡ true = sym (ap is_some none) ∙ some in
          absurd cc
    ]

module _ (s : State) (acts : List Act) (sound : IsSound s) (formed : AreWellFormed acts) where
  -- an entry that is written at a place is there at each later one
  pub written_since : (run r j n : ℕ) (e : Entry) (a : Act) → slice_get acts j ≡ Some a → DidTake run r e (before s acts j) a → j < n → get (before s acts n).office.entries (run, r) ≡ Some e
  written_since run r j n e a at did low =
      lasts_from (HasEntry run r e) (entry_lasts run r e) s acts (suc j) n (omega arith) sound formed
      (subst (HasEntry run r e) (sym (next_at s acts j a at)) did.written)

  -- what an ending entry is of has no content
  pub gone_since : (run r j n : ℕ) (e : Entry) (a : Act) → slice_get acts j ≡ Some a → DidTake run r e (before s acts j) a → IsTrue (is_ending e.outcome) → j < n → get (before s acts n).contents r ≡ None
  gone_since run r j n e a at did ending low =
      let now = sound_at s acts n sound formed in
      ended_gone (before s acts n) r now (now.entries.no_other run r e (written_since run r j n e a at did low) ending)

  -- the act that added a record that is later than the first state
  added_before : (j k r : ℕ) → j ≤ k → length s.office.tree.records < r → r ≤ length (before s acts j).office.tree.records → (e : Entry) → e.record_no ≡ r → WasAdded s (take j acts) (line_by e (numbered (before s acts k).office.tree.records r))
  added_before j k r high later there e number = elim (came (HasRecords r) (DidAdd r) (record_comes r) s acts j sound formed there) [
    | inl was ↦ absurd (omega (arith, was, later))
    | inr it ↦
        let low = it.early in
        let did = it.did in
        let asked = it.at ∙ ap (λ (a : Act). Some a) did.asked in
        let answered = answered_at s acts it.place it.done it.at ∙ ap (λ (x : Answer). Some x) did.answered in
        let now = stays_as_added reported_again s acts it.place k r did.day did.new (omega (arith, low, high)) asked answered in
        record {
          place = it.place;
          day = did.day;
          new = did.new;
          asked = taken_get acts j it.place low ∙ asked;
          answered = answers_get s acts j it.place low ∙ answered ∙ ap (λ n. Some (answer.Number n)) (sym number);
          ref_text = now.2.ref_text ∙ sym (ap (λ (o : Option Record). unwrap_or (option_map (λ head. head.ref_text) o) []) now.1);
          size = now.2.size ∙ sym (ap (λ (o : Option Record). unwrap_or (option_map (λ head. head.length) o) 0) now.1);
          digest = now.2.digest ∙ sym (ap (λ (o : Option Record). unwrap_or (option_map (λ head. head.digest) o) []) now.1);
        }
  ]

  -- ref, length and digest of a record stay as they are
  recorded_at : (j k r : ℕ) → j ≤ k → (head : Record) → numbered (before s acts j).office.tree.records r ≡ Some head → (e : Entry) → e.record_no ≡ r
      → IsRecorded (before s acts j).office.tree (line_by e (numbered (before s acts k).office.tree.records r))
  recorded_at j k r high head there e number =
      let now = lasts_from (HasHead r head) (head_lasts r head) s acts j k high sound formed (record { it = head; there = there; same = record { ref_text = refl; size = refl; digest = refl } }) in
      record {
        head = head;
        there = ap (numbered (before s acts j).office.tree.records) number ∙ there;
        ref_text = sym (ap (λ (o : Option Record). unwrap_or (option_map (λ head. head.ref_text) o) []) now.there ∙ now.same.ref_text);
        size = sym (ap (λ (o : Option Record). unwrap_or (option_map (λ head. head.length) o) 0) now.there ∙ now.same.size);
        digest = sym (ap (λ (o : Option Record). unwrap_or (option_map (λ head. head.digest) o) []) now.there ∙ now.same.digest);
      }

  -- a line is true of the step that wrote its entry
  pub line_is_true : (run r j k : ℕ) (e : Entry) (a : Act) (day : ℤ) (by : List ℕ) → j ≤ k → slice_get acts j ≡ Some a → DidTake run r e (before s acts j) a → HasRun run day by (before s acts j)
      → IsTrueLine s acts day j (line_by e (numbered (before s acts k).office.tree.records e.record_no))
  line_is_true run r j k e a day by high at did has =
      let v = before s acts j in
      let o = did.outcome in
      let now = sound_at s acts j sound formed in
      let it = taken v run r now did.next in
      let head = it.0 in
      let t = it.4 in
      let class = class_there v.office.tree now.forest now.names.of_tree r head t.there in
      let plan = plan_there v.office.tree now.forest now.names.of_tree r head t.there in
      let stored : confirmation_of v.office.tree r ≡ Some it.2 = ap (option_and_then (λ (x : Record). x.confirmation)) t.there ∙ t.confirmed in
      let on_day : run_day v.office run ≡ day = ap (λ (x : Option Run). unwrap_or (option_map (λ it. it.day) x) (pos 0)) has.there ∙ has.on_day in
      let new = entry_of v.office run r o in
      let same : new ≡ e = sym did.is in
      let canonical : IsTrueLine s acts day j (line_by new (numbered (before s acts k).office.tree.records r)) = record {
        answered = answered_at s acts j a at ∙ ap (λ (x : Answer). Some x) did.answered;
        class = some_of (class_of v.office.tree r) class.0 [] class.1;
        schedule = some_of (plan_of v.office.tree r) plan.0 [] plan.1;
        confirmed = record {
          confirmation = it.2;
          stored = stored;
          by = sym (ap (λ (x : Option Confirmation). unwrap_or (option_map (λ c. c.by) x) []) stored);
          due = sym (ap (λ (x : Option Confirmation). unwrap_or (option_map (λ c. c.due) x) v.office.day) stored);
        };
        warranted = subst (λ (d : ℤ). IsWarranted v.office d r o) on_day (warranted v run r head o now did.next t.there did.comes);
        hold = refl;
        content = λ ending. record {
          was = (now.contents r).1 (it.1, t.status, t.not_ended);
          gone = λ n low. gone_since run r j n e a at did (subst (λ (x : Entry). IsTrue (is_ending x.outcome)) same ending) low;
        };
        recorded = recorded_at j k r high head t.there new refl;
        added = λ later. added_before j k r high later (numbered_within v.office.tree.records r head t.there).1 new refl;
      } in
      subst (λ (x : Entry). IsTrueLine s acts day j (line_by x (numbered (before s acts k).office.tree.records x.record_no))) same canonical

  -- a step, with the entry that it wrote
  pub record IsStep (run j r : ℕ) (o : Outcome) : Type 0 where
    pub done : Act
    pub at : slice_get acts j ≡ Some done
    pub entry : Entry
    pub did : DidTake run r entry (before s acts j) done
    pub record_no : entry.record_no ≡ r
    pub outcome : entry.outcome ≡ o

  -- a step is one of the run that is open
  pub step_is : (j r : ℕ) (o : Outcome) → IsStepAt s acts j r o → (run : ℕ) × IsStep run j r o
  step_is j r o is =
      let it = done_at s acts j (answer.Step r o) is in
      let v = before s acts j in
      elim (kind_of v it.done) [
        | quiet q ↦ absurd (q.no_step r o it.answered)
        | adds q ↦ let no : answer.Step r o ≡ answer.Number (suc (length v.office.tree.records)) = sym it.answered ∙ q.answered in absurd cc
        | opens q ↦ let no : answer.Step r o ≡ answer.Number (suc (length v.office.runs)) = sym it.answered ∙ q.answered in absurd cc
        | closes q ↦ let no : answer.Step r o ≡ answer.RunClosed q.run = sym it.answered ∙ q.answered in absurd cc
        | takes q ↦
            let did = taken_by v it.done (sound_at s acts j sound formed) q in
            let same : did.0 ≡ did.1.outcome = ap (λ (e : Entry). e.outcome) did.1.is in
            let reported : answer.Step q.r did.0 ≡ answer.Step r o = ap (λ (p : Outcome). answer.Step q.r p) same ∙ sym did.1.answered ∙ it.answered in
            let number : q.r ≡ r = cc in
            let came_of : did.0 ≡ o = cc in (
              q.run,
              record {
                done = it.done;
                at = it.at;
                entry = entry_of v.office q.run q.r did.0;
                did = subst (λ (n : ℕ). DidTake q.run n (entry_of v.office q.run q.r did.0) v it.done) number did.1;
                record_no = number;
                outcome = came_of;
              },
            )
      ]
