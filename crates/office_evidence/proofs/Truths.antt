-- The certificate of a run is true of the acts.
use Rattle.std.proofs.Common.{◌≡◌, inl, inr, ℕ, suc, ◌+◌, ◌<◌, ◌≤◌, ℤ, List, [], ◌∷◌, length, map, Option, Some, false, refl, sym, ap, subst, ◌∙◌, arith, unwrap_or, option_map, pos}
use Rattle.std.specs.Prelude.{IsTrue, slice_get}
use Rattle.std.proofs.lemmas.Bool.{cases_lt}
use Rattle.std.specs.FinMap.{get}
use Rattle.std.specs.List.{Contains}
use Rattle.std.specs.List.Sorted.{IsStrictlySortedBy}
use Rattle.std.specs.Ordering.{nat_cmp}
use Rattle.office_records.specs.Lists.{numbered}
use Rattle.office_records.specs.Tree.{TreeState}
use Rattle.office_records.specs.declared.action.Action.TheVariants as action
use Rattle.office_records.specs.declared.status.Status.TheVariants as status
use Rattle.office_records.proofs.Places.{numbered_within}
use Rattle.office_rules.specs.Acts.{after, answers}
use Rattle.office_rules.specs.Certificates.{certificate_text}
use Rattle.office_rules.specs.Forms.{AreWellFormed}
use Rattle.office_rules.specs.Holds.{is_held}
use Rattle.office_rules.specs.Outcomes.{is_ending}
use Rattle.office_rules.specs.Runs.{certificate_of, entries_of, opened_by, run_day, spent_list}
use Rattle.office_rules.specs.Sound.{IsSound}
use Rattle.office_rules.specs.State.{State, Office, empty_state}
use Rattle.office_rules.specs.declared.act.Act.{Act}
use Rattle.office_rules.specs.declared.answer.Answer.{Answer}
use Rattle.office_rules.specs.declared.answer.Answer.TheVariants as answer
use Rattle.office_rules.specs.declared.entry.Entry.{Entry}
use Rattle.office_rules.specs.declared.outcome.Outcome.{Outcome}
use Rattle.office_rules.specs.declared.outcome.Outcome.TheVariants as outcome
use Rattle.office_rules.specs.declared.run.Run.{Run}
use Rattle.office_rules.proofs.Listing.{listed_by_number, listed_entries}
use Rattle.office_rules.proofs.SoundEmpty.{sound_empty}
use Rattle.office_rules.proofs.SoundMaps.{is_there, one_there}
use Rattle.office_rules.proofs.SoundTaken.{taken}
use Rattle.office_evidence.specs.History.{IsStepAt, before}
use Rattle.office_evidence.specs.Parsed.{Certificate, IsTextOf}
use Rattle.office_evidence.specs.Truth.{AreTheSteps, CameTo, IsBetween, IsTrueCertificate, IsTrueLine, IsWarranted, LeavesNoneOut, NoOtherWent, WasDue, WasReady}
use Rattle.office_evidence.specs.declared.parsed.EntryLine.{EntryLine}
use Rattle.office_evidence.proofs.Completing.{comes_to, takes_ready, was_destroyed}
use Rattle.office_evidence.proofs.Coming.{DidTake, entry_comes}
use Rattle.office_evidence.proofs.Lasting.{HasCertificate, HasEntry, HasRecords, HasRun, HasRuns, certificate_lasts, entry_lasts, other_key, records_last, runs_last}
use Rattle.office_evidence.proofs.Openings.{IsRun, after_opening, has_run, is_closed, is_opened, is_this, run_of}
use Rattle.office_evidence.proofs.Places.{answered_at, before_end, came, lasts, lasts_from, next_at, sound_at}
use Rattle.office_evidence.proofs.SpentLines.{are_the_spent}
use Rattle.office_evidence.proofs.TrueLines.{IsStep, gone_ended, line_is_true, step_is, written_since}
use Rattle.office_evidence.proofs.Viewed.{in_mapped, line_in, mapped_from, same_text, view_of}
use Rattle.office_evidence.proofs.WellFormed.{heads_there, listed_under, spent_there, view_formed}

same_numbers : (tree : TreeState) (entries : List Entry) → map (λ e. e.record_no) entries ≡ map (λ line. line.record_no) (map (line_in tree) entries)
same_numbers tree [] = refl
same_numbers tree (e ∷ es) = ap (λ (ns : List ℕ). e.record_no ∷ ns) (same_numbers tree es)

-- the text of a run's certificate, by its row
text_by : (s : Office) (run : ℕ) (day : ℤ) (by : List ℕ) (it : Run) → numbered s.runs run ≡ Some it → it.day ≡ day → it.by ≡ by → certificate_of s run ≡ certificate_text s.tree run day by (entries_of s run) (spent_list s.tree (entries_of s run))
text_by s run day by it there on_day opened =
    let day_is : run_day s run ≡ day = ap (λ (o : Option Run). unwrap_or (option_map (λ it. it.day) o) (pos 0)) there ∙ on_day in
    let by_is : opened_by s run ≡ by = ap (λ (o : Option Run). unwrap_or (option_map (λ it. it.by) o) []) there ∙ opened in
    λ i. certificate_text s.tree run (day_is i) (by_is i) (entries_of s run) (spent_list s.tree (entries_of s run))

-- and it is the text of the run's view
pub text_of_run : (s : State) (run : ℕ) (day : ℤ) (by : List ℕ) → IsSound s → HasRun run day by s
    → IsTextOf (view_of s.office.tree run day by (entries_of s.office run) (spent_list s.office.tree (entries_of s.office run))) (certificate_of s.office run)
text_of_run s run day by sound has =
    let within = numbered_within s.office.runs run has.it has.there in
    record {
      formed = view_formed s run sound day by has within.1;
      same =
          text_by s.office run day by has.it has.there has.on_day has.opened_by
          ∙ same_text s.office.tree run day by (entries_of s.office run) (spent_list s.office.tree (entries_of s.office run)) (heads_there s run sound) (spent_there s run sound);
    }

module _ (s : State) (acts : List Act) (sound : IsSound s) (formed : AreWellFormed acts) (run : ℕ) (text : List ℕ) (it : IsRun s acts sound formed run text) where
  -- the state in which the run is closed
  abbrev last : State
  last = before s acts it.closing

  last_sound : IsSound last
  last_sound = sound_at s acts it.closing sound formed

  abbrev view : Certificate
  view = view_of last.office.tree run it.opens.day it.opens.by (entries_of last.office run) (spent_list last.office.tree (entries_of last.office run))

  last_run : HasRun run it.opens.day it.opens.by last
  last_run = has_run s acts sound formed run text it it.closing it.in_order

  is_text : IsTextOf view text
  is_text = subst (IsTextOf view) (sym it.close.is) (text_of_run last run it.opens.day it.opens.by last_sound last_run)

  -- the first state has fewer runs
  later_than : length s.office.runs < run
  later_than =
      let many = length s.office.runs in
      let more = lasts (HasRuns many) (runs_last many) s acts it.opening sound formed (omega arith) in
      let fewer = it.opens.fewer in
      omega arith

  -- ---- the lines are the steps

  -- where an entry of the run, listed as it closes, was written
  entry_is_true : (e : Entry) → Contains (entries_of last.office run) e → (j : ℕ) × IsBetween it.opening it.closing j × IsTrueLine s acts it.opens.day j (line_in last.office.tree e)
  entry_is_true e listed =
      let there = listed_under last run last_sound e listed in
      let r : ℕ = e.record_no in
      elim (came (HasEntry run r e) (DidTake run r e) (entry_comes run r e) s acts it.closing sound formed there) [
        | inl was ↦
            let named = sound.names.of_entries run r e was in
            absurd (omega (arith, named.run_there.1, later_than))
        | inr wrote ↦
            let early = wrote.early in
            let later = after_opening s acts sound formed run text it wrote.place wrote.did.open_is in
            let has = has_run s acts sound formed run text it wrote.place later in
            (wrote.place, record { after = later; before = early }, line_is_true s acts sound formed run r wrote.place it.closing e wrote.done it.opens.day it.opens.by (omega arith) wrote.at wrote.did has)
      ]

  each_line : (line : EntryLine) → Contains view.entries line → (j : ℕ) × IsBetween it.opening it.closing j × IsTrueLine s acts view.day j line
  each_line line listed =
      let from = mapped_from (line_in last.office.tree) (entries_of last.office run) line listed in
      let true_of = entry_is_true from.0 from.1 in
      (true_of.0, true_of.1, subst (λ (x : EntryLine). IsTrueLine s acts it.opens.day true_of.0 x) from.2 true_of.2)

  -- a step between is one of this run
  step_of_run : (j r : ℕ) (o : Outcome) → IsBetween it.opening it.closing j → IsStepAt s acts j r o → IsStep s acts sound formed run j r o
  step_of_run j r o between is =
      let low = between.after in
      let high = between.before in
      let found = step_is s acts sound formed j r o is in
      let same = is_this s acts sound formed run text it j found.0 low (omega (arith, high)) found.1.did.open_is in
      subst (λ (n : ℕ). IsStep s acts sound formed n j r o) same found.1

  -- the line of a step is true of it
  line_of : (j r : ℕ) (o : Outcome) → IsBetween it.opening it.closing j → IsStepAt s acts j r o
      → (line : EntryLine) × Contains view.entries line × (line.record_no ≡ r) × (line.outcome ≡ o) × IsTrueLine s acts view.day j line
  line_of j r o between is =
      let high = between.before in
      let found = step_of_run j r o between is in
      let there = written_since s acts sound formed run r j it.closing found.entry found.done found.at found.did high in
      let listed = (listed_entries last run found.entry last_sound).1 (r, there) in
      let has = has_run s acts sound formed run text it j between.after in (
        line_in last.office.tree found.entry,
        in_mapped (line_in last.office.tree) (entries_of last.office run) found.entry listed,
        found.record_no,
        found.outcome,
        line_is_true s acts sound formed run r j it.closing found.entry found.done it.opens.day it.opens.by (omega arith) found.at found.did has,
      )

  every_step : (j r : ℕ) (o : Outcome) → IsBetween it.opening it.closing j → IsStepAt s acts j r o → (line : EntryLine) × Contains view.entries line × (line.record_no ≡ r) × (line.outcome ≡ o)
  every_step j r o between is = let line = line_of j r o between is in (line.0, line.1, line.2, line.3)

  -- no record is taken twice
  apart : (i j r : ℕ) (o p : Outcome) → IsBetween it.opening it.closing i → IsBetween it.opening it.closing j → IsStepAt s acts i r o → IsStepAt s acts j r p → i < j → ⊥
  apart i j r o p first second one other low =
      let early = step_of_run i r o first one in
      let late = step_of_run j r p second other in
      let there = written_since s acts sound formed run r i j early.entry early.done early.at early.did low in
      let now = sound_at s acts j sound formed in
      let next = taken (before s acts j) run r now late.did.next in
      other_key (before s acts j) run r run r early.entry now late.did.open_is next.4.above there refl

  once : (i j r : ℕ) (o p : Outcome) → IsBetween it.opening it.closing i → IsBetween it.opening it.closing j → IsStepAt s acts i r o → IsStepAt s acts j r p → i ≡ j
  once i j r o p first second one other = elim (cases_lt i j) [
    | inl low ↦ absurd (apart i j r o p first second one other low)
    | inr high ↦ elim (cases_lt j i) [
      | inl low ↦ absurd (apart j i r p o second first other one low)
      | inr same ↦ omega arith
    ]
  ]

  are_the_steps : AreTheSteps s acts view it.opening it.closing
  are_the_steps = record {
    each = each_line;
    every = every_step;
    once = once;
    by_number = subst (λ (ns : List ℕ). IsStrictlySortedBy nat_cmp ns) (same_numbers last.office.tree (entries_of last.office run)) (listed_by_number last run last_sound);
  }

  -- ---- nothing is left out

  ready_line : (p r : ℕ) → CameTo s acts it.opening it.closing p r → WasReady (before s acts p).office.tree r it.opens.day
      → (line : EntryLine) × Contains view.entries line × (line.record_no ≡ r) × IsTrueLine s acts view.day p line
  ready_line p r at ready =
      let taken = takes_ready s acts sound formed run text it later_than p r at ready in
      let line = line_of p r taken.0 taken.1 taken.2 in
      (line.0, line.1, line.2, line.4)

  destroyed_line : (p r : ℕ) → CameTo s acts it.opening it.closing p r → WasDue (before s acts p).office.tree r it.opens.day action.Destroy
      → is_held (before s acts p).office.holds (before s acts p).office.tree r ≡ false → (line : EntryLine) × Contains view.entries line × (line.record_no ≡ r) × (line.outcome ≡ outcome.Destroyed)
  destroyed_line p r at due free =
      let v = (before s acts p).office in
      let line = ready_line p r at (inl due) in
      let warranted = subst (λ (n : ℕ). IsWarranted v it.opens.day n line.0.outcome) line.2 line.3.warranted in
      (line.0, line.1, line.2, was_destroyed v r it.opens.day line.0.outcome due free warranted)

  none_left_out : LeavesNoneOut s acts view it.opening it.closing
  none_left_out = record { came = λ r. comes_to s acts it.opening it.closing r it.in_order; ready = ready_line; destroyed = destroyed_line }

  -- ---- nothing else went

  -- an entry that ended a record, written while the run was open, is a step of it
  ended_in : (e : Entry) (other p j r : ℕ) (a : Act) → slice_get acts j ≡ Some a → DidTake other r e (before s acts j) a → IsTrue (is_ending e.outcome) → it.opening < p → p ≤ j → j < it.closing + 1
      → (line : EntryLine) × Contains view.entries line × (line.record_no ≡ r) × IsTrue (is_ending line.outcome)
  ended_in e other p j r a at did ending low high early =
      let reported : IsStepAt s acts j r did.outcome = answered_at s acts j a at ∙ ap (λ (x : Answer). Some x) did.answered in
      let earlier : j < it.closing = elim (cases_lt j it.closing) [
        | inl is ↦ is
        | inr not ↦
            let same : it.closing ≡ j = omega arith in
            let closes : slice_get (answers s acts) j ≡ Some (answer.RunClosed run) = ap (slice_get (answers s acts)) (sym same) ∙ is_closed s acts sound formed run text it in
            let no : answer.Step r did.outcome ≡ answer.RunClosed run = one_there (slice_get (answers s acts) j) (answer.Step r did.outcome) (answer.RunClosed run) reported closes in
            absurd cc
      ] in
      let line = every_step j r did.outcome (record { after = omega arith; before = earlier }) reported in
      let same : e.outcome ≡ did.outcome = ap (λ (x : Entry). x.outcome) did.is in
      (line.0, line.1, line.2, ap is_ending (line.3 ∙ sym same) ∙ ending)

  no_other : NoOtherWent s acts view it.opening it.closing
  no_other p r low high some none =
      let behind : ℕ = it.closing + 1 in
      let then = sound_at s acts p sound formed in
      let now = sound_at s acts behind sound formed in
      let was = (then.contents r).0 some in
      let within = numbered_within (before s acts p).office.tree.statuses r was.0 was.1 in
      let there = lasts_from (HasRecords r) (records_last r) s acts p behind (omega arith) sound formed (omega (arith, within.1, then.limits.statuses)) in
      let ended = now.entries.ended r (gone_ended (before s acts behind) r now within.0 (omega (arith, there, now.limits.statuses)) none) in
      let alive : (e : Entry) → get (before s acts p).office.entries (ended.0, r) ≡ Some e → IsTrue (is_ending e.outcome) → ⊥ = λ e is ending.
      was.2 (one_there (numbered (before s acts p).office.tree.statuses r) was.0 status.Ended was.1 (then.entries.no_other ended.0 r e is ending)) in
      elim (came (HasEntry ended.0 r ended.1) (DidTake ended.0 r ended.1) (entry_comes ended.0 r ended.1) s acts behind sound formed ended.2) [
        | inl first ↦ absurd (alive ended.1 (lasts (HasEntry ended.0 r ended.1) (entry_lasts ended.0 r ended.1) s acts p sound formed first) ended.3)
        | inr wrote ↦ elim (cases_lt wrote.place p) [
          | inl before_it ↦ absurd (alive ended.1 (written_since s acts sound formed ended.0 r wrote.place p ended.1 wrote.done wrote.at wrote.did before_it) ended.3)
          | inr later ↦ ended_in ended.1 ended.0 p wrote.place r wrote.done wrote.at wrote.did ended.3 low later wrote.early
        ]
      ]

  -- ---- the whole

  kept : (n : ℕ) → it.closing < n → get (before s acts n).office.certificates run ≡ Some text
  kept n low =
      lasts_from (HasCertificate run text) (certificate_lasts run text) s acts (suc it.closing) n (omega arith) sound formed
      (subst (HasCertificate run text) (sym (next_at s acts it.closing it.closed_by it.closed_at)) it.close.written)

  pub true_of : IsTrueCertificate s acts run text
  true_of = record {
    certificate = view;
    reads = is_text;
    of_run = refl;
    is_true = record {
      opening = it.opening;
      closing = it.closing;
      opened = is_opened s acts sound formed run text it;
      in_order = it.in_order;
      closed = is_closed s acts sound formed run text it;
      lines = are_the_steps;
      complete = none_left_out;
      no_other = no_other;
      spent = are_the_spent last run last_sound it.opens.day it.opens.by;
      kept = kept;
    };
  }

-- the certificate of a run that was opened since
pub true_since : (s : State) (acts : List Act) (office : Office) (run : ℕ) (text : List ℕ) → IsSound s → AreWellFormed acts → office ≡ (after s acts).office → length s.office.runs < run → get office.certificates run ≡ Some text
    → IsTrueCertificate s acts run text
true_since s acts office run text sound formed same later there =
    true_of s acts sound formed run text (run_of s acts sound formed run text later (ap (λ (o : Office). get o.certificates run) (sym same) ∙ there))

-- each certificate of an office that was new
pub true_from_new : (acts : List Act) (office : Office) (run : ℕ) (text : List ℕ) → AreWellFormed acts → office ≡ (after empty_state acts).office → get office.certificates run ≡ Some text → IsTrueCertificate empty_state acts run text
true_from_new acts office run text formed same there =
    let last = after empty_state acts in
    let sound = subst IsSound (before_end empty_state acts) (sound_at empty_state acts (length acts) sound_empty formed) in
    let there_last = ap (λ (o : Office). get o.certificates run) (sym same) ∙ there in
    let closed = (sound.runs.certified run).0 (is_there (get last.office.certificates run) text there_last) in
    let within = numbered_within last.office.runs run closed.0 closed.1 in
    true_since empty_state acts office run text sound_empty formed same within.0 there
