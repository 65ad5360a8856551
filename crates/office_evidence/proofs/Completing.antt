-- A run comes to each record, and takes each that is ready then.
use Rattle.std.proofs.Common.{◌≡◌, ◌⊎◌, inl, inr, ℕ, zero, suc, ◌+◌, ◌<◌, ◌≤◌, ◌≤ℤ◌, ◌&&◌, ℤ, Bool, true, false, List, length, Option, Some, None, refl, sym, ap, subst, ◌∙◌, arith, unwrap_or, option_map, pos, int_le}
use Rattle.std.specs.Prelude.{slice_get}
use Rattle.std.proofs.lemmas.Bool.{and_from, cases_lt}
use Rattle.std.proofs.lemmas.Int.{ints}
use Rattle.office_records.specs.Disposal.{counts, is_disposal}
use Rattle.office_records.specs.Lists.{is_some_and, numbered}
use Rattle.office_records.specs.Tree.{TreeState, action_of, due_of, status_of}
use Rattle.office_records.specs.declared.action.Action.{Action}
use Rattle.office_records.specs.declared.action.Action.TheVariants as action
use Rattle.office_records.specs.declared.status.Status.{Status}
use Rattle.office_records.specs.declared.status.Status.TheVariants as status
use Rattle.office_records.proofs.Places.{numbered_within}
use Rattle.office_rules.specs.Acts.{answers}
use Rattle.office_rules.specs.Disposing.{is_ready, may_begin, ready_by}
use Rattle.office_rules.specs.Forms.{AreWellFormed}
use Rattle.office_rules.specs.Holds.{is_held}
use Rattle.office_rules.specs.Meanings.{IsCandidate}
use Rattle.office_rules.specs.Runs.{cursor_of, next_ready, run_day}
use Rattle.office_rules.specs.Sound.{IsSound}
use Rattle.office_rules.specs.State.{State, Office}
use Rattle.office_rules.specs.declared.act.Act.{Act}
use Rattle.office_rules.specs.declared.answer.Answer.{Answer}
use Rattle.office_rules.specs.declared.answer.Answer.TheVariants as answer
use Rattle.office_rules.specs.declared.outcome.Outcome.{Outcome}
use Rattle.office_rules.specs.declared.outcome.Outcome.TheVariants as outcome
use Rattle.office_rules.specs.declared.run.Run.{Run}
use Rattle.office_rules.proofs.Candidates.{next_is_least, none_is_candidate}
use Rattle.office_rules.proofs.SoundMaps.{one_there}
use Rattle.office_evidence.specs.History.{IsStepAt, before}
use Rattle.office_evidence.specs.Truth.{CameTo, IsBetween, IsWarranted, WasDue, WasReady}
use Rattle.office_evidence.proofs.Openings.{IsRun, after_opening, has_run, is_this}
use Rattle.office_evidence.proofs.Passing.{DidPass, HasPassed, passed_comes}
use Rattle.office_evidence.proofs.Places.{answered_at, came, sound_at}
use Rattle.office_evidence.proofs.TrueLines.{step_is}

-- ---- what is ready

le_from : (a b : ℤ) → a ≤ℤ b → int_le a b ≡ true
le_from a b e = grind (arith, ints)

passes : {A : Type 0} (o : Option A) (x : A) (test : A → Bool) → o ≡ Some x → test x ≡ true → is_some_and o test ≡ true
passes o x test there is = ap (λ (p : Option _). is_some_and p test) there ∙ is

-- what was due may begin
begins : (tree : TreeState) (r : ℕ) (day : ℤ) (planned : Action) → is_disposal planned ≡ true → WasDue tree r day planned → may_begin tree r day ≡ true
begins tree r day planned disposal was =
    let due = was.due in
    and_from (is_some_and (action_of tree r) is_disposal && is_some_and (due_of tree r) (λ due. int_le due day)) (counts tree r)
    (and_from (is_some_and (action_of tree r) is_disposal) (is_some_and (due_of tree r) (λ due. int_le due day))
    (passes (action_of tree r) planned is_disposal was.action disposal) (passes (due_of tree r) due.0 (λ due. int_le due day) due.1 (le_from due.0 day due.2)))
    was.confirmed

here_ready : (s : Office) (r : ℕ) (day : ℤ) (planned : Action) → is_disposal planned ≡ true → WasDue s.tree r day planned → is_ready s day r ≡ true
here_ready s r day planned disposal was = ap (λ (o : Option Status). ready_by o (may_begin s.tree r day)) was.here ∙ begins s.tree r day planned disposal was

pub ready_is : (s : Office) (r : ℕ) (day : ℤ) → WasReady s.tree r day → is_ready s day r ≡ true
ready_is s r day (inl was) = here_ready s r day action.Destroy refl was
ready_is s r day (inr (inl was)) = here_ready s r day action.Transfer refl was
ready_is s r day (inr (inr was)) = ap (λ (o : Option Status). ready_by o (may_begin s.tree r day)) was.status

some_status : (tree : TreeState) (r : ℕ) (day : ℤ) → WasReady tree r day → (is : Status) × (status_of tree r ≡ Some is)
some_status tree r day (inl was) = (status.Here, was.here)
some_status tree r day (inr (inl was)) = (status.Here, was.here)
some_status tree r day (inr (inr was)) = (status.Received, was.status)

-- what was due for destruction and not held was destroyed
pub was_destroyed : (s : Office) (r : ℕ) (day : ℤ) (o : Outcome) → WasDue s.tree r day action.Destroy → is_held s.holds s.tree r ≡ false → IsWarranted s day r o → o ≡ outcome.Destroyed
was_destroyed s r day outcome.Destroyed due free is = refl
was_destroyed s r day outcome.Transferred due free is = let no : status.Here ≡ status.Received = one_there (status_of s.tree r) status.Here status.Received due.here is.0.status in absurd cc
was_destroyed s r day outcome.Sent due free is = let no : action.Destroy ≡ action.Transfer = one_there (action_of s.tree r) action.Destroy action.Transfer due.action is.action in absurd cc
was_destroyed s r day outcome.Skipped due free is = let no : false ≡ true = sym free ∙ is.1 in absurd cc

-- ---- a place at which the run comes to a record

-- an answer is of a step that took this record or one of a higher number, or of none
step_or_lower : (r : ℕ) (o : Option Answer) → ((q : ℕ) × (came_of : Outcome) × (r ≤ q) × (o ≡ Some (answer.Step q came_of))) ⊎ ((q : ℕ) (came_of : Outcome) → o ≡ Some (answer.Step q came_of) → q < r)
step_or_lower r None = inr (λ q came_of is. absurd cc)
step_or_lower r (Some answer.Done) = inr (λ q came_of is. absurd cc)
step_or_lower r (Some (answer.Number n)) = inr (λ q came_of is. absurd cc)
step_or_lower r (Some (answer.Same n)) = inr (λ q came_of is. absurd cc)
step_or_lower r (Some (answer.RunClosed n)) = inr (λ q came_of is. absurd cc)
step_or_lower r (Some (answer.Refused why)) = inr (λ q came_of is. absurd cc)
step_or_lower r (Some (answer.Step n o)) = elim (cases_lt n r) [
  | inl low ↦ inr (λ q came_of is. let same : n ≡ q = cc in omega (arith, same, low))
  | inr high ↦ inl (n, o, omega (arith, high), refl)
]

module _ (s : State) (acts : List Act) (opening closing r : ℕ) where
  abbrev AreLower : ℕ → Type 0
  AreLower k = (j q : ℕ) (o : Outcome) → IsBetween opening k j → IsStepAt s acts j q o → q < r

  one_lower : (k : ℕ) → AreLower k → ((q : ℕ) (o : Outcome) → IsStepAt s acts k q o → q < r) → AreLower (suc k)
  one_lower k lower here j q o between is = elim (cases_lt j k) [
    | inl early ↦ lower j q o (record { after = between.after; before = early }) is
    | inr late ↦
        let high = between.before in
        let same : j ≡ k = omega arith in
        here q o (subst (λ (n : ℕ). IsStepAt s acts n q o) same is)
  ]

  comes_from : (left k : ℕ) → k + left ≡ closing → opening < k → AreLower k → (p : ℕ) × CameTo s acts opening closing p r
  comes_from zero k at low lower = (k, record { after = low; within = omega (arith, at); lower = lower; reached = inl (omega (arith, at)) })
  comes_from (suc left) k at low lower = elim (step_or_lower r (slice_get (answers s acts) k)) [
    | inl step ↦ (k, record { after = low; within = omega (arith, at); lower = lower; reached = inr step })
    | inr here ↦ comes_from left (suc k) (omega (arith, at)) (omega arith) (one_lower k lower here)
  ]

  pub comes_to : opening < closing → (p : ℕ) × CameTo s acts opening closing p r
  comes_to in_order =
      let left : (n : ℕ) × (suc opening + n ≡ closing) = difference (suc opening) closing (omega arith) in
      comes_from left.0 (suc opening) left.1 (omega arith) (λ j q o between is. let low = between.after in let high = between.before in absurd (omega arith))
    where
      difference : (a b : ℕ) → a ≤ b → (n : ℕ) × (a + n ≡ b)
      difference zero b low = (b, omega arith)
      difference (suc a) zero low = absurd (omega arith)
      difference (suc a) (suc b) low = let it = difference a b (omega arith) in (it.0, omega (arith, it.1))

-- ---- what the run takes there

module _ (s : State) (acts : List Act) (sound : IsSound s) (formed : AreWellFormed acts) (run : ℕ) (text : List ℕ) (it : IsRun s acts sound formed run text) (later_than : length s.office.runs < run) where
  none_passed : (r : ℕ) → 0 < r → HasPassed run r s → ⊥
  none_passed r some passed =
      elim (numbered s.office.runs run) as (λ (o : Option Run). numbered s.office.runs run ≡ o → ⊥) [
        | None ↦ λ none. let zero_is : cursor_of s.office run ≡ 0 = ap (λ (o : Option Run). unwrap_or (option_map (λ (it : Run). it.cursor) o) 0) none in omega (arith, zero_is, passed)
        | Some there ↦ λ is. let within = numbered_within s.office.runs run there is in omega (arith, within.1, later_than)
      ] refl

  -- the run did not pass the record before
  not_passed : (p r : ℕ) → 0 < r → CameTo s acts it.opening it.closing p r → cursor_of (before s acts p).office run < r
  not_passed p r some at = elim (cases_lt (cursor_of (before s acts p).office run) r) [
    | inl is ↦ is
    | inr passed ↦ elim (came (HasPassed run r) (DidPass run r) (passed_comes run r) s acts p sound formed (omega (arith, passed))) [
      | inl was ↦ absurd (none_passed r some was)
      | inr wrote ↦
          let did = wrote.did in
          let high = did.high in
          let later = after_opening s acts sound formed run text it wrote.place did.did.open_is in
          let low = at.lower wrote.place did.taken did.did.outcome (record { after = later; before = wrote.early }) (answered_at s acts wrote.place wrote.done wrote.at ∙ ap (λ (x : Answer). Some x) did.did.answered) in
          absurd (omega arith)
    ]
  ]

  candidate : (p r : ℕ) → CameTo s acts it.opening it.closing p r → WasReady (before s acts p).office.tree r it.opens.day → IsCandidate (before s acts p).office run r
  candidate p r at ready =
      let v = before s acts p in
      let now = sound_at s acts p sound formed in
      let was = some_status v.office.tree r it.opens.day ready in
      let within = numbered_within v.office.tree.statuses r was.0 was.1 in
      let many = now.limits.statuses in
      let has = has_run s acts sound formed run text it p at.after in
      let on_day : run_day v.office run ≡ it.opens.day = ap (λ (x : Option Run). unwrap_or (option_map (λ (it : Run). it.day) x) (pos 0)) has.there ∙ has.on_day in
      record {
        above = not_passed p r within.0 at;
        there = omega (arith, within.1, many);
        ready = ap (λ (d : ℤ). is_ready v.office d r) on_day ∙ ready_is v.office r it.opens.day ready;
      }

  -- so the act there is a step that takes it
  pub takes_ready : (p r : ℕ) → CameTo s acts it.opening it.closing p r → WasReady (before s acts p).office.tree r it.opens.day → (o : Outcome) × IsBetween it.opening it.closing p × IsStepAt s acts p r o
  takes_ready p r at ready =
      let is_candidate = candidate p r at ready in
      let within = at.within in
      elim (cases_lt p it.closing) [
        | inr last ↦
            let same : it.closing ≡ p = omega arith in
            absurd (none_is_candidate (before s acts p).office run r (ap (λ (n : ℕ). next_ready (before s acts n).office run) (sym same) ∙ it.close.none_next) is_candidate)
        | inl early ↦ elim at.reached [
          | inl same ↦ absurd (omega (arith, same, early))
          | inr step ↦
              let taken = step_is s acts sound formed p step.0 step.1 step.3 in
              let this = is_this s acts sound formed run text it p taken.0 at.after within taken.1.did.open_is in
              let next : next_ready (before s acts p).office run ≡ Some step.0 = ap (next_ready (before s acts p).office) (sym this) ∙ taken.1.did.next in
              let least = next_is_least (before s acts p).office run step.0 r next is_candidate in
              let same : step.0 ≡ r = omega (arith, step.2, least) in
              (step.1, record { after = at.after; before = early }, subst (λ (n : ℕ). IsStepAt s acts p n step.1) same step.3)
        ]
      ]
