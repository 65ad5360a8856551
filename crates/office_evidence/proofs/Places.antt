-- A list of acts, place by place: the act at a place, its answer, and the states before and after it.
use Rattle.std.proofs.Common.{◌≡◌, ◌⊎◌, inl, inr, ℕ, zero, suc, ◌<◌, ◌≤◌, List, [], ◌∷◌, length, Some, refl, ap, arith}
use Rattle.std.specs.Prelude.{slice_get}
use Rattle.std.proofs.Math.Seq.{take-length}
use Rattle.office_rules.specs.Acts.{after, answers, step}
use Rattle.office_rules.specs.Forms.{AreWellFormed, IsWellFormedAct}
use Rattle.office_rules.specs.Sound.{IsSound}
use Rattle.office_rules.specs.State.{State}
use Rattle.office_rules.specs.declared.act.Act.{Act}
use Rattle.office_rules.specs.declared.answer.Answer.{Answer}
use Rattle.office_rules.proofs.StepSound.{sound_step}
use Rattle.office_evidence.specs.History.{before}

-- the state before the place behind the last act is the one after all acts
pub before_end : (s : State) (acts : List Act) → before s acts (length acts) ≡ after s acts
before_end s acts = ap (after s) (take-length acts)

-- the answer of the act at a place
pub answered_at : (s : State) (acts : List Act) (j : ℕ) (a : Act) → slice_get acts j ≡ Some a → slice_get (answers s acts) j ≡ Some (step (before s acts j) a).0
answered_at s [] j a at = absurd cc
answered_at s (b ∷ acts) zero a at = let same : b ≡ a = cc in ap (λ (x : Act). Some (step s x).0) same
answered_at s (b ∷ acts) (suc j) a at = answered_at (step s b).1 acts j a at

-- what was done at a place: an act, which leads to the state before the next place
pub record IsDoneAt (s : State) (acts : List Act) (j : ℕ) (reported : Answer) : Type 0 where
  pub done : Act
  pub at : slice_get acts j ≡ Some done
  pub within : j < length acts
  pub answered : (step (before s acts j) done).0 ≡ reported
  pub next : before s acts (suc j) ≡ (step (before s acts j) done).1

-- the act of the answer at a place
pub done_at : (s : State) (acts : List Act) (j : ℕ) (reported : Answer) → slice_get (answers s acts) j ≡ Some reported → IsDoneAt s acts j reported
done_at s [] j reported is = absurd cc
done_at s (a ∷ acts) zero reported is = record { done = a; at = refl; within = omega arith; answered = cc; next = refl }
done_at s (a ∷ acts) (suc j) reported is =
    let rest = done_at (step s a).1 acts j reported is in
    let low = rest.within in
    record { done = rest.done; at = rest.at; within = omega arith; answered = rest.answered; next = rest.next }

-- the act at a place leads to the state before the next
pub next_at : (s : State) (acts : List Act) (j : ℕ) (a : Act) → slice_get acts j ≡ Some a → before s acts (suc j) ≡ (step (before s acts j) a).1
next_at s [] j a at = absurd cc
next_at s (b ∷ acts) zero a at = let same : b ≡ a = cc in ap (λ (x : Act). (step s x).1) same
next_at s (b ∷ acts) (suc j) a at = next_at (step s b).1 acts j a at

-- ---- what lasts

-- what each act keeps
abbrev pub Lasts : (State → Type 0) → Type 0
Lasts P = (s : State) (a : Act) → IsSound s → IsWellFormedAct a → P s → P (step s a).1

pub lasts : (P : State → Type 0) → Lasts P → (s : State) (acts : List Act) (k : ℕ) → IsSound s → AreWellFormed acts → P s → P (before s acts k)
lasts P one s acts zero sound formed p = p
lasts P one s [] (suc k) sound formed p = p
lasts P one s (a ∷ acts) (suc k) sound formed p = lasts P one (step s a).1 acts k (sound_step s a sound formed.0) formed.1 (one s a sound formed.0 p)

-- the states are sound
pub sound_at : (s : State) (acts : List Act) (k : ℕ) → IsSound s → AreWellFormed acts → IsSound (before s acts k)
sound_at s acts k sound formed = lasts IsSound (λ t a sound formed p. sound_step t a sound formed) s acts k sound formed sound

-- from one place to a later one
pub lasts_from : (P : State → Type 0) → Lasts P → (s : State) (acts : List Act) (i k : ℕ) → i ≤ k → IsSound s → AreWellFormed acts → P (before s acts i) → P (before s acts k)
lasts_from P one s acts zero k low sound formed p = lasts P one s acts k sound formed p
lasts_from P one s acts (suc i) zero low sound formed p = absurd (omega arith)
lasts_from P one s [] (suc i) (suc k) low sound formed p = p
lasts_from P one s (a ∷ acts) (suc i) (suc k) low sound formed p = lasts_from P one (step s a).1 acts i k (omega arith) (sound_step s a sound formed.0) formed.1 p

-- ---- what comes

-- what holds after an act held before it, or the act did this
abbrev pub Comes : (State → Type 0) → (State → Act → Type 0) → Type 0
Comes P Did = (s : State) (a : Act) → IsSound s → P (step s a).1 → P s ⊎ Did s a

-- an act at an earlier place that did this
pub record IsDoneBefore (s : State) (acts : List Act) (k : ℕ) (Did : State → Act → Type 0) : Type 0 where
  pub place : ℕ
  pub early : place < k
  pub done : Act
  pub at : slice_get acts place ≡ Some done
  pub did : Did (before s acts place) done

later : (s : State) (a : Act) (acts : List Act) (k : ℕ) (Did : State → Act → Type 0) → IsDoneBefore (step s a).1 acts k Did → IsDoneBefore s (a ∷ acts) (suc k) Did
later s a acts k Did it = let low = it.early in record { place = suc it.place; early = omega arith; done = it.done; at = it.at; did = it.did }

pub came : (P : State → Type 0) (Did : State → Act → Type 0) → Comes P Did → (s : State) (acts : List Act) (k : ℕ) → IsSound s → AreWellFormed acts → P (before s acts k) → P s ⊎ IsDoneBefore s acts k Did
came P Did one s acts zero sound formed p = inl p
came P Did one s [] (suc k) sound formed p = inl p
came P Did one s (a ∷ acts) (suc k) sound formed p = elim (came P Did one (step s a).1 acts k (sound_step s a sound formed.0) formed.1 p) [
  | inl here ↦ elim (one s a sound here) [
    | inl was ↦ inl was
    | inr did ↦ inr (record { place = 0; early = omega arith; done = a; at = refl; did = did })
  ]
  | inr it ↦ inr (later s a acts k Did it)
]
