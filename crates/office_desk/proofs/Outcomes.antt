-- What a desk did with acts, by their outcome.
use Rattle.std.proofs.Common.{◌≡◌, ◌∙◌, ◌+◌, ◌≤◌, ℕ, suc, Bool, List, [], ◌∷◌, ◌++◌, drop, length, take, Result, Ok, Err, refl, sym, ap, subst, inl, arith}
use Rattle.std.proofs.Math.Seq.{drop-append_seam}
use Rattle.std.proofs.lemmas.List.{length-take-le}
use Rattle.sqlite.specs.State as sqlite
use Rattle.office_rules.specs.Acts.{after, answers, step}
use Rattle.office_rules.specs.Forms.{AreWellFormed}
use Rattle.office_rules.specs.Runs.{IsMidway}
use Rattle.office_rules.specs.Sound.{IsSound}
use Rattle.office_rules.specs.State.{State}
use Rattle.office_rules.specs.declared.act.Act.{Act}
use Rattle.office_rules.specs.declared.answer.Answer.{Answer}
use Rattle.office_store.specs.declared.fault.Fault.{Fault}
use Rattle.office_store.proofs.Saved.{offices_at_rest}
use Rattle.office_desk.specs.Desk.{DeskState}
use Rattle.office_desk.specs.Guarded.{guarded_outcome}
use Rattle.office_desk.specs.Leaving.{LeavesOne, StopsAt, StopsLeaving}
use Rattle.office_desk.specs.Outcomes.{ActsCameTo, ActsLeave, ActsOutcome, AreAnswered, CanComeTo, IsActAnswered, act_outcome, acts_outcome, all_done, answered_acts, answers_of, stopped}
use Rattle.office_desk.proofs.LeftFates.{AreFatesReported, fates_at, fates_done, one_left}
use Rattle.office_desk.proofs.LeftOffices.{offices_stopped}
use Rattle.office_desk.proofs.RunSteps.{GoesOn, leaves_held, leaves_stopped, midway_after, steps_prefix}

-- ---- the answers

length-answers : (acts : List Act) (s : State) → length (answers s acts) ≡ length acts
length-answers [] s = refl
length-answers (a ∷ acts) s = ap suc (length-answers acts (step s a).1)

-- what follows the answers that were there
follows : (given found told : List Answer) → found ≡ given ++ told → drop (length given) found ≡ told
follows given found told is = ap (drop (length given)) is ∙ drop-append_seam given told

-- as many acts were answered as there are answers
counted : (s : State) (acts : List Act) (given found : List Answer) (n : ℕ) → n ≤ length acts → found ≡ given ++ answers s (take n acts) → n ≡ length (drop (length given) found)
counted s acts given found n within is = sym (ap length (follows given found _ is) ∙ length-answers (take n acts) s ∙ length-take-le n acts within)

-- ---- acts that a fault stopped after n of them

module _ (s : State) (acts : List Act) (given found : List Answer) (f : Fault) (n : ℕ) (within : n ≤ length acts) (added : found ≡ given ++ answers s (take n acts)) where
  pub stopped_answered : {S : Type 0} (new : DeskState S) → AreWellFormed acts → LeavesOne f n acts → StopsAt (after s (take n acts)).office f new → AreAnswered s acts (acts_outcome (Err f) given found) given found new
  stopped_answered new formed more stops =
      let many : n ≡ length (drop (length given) found) = counted s acts given found n within added in
      record {
        formed = formed;
        fits = subst (λ (k : ℕ). (k ≤ length acts) × LeavesOne f k acts) many (within, more);
        added = subst (λ (k : ℕ). found ≡ given ++ answers s (take k acts)) many added;
        leads = subst (λ (k : ℕ). StopsAt (after s (take k acts)).office f new) many stops;
      }

  pub stopped_leaves : (file : sqlite.State) → StopsLeaving (after s (take n acts)) (after s (take (n + 1) acts)) f file → ActsLeave s acts (acts_outcome (Err f) given found) file
  stopped_leaves file left =
      subst (λ (k : ℕ). StopsLeaving (after s (take k acts)) (after s (take (k + 1) acts)) f file) (counted s acts given found n within added) left

-- ---- what a crash leaves, by the outcome

module _ (reported : AreFatesReported) (on : GoesOn) (s : State) (sound : IsSound s) (file : sqlite.State) where
  acts_came : (acts : List Act) (o : ActsOutcome) → AreWellFormed acts → CanComeTo acts o → answers_of o ≡ answers s (answered_acts acts o) → ActsLeave s acts o file → ActsCameTo s acts o file
  acts_came acts (all_done told) formed fits answered left = record {
    formed = formed;
    fits = fits;
    answered = answered;
    leaves = left;
    offices = offices_at_rest file left.rows.rest;
    fates = fates_done reported s acts sound file left.rows;
    midway = λ begun run all is m. leaves_held begun (after s acts) run file (midway_after on acts begun s run all is m) left.rows;
  }
  acts_came acts (stopped told f) formed fits answered left =
      let n = length told in
      record {
        formed = formed;
        fits = fits;
        answered = answered;
        leaves = left;
        offices = offices_stopped (after s (take n acts)) (after s (take (n + 1) acts)) f file left;
        fates = fates_at reported s acts sound n f file fits.0 (one_left f n acts fits.1) left;
        midway = λ begun run all is m.
            let prefix : (k : ℕ) → IsMidway begun run (after s (take k acts)) = λ k. midway_after on (take k acts) begun s run (steps_prefix k acts all) is m in
            leaves_stopped begun (after s (take n acts)) (after s (take (n + 1) acts)) run f file (prefix n) (prefix (n + 1)) left;
      }

  pub came_to : {S : Type 0} (acts : List Act) (given found : List Answer) (r : Result (Unit {0}) Fault) (new : DeskState S) → AreAnswered s acts (acts_outcome r given found) given found new → ActsLeave s acts (acts_outcome r given found) file
      → ActsCameTo s acts (acts_outcome r given found) file
  came_to acts given found (Ok x) new it left = acts_came acts (acts_outcome (Ok x) given found) it.formed it.fits (follows given found _ it.added) left
  came_to acts given found (Err f) new it left = acts_came acts (acts_outcome (Err f) given found) it.formed it.fits (follows given found _ it.added) left

  -- also where a guard let them through
  pub guarded_came : {S : Type 0} (acts : List Act) (given found : List Answer) (r : Result Bool Fault) (new : DeskState S) → AreAnswered s acts (guarded_outcome r given found) given found new → ActsLeave s acts (guarded_outcome r given found) file
      → ActsCameTo s acts (guarded_outcome r given found) file
  guarded_came acts given found (Ok all) new it left = came_to acts given found (Ok tt) new it left
  guarded_came acts given found (Err f) new it left = came_to acts given found (Err f) new it left

  pub one_came : {S : Type 0} (a : Act) (r : Result Answer Fault) (old new : DeskState S) → IsActAnswered s a r old new → ActsLeave s (a ∷ []) (act_outcome r) file → ActsCameTo s (a ∷ []) (act_outcome r) file
  one_came a (Ok answer) old new it left = acts_came (a ∷ []) (all_done (answer ∷ [])) (it.formed, tt) tt (ap (λ (told : Answer). told ∷ []) it.answered) left
  one_came a (Err f) old new it left = acts_came (a ∷ []) (stopped [] f) (it.formed, tt) (omega arith, inl (omega arith)) refl left
