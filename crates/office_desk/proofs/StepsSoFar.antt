-- Steps of the open run so far, and one more.
use Rattle.std.proofs.Common.{◌≡◌, ◌≢◌, ℕ, suc, false, None, Ok, Err, refl, sym, ap, subst, ◌∙◌}
use Rattle.std.specs.FinMap.{empty}
use Rattle.sqlite.specs.Held.{state}
use Rattle.sqlite.specs.State.{HasCleanDisk}
use Rattle.sqlite_trees.specs.declared.store.Store.{Ghosts}
use Rattle.office_rules.specs.declared.outcome.Outcome.{Outcome}
use Rattle.office_rules.specs.Acts.{is_of_change, step}
use Rattle.office_rules.specs.Runs.{after_steps, open_run}
use Rattle.office_rules.specs.State.{State, with_contents}
use Rattle.office_rules.specs.Steps.{answer_in}
use Rattle.office_rules.specs.declared.act.Act.TheVariants as act
use Rattle.office_rules.specs.declared.answer.Answer.{Answer}
use Rattle.office_rules.specs.declared.answer.Answer.TheVariants.{Step}
use Rattle.office_store.specs.declared.fault.Fault.{Fault}
use Rattle.office_desk.specs.Desk.{DeskState}
use Rattle.office_desk.specs.Leaving.{IsAt, StopsLeaving}
use Rattle.office_desk.specs.Outcomes.{ContainsState, FromEach, IsActAnswered, SparesTheRest}
use Rattle.office_desk.specs.Resuming.{resumed_answer}
use Rattle.office_desk.specs.Resumptions.{AreStepsStopped}
use Rattle.office_desk.proofs.LeftRest.{spares_here, spares_then}
use Rattle.office_desk.proofs.RunSteps.{IsLast, IsTaken, after_more, answer_run, last_in, taken_in}

-- from a state so many steps were taken
pub record AreTaken {S : Type 0} (g : Ghosts S) (s : State) (old new : DeskState S) : Type 0 where
  pub count : ℕ
  pub office : new.office ≡ (after_steps s count).office
  pub represents : HasCleanDisk (state g new.connection) → IsAt g s old → IsAt g (after_steps s count) new

-- steps were taken, from one desk to another
pub record CalledSteps {S : Type 0} (g : Ghosts S) (old new : DeskState S) : Type 0 where
  pub still : new.is_poisoned ≡ false
  pub taken : (s : State) → s.office ≡ old.office → AreTaken g s old new
  pub rest : SparesTheRest g old new

pub none_taken : {S : Type 0} (g : Ghosts S) (d : DeskState S) → d.is_poisoned ≡ false → CalledSteps g d d
none_taken g d is_open = record {
  still = is_open;
  taken = λ s same. record { count = 0; office = sym same; represents = λ clean at. at };
  rest = spares_here g d;
}

-- where no run is open, a step changes nothing
none_changed : (s : State) → open_run s.office ≡ None → is_of_change (step s act.RunStep).0 ≡ false
none_changed s none = ap is_of_change (answer_run s ∙ ap (answer_in s.office) none)

module _ {S : Type 0} (g : Ghosts S) (old mid new : DeskState S) (so_far : CalledSteps g old mid) (rest : SparesTheRest g mid new) where
  pub rest_next : SparesTheRest g old new
  rest_next = spares_then g old mid new (λ s clean at. let so = so_far.taken s (sym at.office) in (after_steps s so.count, so.represents clean at)) so_far.rest rest

  -- a fault stops the next step
  pub steps_stopped : (f : Fault) → (open_run old.office ≡ None → mid ≡ old) → open_run mid.office ≡ open_run old.office → ((s : State) → s.office ≡ mid.office → IsActAnswered s act.RunStep (Err f) mid new)
      → FromEach g mid new (λ s. StopsLeaving s (step s act.RunStep).1 f (state g new.connection)) → (s : State) → s.office ≡ old.office → AreStepsStopped g s f old new
  steps_stopped f first same_run answered leaves s same =
      let so = so_far.taken s same in
      let it = answered (after_steps s so.count) (sym so.office) in
      record {
        memory = λ none is. it.memory (ap Err is) ∙ first none;
        count = so.count;
        one_more = record {
          still_open = ap open_run (sym so.office) ∙ same_run ∙ ap open_run (sym same);
          no_run = λ none.
              let unmoved = ap (λ (d : DeskState S). d.office) (first (ap open_run (sym same) ∙ none)) in
              (answered s (same ∙ sym unmoved)).stops (none_changed s none);
        };
        stops = it.leads;
        left = λ clean at.
            subst (λ (t : State). StopsLeaving (after_steps s so.count) t f (state g new.connection)) (sym (after_more so.count s))
            (leaves (after_steps s so.count) clean (so.represents (rest.clean clean) at));
      }

  module _ (answer : Answer) (answered : (s : State) → s.office ≡ mid.office → IsActAnswered s act.RunStep (Ok answer) mid new) (leaves : FromEach g mid new (λ s. ContainsState (step s act.RunStep).1 (state g new.connection))) where
    pub is_taken : (r : ℕ) (outcome : Outcome) → answer ≡ Step r outcome → IsTaken mid.office new.office
    is_taken r outcome is = taken_in mid.office new.office answer r outcome is (λ s same. (answered s same).answered) (λ s same. (answered s same).leads.0)

    pub is_last : ((r : ℕ) (outcome : Outcome) → answer ≢ Step r outcome) → IsLast mid.office new.office answer
    is_last none = last_in mid.office new.office answer none (λ s same. (answered s same).answered) (λ s same. (answered s same).leads.0)

    -- one step more is taken
    pub one_taken : CalledSteps g old new
    one_taken = record {
      still = (answered (with_contents mid.office empty) refl).leads.1;
      taken = λ s same.
          let so = so_far.taken s same in
          let it = answered (after_steps s so.count) (sym so.office) in
          record {
            count = suc so.count;
            office = it.leads.0 ∙ sym (ap (λ (t : State). t.office) (after_more so.count s));
            represents = λ clean at.
                let left = leaves (after_steps s so.count) clean (so.represents (rest.clean clean) at) in
                subst (λ (t : State). IsAt g t new) (sym (after_more so.count s)) (record { is_open = it.leads.1; office = it.leads.0; sound = left.sound; rows = left.rows });
          };
      rest = rest_next;
    }

-- steps were taken until no run was open
pub record AreStepsDone {S : Type 0} (g : Ghosts S) (s : State) (answer : Answer) (old new : DeskState S) : Type 0 where
  pub answered : answer ≡ resumed_answer (open_run old.office)
  pub is_open : new.is_poisoned ≡ false
  pub taken : AreTaken g s old new
  pub ended : open_run (after_steps s taken.count).office ≡ None

pub steps_done : {S : Type 0} (g : Ghosts S) (old mid new : DeskState S) (answer : Answer) → CalledSteps g old new → open_run mid.office ≡ open_run old.office → IsLast mid.office new.office answer → (s : State) → s.office ≡ old.office → AreStepsDone g s answer old new
steps_done g old mid new answer all same_run last s same =
    let so = all.taken s same in
    record { answered = last.answered ∙ ap resumed_answer same_run; is_open = all.still; taken = so; ended = ap open_run (sym so.office) ∙ last.ended }
