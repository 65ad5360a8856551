-- Each act is answered by the first condition of its table that holds, which has the least number, or it is done.
use Rattle.std.proofs.Common.{◌≡◌, ℕ, Bool, true, List, [], ◌∷◌, Option, Some, None, refl, ap, ◌∙◌, rules}
use Rattle.std.specs.Option.{is_none}
use Rattle.office_base.specs.declared.refusal.Refusal.{Refusal}
use Rattle.office_base.specs.declared.refusal.Refusal.TheVariants.{NoRun}
use Rattle.office_records.specs.Conditions.{IsLeastOf, first_of}
use Rattle.office_records.specs.declared.class.Class.{Class}
use Rattle.office_records.proofs.Least.{first_is_least}
use Rattle.office_rules.specs.Acts.{step, is_of_change}
use Rattle.office_rules.specs.Conditions.{refusals_of_add_schedule, refusals_of_add_class, refusals_of_set_class_schedule, refusals_of_add_aggregation, refusals_of_close_aggregation, refusals_of_add_record, refusals_of_set_record_schedule, refusals_of_reclassify, refusals_of_place_hold, refusals_of_hold_on, refusals_of_hold_off, refusals_of_lift_hold, refusals_of_confirm, refusals_of_review, refusals_of_open_run, refusals_of_run_step, refusals_of_receipt, refusals_of_event}
use Rattle.office_rules.specs.NewRecords.{new_record}
use Rattle.office_rules.specs.Refusals.{IsAnsweredInOrder, asked_again, refusals_of}
use Rattle.office_rules.specs.Runs.{next_ready, open_run, step_of}
use Rattle.office_rules.specs.State.{Office, State}
use Rattle.office_rules.specs.Steps.{answer_at, answer_in, by_refusal, by_same_record, stepped}
use Rattle.office_rules.specs.declared.act.Act.{Act}
use Rattle.office_rules.specs.declared.act.Act.TheVariants as act
use Rattle.office_rules.specs.declared.answer.Answer.{Answer}
use Rattle.office_rules.specs.declared.answer.Answer.TheVariants.{Refused}

-- ---- each table is in the order of the numbers

pub least : (s : Office) (a : Act) → IsLeastOf (refusals_of s a) (first_of (refusals_of s a))
unfolding refusals_of
least s (act.AddSchedule day code trigger period offset action) = first_is_least (refusals_of_add_schedule s day code) (search rules)
least s (act.AddClass day code title schedule) =
    let class : Class = record { title = title; schedule = schedule } in
    first_is_least (refusals_of_add_class s day code class) (search rules)
least s (act.SetClassSchedule day class schedule) = first_is_least (refusals_of_set_class_schedule s day class schedule) (search rules)
least s (act.AddAggregation day ref_text title parent class) = first_is_least (refusals_of_add_aggregation s day ref_text parent class) (search rules)
least s (act.CloseAggregation day a) = first_is_least (refusals_of_close_aggregation s day a) (search rules)
least s (act.AddRecord day ref_text title originated aggregation class schedule content) =
    first_is_least (refusals_of_add_record s day (new_record ref_text title originated aggregation class schedule content)) (search rules)
least s (act.SetRecordSchedule day r schedule) = first_is_least (refusals_of_set_record_schedule s day r schedule) (search rules)
least s (act.Reclassify day what class) = first_is_least (refusals_of_reclassify s day what class) (search rules)
least s (act.Confirm day r named by) = first_is_least (refusals_of_confirm s day r named) (search rules)
least s (act.Review day r schedule by) = first_is_least (refusals_of_review s day r schedule) (search rules)
least s (act.Receipt day r digest by) = first_is_least (refusals_of_receipt s day r digest) (search rules)
least s (act.Event day r occurred by) = first_is_least (refusals_of_event s day r occurred) (search rules)
least s (act.PlaceHold day code reason by) = first_is_least (refusals_of_place_hold s day code) (search rules)
least s (act.HoldOn day code target) = first_is_least (refusals_of_hold_on s day code target) (search rules)
least s (act.HoldOff day code target) = first_is_least (refusals_of_hold_off s day code target) (search rules)
least s (act.LiftHold day code) = first_is_least (refusals_of_lift_hold s day code) (search rules)
least s (act.OpenRun day by) = first_is_least (refusals_of_open_run s day) (search rules)
least s act.RunStep = first_is_least (refusals_of_run_step s) (search rules)

-- ---- what is answered by a table

refused_by : (conditions : List (Refusal × Bool)) (s : State) (answer : Answer) (next : State) (refusal : Refusal) → first_of conditions ≡ Some refusal → stepped conditions s answer next ≡ (Refused refusal, s)
refused_by conditions s answer next refusal e = ap (λ o. by_refusal o s answer next) e

done_by : (conditions : List (Refusal × Bool)) (s : State) (answer : Answer) (next : State) → is_of_change answer ≡ true → first_of conditions ≡ None → is_of_change (stepped conditions s answer next).0 ≡ true
done_by conditions s answer next change e = ap (λ o. is_of_change (by_refusal o s answer next).0) e ∙ change

-- an act that asks for nothing again, and is answered by its table
in_order : (s : State) (a : Act) (answer : Answer) (next : State) → step s a ≡ stepped (refusals_of s.office a) s answer next → asked_again s.office a ≡ None → is_of_change answer ≡ true → IsAnsweredInOrder s a
in_order s a answer next is new change = record {
  again = λ r asked. absurd cc;
  refused = λ refusal none e. is ∙ refused_by (refusals_of s.office a) s answer next refusal e;
  done = λ none e. ap (λ it. is_of_change it.0) is ∙ done_by (refusals_of s.office a) s answer next change e;
}

-- ---- a step of a run is refused where none is open, else it is done

done_at : (s : Office) (run : ℕ) (next : Option ℕ) → is_of_change (answer_at s run next) ≡ true
done_at s run None = refl
done_at s run (Some r) = refl

done_run : (s : State) (run : Option ℕ) → first_of ((NoRun, is_none run) ∷ []) ≡ None → is_of_change (stepped ((NoRun, is_none run) ∷ []) s (answer_in s.office run) (step_of s run)).0 ≡ true
done_run s None e = absurd cc
done_run s (Some run) e = done_at s.office run (next_ready s.office run)

pub answered : (s : State) (a : Act) → IsAnsweredInOrder s a
unfolding step refusals_of
answered s (act.AddSchedule day code trigger period offset action) = in_order s _ _ _ refl refl refl
answered s (act.AddClass day code title schedule) = in_order s _ _ _ refl refl refl
answered s (act.SetClassSchedule day class schedule) = in_order s _ _ _ refl refl refl
answered s (act.AddAggregation day ref_text title parent class) = in_order s _ _ _ refl refl refl
answered s (act.CloseAggregation day a) = in_order s _ _ _ refl refl refl
answered s (act.AddRecord day ref_text title originated aggregation class schedule content) =
    let new = new_record ref_text title originated aggregation class schedule content in
    record {
      again = λ r asked. ap (λ o. by_same_record o s day new) asked;
      refused = λ refusal none e. ap (λ o. by_same_record o s day new) none ∙ refused_by (refusals_of_add_record s.office day new) s _ _ refusal e;
      done = λ none e. ap (λ o. is_of_change (by_same_record o s day new).0) none ∙ done_by (refusals_of_add_record s.office day new) s _ _ refl e;
    }
answered s (act.SetRecordSchedule day r schedule) = in_order s _ _ _ refl refl refl
answered s (act.Reclassify day what class) = in_order s _ _ _ refl refl refl
answered s (act.Confirm day r named by) = in_order s _ _ _ refl refl refl
answered s (act.Review day r schedule by) = in_order s _ _ _ refl refl refl
answered s (act.Receipt day r digest by) = in_order s _ _ _ refl refl refl
answered s (act.Event day r occurred by) = in_order s _ _ _ refl refl refl
answered s (act.PlaceHold day code reason by) = in_order s _ _ _ refl refl refl
answered s (act.HoldOn day code target) = in_order s _ _ _ refl refl refl
answered s (act.HoldOff day code target) = in_order s _ _ _ refl refl refl
answered s (act.LiftHold day code) = in_order s _ _ _ refl refl refl
answered s (act.OpenRun day by) = in_order s _ _ _ refl refl refl
answered s act.RunStep = record {
  again = λ r asked. absurd cc;
  refused = λ refusal none e. refused_by (refusals_of_run_step s.office) s _ _ refusal e;
  done = λ none e. done_run s (open_run s.office) e;
}
