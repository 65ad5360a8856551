-- What is reported has no floats.
use Rattle.std.proofs.Common.{Vec, ◌≡◌, refl, ℕ, List, [], ◌∷◌, map, Option, Some, None, false}
use Rattle.std.specs.declared.alloc.Global.{Global}
use Rattle.serde_json.proofs.Views.{view-Array}
use Rattle.serde_json.specs.Data.{Data, string}
use Rattle.serde_json.specs.View.{items_of, view}
use Rattle.serde_json.specs.Written.{has_float, items_have_float}
use Rattle.serde_json.specs.declared.value.Value.{Value}
use Rattle.serde_json.specs.declared.value.Value.TheVariants.{Array}
use Rattle.office_records.specs.declared.head.Confirmation.{Confirmation}
use Rattle.office_rules.specs.declared.entry.Entry.{Entry}
use Rattle.office_rules.specs.declared.answer.Answer.{Answer}
use Rattle.office_rules.specs.declared.answer.Answer.TheVariants.{Done, Number, Same, Step, RunClosed, Refused}
use Rattle.office_rules.specs.Registers.{DueRowView}
use Rattle.office_rules.specs.declared.record_view.RecordView.{RecordView}
use Rattle.office_json.specs.Answers.{answer_data}
use Rattle.office_json.specs.DueJson.{due_row_data}
use Rattle.office_json.specs.OverdueJson.{overdue_row_data}
use Rattle.office_json.specs.RecordJson.{confirmed_data, day_data, ended_data, or_null, record_data}
use Rattle.office_json.specs.Replies.{denial_data, denied_data, stopped_data}

-- where what is reported of each thing has none, what is reported of one or of none has none
or_null_has_none : {A : Type 0} (reported : A → Data) → ((x : A) → has_float (reported x) ≡ false) → (o : Option A) → has_float (or_null reported o) ≡ false
or_null_has_none reported each None = refl
or_null_has_none reported each (Some x) = each x

-- and an array of it has none
array_has_none : {A : Type 0} (reported : A → Data) → ((x : A) → has_float (reported x) ≡ false) → (xs : List A) → items_have_float (items_of (map reported xs)) ≡ false
array_has_none reported each [] = refl
array_has_none reported each (x ∷ xs) = rw (each x) (array_has_none reported each xs)

confirmed_has_none : (c : Confirmation) → has_float (confirmed_data c) ≡ false
unfolding confirmed_data
confirmed_has_none c = refl

ended_has_none : (e : Entry) → has_float (ended_data e) ≡ false
unfolding ended_data
ended_has_none e = refl

code_has_none : (code : Option (List ℕ)) → has_float (or_null string code) ≡ false
code_has_none None = refl
code_has_none (Some text) = refl

pub record_has_none : (r : RecordView) (ending : Option Entry) → has_float (record_data r ending) ≡ false
unfolding record_data
record_has_none r ending = rw (
  or_null_has_none confirmed_data confirmed_has_none r.confirmed,
  or_null_has_none day_data (λ day. refl) r.due,
  or_null_has_none ended_data ended_has_none ending,
  or_null_has_none day_data (λ day. refl) r.event,
  code_has_none r.held,
) refl

pub due_row_has_none : (r : DueRowView) → has_float (due_row_data r) ≡ false
unfolding due_row_data
due_row_has_none r = rw (code_has_none r.held) refl

pub due_has_none : (values : Vec Value Global) (rows : List DueRowView) → map view values.items ≡ map due_row_data rows → has_float (view (Array values)) ≡ false
due_has_none values rows reported = rw (view-Array values, reported) (array_has_none due_row_data due_row_has_none rows)

pub overdue_row_has_none : (n : ℕ) (r : DueRowView) → has_float (overdue_row_data n r) ≡ false
unfolding overdue_row_data
overdue_row_has_none n r = rw (code_has_none r.held) refl

pub overdue_has_none : (n : ℕ) (values : Vec Value Global) (rows : List DueRowView) → map view values.items ≡ map (overdue_row_data n) rows → has_float (view (Array values)) ≡ false
overdue_has_none n values rows given = rw (view-Array values, given) (array_has_none (overdue_row_data n) (overdue_row_has_none n) rows)

pub answer_has_none : (answer : Answer) → has_float (answer_data answer) ≡ false
answer_has_none Done = refl
answer_has_none (Number n) = refl
answer_has_none (Same n) = refl
answer_has_none (Step n outcome) = refl
answer_has_none (RunClosed n) = refl
answer_has_none (Refused refusal) = refl

pub answers_have_none : (values : Vec Value Global) (answers : List Answer) → map view values.items ≡ map answer_data answers → has_float (view (Array values)) ≡ false
answers_have_none values answers reported = rw (view-Array values, reported) (array_has_none answer_data answer_has_none answers)

pub stopped_has_none : (answers : List Answer) (n : ℕ) → has_float (stopped_data answers n) ≡ false
stopped_has_none answers n = rw (array_has_none answer_data answer_has_none answers) refl

pub denied_has_none : (answers : List Answer) (place : ℕ) (reason : List ℕ) (rule : Option (List ℕ)) → has_float (denied_data answers place reason rule) ≡ false
unfolding denied_data
denied_has_none answers place reason rule = rw (array_has_none answer_data answer_has_none answers, code_has_none rule) refl

pub denial_has_none : (reason : List ℕ) (rule : Option (List ℕ)) → has_float (denial_data reason rule) ≡ false
unfolding denial_data
denial_has_none reason rule = rw (code_has_none rule) refl
