-- What is right of the changes by which acts put one row into the tree.
use Rattle.std.proofs.Common.{◌≡◌, ◌<◌, ◌≤◌, ◌+◌, ℕ, suc, List, [], ◌∷◌, ◌++◌, length, Option, Some, None, refl, sym, ap, subst, ◌∙◌, Bool, true, false, ℤ, arith}
use Rattle.std.specs.FinMap.{FinMap, get, insert, contains_key}
use Rattle.std.specs.Option.{is_some}
use Rattle.std.specs.Prelude.{not}
use Rattle.office_base.specs.declared.refusal.Refusal.{Refusal}
use Rattle.office_records.specs.Conditions.{first_of, conditions_of_add_schedule, conditions_of_add_class, conditions_of_set_class_schedule, conditions_of_add_aggregation, conditions_of_close_aggregation}
use Rattle.office_records.specs.Effects.{added_schedule, added_class, with_class_schedule}
use Rattle.office_records.specs.Lasting.{KeepsAggregation}
use Rattle.office_records.specs.Lists.{numbered, edited, put, amended, amended_by}
use Rattle.office_records.specs.Sound as tree
use Rattle.office_records.specs.Tree.{TreeState, code_cmp}
use Rattle.office_records.specs.declared.aggregation.Aggregation.{Aggregation}
use Rattle.office_records.specs.declared.class.Class.{Class}
use Rattle.office_records.specs.declared.schedule.Schedule.{Schedule}
use Rattle.office_records.proofs.Accepting.{none_holds, not_false, neither}
use Rattle.office_records.proofs.Amending.{IsSound-set_class_schedule, as_scheduled}
use Rattle.office_records.proofs.Adding.{adds_schedule}
use Rattle.office_records.proofs.LastingRows.{keeps_aggregation, keeps_next_aggregation}
use Rattle.office_records.proofs.Keeping.{IsSound-add_schedule, IsSound-add_class, IsSound-add_aggregation, IsSound-close_aggregation, as_closed}
use Rattle.office_records.proofs.Places.{numbered_within}
use Rattle.office_records.proofs.Putting.{put_next, put-edited}
use Rattle.office_rules.specs.Acts.{IsChangeTo, is_of_change}
use Rattle.office_rules.specs.Conditions.{dated, refusals_of_add_schedule, refusals_of_add_class, refusals_of_set_class_schedule, refusals_of_add_aggregation, refusals_of_close_aggregation}
use Rattle.office_rules.specs.Effects.{with_tree}
use Rattle.office_rules.specs.State.{with_contents, Office, State, ByteMap, with_office}
use Rattle.office_rules.specs.Steps.{stepped, step_add_schedule, step_add_class, step_set_class_schedule, step_add_aggregation, step_close_aggregation}
use Rattle.office_rules.specs.Writes.{all_writes, write, write_office, CanWrite, CanPut}
use Rattle.office_rules.specs.declared.answer.Answer.{Answer}
use Rattle.office_rules.specs.declared.answer.Answer.TheVariants.{Done, Number}
use Rattle.office_rules.specs.declared.change.Change.{Change}
use Rattle.office_rules.specs.declared.rows.RowWrite.{RowWrite}
use Rattle.office_rules.specs.declared.rows.RowWrite.TheVariants as row_write
use Rattle.office_rules.proofs.Accepted.{dated_accepted}
use Rattle.office_machine.specs.DayWrites.{day_writes}
use Rattle.office_machine.proofs.Decisions.{accepted_change}
use Rattle.office_machine.proofs.DayWrites.{day_led, days_follow, few_days}

abbrev pub new_aggregation : List ℕ → List ℕ → Option ℕ → Option (List ℕ) → Aggregation
new_aggregation ref_text title parent class = record { ref_text = ref_text; title = title; parent = parent; class = class; closed = None }

-- what is no refusal is none
pub none_of : (o : Option Refusal) → ((refusal : Refusal) → o ≡ Some refusal → ⊥) → o ≡ None
none_of None h = refl
none_of (Some refusal) h = absurd (h refusal refl)

-- a row that is put into the tree, and the day
pub put_change : (s : Office) (day : ℤ) (conditions : List (Refusal × Bool)) (answer : Answer) (after : TreeState) (row : RowWrite) (change : Change) → first_of (dated s day conditions) ≡ None → answer ≡ change.answer → is_of_change answer ≡ true → change.writes.items ≡ row ∷ day_writes s day → CanPut s row
    → ((contents : ByteMap) → write row (with_contents s contents) ≡ with_contents (record s { tree = after }) contents)
    → IsChangeTo s (λ contents. stepped (dated s day conditions) (with_contents s contents) answer (with_office (with_contents s contents) (with_tree s day after))) change
put_change s day conditions answer after row change accepted same reported writes can wrote =
    accepted_change s (dated s day conditions) answer (λ contents. with_office (with_contents s contents) (with_tree s day after)) change accepted same reported
    (let n = ap length writes in let days = few_days s day in omega (arith, n, days)) (subst (λ (ws : List RowWrite). CanWrite s ws) (sym writes) (can, days_follow s (write_office row s) day))
    (λ contents. ap (λ ws. all_writes ws (with_contents s contents)) writes ∙ day_led s day (write row (with_contents s contents)) (ap (λ (t : State). t.office.day) (wrote contents)) ∙ ap (write (row_write.Day day)) (wrote contents))

pub schedule_change : (s : Office) (day : ℤ) (code : List ℕ) (schedule : Schedule) (change : Change) → tree.IsSound s.tree → first_of (refusals_of_add_schedule s day code) ≡ None → Done ≡ change.answer → change.writes.items ≡ row_write.Schedule code schedule ∷ day_writes s day
    → IsChangeTo s (λ contents. step_add_schedule (with_contents s contents) day code schedule) change
schedule_change s day code schedule change sound accepted same writes =
    put_change s day (conditions_of_add_schedule s.tree code) Done (added_schedule s.tree code schedule) (row_write.Schedule code schedule) change accepted same refl writes
    (let own = (dated_accepted s day (conditions_of_add_schedule s.tree code) accepted).1 in (IsSound-add_schedule s.tree code schedule sound own, adds_schedule s.tree code own)) (λ contents. refl)

pub class_change : (s : Office) (day : ℤ) (code : List ℕ) (class : Class) (change : Change) → tree.IsSound s.tree → first_of (refusals_of_add_class s day code class) ≡ None → Done ≡ change.answer → change.writes.items ≡ row_write.Class code class ∷ day_writes s day
    → IsChangeTo s (λ contents. step_add_class (with_contents s contents) day code class) change
class_change s day code class change sound accepted same writes =
    put_change s day (conditions_of_add_class s.tree code class.schedule) Done (added_class s.tree code class) (row_write.Class code class) change accepted same refl writes
    (IsSound-add_class s.tree code class sound (dated_accepted s day (conditions_of_add_class s.tree code class.schedule) accepted).1) (λ contents. refl)

-- the class that gets another schedule is there
pub class_there : (t : TreeState) (class schedule : List ℕ) → first_of (conditions_of_set_class_schedule t class schedule) ≡ None → get t.classes class ≡ None → ⊥
class_there t class schedule accepted none =
    let lacks = neither (not (contains_key t.classes class)) (not (contains_key t.schedules schedule)) (none_holds (conditions_of_set_class_schedule t class schedule) accepted).0 in
    let there : is_some (get t.classes class) ≡ true = not_false (contains_key t.classes class) lacks.0 in
    let gone : is_some (get t.classes class) ≡ false = ap is_some none in
    absurd cc

-- a class that is there, with another schedule in place of its own
pub class_schedule_change : (s : Office) (day : ℤ) (class schedule : List ℕ) (it : Class) (change : Change) → tree.IsSound s.tree → first_of (refusals_of_set_class_schedule s day class schedule) ≡ None → get s.tree.classes class ≡ Some it → Done ≡ change.answer
    → change.writes.items ≡ row_write.Class class (as_scheduled schedule it) ∷ day_writes s day → IsChangeTo s (λ contents. step_set_class_schedule (with_contents s contents) day class schedule) change
class_schedule_change s day class schedule it change sound accepted there same writes =
    let put : amended s.tree.classes class (as_scheduled schedule) ≡ insert s.tree.classes class (as_scheduled schedule it) = ap (amended_by s.tree.classes class (as_scheduled schedule)) there in
    let kept = IsSound-set_class_schedule s.tree class schedule sound (dated_accepted s day (conditions_of_set_class_schedule s.tree class schedule) accepted).1 in
    put_change s day (conditions_of_set_class_schedule s.tree class schedule) Done (with_class_schedule s.tree class schedule) (row_write.Class class (as_scheduled schedule it)) change accepted same refl writes
    (subst (λ (classes : FinMap code_cmp Class). tree.IsSound (record s.tree { classes = classes })) put kept)
    (λ contents. ap (λ (classes : FinMap code_cmp Class). with_contents (record s { tree = record s.tree { classes = classes } }) contents) (sym put))

-- a row of an aggregation that is there or is the next one, where the put makes of the aggregations what the act does
aggregation_put : (s : Office) (day : ℤ) (conditions : List (Refusal × Bool)) (answer : Answer) (a : ℕ) (it : Aggregation) (after : List Aggregation) (change : Change) → first_of (dated s day conditions) ≡ None → answer ≡ change.answer → is_of_change answer ≡ true → change.writes.items ≡ row_write.Aggregation a it ∷ day_writes s day
    → 0 < a → a ≤ length s.tree.aggregations + 1 → put s.tree.aggregations a it ≡ after → tree.IsSound (record s.tree { aggregations = after }) → KeepsAggregation s.tree.aggregations a it
    → IsChangeTo s (λ contents. stepped (dated s day conditions) (with_contents s contents) answer (with_office (with_contents s contents) (with_tree s day (record s.tree { aggregations = after })))) change
aggregation_put s day conditions answer a it after change accepted same reported writes low high is sound keeps =
    put_change s day conditions answer (record s.tree { aggregations = after }) (row_write.Aggregation a it) change accepted same reported writes
    (low, high, subst (λ (aggregations : List Aggregation). tree.IsSound (record s.tree { aggregations = aggregations })) (sym is) sound, keeps)
    (λ contents. ap (λ (aggregations : List Aggregation). with_contents (record s { tree = record s.tree { aggregations = aggregations } }) contents) is)

pub aggregation_change : (s : Office) (day : ℤ) (ref_text title : List ℕ) (parent : Option ℕ) (class : Option (List ℕ)) (change : Change) → tree.IsSound s.tree → first_of (refusals_of_add_aggregation s day ref_text parent class) ≡ None → Number (suc (length s.tree.aggregations)) ≡ change.answer
    → change.writes.items ≡ row_write.Aggregation (length s.tree.aggregations + 1) (new_aggregation ref_text title parent class) ∷ day_writes s day → IsChangeTo s (λ contents. step_add_aggregation (with_contents s contents) day ref_text title parent class) change
aggregation_change s day ref_text title parent class change sound accepted same writes =
    let it = new_aggregation ref_text title parent class in
    let conditions = conditions_of_add_aggregation s.tree ref_text parent class in
    aggregation_put s day conditions (Number (suc (length s.tree.aggregations))) (length s.tree.aggregations + 1) it (s.tree.aggregations ++ it ∷ []) change accepted same refl writes
    (omega arith) (omega arith) (put_next s.tree.aggregations it) (IsSound-add_aggregation s.tree ref_text title parent class sound (dated_accepted s day conditions accepted).1)
    (keeps_next_aggregation s.tree.aggregations (length s.tree.aggregations + 1) it refl)

pub closing_change : (s : Office) (day : ℤ) (a : ℕ) (it : Aggregation) (change : Change) → tree.IsSound s.tree → first_of (refusals_of_close_aggregation s day a) ≡ None → numbered s.tree.aggregations a ≡ Some it → Done ≡ change.answer
    → change.writes.items ≡ row_write.Aggregation a (as_closed day it) ∷ day_writes s day → IsChangeTo s (λ contents. step_close_aggregation (with_contents s contents) day a) change
closing_change s day a it change sound accepted there same writes =
    let conditions = conditions_of_close_aggregation s.tree a in
    let by_tree = (dated_accepted s day conditions accepted).1 in
    let within = numbered_within s.tree.aggregations a it there in
    aggregation_put s day conditions Done a (as_closed day it) (edited s.tree.aggregations a (as_closed day)) change accepted same refl writes
    within.0 (omega (arith, within.1)) (put-edited s.tree.aggregations a (as_closed day) it there) (IsSound-close_aggregation s.tree a day sound by_tree)
    (keeps_aggregation s.tree.aggregations a it (as_closed day it) there (record { ref_text = refl; parent = refl }))
