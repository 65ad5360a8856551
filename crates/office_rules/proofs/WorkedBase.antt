-- The class, the plan and the due day of each record of the base office.
use Rattle.std.proofs.Common.{◌≡◌, ℕ, List, [], ◌∷◌, Some, None, ℤ, refl, ap, ◌∙◌}
use Rattle.std.specs.Prelude.{codes}
use Rattle.std.specs.Option.{option_and_then, option_map}
use Rattle.std.specs.FinMap.{get, entries, empty}
use Rattle.office_records.specs.Lists.{numbered, or_else}
use Rattle.office_records.specs.Tree.{TreeState, code_cmp, class_in, class_of, plan_in, plan_of, above_in, chain, start_in, due_by, due_of, action_of}
use Rattle.office_records.specs.declared.action.Action.TheVariants.{Destroy}
use Rattle.office_records.specs.declared.class.Class.{Class}
use Rattle.office_records.specs.declared.schedule.Schedule.{Schedule}
use Rattle.office_rules.specs.Worked.{filing_day, filing_due, yearly, class_titled, with_yearly, with_class, classed_office, base_office}
use Rattle.office_rules.proofs.WorkedDays.{due_from_filing}
use Rattle.office_rules.proofs.WorkedMaps.{no_entries, entries_inserted, get_of_entries}

pub schedules : entries classed_office.tree.schedules ≡ (codes "D1", yearly) ∷ []
schedules = entries_inserted empty (codes "D1") [] (no_entries code_cmp) yearly

pub one_class : entries (with_class with_yearly (codes "FIN")).tree.classes ≡ (codes "FIN", class_titled (codes "FIN")) ∷ []
one_class = entries_inserted empty (codes "FIN") [] (no_entries code_cmp) (class_titled (codes "FIN"))

pub classes : entries classed_office.tree.classes ≡ (codes "FIN", class_titled (codes "FIN")) ∷ (codes "LEG", class_titled (codes "LEG")) ∷ []
classes = entries_inserted (with_class with_yearly (codes "FIN")).tree.classes (codes "LEG") _ one_class (class_titled (codes "LEG"))

pub schedule_there : get classed_office.tree.schedules (codes "D1") ≡ Some yearly
schedule_there = get_of_entries classed_office.tree.schedules (codes "D1") ((codes "D1", yearly) ∷ []) schedules

pub finance_there : get classed_office.tree.classes (codes "FIN") ≡ Some (class_titled (codes "FIN"))
finance_there = get_of_entries classed_office.tree.classes (codes "FIN") _ classes

pub legal_there : get classed_office.tree.classes (codes "LEG") ≡ Some (class_titled (codes "LEG"))
legal_there = get_of_entries classed_office.tree.classes (codes "LEG") _ classes

pub class_is : class_of base_office.tree 1 ≡ Some (codes "FIN")
unfolding class_in above_in chain
class_is = refl

pub class_is_2 : class_of base_office.tree 2 ≡ Some (codes "LEG")
unfolding class_in above_in chain
class_is_2 = refl

pub class_is_3 : class_of base_office.tree 3 ≡ Some (codes "FIN")
unfolding class_in above_in chain
class_is_3 = refl

-- without a schedule of its own a record has its class's
pub plan_where : (tree : TreeState) (r : ℕ) (code : List ℕ) (class : Class) → option_and_then (λ head. head.schedule) (numbered tree.records r) ≡ None → class_of tree r ≡ Some code → get tree.classes code ≡ Some class → plan_of tree r ≡ Some class.schedule
unfolding plan_in
plan_where tree r code class own of is =
    ap (λ o. or_else o (option_and_then (λ c. option_map (λ (it : Class). it.schedule) (get tree.classes c)) (class_of tree r))) own
    ∙ ap (λ o. option_and_then (λ c. option_map (λ (it : Class). it.schedule) (get tree.classes c)) o) of
    ∙ ap (option_map (λ (it : Class). it.schedule)) is

pub plan_is : plan_of base_office.tree 1 ≡ Some (codes "D1")
plan_is = plan_where base_office.tree 1 (codes "FIN") (class_titled (codes "FIN")) refl class_is finance_there

pub plan_is_2 : plan_of base_office.tree 2 ≡ Some (codes "D1")
plan_is_2 = plan_where base_office.tree 2 (codes "LEG") (class_titled (codes "LEG")) refl class_is_2 legal_there

pub plan_is_3 : plan_of base_office.tree 3 ≡ Some (codes "D1")
plan_is_3 = plan_where base_office.tree 3 (codes "FIN") (class_titled (codes "FIN")) refl class_is_3 finance_there

-- the due day by the plan
pub due_where : (tree : TreeState) (r : ℕ) (code : List ℕ) (schedule : Schedule) → plan_of tree r ≡ Some code → get tree.schedules code ≡ Some schedule → due_of tree r ≡ due_by schedule (start_in tree.aggregations tree.records tree.events schedule r)
due_where tree r code schedule plan is =
    ap (λ o. option_and_then (λ (it : Schedule). due_by it (start_in tree.aggregations tree.records tree.events it r)) (option_and_then (get tree.schedules) o)) plan
    ∙ ap (option_and_then (λ (it : Schedule). due_by it (start_in tree.aggregations tree.records tree.events it r))) is

pub action_where : (tree : TreeState) (r : ℕ) (code : List ℕ) (schedule : Schedule) → plan_of tree r ≡ Some code → get tree.schedules code ≡ Some schedule → action_of tree r ≡ Some schedule.action
action_where tree r code schedule plan is =
    ap (λ o. option_map (λ (it : Schedule). it.action) (option_and_then (get tree.schedules) o)) plan
    ∙ ap (option_map (λ (it : Schedule). it.action)) is

yearly_due : due_by yearly (Some filing_day) ≡ Some filing_due
unfolding due_by
yearly_due = ap (λ (z : ℤ). Some z) due_from_filing

-- a record that was added on the filing day and is planned by the yearly schedule
pub planned_due : (tree : TreeState) (r : ℕ) → plan_of tree r ≡ Some (codes "D1") → get tree.schedules (codes "D1") ≡ Some yearly → start_in tree.aggregations tree.records tree.events yearly r ≡ Some filing_day → due_of tree r ≡ Some filing_due
planned_due tree r plan is start = due_where tree r (codes "D1") yearly plan is ∙ ap (due_by yearly) start ∙ yearly_due

pub planned_action : (tree : TreeState) (r : ℕ) → plan_of tree r ≡ Some (codes "D1") → get tree.schedules (codes "D1") ≡ Some yearly → action_of tree r ≡ Some Destroy
planned_action tree r plan is = action_where tree r (codes "D1") yearly plan is

pub due_is : due_of base_office.tree 1 ≡ Some filing_due
unfolding start_in
due_is = planned_due base_office.tree 1 plan_is schedule_there refl

pub due_is_2 : due_of base_office.tree 2 ≡ Some filing_due
unfolding start_in
due_is_2 = planned_due base_office.tree 2 plan_is_2 schedule_there refl

pub due_is_3 : due_of base_office.tree 3 ≡ Some filing_due
unfolding start_in
due_is_3 = planned_due base_office.tree 3 plan_is_3 schedule_there refl

pub action_is : action_of base_office.tree 1 ≡ Some Destroy
action_is = planned_action base_office.tree 1 plan_is schedule_there
