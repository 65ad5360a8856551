-- The due days of a tree whose days and periods are within their limits are due numbers.
use Rattle.std.proofs.Common.{◌≡◌, ℕ, zero, suc, ◌+◌, ◌*◌, ◌≤◌, List, [], ◌∷◌, Option, Some, None, refl, ap, ◌∙◌, cond, Bool, true, false, ℤ, pos, neg_ℤ, ◌+ℤ◌, ◌≤ℤ◌, arith, map}
use Rattle.std.specs.Prelude.{IfSome, ◌==◌, int_lt}
use Rattle.std.specs.Option.{option_map, option_and_then, unwrap_or}
use Rattle.std.specs.List.{filter, fold}
use Rattle.std.specs.FinMap.{get}
use Rattle.std.proofs.lemmas.Bool.Decides.{nat_tests}
use Rattle.std.proofs.lemmas.Int.{ints}
use Rattle.office_days.specs.declared.offset.Offset.{Offset}
use Rattle.office_days.specs.declared.offset.Offset.TheVariants.{AnyDay, FirstOfMonth, FirstOfQuarter, FirstOf}
use Rattle.office_days.specs.declared.unit.Unit.{Unit}
use Rattle.office_days.specs.declared.unit.Unit.TheVariants as unit
use Rattle.office_days.specs.Calendar.{CivilDay, IsDay, civil, month_length, next_day, number_of}
use Rattle.office_days.specs.Due.{due_from, end_of, months_later, plus}
use Rattle.office_days.specs.Limits.{IsDayNumber, IsDueNumber, longest}
use Rattle.office_days.specs.Offsets.{is_offset_day, month_number, offset_found}
use Rattle.office_days.specs.Periods.{RetentionPeriod}
use Rattle.office_days.proofs.Civil.{civil-day, civil-number_of, next_day-ok, number_of-in_month, number_of-le, number_of-month}
use Rattle.office_days.proofs.MonthLengths.{month_length-bounds}
use Rattle.office_days.proofs.Moves.{IsLeastFrom-found, number_of-high, number_of-last, number_of-low}
use Rattle.office_days.proofs.Numbers.{month_number-in_year}
use Rattle.office_days.proofs.Spans.{civil-year, months_later-day}
use Rattle.office_records.specs.Forms.{IsWellFormedEvent, IsWellFormedSchedule, IsWellFormedAggregation, IsWellFormedRecord, IsWellFormedReview, IsWellFormedTree}
use Rattle.office_records.specs.Lists.{numbered, later, or_else}
use Rattle.office_records.specs.Tree.{TreeState, due_by, due_of, is_keep, last_addition, plan_of, start_by, start_in}
use Rattle.office_records.specs.declared.event.Event.{Event}
use Rattle.office_records.specs.declared.aggregation.Aggregation.{Aggregation}
use Rattle.office_records.specs.declared.head.Record.{Record}
use Rattle.office_records.specs.declared.head.Review.{Review}
use Rattle.office_records.specs.declared.schedule.Schedule.{Schedule}
use Rattle.office_records.specs.declared.trigger.Trigger.{Trigger}
use Rattle.office_records.specs.declared.trigger.Trigger.TheVariants as trigger
use Rattle.office_records.proofs.Forming.{EachNumbered}

-- ---- the first day of the year 3500

abbrev first_of : ℕ → CivilDay
first_of month = record { year = 3_500; month = month; day = 1 }

abbrev last_of : ℕ → CivilDay
last_of month = record { year = 3_500; month = month; day = month_length 3_500 month }

IsDay-first_of : (month : ℕ) → 1 ≤ month → month ≤ 12 → IsDay (first_of month)
IsDay-first_of month low high = let long = month_length-bounds 3_500 month in record { year_in = omega arith; month_in = (low, high); day_in = (omega arith, omega (arith, long)) }

IsDay-last_of : (month : ℕ) → 1 ≤ month → month ≤ 12 → IsDay (last_of month)
IsDay-last_of month low high = let long = month_length-bounds 3_500 month in record { year_in = omega arith; month_in = (low, high); day_in = (omega (arith, long), omega arith) }

-- a month later it is as many days later as the month is long
month_on : (month : ℕ) → 1 ≤ month → month ≤ 12 → next_day (last_of month) ≡ first_of (month + 1) → number_of (first_of (month + 1)) ≡ number_of (first_of month) +ℤ pos (month_length 3_500 month)
month_on month low high next =
    let days = number_of-in_month (first_of month) (last_of month) (IsDay-first_of month low high) (IsDay-last_of month low high) refl refl in
    let after = (next_day-ok (last_of month) (IsDay-last_of month low high)).1 in
    let same = ap (λ c. number_of c) next in
    omega (arith, ints, days, after, same)

number_of-first : number_of (first_of 1) ≡ pos 558_821
number_of-first =
    let january = month_on 1 (omega arith) (omega arith) refl in
    let february = month_on 2 (omega arith) (omega arith) refl in
    let march = month_on 3 (omega arith) (omega arith) refl in
    let april = month_on 4 (omega arith) (omega arith) refl in
    let may = month_on 5 (omega arith) (omega arith) refl in
    let june = month_on 6 (omega arith) (omega arith) refl in
    let july = month_on 7 (omega arith) (omega arith) refl in
    let august = month_on 8 (omega arith) (omega arith) refl in
    let september = month_on 9 (omega arith) (omega arith) refl in
    let october = month_on 10 (omega arith) (omega arith) refl in
    let november = month_on 11 (omega arith) (omega arith) refl in
    omega (arith, ints, number_of-last, january, february, march, april, may, june, july, august, september, october, november)

-- ---- where a period from a handed-in day ends

abbrev EndsWithin : ℤ → Type 0
EndsWithin end = (neg_ℤ (pos 719_162) ≤ℤ end) × (end ≤ℤ pos 558_821)

months-within : (start : ℤ) (n : ℕ) → IsDayNumber start → n ≤ 6_000 → EndsWithin (number_of (months_later (civil start) n))
months-within start n h few =
    let c = civil start in
    let later = months_later c n in
    let there = months_later-day c n (civil-day start) in
    let y = civil-year start h in
    let month = (civil-day start).month_in in
    let years : later.year ≤ 3_499 = omega (arith, y, few, month) in
    let before = number_of-month later (first_of 1) there (IsDay-first_of 1 (omega arith) (omega arith)) (omega (arith, years)) (omega (arith, years, there.month_in)) in
    (number_of-low later there (omega (arith, years)), omega (arith, ints, before, number_of-first))

plus-within : (start : ℤ) (u : Unit) (n : ℕ) → IsDayNumber start → n ≤ longest u → EndsWithin (plus start u n)
plus-within start unit.Days n h few = (omega (arith, ints, h), omega (arith, ints, h, few))
plus-within start unit.Weeks n h few = (omega (arith, ints, h), omega (arith, ints, h, few))
plus-within start unit.Months n h few = months-within start n h few
plus-within start unit.Years n h few = months-within start (12 * n) h (omega (arith, few))

-- ---- a first of a month in the year 3500 has the offset's property

abbrev month_for : Offset → ℕ
month_for AnyDay = 1
month_for FirstOfMonth = 1
month_for FirstOfQuarter = 1
month_for (FirstOf m) = month_number m

month_for-in_year : (o : Offset) → (1 ≤ month_for o) × (month_for o ≤ 12)
month_for-in_year AnyDay = (omega arith, omega arith)
month_for-in_year FirstOfMonth = (omega arith, omega arith)
month_for-in_year FirstOfQuarter = (omega arith, omega arith)
month_for-in_year (FirstOf m) = let within = month_number-in_year m in (within.0, within.1)

same_number : (n : ℕ) → (n == n) ≡ true
same_number n = grind (arith, nat_tests)

first_has : (o : Offset) → is_offset_day o (first_of (month_for o)) ≡ true
first_has AnyDay = refl
first_has FirstOfMonth = refl
first_has FirstOfQuarter = refl
first_has (FirstOf m) = same_number (month_number m)

-- ---- the due day

move-within : (o : Offset) (end : ℤ) (found : Option ℤ) → EndsWithin end → offset_found o end ≡ found → IsDueNumber (unwrap_or found end)
move-within o end None h e = (h.0, omega (arith, ints, h.1))
move-within o end (Some day) h e =
    let is = IsLeastFrom-found o end day e in
    let within = month_for-in_year o in
    let there = IsDay-first_of (month_for o) within.0 within.1 in
    let after = number_of-le (first_of 1) (first_of (month_for o)) (IsDay-first_of 1 (omega arith) (omega arith)) there (omega arith) (omega (arith, within)) (λ same. omega arith) in
    let high = number_of-high (first_of (month_for o)) there refl (omega arith) in
    let back = civil-number_of (first_of (month_for o)) there (omega arith) (number_of-low (first_of (month_for o)) there (omega arith)) in
    let least = is.least (number_of (first_of (month_for o))) (omega (arith, ints, h.1, after, number_of-first)) (ap (is_offset_day o) back ∙ first_has o) in
    (omega (arith, ints, h.0, is.not_before), omega (arith, ints, least, high))

-- a period within its limit from a handed-in day ends on a due day
pub due_from-within : (start : ℤ) (period : RetentionPeriod) (offset : Offset) → IsDayNumber start → period.count ≤ longest period.unit → IsDueNumber (due_from start period offset)
due_from-within start period offset h few = move-within offset (end_of start period) (offset_found offset (end_of start period)) (plus-within start period.unit period.count h few) refl

-- ---- the last addition

either_day : (b : Bool) (x y : ℤ) → IsDayNumber x → IsDayNumber y → IsDayNumber (cond b x y)
either_day true x y hx hy = hx
either_day false x y hx hy = hy

later_day : (best : Option ℤ) (day : ℤ) → IfSome best IsDayNumber → IsDayNumber day → IfSome (later best day) IsDayNumber
later_day None day h is = is
later_day (Some best) day h is = either_day (int_lt day best) best day h is

added_day : (b : Bool) (head : Record) (rest : List Record) (best : Option ℤ)
    → IfSome best IsDayNumber → IsDayNumber head.added → ((best : Option ℤ) → IfSome best IsDayNumber → IfSome (fold later best (map (λ (x : Record). x.added) rest)) IsDayNumber)
    → IfSome (fold later best (map (λ (x : Record). x.added) (cond b (head ∷ rest) rest))) IsDayNumber
added_day true head rest best h is on = on (later best head.added) (later_day best head.added h is)
added_day false head rest best h is on = on best h

greatest_day : (test : Record → Bool) (records : List Record) (best : Option ℤ) → EachNumbered (λ head. IsDayNumber head.added) records → IfSome best IsDayNumber → IfSome (fold later best (map (λ (x : Record). x.added) (filter test records))) IsDayNumber
greatest_day test [] best each h = h
greatest_day test (head ∷ records) best each h =
    added_day (test head) head (filter test records) best h (each 1 head refl) (λ best h. greatest_day test records best (λ n x e. each (suc n) x (one_on records head n x e)) h) where
      one_on : (records : List Record) (head : Record) (n : ℕ) (x : Record) → numbered records n ≡ Some x → numbered (head ∷ records) (suc n) ≡ Some x
      one_on records head zero x e = absurd cc
      one_on records head (suc n) x e = e

last_addition-day : (records : List Record) (a : ℕ) → EachNumbered (λ head. IsDayNumber head.added) records → IfSome (last_addition records a) IsDayNumber
unfolding last_addition
last_addition-day records a each = greatest_day (λ head. head.aggregation == a) records None each tt

-- ---- the start day and the due day of a record

closed_day : (aggregations : List Aggregation) (a : ℕ) (o : Option Aggregation) → EachNumbered IsWellFormedAggregation aggregations → numbered aggregations a ≡ o → IfSome (option_and_then (λ (it : Aggregation). it.closed) o) IsDayNumber
closed_day aggregations a None each e = tt
closed_day aggregations a (Some it) each e = (each a it e).closed

review_day : (review : Option Review) (added : ℤ) → IfSome review IsWellFormedReview → IsDayNumber added → IfSome (or_else (option_map (λ (it : Review). it.day) review) (Some added)) IsDayNumber
review_day None added h is = is
review_day (Some it) added h is = h.day

event_well_formed : (tree : TreeState) (r : ℕ) (event : Option Event) → IsWellFormedTree tree → get tree.events r ≡ event → IfSome event IsWellFormedEvent
event_well_formed tree r None formed e = tt
event_well_formed tree r (Some it) formed e = formed.events r it e

start_by-day : (tree : TreeState) (by : Trigger) (event : Option Event) (head : Record) → IsWellFormedTree tree → IfSome event IsWellFormedEvent → IsWellFormedRecord head → IfSome (start_by by tree.aggregations tree.records event head) IsDayNumber
start_by-day tree trigger.Origin event head formed of_event of_head = of_head.originated
start_by-day tree trigger.Added event head formed of_event of_head = of_head.added
start_by-day tree trigger.Closed event head formed of_event of_head = closed_day tree.aggregations head.aggregation (numbered tree.aggregations head.aggregation) formed.aggregations refl
start_by-day tree trigger.LastAddition event head formed of_event of_head = last_addition-day tree.records head.aggregation (λ r head e. (formed.records r head e).added)
start_by-day tree trigger.Review event head formed of_event of_head = review_day head.review head.added of_head.review of_head.added
start_by-day tree trigger.Event None head formed of_event of_head = tt
start_by-day tree trigger.Event (Some it) head formed of_event of_head = of_event.occurred

start_of_head : (tree : TreeState) (schedule : Schedule) (r : ℕ) (o : Option Record) → IsWellFormedTree tree → numbered tree.records r ≡ o → IfSome (option_and_then (λ head. start_by schedule.trigger tree.aggregations tree.records (get tree.events r) head) o) IsDayNumber
start_of_head tree schedule r None formed e = tt
start_of_head tree schedule r (Some head) formed e = start_by-day tree schedule.trigger (get tree.events r) head formed (event_well_formed tree r (get tree.events r) formed refl) (formed.records r head e)

start_in-day : (tree : TreeState) (schedule : Schedule) (r : ℕ) → IsWellFormedTree tree → IfSome (start_in tree.aggregations tree.records tree.events schedule r) IsDayNumber
unfolding start_in
start_in-day tree schedule r formed = start_of_head tree schedule r (numbered tree.records r) formed refl

due_from_start : (keeps : Bool) (schedule : Schedule) (start : Option ℤ) → IsWellFormedSchedule schedule → IfSome start IsDayNumber → IfSome (cond keeps None (option_map (λ day. due_from day schedule.period schedule.offset) start)) IsDueNumber
due_from_start true schedule start few h = tt
due_from_start false schedule None few h = tt
due_from_start false schedule (Some day) few h = due_from-within day schedule.period schedule.offset h few

due_by-number : (schedule : Schedule) (start : Option ℤ) → IsWellFormedSchedule schedule → IfSome start IsDayNumber → IfSome (due_by schedule start) IsDueNumber
unfolding due_by
due_by-number schedule start few h = due_from_start (is_keep schedule.action) schedule start few h

abbrev due_by_schedule : TreeState → ℕ → Option Schedule → Option ℤ
due_by_schedule tree r o = option_and_then (λ schedule. due_by schedule (start_in tree.aggregations tree.records tree.events schedule r)) o

by_code : (tree : TreeState) (r : ℕ) (code : List ℕ) (o : Option Schedule) → IsWellFormedTree tree → get tree.schedules code ≡ o → IfSome (due_by_schedule tree r o) IsDueNumber
by_code tree r code None formed e = tt
by_code tree r code (Some schedule) formed e = due_by-number schedule (start_in tree.aggregations tree.records tree.events schedule r) (formed.schedules code schedule e).1 (start_in-day tree schedule r formed)

by_plan : (tree : TreeState) (r : ℕ) (plan : Option (List ℕ)) → IsWellFormedTree tree → IfSome (due_by_schedule tree r (option_and_then (get tree.schedules) plan)) IsDueNumber
by_plan tree r None formed = tt
by_plan tree r (Some code) formed = by_code tree r code (get tree.schedules code) formed refl

-- the due day of a record is a due number
pub due_of-number : (tree : TreeState) (r : ℕ) → IsWellFormedTree tree → IfSome (due_of tree r) IsDueNumber
due_of-number tree r formed = by_plan tree r (plan_of tree r) formed
