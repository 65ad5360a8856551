-- The tree of aggregations with its records, classes and schedules, and what is read of a record in it.
-- Source: MoReq2010, its classification, record and disposal scheduling services; numbers and triggers are own.
use Rattle.std.specs.Prelude.{ℕ, zero, suc, ◌==◌, nat_le, Bool, true, false, ◌&&◌, if◌then◌else◌, List, [], ◌∷◌, map, filter, length, Option, Some, None, ℤ}
use Rattle.std.specs.Option.{option_and_then, option_map}
use Rattle.std.specs.Ordering.{nat_cmp}
use Rattle.std.specs.declared.cmp.Ordering.{Ordering}
use Rattle.std.specs.Cmp.Lexicographic.{slice_cmp}
use Rattle.std.specs.FinMap.{FinMap, empty, get}
use Rattle.office_days.specs.Due.{due_from}
use Rattle.office_records.specs.Lists.{numbered, first_some, or_else, greatest}
use Rattle.office_records.specs.declared.trigger.Trigger.{Trigger}
use Rattle.office_records.specs.declared.trigger.Trigger.TheVariants as trigger
use Rattle.office_records.specs.declared.action.Action.{Action}
use Rattle.office_records.specs.declared.action.Action.TheVariants as action
use Rattle.office_records.specs.declared.status.Status.{Status}
use Rattle.office_records.specs.declared.schedule.Schedule.{Schedule}
use Rattle.office_records.specs.declared.class.Class.{Class}
use Rattle.office_records.specs.declared.aggregation.Aggregation.{Aggregation}
use Rattle.office_records.specs.declared.event.Event.{Event}
use Rattle.office_records.specs.declared.head.Record.{Record}

-- codes are in byte order
abbrev pub code_cmp : List ℕ → List ℕ → Ordering
code_cmp = slice_cmp nat_cmp

-- schedules and classes by code; aggregation n and record n at place n - 1; a record's status beside its head; a
-- record's event under its number
pub record TreeState : Type 0 where
  pub schedules : FinMap code_cmp Schedule
  pub classes : FinMap code_cmp Class
  pub aggregations : List Aggregation
  pub records : List Record
  pub statuses : List Status
  pub events : FinMap nat_cmp Event

-- nothing is there yet
abbrev pub empty_tree : TreeState
empty_tree =
    record { schedules = empty; classes = empty; aggregations = []; records = []; statuses = []; events = empty }

-- there is an aggregation, or a record, of that number
abbrev pub has_aggregation : TreeState → ℕ → Bool
has_aggregation tree a = nat_le 1 a && nat_le a (length tree.aggregations)

abbrev pub has_record : TreeState → ℕ → Bool
has_record tree r = nat_le 1 r && nat_le r (length tree.records)

-- the aggregation, its parent, that one's parent and so on. A parent's number is smaller, so there are at most as many
-- steps as the number says
unfoldable pub chain : List Aggregation → ℕ → Option ℕ → List ℕ
chain aggregations steps None = []
chain aggregations zero (Some a) = []
chain aggregations (suc steps) (Some a) =
    a ∷ chain aggregations steps (option_and_then (λ aggregation. aggregation.parent) (numbered aggregations a))

-- the aggregation and all that contain it, the nearest first; so many is its depth
abbrev pub chain_of : List Aggregation → ℕ → List ℕ
chain_of aggregations a = chain aggregations a (Some a)

abbrev pub above_head : List Aggregation → Option Record → List ℕ
above_head aggregations None = []
above_head aggregations (Some head) = chain_of aggregations head.aggregation

-- the aggregations that contain the record, the nearest first (MoReq2010, record service)
unfoldable pub above_in : List Aggregation → List Record → ℕ → List ℕ
above_in aggregations records r = above_head aggregations (numbered records r)

abbrev pub above : TreeState → ℕ → List ℕ
above tree r = above_in tree.aggregations tree.records r

-- the own class of each of these aggregations
abbrev pub own_classes : List Aggregation → List ℕ → List (Option (List ℕ))
own_classes aggregations numbers =
    map (λ a. option_and_then (λ aggregation. aggregation.class) (numbered aggregations a)) numbers

-- the class of an aggregation: its own, else that of the nearest that contains it and has one (MoReq2010,
-- classification service)
unfoldable pub aggregation_class_in : List Aggregation → ℕ → Option (List ℕ)
aggregation_class_in aggregations a = first_some (own_classes aggregations (chain_of aggregations a))

-- the class of a record: its own, else that of the nearest aggregation that contains it and has one (MoReq2010,
-- classification service)
unfoldable pub class_in : List Aggregation → List Record → ℕ → Option (List ℕ)
class_in aggregations records r = first_some (option_and_then (λ head. head.class) (numbered records r) ∷ own_classes aggregations (above_in aggregations records r))

abbrev pub class_of : TreeState → ℕ → Option (List ℕ)
class_of tree r = class_in tree.aggregations tree.records r

-- the plan of a record: its own schedule, else the schedule of its class (MoReq2010, disposal scheduling service)
unfoldable pub plan_in : FinMap code_cmp Class → List Aggregation → List Record → ℕ → Option (List ℕ)
plan_in classes aggregations records r =
    or_else
    (option_and_then (λ head. head.schedule) (numbered records r))
    (option_and_then (λ code. option_map (λ class. class.schedule) (get classes code))
    (class_in aggregations records r))

abbrev pub plan_of : TreeState → ℕ → Option (List ℕ)
plan_of tree r = plan_in tree.classes tree.aggregations tree.records r

-- and the schedule under that code
abbrev pub schedule_of : TreeState → ℕ → Option Schedule
schedule_of tree r = option_and_then (get tree.schedules) (plan_of tree r)

-- the greatest added day of all records ever added to the aggregation, whatever their status
unfoldable pub last_addition : List Record → ℕ → Option ℤ
last_addition records a = greatest (map (λ head. head.added) (filter (λ head. head.aggregation == a) records))

-- the start day by each trigger: the originated day; the added day; the day on which the own aggregation was closed;
-- the last addition to it; the last review, else the added day; the day on which the record's own event occurred
abbrev pub start_by : Trigger → List Aggregation → List Record → Option Event → Record → Option ℤ
start_by trigger.Origin aggregations records event head = Some head.originated
start_by trigger.Added aggregations records event head = Some head.added
start_by trigger.Closed aggregations records event head =
    option_and_then (λ aggregation. aggregation.closed) (numbered aggregations head.aggregation)
start_by trigger.LastAddition aggregations records event head = last_addition records head.aggregation
start_by trigger.Review aggregations records event head =
    or_else (option_map (λ review. review.day) head.review) (Some head.added)
start_by trigger.Event aggregations records event head = option_map (λ it. it.occurred) event

unfoldable pub start_in : List Aggregation → List Record → FinMap nat_cmp Event → Schedule → ℕ → Option ℤ
start_in aggregations records events schedule r =
    option_and_then (λ head. start_by schedule.trigger aggregations records (get events r) head) (numbered records r)

-- the day on which the record's event occurred
abbrev pub event_day : TreeState → ℕ → Option ℤ
event_day tree r = option_map (λ it. it.occurred) (get tree.events r)

-- the start day of a record by its plan
abbrev pub start_of : TreeState → ℕ → Option ℤ
start_of tree r =
    option_and_then (λ schedule. start_in tree.aggregations tree.records tree.events schedule r) (schedule_of tree r)

-- the action is to retain permanently (MoReq2010, disposal scheduling service)
abbrev pub is_keep : Action → Bool
is_keep action.Keep = true
is_keep action.Review = false
is_keep action.Transfer = false
is_keep action.Destroy = false

-- the start plus the period, then the offset; none where there is no start or the action is to keep (MoReq2010,
-- disposal scheduling service)
unfoldable pub due_by : Schedule → Option ℤ → Option ℤ
due_by schedule start =
    if is_keep schedule.action then None else option_map (λ day. due_from day schedule.period schedule.offset) start

-- the due day of a record
abbrev pub due_of : TreeState → ℕ → Option ℤ
due_of tree r = option_and_then (λ schedule. due_by schedule (start_in tree.aggregations tree.records tree.events schedule r)) (schedule_of tree r)

-- the action of a record's plan
abbrev pub action_of : TreeState → ℕ → Option Action
action_of tree r = option_map (λ schedule. schedule.action) (schedule_of tree r)

-- the class of an aggregation
abbrev pub aggregation_class_of : TreeState → ℕ → Option (List ℕ)
aggregation_class_of tree a = aggregation_class_in tree.aggregations a

-- how far a record's disposal has come
abbrev pub status_of : TreeState → ℕ → Option Status
status_of tree r = numbered tree.statuses r
