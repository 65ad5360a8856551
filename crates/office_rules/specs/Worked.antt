-- A small office that laws work out: one schedule, two classes, two aggregations and three records. Source: own.
use Rattle.std.specs.Prelude.{◌≡◌, ℕ, List, [], ◌∷◌, length, Some, None, ℤ, pos, codes}
use Rattle.sha2.specs.Sha256.{sha256}
use Rattle.office_days.specs.declared.offset.Offset.TheVariants.{AnyDay}
use Rattle.office_days.specs.declared.unit.Unit.TheVariants.{Years}
use Rattle.office_records.specs.Effects.{added_record}
use Rattle.office_records.specs.Tree.{TreeState, empty_tree}
use Rattle.office_records.specs.declared.action.Action.TheVariants.{Destroy}
use Rattle.office_records.specs.declared.class.Class.{Class}
use Rattle.office_records.specs.declared.head.Record.{Record}
use Rattle.office_records.specs.declared.schedule.Schedule.{Schedule}
use Rattle.office_records.specs.declared.status.Status.{Status}
use Rattle.office_records.specs.declared.status.Status.TheVariants.{Here, Sent, Ended}
use Rattle.office_records.specs.declared.trigger.Trigger.TheVariants.{Added, Event}
use Rattle.office_records.specs.declared.target.Target.TheVariants as target
use Rattle.office_rules.specs.declared.entry.Entry.{Entry}
use Rattle.office_rules.specs.declared.outcome.Outcome.TheVariants.{Destroyed}
use Rattle.office_rules.specs.Effects.{with_tree, after_add_schedule, after_add_class, after_add_aggregation, after_close_aggregation, after_confirm, after_event, after_set_record_schedule, after_place_hold, after_hold_on, after_hold_off, after_lift_hold}
use Rattle.office_rules.specs.NewRecords.{NewRecord}
use Rattle.office_rules.specs.State.{Office, empty_office, empty_state, State}
use Rattle.office_rules.specs.Steps.{step_open_run, step_run_step}
use Rattle.office_rules.specs.declared.answer.Answer.{Answer}

-- 2024-01-02, the day of the base office's acts
abbrev pub filing_day : ℤ
filing_day = pos 19_724

-- 2025-01-02, one year later, and the day before it
abbrev pub filing_due : ℤ
filing_due = pos 20_090

abbrev pub day_before_due : ℤ
day_before_due = pos 20_089

-- ---- the base office

-- to destroy one year after the added day
abbrev pub yearly : Schedule
yearly = record { trigger = Added; period = record { unit = Years; count = 1 }; offset = AnyDay; action = Destroy }

-- a class whose title is its code, with that schedule
abbrev pub class_titled : List ℕ → Class
class_titled code = record { title = code; schedule = codes "D1" }

abbrev pub with_yearly : Office
with_yearly = after_add_schedule empty_office filing_day (codes "D1") yearly

abbrev pub with_class : Office → List ℕ → Office
with_class s code = after_add_class s filing_day code (class_titled code)

-- a root whose title is its ref
abbrev pub with_root : Office → List ℕ → List ℕ → Office
with_root s ref_text class = after_add_aggregation s filing_day ref_text ref_text None (Some class)

-- the head of a record whose title is its ref, with no class or schedule of its own
abbrev pub head_with : List ℕ → ℕ → List ℕ → Record
head_with ref_text aggregation content = record {
  ref_text = ref_text;
  title = ref_text;
  originated = filing_day;
  added = filing_day;
  aggregation = aggregation;
  class = None;
  schedule = None;
  length = length content;
  digest = sha256 content;
  review = None;
  confirmation = None;
  receipt = None;
}

abbrev pub with_record : Office → List ℕ → ℕ → List ℕ → Office
with_record s ref_text aggregation content =
    with_tree s filing_day (added_record s.tree (head_with ref_text aggregation content))

abbrev pub classed_office : Office
classed_office = with_class (with_class with_yearly (codes "FIN")) (codes "LEG")

abbrev pub rooted_office : Office
rooted_office = with_root (with_root classed_office (codes "A") (codes "FIN")) (codes "B") (codes "LEG")

abbrev pub first_filed : Office
first_filed = with_record rooted_office (codes "r1") 1 (codes "abc")

abbrev pub second_filed : Office
second_filed = with_record first_filed (codes "r2") 2 []

abbrev pub base_office : Office
base_office = with_record second_filed (codes "r3") 1 (codes "abc")

-- what is asked for with such a record, under a title that may be another
pub record AsksFor (new : NewRecord) (name words : List ℕ) (parent : ℕ) (bytes : List ℕ) : Type 0 where
  pub ref_text : new.ref_text ≡ name
  pub title : new.title ≡ words
  pub originated : new.originated ≡ filing_day
  pub aggregation : new.aggregation ≡ parent
  pub class : new.class ≡ None
  pub schedule : new.schedule ≡ None
  pub content : new.content ≡ bytes

-- the first record is confirmed on its due day
abbrev pub confirmed_office : Office
confirmed_office = after_confirm base_office filing_due 1 Destroy (codes "registrar")

-- the first record is sent
abbrev pub sent_office : Office
sent_office = record base_office { tree = record (base_office.tree) { statuses = Sent ∷ Here ∷ Here ∷ [] } }

-- ---- the base office with a period that begins with an event of the first record

-- 2024-02-29 and 2024-03-31, on which the event occurred, and 2024-03-01, the day of the act that recorded the first
-- one
abbrev pub leap_day : ℤ
leap_day = pos 19_782

abbrev pub later_day : ℤ
later_day = pos 19_813

abbrev pub recording_day : ℤ
recording_day = pos 19_783

-- 2026-02-28 and 2026-03-31, two years later, and 2026-03-01
abbrev pub event_due : ℤ
event_due = pos 20_512

abbrev pub later_due : ℤ
later_due = pos 20_543

abbrev pub day_after_due : ℤ
day_after_due = pos 20_513

-- to destroy two years after the event
abbrev pub by_event : Schedule
by_event = record { trigger = Event; period = record { unit = Years; count = 2 }; offset = AnyDay; action = Destroy }

-- it is the first record's own schedule
abbrev pub event_office : Office
event_office = after_set_record_schedule (after_add_schedule base_office filing_day (codes "E") by_event) filing_day 1 (Some (codes "E"))

-- its event is recorded; its destruction is confirmed; another event is recorded
abbrev pub recorded_office : Office
recorded_office = after_event event_office recording_day 1 leap_day (codes "registrar")

abbrev pub event_confirmed : Office
event_confirmed = after_confirm recorded_office event_due 1 Destroy (codes "registrar")

abbrev pub again_recorded : Office
again_recorded = after_event event_confirmed event_due 1 later_day (codes "registrar")

-- ---- a new office, of which a run is opened, and two steps of it

abbrev pub opening : ℤ → Answer × State
opening day = step_open_run empty_state day (codes "registrar")

abbrev pub first_step : ℤ → Answer × State
first_step day = step_run_step (opening day).1

abbrev pub second_step : ℤ → Answer × State
second_step day = step_run_step (first_step day).1

-- ---- the base office with holds

abbrev pub with_hold : Office → List ℕ → Office
with_hold s code = after_place_hold s filing_day code (codes "court") (codes "registrar")

-- a hold on the class LEG, and another one on the second record
abbrev pub class_held : Office
class_held = after_hold_on (with_hold base_office (codes "H-9")) filing_day (codes "H-9") (target.Class (codes "LEG"))

abbrev pub twice_held : Office
twice_held = after_hold_on (with_hold class_held (codes "H-2")) filing_day (codes "H-2") (target.Record 2)

-- the second one lifted, and then the class taken off the first
abbrev pub once_held : Office
once_held = after_lift_hold twice_held filing_day (codes "H-2")

abbrev pub free_again : Office
free_again = after_hold_off once_held filing_day (codes "H-9") (target.Class (codes "LEG"))

-- a hold on both classes, and then one of them taken off it
abbrev pub both_held : Office
both_held = after_hold_on class_held filing_day (codes "H-9") (target.Class (codes "FIN"))

abbrev pub one_left : Office
one_left = after_hold_off both_held filing_day (codes "H-9") (target.Class (codes "LEG"))

-- a hold on the class FIN
abbrev pub finance_held : Office
finance_held = after_hold_on (with_hold base_office (codes "H-9")) filing_day (codes "H-9") (target.Class (codes "FIN"))

-- ---- an aggregation with a child, in which one record is ended

abbrev pub nested_office : Office
nested_office = with_record (after_add_aggregation (with_root classed_office (codes "A") (codes "FIN")) filing_day (codes "B") (codes "B") (Some 1) None) (codes "r1") 2 (codes "abc")

abbrev pub ended_office : Office
ended_office = record nested_office { tree = record (nested_office.tree) { statuses = Ended ∷ [] } }

abbrev pub child_closed : Office
child_closed = after_close_aggregation ended_office filing_due 2

abbrev pub both_closed : Office
both_closed = after_close_aggregation child_closed filing_due 1

-- the entry of the run that ended it
abbrev pub ending_entry : Entry
ending_entry = record {
  run = 1;
  record_no = 1;
  outcome = Destroyed;
  class = codes "FIN";
  schedule = codes "D1";
  due = filing_due;
  confirmed_by = codes "registrar";
  hold = None;
}

-- ---- two records added to one aggregation on two days, the first of them of any status

abbrev pub head_added : ℤ → List ℕ → Record
head_added day ref_text = record (head_with ref_text 1 []) { added = day }

abbrev pub twice_added : Status → TreeState
twice_added status = record empty_tree { records = head_added filing_day (codes "r1") ∷ head_added filing_due (codes "r2") ∷ []; statuses = status ∷ Here ∷ [] }
