-- What each accepted act makes of the office. Every act but a step of a run also sets the office's day to its own.
-- Source: MoReq2010, its classification, record, disposal scheduling and disposal holding services; runs are own.
use Rattle.std.specs.Prelude.{ℕ, suc, false, List, [], ◌∷◌, ◌++◌, length, Option, None, ℤ}
use Rattle.std.specs.FinMap.{insert}
use Rattle.sha2.specs.Sha256.{sha256}
use Rattle.office_records.specs.Effects.{added_schedule, added_class, with_class_schedule, added_aggregation, closed_aggregation, added_record, with_record_schedule, reclassified, confirmed, reviewed, receipted, with_event}
use Rattle.office_records.specs.Tree.{TreeState}
use Rattle.office_records.specs.declared.action.Action.{Action}
use Rattle.office_records.specs.declared.class.Class.{Class}
use Rattle.office_records.specs.declared.classified.Classified.{Classified}
use Rattle.office_records.specs.declared.head.Record.{Record}
use Rattle.office_records.specs.declared.schedule.Schedule.{Schedule}
use Rattle.office_rules.specs.HoldEffects.{placed_hold, held_on, held_off, lifted_hold}
use Rattle.office_rules.specs.Holds.{HoldMap}
use Rattle.office_records.specs.declared.target.Target.{Target}
use Rattle.office_rules.specs.NewRecords.{NewRecord}
use Rattle.office_rules.specs.State.{Office, State}
use Rattle.office_rules.specs.declared.run.Run.{Run}

-- an act of that day on the tree, or on the holds
abbrev pub with_tree : Office → ℤ → TreeState → Office
with_tree s day tree = record s { tree = tree; day = day }

abbrev pub with_holds : Office → ℤ → HoldMap → Office
with_holds s day holds = record s { holds = holds; day = day }

abbrev pub after_add_schedule : Office → ℤ → List ℕ → Schedule → Office
after_add_schedule s day code schedule = with_tree s day (added_schedule s.tree code schedule)

abbrev pub after_add_class : Office → ℤ → List ℕ → Class → Office
after_add_class s day code class = with_tree s day (added_class s.tree code class)

abbrev pub after_set_class_schedule : Office → ℤ → List ℕ → List ℕ → Office
after_set_class_schedule s day class schedule = with_tree s day (with_class_schedule s.tree class schedule)

abbrev pub after_add_aggregation : Office → ℤ → List ℕ → List ℕ → Option ℕ → Option (List ℕ) → Office
after_add_aggregation s day ref_text title parent class =
    with_tree s day (added_aggregation s.tree ref_text title parent class)

abbrev pub after_close_aggregation : Office → ℤ → ℕ → Office
after_close_aggregation s day a = with_tree s day (closed_aggregation s.tree a day)

-- the head of a new record: added on the act's day, with its content's length and SHA-256, not yet reviewed, confirmed
-- or received
abbrev pub new_head : ℤ → NewRecord → Record
new_head day new = record {
  ref_text = new.ref_text;
  title = new.title;
  originated = new.originated;
  added = day;
  aggregation = new.aggregation;
  class = new.class;
  schedule = new.schedule;
  length = length new.content;
  digest = sha256 new.content;
  review = None;
  confirmation = None;
  receipt = None;
}

abbrev pub after_add_record : Office → ℤ → NewRecord → Office
after_add_record s day new = with_tree s day (added_record s.tree (new_head day new))

-- and its content under its number
abbrev pub with_new_record : State → ℤ → NewRecord → State
with_new_record s day new = record { office = after_add_record s.office day new; contents = insert s.contents (suc (length s.office.tree.records)) new.content }

abbrev pub after_set_record_schedule : Office → ℤ → ℕ → Option (List ℕ) → Office
after_set_record_schedule s day r schedule = with_tree s day (with_record_schedule s.tree r schedule)

abbrev pub after_reclassify : Office → ℤ → Classified → Option (List ℕ) → Office
after_reclassify s day what class = with_tree s day (reclassified s.tree what class)

abbrev pub after_place_hold : Office → ℤ → List ℕ → List ℕ → List ℕ → Office
after_place_hold s day code reason by = with_holds s day (placed_hold s.holds day code reason by)

abbrev pub after_hold_on : Office → ℤ → List ℕ → Target → Office
after_hold_on s day code target = with_holds s day (held_on s.holds code target)

abbrev pub after_hold_off : Office → ℤ → List ℕ → Target → Office
after_hold_off s day code target = with_holds s day (held_off s.holds code target)

abbrev pub after_lift_hold : Office → ℤ → List ℕ → Office
after_lift_hold s day code = with_holds s day (lifted_hold s.holds day code)

abbrev pub after_confirm : Office → ℤ → ℕ → Action → List ℕ → Office
after_confirm s day r named by = with_tree s day (confirmed s.tree day r named by)

abbrev pub after_review : Office → ℤ → ℕ → Option (List ℕ) → List ℕ → Office
after_review s day r schedule by = with_tree s day (reviewed s.tree day r schedule by)

-- a run of that day, open, that has taken no record
abbrev pub new_run : ℤ → List ℕ → Run
new_run day by = record { day = day; by = by; cursor = 0; is_closed = false }

abbrev pub after_open_run : Office → ℤ → List ℕ → Office
after_open_run s day by = record s { runs = s.runs ++ new_run day by ∷ []; day = day }

abbrev pub after_receipt : Office → ℤ → ℕ → List ℕ → Office
after_receipt s day r by = with_tree s day (receipted s.tree day r by)

abbrev pub after_event : Office → ℤ → ℕ → ℤ → List ℕ → Office
after_event s day r occurred by = with_tree s day (with_event s.tree day r occurred by)
