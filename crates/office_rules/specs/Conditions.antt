-- Why each act is refused: for each of the eighteen one table of its conditions, in the order of the refusals' numbers,
-- of which the first that holds is answered. A condition about an entity that is not there is false. Source: own.
use Rattle.std.specs.Prelude.{ℕ, Bool, ◌&&◌, ◌||◌, ◌==◌, suc, not, int_lt, List, [], ◌∷◌, length, nat_le, Option, Some, None, ℤ, if◌then◌else◌}
use Rattle.std.specs.Option.{is_some, is_none}
use Rattle.std.specs.Ordering.{int_eq}
use Rattle.std.specs.Str.{bytes_eq}
use Rattle.std.specs.FinMap.{get, contains_key}
use Rattle.sha2.specs.Sha256.{sha256}
use Rattle.office_base.specs.declared.refusal.Refusal.{Refusal}
use Rattle.office_base.specs.declared.refusal.Refusal.TheVariants.{DayBack, Exists, NoSuch, Full, NeedsClass, HeldClass, Lifted, Ended, InTransfer, RunOpen, NoRun}
use Rattle.office_records.specs.Conditions.{conditions_of_add_schedule, conditions_of_add_class, conditions_of_set_class_schedule, conditions_of_add_aggregation, conditions_of_close_aggregation, conditions_of_add_record, conditions_of_set_record_schedule, conditions_of_confirm, conditions_of_review, conditions_of_receipt, conditions_of_event, lacks_class, lacks_classified, is_root, classified_status}
use Rattle.office_records.specs.Disposal.{is_ended, is_in_transfer}
use Rattle.office_records.specs.Lists.{is_some_and}
use Rattle.office_records.specs.Tree.{TreeState, has_aggregation, has_record, status_of}
use Rattle.office_records.specs.declared.action.Action.{Action}
use Rattle.office_records.specs.declared.class.Class.{Class}
use Rattle.office_records.specs.declared.classified.Classified.{Classified}
use Rattle.office_records.specs.declared.head.Record.{Record}
use Rattle.office_records.specs.declared.status.Status.{Status}
use Rattle.office_rules.specs.HoldConditions.{conditions_of_place_hold, conditions_of_hold_off, conditions_of_lift_hold, holds_target, has_all_targets, is_lifted, would_leave_held_class}
use Rattle.office_records.specs.declared.target.Target.{Target}
use Rattle.office_records.specs.declared.target.Target.TheVariants as target
use Rattle.office_rules.specs.NewRecords.{NewRecord}
use Rattle.office_rules.specs.Runs.{open_run}
use Rattle.office_rules.specs.State.{Office}

-- of an act with a day: it is before the office's day; and the act's other conditions
abbrev pub dated : Office → ℤ → List (Refusal × Bool) → List (Refusal × Bool)
dated s day conditions = (DayBack, int_lt day s.day) ∷ conditions

abbrev pub refusals_of_add_schedule : Office → ℤ → List ℕ → List (Refusal × Bool)
refusals_of_add_schedule s day code = dated s day (conditions_of_add_schedule s.tree code)

abbrev pub refusals_of_add_class : Office → ℤ → List ℕ → Class → List (Refusal × Bool)
refusals_of_add_class s day code class = dated s day (conditions_of_add_class s.tree code class.schedule)

abbrev pub refusals_of_set_class_schedule : Office → ℤ → List ℕ → List ℕ → List (Refusal × Bool)
refusals_of_set_class_schedule s day class schedule =
    dated s day (conditions_of_set_class_schedule s.tree class schedule)

abbrev pub refusals_of_add_aggregation : Office → ℤ → List ℕ → Option ℕ → Option (List ℕ) → List (Refusal × Bool)
refusals_of_add_aggregation s day ref_text parent class =
    dated s day (conditions_of_add_aggregation s.tree ref_text parent class)

abbrev pub refusals_of_close_aggregation : Office → ℤ → ℕ → List (Refusal × Bool)
refusals_of_close_aggregation s day a = dated s day (conditions_of_close_aggregation s.tree a)

abbrev pub refusals_of_add_record : Office → ℤ → NewRecord → List (Refusal × Bool)
refusals_of_add_record s day new =
    dated s day (conditions_of_add_record s.tree new.ref_text new.aggregation new.class new.schedule)

abbrev pub refusals_of_set_record_schedule : Office → ℤ → ℕ → Option (List ℕ) → List (Refusal × Bool)
refusals_of_set_record_schedule s day r schedule = dated s day (conditions_of_set_record_schedule s.tree r schedule)

-- no such target or class; a root and no class given; a held class would be left; the record is ended; it is sent or
-- received
abbrev pub conditions_of_reclassifying : Office → Classified → Option (List ℕ) → List (Refusal × Bool)
conditions_of_reclassifying s what class =
    (NoSuch, lacks_classified s.tree what || lacks_class s.tree class)
    ∷ (NeedsClass, is_root s.tree what && is_none class)
    ∷ (HeldClass, would_leave_held_class s.holds s.tree what class)
    ∷ (Ended, is_some_and (classified_status s.tree what) is_ended)
    ∷ (InTransfer, is_some_and (classified_status s.tree what) is_in_transfer)
    ∷ []

abbrev pub refusals_of_reclassify : Office → ℤ → Classified → Option (List ℕ) → List (Refusal × Bool)
refusals_of_reclassify s day what class = dated s day (conditions_of_reclassifying s what class)

abbrev pub refusals_of_place_hold : Office → ℤ → List ℕ → List (Refusal × Bool)
refusals_of_place_hold s day code = dated s day (conditions_of_place_hold s.holds code)

-- there is no such target
abbrev pub lacks_target : TreeState → Target → Bool
lacks_target tree (target.Class code) = not (contains_key tree.classes code)
lacks_target tree (target.Aggregation a) = not (has_aggregation tree a)
lacks_target tree (target.Record r) = not (has_record tree r)

-- the status of a record that is a target; other targets have none
abbrev pub target_status : TreeState → Target → Option Status
target_status tree (target.Class code) = None
target_status tree (target.Aggregation a) = None
target_status tree (target.Record r) = status_of tree r

-- what the tree reports of a target: it is not there; it is an ended record
abbrev pub conditions_of_target : TreeState → Target → List (Refusal × Bool)
conditions_of_target tree target =
    (NoSuch, lacks_target tree target) ∷ (Ended, is_some_and (target_status tree target) is_ended) ∷ []

-- the hold has that target; no such hold or target; the hold has 1,000 targets; it is lifted; the target is an ended
-- record
abbrev pub conditions_of_covering : Office → List ℕ → Target → List (Refusal × Bool)
conditions_of_covering s code target =
    (Exists, holds_target s.holds code target)
    ∷ (NoSuch, is_none (get s.holds code) || lacks_target s.tree target)
    ∷ (Full, has_all_targets s.holds code)
    ∷ (Lifted, is_lifted s.holds code)
    ∷ (Ended, is_some_and (target_status s.tree target) is_ended)
    ∷ []

abbrev pub refusals_of_hold_on : Office → ℤ → List ℕ → Target → List (Refusal × Bool)
refusals_of_hold_on s day code target = dated s day (conditions_of_covering s code target)

abbrev pub refusals_of_hold_off : Office → ℤ → List ℕ → Target → List (Refusal × Bool)
refusals_of_hold_off s day code target = dated s day (conditions_of_hold_off s.holds code target)

abbrev pub refusals_of_lift_hold : Office → ℤ → List ℕ → List (Refusal × Bool)
refusals_of_lift_hold s day code = dated s day (conditions_of_lift_hold s.holds code)

abbrev pub refusals_of_confirm : Office → ℤ → ℕ → Action → List (Refusal × Bool)
refusals_of_confirm s day r named = dated s day (conditions_of_confirm s.tree day r named)

abbrev pub refusals_of_review : Office → ℤ → ℕ → Option (List ℕ) → List (Refusal × Bool)
refusals_of_review s day r schedule = dated s day (conditions_of_review s.tree day r schedule)

-- there are 10,000 runs; a run is open
abbrev pub conditions_of_open_run : Office → List (Refusal × Bool)
conditions_of_open_run s = (Full, nat_le 10_000 (length s.runs)) ∷ (RunOpen, is_some (open_run s)) ∷ []

abbrev pub refusals_of_open_run : Office → ℤ → List (Refusal × Bool)
refusals_of_open_run s day = dated s day (conditions_of_open_run s)

-- no run is open
abbrev pub refusals_of_run_step : Office → List (Refusal × Bool)
refusals_of_run_step s = (NoRun, is_none (open_run s)) ∷ []

abbrev pub refusals_of_receipt : Office → ℤ → ℕ → List ℕ → List (Refusal × Bool)
refusals_of_receipt s day r digest = dated s day (conditions_of_receipt s.tree r digest)

abbrev pub refusals_of_event : Office → ℤ → ℕ → ℤ → List (Refusal × Bool)
refusals_of_event s day r occurred = dated s day (conditions_of_event s.tree day r occurred)

-- ---- a record that is asked for again

-- ref, title, originated day, aggregation, and the content's length and digest are the record's
abbrev pub is_same_record : NewRecord → Record → Bool
is_same_record new head =
    bytes_eq new.ref_text head.ref_text && bytes_eq new.title head.title && int_eq new.originated head.originated
    && new.aggregation == head.aggregation && length new.content == head.length
    && bytes_eq (sha256 new.content) head.digest

-- the number, counted from another, of the first that passes
abbrev pub number_passing : {A : Type 0} → (A → Bool) → ℕ → List A → Option ℕ
number_passing test n [] = None
number_passing test n (x ∷ xs) = if test x then Some n else number_passing test (suc n) xs

-- the record that was added before with all that is asked now, ended or not
abbrev pub same_record : Office → NewRecord → Option ℕ
same_record s new = number_passing (is_same_record new) 1 s.tree.records
