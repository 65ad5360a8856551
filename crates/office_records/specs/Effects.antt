-- What each accepted act makes of the tree. Source: MoReq2010, its classification, record and disposal scheduling
-- services; confirmation, receipt and event are own.
use Rattle.std.specs.Prelude.{ℕ, List, [], ◌∷◌, ◌++◌, Option, Some, None, ℤ}
use Rattle.std.specs.Option.{option_map}
use Rattle.std.specs.FinMap.{insert}
use Rattle.office_records.specs.Lists.{edited, amended, or_else}
use Rattle.office_records.specs.Tree.{TreeState, due_of}
use Rattle.office_records.specs.declared.action.Action.{Action}
use Rattle.office_records.specs.declared.classified.Classified.{Classified}
use Rattle.office_records.specs.declared.classified.Classified.TheVariants as classified
use Rattle.office_records.specs.declared.class.Class.{Class}
use Rattle.office_records.specs.declared.head.Record.{Record}
use Rattle.office_records.specs.declared.schedule.Schedule.{Schedule}
use Rattle.office_records.specs.declared.status.Status.TheVariants.{Here, Received}

-- a new schedule under its code
abbrev pub added_schedule : TreeState → List ℕ → Schedule → TreeState
added_schedule tree code schedule = record tree { schedules = insert tree.schedules code schedule }

-- a new class under its code
abbrev pub added_class : TreeState → List ℕ → Class → TreeState
added_class tree code class = record tree { classes = insert tree.classes code class }

-- an aggregation with the next number, open
abbrev pub added_aggregation : TreeState → List ℕ → List ℕ → Option ℕ → Option (List ℕ) → TreeState
added_aggregation tree ref_text title parent class = record tree {
  aggregations = tree.aggregations ++ record { ref_text = ref_text; title = title; parent = parent; class = class; closed = None } ∷ [];
}

-- the aggregation closed on a day
abbrev pub closed_aggregation : TreeState → ℕ → ℤ → TreeState
closed_aggregation tree a day =
    record tree { aggregations = edited tree.aggregations a (λ it. record it { closed = Some day }) }

-- a record with the next number, here
abbrev pub added_record : TreeState → Record → TreeState
added_record tree head = record tree { records = tree.records ++ head ∷ []; statuses = tree.statuses ++ Here ∷ [] }

-- a class's schedule
abbrev pub with_class_schedule : TreeState → List ℕ → List ℕ → TreeState
with_class_schedule tree class schedule =
    record tree { classes = amended tree.classes class (λ it. record it { schedule = schedule }) }

-- the tree with a record's head changed
abbrev pub with_head : TreeState → ℕ → (Record → Record) → TreeState
with_head tree r change = record tree { records = edited tree.records r change }

-- a record's own schedule, set or taken away
abbrev pub with_record_schedule : TreeState → ℕ → Option (List ℕ) → TreeState
with_record_schedule tree r schedule = with_head tree r (λ head. record head { schedule = schedule })

-- an own class, set or taken away
abbrev pub reclassified : TreeState → Classified → Option (List ℕ) → TreeState
reclassified tree (classified.Aggregation a) class =
    record tree { aggregations = edited tree.aggregations a (λ it. record it { class = class }) }
reclassified tree (classified.Record r) class = with_head tree r (λ head. record head { class = class })

-- a confirmation of the action and the due day of that moment, in place of any other
abbrev pub confirmed : TreeState → ℤ → ℕ → Action → List ℕ → TreeState
confirmed tree day r named by =
    with_head tree r
    (λ head. record head {
      confirmation = option_map
          (λ due. record { action = named; due = due; day = day; by = by }) (due_of tree r);
    })

-- a review in place of an earlier one; a given schedule becomes the record's own, and where none is given its own stays
abbrev pub reviewed : TreeState → ℤ → ℕ → Option (List ℕ) → List ℕ → TreeState
reviewed tree day r schedule by =
    with_head tree r
    (λ head. record head {
      review = Some (record { day = day; by = by });
      schedule = or_else schedule
          head.schedule;
    })

-- a receipt, by which the record is received
abbrev pub receipted : TreeState → ℤ → ℕ → List ℕ → TreeState
receipted tree day r by = record tree {
  records = edited tree.records r (λ head. record head { receipt = Some (record { day = day; by = by }) });
  statuses = edited tree.statuses r (λ _. Received);
}

-- an event, in place of an earlier one; the head stays, so a confirmation stays and counts only where the due day is
-- still its own
abbrev pub with_event : TreeState → ℤ → ℕ → ℤ → List ℕ → TreeState
with_event tree day r occurred by =
    record tree { events = insert tree.events r (record { occurred = occurred; day = day; by = by }) }
