-- A tree with one row put in by its key, in place of what was there or as a new one. Source: own.
use Rattle.std.specs.Prelude.{ℕ, List}
use Rattle.std.specs.FinMap.{insert}
use Rattle.office_records.specs.Lists.{put}
use Rattle.office_records.specs.Tree.{TreeState}
use Rattle.office_records.specs.declared.aggregation.Aggregation.{Aggregation}
use Rattle.office_records.specs.declared.class.Class.{Class}
use Rattle.office_records.specs.declared.event.Event.{Event}
use Rattle.office_records.specs.declared.head.Record.{Record}
use Rattle.office_records.specs.declared.schedule.Schedule.{Schedule}
use Rattle.office_records.specs.declared.status.Status.{Status}

abbrev pub put_schedule : TreeState → List ℕ → Schedule → TreeState
put_schedule tree code schedule = record tree { schedules = insert tree.schedules code schedule }

abbrev pub put_class : TreeState → List ℕ → Class → TreeState
put_class tree code class = record tree { classes = insert tree.classes code class }

abbrev pub put_aggregation : TreeState → ℕ → Aggregation → TreeState
put_aggregation tree a it = record tree { aggregations = put tree.aggregations a it }

-- a record's head, with its status beside it
abbrev pub put_record : TreeState → ℕ → Record → Status → TreeState
put_record tree r head status = record tree { records = put tree.records r head; statuses = put tree.statuses r status }

-- the event of a record, in place of an earlier one
abbrev pub put_event : TreeState → ℕ → Event → TreeState
put_event tree r event = record tree { events = insert tree.events r event }
