-- What a row write makes of the office. Source: own.
use Rattle.std.specs.Prelude.{◌≡◌, ◌<◌, ◌≤◌, ◌+◌, ℕ, List, [], ◌∷◌, length, Some, IsSome, IsTrue, false}
use Rattle.std.specs.FinMap.{contains_key, get, insert, remove}
use Rattle.std.specs.String.{string_bytes}
use Rattle.office_records.specs.Lasting.{HeadStays, KeepsAggregation, KeepsHead}
use Rattle.office_records.specs.Lists.{numbered, put}
use Rattle.office_records.specs.Rows.{put_schedule, put_class, put_aggregation, put_record, put_event}
use Rattle.office_records.specs.Sound as tree
use Rattle.office_records.specs.Tree.{has_record}
use Rattle.office_records.specs.declared.aggregation.Aggregation.{Aggregation}
use Rattle.office_records.specs.declared.head.Record.{Record}
use Rattle.office_rules.specs.HoldEffects.{held_on, held_off}
use Rattle.office_rules.specs.HoldForms.{FitsHoldLimits}
use Rattle.office_rules.specs.HoldRows.{StaysLifted, put_hold}
use Rattle.office_rules.specs.State.{State, Office, ByteMap}
use Rattle.office_rules.specs.declared.rows.RowWrite.{RowWrite}
use Rattle.office_rules.specs.declared.rows.RowWrite.TheVariants as row_write

-- the office with a row put in by its key, or with a target taken off; contents are not in it
abbrev pub write_office : RowWrite → Office → Office
write_office (row_write.Schedule code schedule) s = record s { tree = put_schedule s.tree code schedule }
write_office (row_write.Class code class) s = record s { tree = put_class s.tree code class }
write_office (row_write.Aggregation number aggregation) s =
    record s { tree = put_aggregation s.tree number aggregation }
write_office (row_write.Record number head status) s = record s { tree = put_record s.tree number head status }
write_office (row_write.Event number event) s = record s { tree = put_event s.tree number event }
write_office (row_write.Content number bytes) s = s
write_office (row_write.DeleteContent number) s = s
write_office (row_write.Hold code hold) s = record s { holds = put_hold s.holds code hold }
write_office (row_write.Target hold target) s = record s { holds = held_on s.holds hold target }
write_office (row_write.RemoveTarget hold target) s = record s { holds = held_off s.holds hold target }
write_office (row_write.Run number run) s = record s { runs = put s.runs number run }
write_office (row_write.Entry entry) s = record s { entries = insert s.entries (entry.run, entry.record_no) entry }
write_office (row_write.Certificate run text) s =
    record s { certificates = insert s.certificates run (string_bytes text) }
write_office (row_write.Day day) s = record s { day = day }

-- contents with one put in or taken away
abbrev pub write_contents : RowWrite → ByteMap → ByteMap
write_contents (row_write.Content number bytes) contents = insert contents number bytes.items
write_contents (row_write.DeleteContent number) contents = remove contents number
write_contents _ contents = contents

abbrev pub write : RowWrite → State → State
write w s = record { office = write_office w s.office; contents = write_contents w s.contents }

-- writes, one after another
abbrev pub all_office_writes : List RowWrite → Office → Office
all_office_writes [] s = s
all_office_writes (w ∷ ws) s = all_office_writes ws (write_office w s)

abbrev pub all_writes : List RowWrite → State → State
all_writes [] s = s
all_writes (w ∷ ws) s = all_writes ws (write w s)

-- a write that can be done first, which may take memory: the key of its row is there or is the next number, an event's
-- record is there, tree and holds stay within what they promise, and what is there keeps what stays: a schedule all, an
-- aggregation its ref and parent, a record its ref, aggregation and added day, a hold that it is lifted
abbrev pub CanPut : Office → RowWrite → Type 0
CanPut s (row_write.Schedule code schedule) =
    tree.IsSound (put_schedule s.tree code schedule) × (contains_key s.tree.schedules code ≡ false)
CanPut s (row_write.Class code class) = tree.IsSound (put_class s.tree code class)
CanPut s (row_write.Aggregation number aggregation) =
    (0 < number) × (number ≤ length s.tree.aggregations + 1) × tree.IsSound (put_aggregation s.tree number aggregation)
    × KeepsAggregation s.tree.aggregations number aggregation
CanPut s (row_write.Record number head status) =
    (0 < number) × (number ≤ length s.tree.records + 1) × tree.IsSound (put_record s.tree number head status)
    × KeepsHead s.tree.records number head
CanPut s (row_write.Event number event) = IsTrue (has_record s.tree number)
CanPut s (row_write.Hold code hold) = FitsHoldLimits (put_hold s.holds code hold) × StaysLifted s.holds code hold
CanPut s (row_write.Target hold target) = IsSome (get s.holds hold) × FitsHoldLimits (held_on s.holds hold target)
CanPut s (row_write.RemoveTarget hold target) = Unit {0}
CanPut s (row_write.Run number run) = (0 < number) × (number ≤ length s.runs + 1)
CanPut s (row_write.Entry entry) = Unit {0}
CanPut s (row_write.Certificate run text) = Unit {0}
CanPut s _ = ⊥

-- a record is there, and keeps what stays of it
abbrev pub HasHead : Office → ℕ → Record → Type 0
HasHead s r head = (old : Record) × (numbered s.tree.records r ≡ Some old) × HeadStays old head

-- a write that may follow on another, since it takes no memory: a row in place of one that is there, of which it keeps
-- what stays, a content, or the day
abbrev pub CanFollow : Office → RowWrite → Type 0
CanFollow s (row_write.Record number head status) = (0 < number) × (number ≤ length s.tree.records) × tree.IsSound (put_record s.tree number head status) × HasHead s number head
CanFollow s (row_write.Run number run) = (0 < number) × (number ≤ length s.runs)
CanFollow s (row_write.Content number bytes) = Unit {0}
CanFollow s (row_write.DeleteContent number) = Unit {0}
CanFollow s (row_write.Day day) = Unit {0}
CanFollow s _ = ⊥

-- each of the writes may follow, where those before it are done
abbrev pub AllFollow : Office → List RowWrite → Type 0
AllFollow s [] = Unit {0}
AllFollow s (w ∷ ws) = CanFollow s w × AllFollow (write_office w s) ws

-- writes that can be done one after another, of which the first alone may take memory
abbrev pub CanWrite : Office → List RowWrite → Type 0
CanWrite s [] = Unit {0}
CanWrite s (w ∷ ws) = CanPut s w × AllFollow (write_office w s) ws

-- the row has a place: its number is there or is the next, and a target's hold is there
abbrev pub HasPlace : Office → RowWrite → Type 0
HasPlace s (row_write.Aggregation number aggregation) = (0 < number) × (number ≤ length s.tree.aggregations + 1)
HasPlace s (row_write.Record number head status) = (0 < number) × (number ≤ length s.tree.records + 1)
HasPlace s (row_write.Run number run) = (0 < number) × (number ≤ length s.runs + 1)
HasPlace s (row_write.Target hold target) = IsSome (get s.holds hold)
HasPlace s _ = Unit {0}

-- no other aggregation, and no other record, has the ref of a row that is put in
abbrev pub RefIsFree : Office → RowWrite → Type 0
RefIsFree s (row_write.Aggregation number it) =
    (a : ℕ) (other : Aggregation) → numbered s.tree.aggregations a ≡ Some other → other.ref_text ≡ it.ref_text
    → a ≡ number
RefIsFree s (row_write.Record number head status) =
    (r : ℕ) (other : Record) → numbered s.tree.records r ≡ Some other → other.ref_text ≡ head.ref_text → r ≡ number
RefIsFree s _ = Unit {0}

-- so it is at each of the writes, where those before it are done
abbrev pub RefsAreFree : Office → List RowWrite → Type 0
RefsAreFree s [] = Unit {0}
RefsAreFree s (w ∷ ws) = RefIsFree s w × RefsAreFree (write_office w s) ws
