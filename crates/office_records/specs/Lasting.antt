-- What stays of an entity when a row is put in place of it. Source: own.
use Rattle.std.specs.Prelude.{◌≡◌, ℕ, List, Some}
use Rattle.office_records.specs.Lists.{numbered}
use Rattle.office_records.specs.declared.aggregation.Aggregation.{Aggregation}
use Rattle.office_records.specs.declared.head.Record.{Record}

-- an aggregation keeps its ref and its parent
pub record AggregationStays (old new : Aggregation) : Type 0 where
  pub ref_text : old.ref_text ≡ new.ref_text
  pub parent : old.parent ≡ new.parent

-- a record keeps its ref, its aggregation and the day on which it was added
pub record HeadStays (old new : Record) : Type 0 where
  pub ref_text : old.ref_text ≡ new.ref_text
  pub aggregation : old.aggregation ≡ new.aggregation
  pub added : old.added ≡ new.added

-- a row put in under that number is new, or keeps what stays of the one that is there

abbrev pub KeepsAggregation : List Aggregation → ℕ → Aggregation → Type 0
KeepsAggregation aggregations a it = (old : Aggregation) → numbered aggregations a ≡ Some old → AggregationStays old it

abbrev pub KeepsHead : List Record → ℕ → Record → Type 0
KeepsHead records r head = (old : Record) → numbered records r ≡ Some old → HeadStays old head
