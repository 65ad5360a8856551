-- What is cached of the records in and below each aggregation, so that it is not counted again each time. Source: own.
use Rattle.std.specs.Prelude.{◌≡◌, ◌==◌, ◌&&◌, ◌+◌, ◌⊎◌, ℕ, Bool, cond, not, List, filter, length, Some, None, ℤ}
use Rattle.std.specs.List.{list_any}
use Rattle.office_records.specs.Disposal.{is_ended, records_below}
use Rattle.office_records.specs.Lists.{numbered, is_some_and, later}
use Rattle.office_records.specs.Tree.{TreeState, chain_of, last_addition, status_of}
use Rattle.office_records.specs.declared.aggregation.Aggregation.{Aggregation}
use Rattle.office_records.specs.declared.head.Record.{Record}
use Rattle.office_tree.specs.declared.summary.AggregationSummary.{AggregationSummary}

-- the records below an aggregation, at any depth, that are not ended
abbrev pub active_below : TreeState → ℕ → List ℕ
active_below tree a = filter (λ r. not (is_some_and (status_of tree r) is_ended)) (records_below tree a)

-- what is cached of an aggregation is right: the last addition to it, how many records are below it, and how many of
-- these are not ended
pub record IsSummary (tree : TreeState) (a : ℕ) (it : AggregationSummary) : Type 0 where
  pub last_addition : it.last_addition ≡ last_addition tree.records a
  pub records : it.records ≡ length (records_below tree a)
  pub active : it.active ≡ length (active_below tree a)

-- so it is of all aggregations
pub record AreSummaries (tree : TreeState) (summaries : List AggregationSummary) : Type 0 where
  pub count : length summaries ≡ length tree.aggregations
  pub each : (a : ℕ) (it : AggregationSummary) → numbered summaries a ≡ Some it → IsSummary tree a it

-- of their last additions alone
pub record AreLastAdditions (summaries : List AggregationSummary) (aggregations : List Aggregation)
    (records : List Record) : Type 0 where
  pub count : length summaries ≡ length aggregations
  pub each : (a : ℕ) (it : AggregationSummary) → numbered summaries a ≡ Some it
      → it.last_addition ≡ last_addition records a

-- an aggregation is that of a record, or contains it
abbrev pub is_in_chain : List Aggregation → ℕ → ℕ → Bool
is_in_chain aggregations aggregation a = list_any (λ b. b == a) (chain_of aggregations aggregation)

-- what is cached of an aggregation once a record, active or ended, was added on a day to its own aggregation
abbrev pub added_to : List Aggregation → ℕ → ℤ → Bool → ℕ → AggregationSummary → AggregationSummary
added_to aggregations aggregation day is_active a it = record {
  last_addition = cond (aggregation == a) (later it.last_addition day) it.last_addition;
  records = it.records + cond (is_in_chain aggregations aggregation a) 1 0;
  active = it.active + cond (is_in_chain aggregations aggregation a && is_active) 1 0;
}

-- and so of all aggregations
pub record AreAdded (aggregations : List Aggregation) (aggregation : ℕ) (day : ℤ) (is_active : Bool)
    (old new : List AggregationSummary) : Type 0 where
  pub count : length new ≡ length old
  pub each : (a : ℕ) (it : AggregationSummary) → numbered old a ≡ Some it
      → numbered new a ≡ Some (added_to aggregations aggregation day is_active a it)

-- an addition to that aggregation on that day is not later than the last one, or it is the first
abbrev pub IsQuiet : List AggregationSummary → ℕ → ℤ → Type 0
IsQuiet summaries aggregation day =
    (it : AggregationSummary) → numbered summaries aggregation ≡ Some it
    → (it.last_addition ≡ None) ⊎ (later it.last_addition day ≡ it.last_addition)

-- what is cached of an aggregation once the status of a record changed: whether it was active, and whether it is
pub record IsAfterStatusChange (aggregations : List Aggregation) (aggregation : ℕ) (was is : Bool) (a : ℕ)
    (old new : AggregationSummary) : Type 0 where
  pub last_addition : new.last_addition ≡ old.last_addition
  pub records : new.records ≡ old.records
  pub active : new.active + cond (is_in_chain aggregations aggregation a && was) 1 0
      ≡ old.active + cond (is_in_chain aggregations aggregation a && is) 1 0

-- and so of all aggregations
pub record AreAfterStatusChange (aggregations : List Aggregation) (aggregation : ℕ) (was is : Bool)
    (old new : List AggregationSummary) : Type 0 where
  pub count : length new ≡ length old
  pub each : (a : ℕ) (it : AggregationSummary) → numbered old a ≡ Some it
      → (next : AggregationSummary) × (numbered new a ≡ Some next)
      × IsAfterStatusChange aggregations aggregation was is a it next
