-- What a row that is there may become. Source: own.
use Rattle.std.specs.Prelude.{◌≡◌, ℕ, Bool, false}
use Rattle.office_records.specs.Lasting.{AggregationStays, HeadStays}
use Rattle.office_records.specs.Rows.{put_aggregation, put_record}
use Rattle.office_records.specs.Sound.{IsSound}
use Rattle.office_records.specs.Tree.{TreeState}
use Rattle.office_records.specs.declared.aggregation.Aggregation.{Aggregation}
use Rattle.office_records.specs.declared.head.Record.{Record}
use Rattle.office_records.specs.declared.status.Status.{Status}

-- an aggregation keeps what never changes, and its class unless it is reclassified, and the tree is sound with it
pub record IsAggregationEdit (tree : TreeState) (a : ℕ) (reclassifies : Bool) (old new : Aggregation) : Type 0 where
  pub stays : AggregationStays old new
  pub class : reclassifies ≡ false → old.class ≡ new.class
  pub sound : IsSound (put_aggregation tree a new)

-- a record keeps what never changes, and the tree is sound with it
pub record IsRecordEdit (tree : TreeState) (r : ℕ) (status : Status) (old new : Record) : Type 0 where
  pub stays : HeadStays old new
  pub sound : IsSound (put_record tree r new status)
