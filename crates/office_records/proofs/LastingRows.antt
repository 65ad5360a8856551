-- A row that is put in under a number keeps what stays of the one that is there.
use Rattle.std.proofs.Common.{◌≡◌, ℕ, ◌+◌, List, length, Option, Some, sym, subst, ◌∙◌, arith}
use Rattle.office_records.specs.Lasting.{AggregationStays, HeadStays, KeepsAggregation, KeepsHead}
use Rattle.office_records.specs.Lists.{numbered}
use Rattle.office_records.specs.declared.aggregation.Aggregation.{Aggregation}
use Rattle.office_records.specs.declared.head.Record.{Record}
use Rattle.office_records.proofs.Places.{numbered_within}

one_there : {A : Type 0} (o : Option A) (x y : A) → o ≡ Some x → o ≡ Some y → x ≡ y
one_there o x y e f = let same : Some x ≡ Some y = sym e ∙ f in cc

pub keeps_head : (records : List Record) (r : ℕ) (old new : Record) → numbered records r ≡ Some old → HeadStays old new → KeepsHead records r new
keeps_head records r old new there stays = λ other at. subst (λ (head : Record). HeadStays head new) (one_there (numbered records r) old other there at) stays

pub keeps_next_head : (records : List Record) (r : ℕ) (head : Record) → r ≡ length records + 1 → KeepsHead records r head
keeps_next_head records r head next = λ old at. let within = numbered_within records r old at in absurd (omega (arith, within.1, next))

pub keeps_aggregation : (aggregations : List Aggregation) (a : ℕ) (old new : Aggregation) → numbered aggregations a ≡ Some old → AggregationStays old new → KeepsAggregation aggregations a new
keeps_aggregation aggregations a old new there stays = λ other at. subst (λ (it : Aggregation). AggregationStays it new) (one_there (numbered aggregations a) old other there at) stays

pub keeps_next_aggregation : (aggregations : List Aggregation) (a : ℕ) (it : Aggregation) → a ≡ length aggregations + 1 → KeepsAggregation aggregations a it
keeps_next_aggregation aggregations a it next = λ old at. let within = numbered_within aggregations a old at in absurd (omega (arith, within.1, next))
