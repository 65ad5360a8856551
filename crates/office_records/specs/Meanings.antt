-- What the readings of a tree that compute mean, in the rules' own words: the laws of `src/laws.rt` say that they
-- agree. Source: MoReq2010, its classification and disposal scheduling services; what is spent is own.
use Rattle.std.specs.Prelude.{◌≡◌, ◌<◌, ◌≤ℤ◌, ◌⊎◌, ℕ, zero, suc, List, Option, Some, None, IsTrue, IsSome, ℤ}
use Rattle.std.specs.Option.{option_and_then}
use Rattle.office_records.specs.Lists.{numbered}
use Rattle.office_records.specs.Tree.{TreeState, status_of, has_record}
use Rattle.office_records.specs.declared.aggregation.Aggregation.{Aggregation}
use Rattle.office_records.specs.declared.head.Record.{Record}
use Rattle.office_records.specs.declared.status.Status.TheVariants.{Ended}

-- the parent of an aggregation
abbrev pub parent_of : List Aggregation → ℕ → Option ℕ
parent_of aggregations a = option_and_then (λ it. it.parent) (numbered aggregations a)

-- where so many steps from an entity's aggregation to that one's parent, and so on, lead
abbrev pub reached : List Aggregation → ℕ → Option ℕ → Option ℕ
reached aggregations zero from = from
reached aggregations (suc steps) from = reached aggregations steps (option_and_then (parent_of aggregations) from)

-- the aggregation of a record
abbrev pub aggregation_of : TreeState → ℕ → Option ℕ
aggregation_of tree r = option_and_then (λ head. Some head.aggregation) (numbered tree.records r)

-- the aggregation contains the record: some number of steps from the record's own aggregation leads to it
abbrev pub Contains : TreeState → ℕ → ℕ → Type 0
Contains tree a r = (steps : ℕ) × (reached tree.aggregations steps (aggregation_of tree r) ≡ Some a)

-- the own class of an aggregation, and of a record
abbrev pub own_class_of : List Aggregation → ℕ → Option (List ℕ)
own_class_of aggregations a = option_and_then (λ it. it.class) (numbered aggregations a)

abbrev pub record_own_class : TreeState → ℕ → Option (List ℕ)
record_own_class tree r = option_and_then (λ head. head.class) (numbered tree.records r)

-- some aggregation that steps from there lead to has that class as its own, and none that fewer steps lead to has one
pub record IsNearestFrom (aggregations : List Aggregation) (from : Option ℕ) (class : List ℕ) : Type 0 where
  pub steps : ℕ
  pub nearest : ℕ
  pub leads : reached aggregations steps from ≡ Some nearest
  pub own : own_class_of aggregations nearest ≡ Some class
  pub nearer : (fewer b : ℕ) → fewer < steps → reached aggregations fewer from ≡ Some b
      → own_class_of aggregations b ≡ None

-- some aggregation that contains the record has that class as its own, and none nearer has one
abbrev pub IsNearestClass : TreeState → ℕ → List ℕ → Type 0
IsNearestClass tree r class = IsNearestFrom tree.aggregations (aggregation_of tree r) class

-- the class of a record: its own, or where it has none that of the nearest aggregation that has one
abbrev pub IsClassOf : TreeState → ℕ → List ℕ → Type 0
IsClassOf tree r class =
    (record_own_class tree r ≡ Some class) ⊎ ((record_own_class tree r ≡ None) × IsNearestClass tree r class)

-- the greatest added day of the records ever added to the aggregation
pub record IsLastAddition (records : List Record) (a : ℕ) (day : ℤ) : Type 0 where
  pub one : (r : ℕ) × (head : Record) × (numbered records r ≡ Some head) × (head.aggregation ≡ a) × (head.added ≡ day)
  pub greatest : (r : ℕ) (head : Record) → numbered records r ≡ Some head → head.aggregation ≡ a → head.added ≤ℤ day

-- closed, with a record below at any depth, and all records below ended
pub record IsSpent (tree : TreeState) (a : ℕ) : Type 0 where
  pub closed : (it : Aggregation) × (numbered tree.aggregations a ≡ Some it) × IsSome it.closed
  pub some_below : (r : ℕ) × IsTrue (has_record tree r) × Contains tree a r
  pub all_ended : (r : ℕ) → IsTrue (has_record tree r) → Contains tree a r → status_of tree r ≡ Some Ended
