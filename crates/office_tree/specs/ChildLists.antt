-- What is in each aggregation, records and aggregations alike, linked from the last to the first, so that it is gone
-- through without the others. Source: own.
use Rattle.std.specs.Prelude.{◌≡◌, ◌+◌, ◌<◌, ◌≤◌, ℕ, List, map, length, Some}
use Rattle.std.specs.Option.{unwrap_or}
use Rattle.office_records.specs.Lists.{numbered}
use Rattle.office_records.specs.Tree.{TreeState}
use Rattle.office_records.specs.declared.aggregation.Aggregation.{Aggregation}
use Rattle.office_records.specs.declared.head.Record.{Record}

-- the container of each record: the aggregation that it is in
abbrev pub containers_of : List Record → List ℕ
containers_of records = map (λ head. head.aggregation) records

-- the container of each aggregation: its parent, 0 where it has none
abbrev pub parents_of : List Aggregation → List ℕ
parents_of aggregations = map (λ it. unwrap_or it.parent 0) aggregations

-- of the entities below n, the last of that aggregation has the number q; 0 where there is none
pub record IsLastBelow (containers : List ℕ) (aggregation n q : ℕ) : Type 0 where
  pub below : q < n
  pub there : 0 < q → numbered containers q ≡ Some aggregation
  pub last : (r : ℕ) → q < r → r < n → numbered containers r ≡ Some aggregation → ⊥

-- the last entity of each of so many aggregations, and the one before each entity in its aggregation, if it is in one
pub record AreLinked (containers : List ℕ) (count : ℕ) (last before : List ℕ) : Type 0 where
  pub aggregations : length last ≡ count
  pub entities : length before ≡ length containers
  pub within : (r a : ℕ) → numbered containers r ≡ Some a → a ≤ count
  pub lasts : (a q : ℕ) → numbered last a ≡ Some q → IsLastBelow containers a (length containers + 1) q
  pub befores : (r a q : ℕ) → 0 < a → numbered containers r ≡ Some a → numbered before r ≡ Some q
      → IsLastBelow containers a r q

-- so the records of a tree are linked
abbrev pub HasLinks : TreeState → List ℕ → List ℕ → Type 0
HasLinks tree last before = AreLinked (containers_of tree.records) (length tree.aggregations) last before

-- and so are aggregations in theirs
abbrev pub HasChildren : List Aggregation → List ℕ → List ℕ → Type 0
HasChildren aggregations last before = AreLinked (parents_of aggregations) (length aggregations) last before
