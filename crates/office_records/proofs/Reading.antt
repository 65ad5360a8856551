-- What a number that is there gives.
use Rattle.std.proofs.Common.{◌≡◌, ℕ, ◌-◌, ◌<◌, ◌≤◌, List, length, get_or, Some, sym, subst, arith, true}
use Rattle.std.specs.Prelude.{IsTrue}
use Rattle.std.proofs.lemmas.Bool.Decides.{nat_tests}
use Rattle.office_records.specs.Lists.{numbered}
use Rattle.office_records.specs.Tree.{TreeState, has_aggregation, has_record}
use Rattle.office_records.specs.declared.head.Record.{Record}
use Rattle.office_records.proofs.Places.{numbered_read}

pub aggregation_within : (tree : TreeState) (a : ℕ) → has_aggregation tree a ≡ true → (0 < a) × (a ≤ length tree.aggregations)
aggregation_within tree a h = (grind (arith, nat_tests), grind (arith, nat_tests))

pub record_within : (tree : TreeState) (r : ℕ) → has_record tree r ≡ true → (0 < r) × (r ≤ length tree.records)
record_within tree r h = (grind (arith, nat_tests), grind (arith, nat_tests))

-- what was read at a record's place is the record
pub head_read : (records : List Record) (tree : TreeState) (r : ℕ) (x : Record) → records ≡ tree.records → IsTrue (has_record tree r) → x ≡ get_or records (r - 1) x → numbered records r ≡ Some x
head_read records tree r x same there e =
    let within = record_within tree r there in
    numbered_read records r x within.0 (subst (λ (xs : List Record). r ≤ length xs) (sym same) within.1) e

-- and what is within is there

pub aggregation_there : (tree : TreeState) (a : ℕ) → (0 < a) × (a ≤ length tree.aggregations) → has_aggregation tree a ≡ true
aggregation_there tree a within = let low = within.0 in let high = within.1 in grind (arith, nat_tests)

pub record_there : (tree : TreeState) (r : ℕ) → (0 < r) × (r ≤ length tree.records) → has_record tree r ≡ true
record_there tree r within = let low = within.0 in let high = within.1 in grind (arith, nat_tests)
