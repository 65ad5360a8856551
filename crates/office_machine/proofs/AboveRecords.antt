-- The aggregations above a record are there.
use Rattle.std.proofs.Common.{◌≡◌, ◌<◌, ◌≤◌, ℕ, zero, suc, List, length, Option, Some, None, refl, arith}
use Rattle.std.proofs.lemmas.List.Elements.{All-from_recursion}
use Rattle.std.specs.List.{All, AllByRecursion}
use Rattle.std.specs.Option.{IfSome, option_and_then}
use Rattle.office_records.specs.Lists.{numbered}
use Rattle.office_records.specs.Sound.{IsForest, IsSound}
use Rattle.office_records.specs.Tree.{TreeState, above, above_head, above_in, chain}
use Rattle.office_records.specs.declared.aggregation.Aggregation.{Aggregation}
use Rattle.office_records.specs.declared.head.Record.{Record}

-- the number is that of one of these aggregations
abbrev IsThere : List Aggregation → ℕ → Type 0
IsThere xs a = (0 < a) × (a ≤ length xs)

parent_there_by : (xs : List Aggregation) → IsForest xs → (a : ℕ) (it : Aggregation) (parent : Option ℕ) → numbered xs a ≡ Some it → it.parent ≡ parent → a ≤ length xs → IfSome parent (IsThere xs)
parent_there_by xs forest a it None at up high = tt
parent_there_by xs forest a it (Some p) at up high = let below = forest.below a p it at up in (below.0, omega (arith, below.1))

parent_there : (xs : List Aggregation) → IsForest xs → (a : ℕ) (o : Option Aggregation) → numbered xs a ≡ o → a ≤ length xs → IfSome (option_and_then (λ (it : Aggregation). it.parent) o) (IsThere xs)
parent_there xs forest a None at high = tt
parent_there xs forest a (Some it) at high = parent_there_by xs forest a it it.parent at refl high

chain_there : (xs : List Aggregation) → IsForest xs → (m : ℕ) (o : Option ℕ) → IfSome o (IsThere xs) → AllByRecursion (IsThere xs) (chain xs m o)
unfolding chain
chain_there xs forest m None there = tt
chain_there xs forest zero (Some a) there = tt
chain_there xs forest (suc m) (Some a) there = (there, chain_there xs forest m (option_and_then (λ (it : Aggregation). it.parent) (numbered xs a)) (parent_there xs forest a (numbered xs a) refl there.1))

head_there : (tree : TreeState) → IsSound tree → (r : ℕ) (o : Option Record) → numbered tree.records r ≡ o → AllByRecursion (IsThere tree.aggregations) (above_head tree.aggregations o)
head_there tree sound r None at = tt
head_there tree sound r (Some head) at = chain_there tree.aggregations sound.forest head.aggregation (Some head.aggregation) (sound.names.containers r head at)

pub above_there : (tree : TreeState) → IsSound tree → (r : ℕ) → All (λ a. (0 < a) × (a ≤ length tree.aggregations)) (above tree r)
unfolding above_in
above_there tree sound r = All-from_recursion (IsThere tree.aggregations) (above tree r) (head_there tree sound r (numbered tree.records r) refl)
