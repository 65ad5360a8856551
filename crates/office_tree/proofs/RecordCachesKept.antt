-- What is cached of a record is right still where its record cache is left, and where a list of codes has more.
use Rattle.std.proofs.Common.{◌≡◌, ℕ, zero, suc, List, [], ◌∷◌, ◌++◌, slice_get, Some, sym, ◌∙◌}
use Rattle.office_records.specs.Lists.{numbered}
use Rattle.office_tree.specs.RecordCaches.{IsRecordCache, LeavesRecordCache}
use Rattle.office_records.specs.Sound.{IsSound}
use Rattle.office_records.specs.Tree.{TreeState}
use Rattle.office_records.specs.declared.head.Record.{Record}
use Rattle.office_tree.specs.declared.record_cache.RecordCache.{RecordCache}
use Rattle.office_tree.proofs.PlanThere.{plan_some}

pub record_caches_kept : (codes : List (List ℕ)) (tree next : TreeState) (r : ℕ) (it : RecordCache) → IsRecordCache codes tree r it → LeavesRecordCache tree next r → IsRecordCache codes next r it
record_caches_kept codes tree next r it old leaves = record { plan = old.plan ∙ sym leaves.plan; due = old.due ∙ sym leaves.due; candidate = old.candidate ∙ sym leaves.candidate }

-- ---- more codes

-- under other codes of which the plan's number says the same
pub record_caches_more : (codes more : List (List ℕ)) (tree : TreeState) (r : ℕ) (it : RecordCache) → numbered codes it.plan ≡ numbered more it.plan → IsRecordCache codes tree r it → IsRecordCache more tree r it
record_caches_more codes more tree r it same old = record { plan = sym same ∙ old.plan; due = old.due; candidate = old.candidate }

slice_get_pushed : {A : Type 0} (xs : List A) (x : A) (i : ℕ) (y : A) → slice_get xs i ≡ Some y → slice_get (xs ++ x ∷ []) i ≡ Some y
slice_get_pushed [] x i y e = absurd cc
slice_get_pushed (z ∷ zs) x zero y e = e
slice_get_pushed (z ∷ zs) x (suc i) y e = slice_get_pushed zs x i y e

-- what is there is there still after a push
pub numbered_pushed : {A : Type 0} (xs : List A) (x : A) (n : ℕ) (y : A) → numbered xs n ≡ Some y → numbered (xs ++ x ∷ []) n ≡ Some y
numbered_pushed xs x zero y e = e
numbered_pushed xs x (suc n) y e = slice_get_pushed xs x n y e

-- one code more, where the plan's number is there
pub record_caches_pushed : (codes : List (List ℕ)) (c : List ℕ) (tree : TreeState) (r : ℕ) (it : RecordCache) (plan : List ℕ) → numbered codes it.plan ≡ Some plan → IsRecordCache codes tree r it → IsRecordCache (codes ++ c ∷ []) tree r it
record_caches_pushed codes c tree r it plan there old = record_caches_more codes (codes ++ c ∷ []) tree r it (there ∙ sym (numbered_pushed codes c it.plan plan there)) old

-- as it is of a record of a sound tree
pub record_caches_one_more : (codes : List (List ℕ)) (c : List ℕ) (tree : TreeState) (r : ℕ) (head : Record) (it : RecordCache) → IsSound tree → numbered tree.records r ≡ Some head → IsRecordCache codes tree r it → IsRecordCache (codes ++ c ∷ []) tree r it
record_caches_one_more codes c tree r head it sound here old = let plan = plan_some tree r head sound here in record_caches_pushed codes c tree r it plan.0 (old.plan ∙ plan.1) old
