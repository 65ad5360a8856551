-- A map that is made at once of refs with their numbers is the one that putting them in one after another makes.
use Rattle.std.proofs.Common.{◌≡◌, ℕ, ◌+◌, ◌<◌, List, [], ◌∷◌, ◌++◌, length, get_or, map, take, Option, Some, None, Result, Ok, Err, IfOk, cond, fold, sym, ap, subst, ◌∙◌}
use Rattle.std.specs.BTreeMap.{BTreeMap, IsFromIterResult}
use Rattle.std.specs.Cmp.{eq_by_cmp_equiv}
use Rattle.std.specs.Cmp.Lexicographic.{nat_list_cmp_total}
use Rattle.std.specs.FinMap.{empty, from_entries, get, get-empty, get-insert, insert, nat_cmp-IsAntisymmetric, same_map, slice_cmp-IsAntisymmetric}
use Rattle.std.specs.Map.{update, update_all}
use Rattle.std.specs.Ordering.{eq_by_cmp}
use Rattle.std.proofs.lemmas.List.Sums.{fold-append}
use Rattle.office_tree.specs.Indexes.{Indexes, RefMap}
use Rattle.office_records.specs.Tree.{code_cmp}
use Rattle.office_records.proofs.Plan.{get_is}
use Rattle.office_tree.proofs.RefIndexes.{indexes_more}

abbrev put_in : RefMap → List ℕ × ℕ → RefMap
put_in index entry = insert index entry.0 entry.1

-- the refs with their numbers, put in one after another
abbrev pub made : List (List ℕ × ℕ) → RefMap
made pairs = fold put_in empty pairs

pub made_push : (pairs : List (List ℕ × ℕ)) (k : List ℕ) (n : ℕ) → made (pairs ++ (k, n) ∷ []) ≡ insert (made pairs) k n
made_push pairs k n = fold-append put_in empty pairs ((k, n) ∷ [])

found : (pairs : List (List ℕ × ℕ)) (index : RefMap) (f : List ℕ → Option ℕ) → ((q : List ℕ) → get index q ≡ f q) → (q : List ℕ) → get (fold put_in index pairs) q ≡ update_all (eq_by_cmp code_cmp) f pairs q
found [] index f same q = same q
found (p ∷ ps) index f same q = found ps (insert index p.0 p.1) (update (eq_by_cmp code_cmp) f p.0 (Some p.1)) (λ k.
    get-insert nat_list_cmp_total index p.0 p.1 k
    ∙ ap (λ b. cond b (Some p.1) (get index k)) ((eq_by_cmp_equiv nat_list_cmp_total).symm k p.0)
    ∙ ap (cond (eq_by_cmp code_cmp p.0 k) (Some p.1)) (same k)) q

pub made_is : (pairs : List (List ℕ × ℕ)) (index : BTreeMap (List ℕ) ℕ) → IsFromIterResult code_cmp pairs index → from_entries {R = code_cmp} index.entries ≡ made pairs
made_is pairs index gives = same_map nat_list_cmp_total (slice_cmp-IsAntisymmetric nat_cmp-IsAntisymmetric) _ _ (λ q.
    get_is index.entries q ∙ gives.0 q ∙ sym (found pairs empty (λ _. None) (λ k. get-empty code_cmp k) q))

-- what is made at once, where it is made, is the index that the others would be
pub if_made : {E : Type 0} (made_of : Result (BTreeMap (List ℕ) ℕ) E) (pairs : List (List ℕ × ℕ)) (refs : List (List ℕ)) → IfOk made_of (IsFromIterResult code_cmp pairs) → Indexes (made pairs) refs
    → IfOk made_of (λ index. Indexes (from_entries {R = code_cmp} index.entries) refs)
if_made (Ok index) pairs refs gives all = subst (λ (m : RefMap). Indexes m refs) (sym (made_is pairs index gives)) all
if_made (Err e) pairs refs gives all = tt

-- one ref more
pub made_more : {A : Type 0} (name : A → List ℕ) (pairs more : List (List ℕ × ℕ)) (xs : List A) (i : ℕ) (x : A) (k : List ℕ) → more ≡ pairs ++ (k, i + 1) ∷ [] → k ≡ name x
    → i < length xs → x ≡ get_or xs i x → Indexes (made pairs) (map name (take i xs)) → Indexes (made more) (map name (take (i + 1) xs))
made_more name pairs more xs i x k is same low at all =
    subst (λ (m : RefMap). Indexes m (map name (take (i + 1) xs))) (sym (ap made is ∙ made_push pairs k (i + 1) ∙ ap (λ q. insert (made pairs) q (i + 1)) same))
    (indexes_more name (made pairs) xs i x low at all)
