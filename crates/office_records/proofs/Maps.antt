-- The model's map of the entries of a map in order.
use Rattle.std.proofs.Common.{◌≡◌, ℕ, List, [], ◌∷◌, length, refl, sym, ap, ◌∙◌, arith, map}
use Rattle.std.specs.declared.cmp.Ordering.TheVariants.{Less}
use Rattle.std.specs.List.{AllByRecursion}
use Rattle.std.specs.List.Sorted.{IsStrictlySortedBy}
use Rattle.std.specs.FinMap.{entries, from_entries, empty, len, entries-insert, len-entries, len-empty}
use Rattle.std.specs.FinMap.Entries.{put, by_order}
use Rattle.std.specs.Cmp.Lexicographic.{nat_list_cmp_total}
use Rattle.office_records.specs.Tree.{code_cmp}

no_length : {A : Type 0} (es : List A) → length es ≡ 0 → es ≡ []
no_length [] e = refl
no_length (x ∷ es) e = absurd (omega arith)

put_first : {V : Type 0} (k : List ℕ) (v : V) (es : List (List ℕ × V)) → AllByRecursion (λ q. code_cmp k q ≡ Less) (map (λ e. e.0) es) → put code_cmp k v es ≡ (k, v) ∷ es
put_first k v [] a = refl
put_first k v (e ∷ es) a = ap (λ o. by_order o ((k, v) ∷ e ∷ es) ((e.0, v) ∷ es) (e ∷ put code_cmp k v es)) a.0

-- a map made of entries in order has them
pub entries_of_ordered : {V : Type 0} (es : List (List ℕ × V)) → IsStrictlySortedBy code_cmp (map (λ e. e.0) es) → entries (from_entries {R = code_cmp} es) ≡ es
unfolding IsStrictlySortedBy
entries_of_ordered {V} [] o = no_length _ (sym (len-entries (empty {X = V} {R = code_cmp})) ∙ len-empty code_cmp V)
entries_of_ordered (e ∷ es) o =
    entries-insert nat_list_cmp_total (from_entries es) e.0 e.1
    ∙ ap (put code_cmp e.0 e.1) (entries_of_ordered es o.1)
    ∙ put_first e.0 e.1 es o.0

-- and as many as there are entries
pub len_is : {V : Type 0} (es : List (List ℕ × V)) → IsStrictlySortedBy code_cmp (map (λ e. e.0) es) → len (from_entries {R = code_cmp} es) ≡ length es
len_is es o = len-entries (from_entries es) ∙ ap length (entries_of_ordered es o)
