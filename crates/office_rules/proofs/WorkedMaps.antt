-- The entries of maps by code that acts build step by step.
use Rattle.std.proofs.Common.{◌≡◌, ℕ, List, [], ◌∷◌, length, Some, refl, sym, ap, ◌∙◌, arith}
use Rattle.std.specs.FinMap.{FinMap, get, empty, entries, insert, find, entries-insert, get-entries, len-entries, len-empty}
use Rattle.std.specs.FinMap.Entries.{put}
use Rattle.std.specs.Cmp.Lexicographic.{nat_list_cmp_total}
use Rattle.std.specs.declared.cmp.Ordering.{Ordering}
use Rattle.office_records.specs.Lists.{amended, amended_by}
use Rattle.office_records.specs.Tree.{code_cmp}

no_length : {A : Type 0} (es : List A) → length es ≡ 0 → es ≡ []
no_length [] e = refl
no_length (x ∷ es) e = absurd (omega arith)

-- an empty map has no entries
pub no_entries : {K V : Type 0} (R : K → K → Ordering) → entries (empty {X = V} {R = R}) ≡ []
no_entries {V = V} R = no_length _ (sym (len-entries (empty {X = V} {R = R})) ∙ len-empty R V)

module _ {V : Type 0} (m : FinMap code_cmp V) (k : List ℕ) (es : List (List ℕ × V)) (is : entries m ≡ es) where
  pub entries_inserted : (v : V) → entries (insert m k v) ≡ put code_cmp k v es
  entries_inserted v = entries-insert nat_list_cmp_total m k v ∙ ap (put code_cmp k v) is

  pub get_of_entries : get m k ≡ find code_cmp k es
  get_of_entries = get-entries m k ∙ ap (find code_cmp k) is

  pub entries_amended : (change : V → V) (v : V) → find code_cmp k es ≡ Some v → entries (amended m k change) ≡ put code_cmp k (change v) es
  entries_amended change v found =
      ap (λ o. entries (amended_by m k change o)) (get_of_entries ∙ found) ∙ entries_inserted (change v)
