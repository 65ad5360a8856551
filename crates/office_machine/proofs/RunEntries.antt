-- The entries of a map in order are those of the model's map of them, also where they are kept by run and record.
use Rattle.std.proofs.Common.{◌≡◌, ◌==◌, ℕ, List, [], ◌∷◌, filter, length, map, refl, sym, ap, ◌∙◌, arith}
use Rattle.std.specs.declared.cmp.Ordering.{Ordering}
use Rattle.std.specs.declared.cmp.Ordering.TheVariants.{Less}
use Rattle.std.specs.Cmp.{IsTotalOrder}
use Rattle.std.specs.FinMap.{entries, from_entries, values, empty, entries-insert, len-entries, len-empty}
use Rattle.std.specs.FinMap.Entries.{put, by_order}
use Rattle.std.specs.List.{AllByRecursion}
use Rattle.std.specs.List.Sorted.{IsStrictlySortedBy}
use Rattle.std.specs.Map.{values_of}
use Rattle.office_rules.specs.declared.entry.Entry.{Entry}
use Rattle.office_rules.specs.State.{entry_cmp}
use Rattle.office_rules.proofs.SoundMaps.{entry_total}

no_length : {A : Type 0} (es : List A) → length es ≡ 0 → es ≡ []
no_length [] e = refl
no_length (x ∷ es) e = absurd (omega arith)

module _ {K V : Type 0} {R : K → K → Ordering} (o : IsTotalOrder R) where
  put_first : (k : K) (v : V) (es : List (K × V)) → AllByRecursion (λ q. R k q ≡ Less) (map (λ e. e.0) es) → put R k v es ≡ (k, v) ∷ es
  put_first k v [] a = refl
  put_first k v (e ∷ es) a = ap (λ c. by_order c ((k, v) ∷ e ∷ es) ((e.0, v) ∷ es) (e ∷ put R k v es)) a.0

  -- a map made of entries in order has them
  entries_of_ordered : (es : List (K × V)) → IsStrictlySortedBy R (map (λ e. e.0) es) → entries (from_entries {R = R} es) ≡ es
  unfolding IsStrictlySortedBy
  entries_of_ordered [] rises = no_length _ (sym (len-entries (empty {X = V} {R = R})) ∙ len-empty R V)
  entries_of_ordered (e ∷ es) rises =
      entries-insert o (from_entries es) e.0 e.1
      ∙ ap (put R e.0 e.1) (entries_of_ordered es rises.1)
      ∙ put_first e.0 e.1 es rises.0

-- the values of a map in order are those of the model's map of its entries
pub values_ordered : (es : List ((ℕ × ℕ) × Entry)) → IsStrictlySortedBy entry_cmp (map (λ e. e.0) es) → values_of es ≡ values (from_entries {R = entry_cmp} es)
values_ordered es rises = ap (λ (all : List ((ℕ × ℕ) × Entry)). map (λ e. e.1) all) (sym (entries_of_ordered entry_total es rises))

-- the entries of a run among those of a map in order are those among the values of the model's map
pub of_run_ordered : (run : ℕ) (es : List ((ℕ × ℕ) × Entry)) → IsStrictlySortedBy entry_cmp (map (λ e. e.0) es)
    → filter (λ (e : Entry). e.run == run) (values_of es) ≡ filter (λ (e : Entry). e.run == run) (values (from_entries {R = entry_cmp} es))
of_run_ordered run es rises = ap (filter (λ (e : Entry). e.run == run)) (values_ordered es rises)
