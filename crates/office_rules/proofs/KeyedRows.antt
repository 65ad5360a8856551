-- The rows of a map after one is put in or taken away, and what is found among rows whose values are changed.
use Rattle.std.proofs.Common.{◌≡◌, Bool, true, false, cond, List, [], ◌∷◌, map, Option, Some, None, refl, sym, ap, ◌∙◌}
use Rattle.std.specs.Prelude.{not}
use Rattle.std.specs.declared.cmp.Ordering.{Ordering}
use Rattle.std.specs.declared.cmp.Ordering.TheVariants.{Less, Equal, Greater}
use Rattle.std.specs.Option.{option_map}
use Rattle.std.specs.Ordering.{eq_by_cmp, is_eq}
use Rattle.std.specs.Cmp.{IsTotalOrder, alike_right, eq_by_cmp_equiv}
use Rattle.std.specs.FinMap.{FinMap, IsAntisymmetric, entries, entries_sorted, get, get-entries, get-insert, get-remove, insert, remove, entries-insert, same_map}
use Rattle.std.specs.FinMap.Entries.{put, by_order, find, find-where_key, is_sorted-where_key, same_entries, where_key}
use Rattle.office_records.specs.Lists.{amended, amended_by}
use Rattle.office_rules.proofs.SoundMaps.{tied_same}

turned : {V : Type 0} (a b : Bool) (x : Option V) → a ≡ b → cond b None x ≡ cond (not a) x None
turned true true x e = refl
turned true false x e = absurd cc
turned false true x e = absurd cc
turned false false x e = refl

kept : {V : Type 0} (b : Bool) (v : V) (here there : Option V) → here ≡ Some v → (b ≡ true → there ≡ here) → cond b (Some v) there ≡ there
kept true v here there e same = sym (same refl ∙ e)
kept false v here there e same = refl

module _ {K V : Type 0} {R : K → K → Ordering} (o : IsTotalOrder R) (same : IsAntisymmetric R) where
  -- the rows of a map from which one is taken away
  pub entries-remove : (m : FinMap R V) (k : K) → entries (remove m k) ≡ where_key R (λ x. not (eq_by_cmp R k x)) (entries m)
  entries-remove m k =
      let others = λ (x : K). not (eq_by_cmp R k x) in
      same_entries R o same (entries (remove m k)) (where_key R others (entries m)) (entries_sorted (remove m k)) (is_sorted-where_key R others (entries m) (entries_sorted m))
      (λ q. sym (get-entries (remove m k) q) ∙ get-remove o m k q ∙ turned (eq_by_cmp R k q) (eq_by_cmp R q k) (get m q) ((eq_by_cmp_equiv o).symm k q)
      ∙ ap (λ x. cond (others q) x None) (get-entries m q)
      ∙ sym (find-where_key R others q (λ x t. ap (λ r. not (is_eq r)) (sym (alike_right o q x k t))) (entries m)))

  -- what is there already changes nothing when it is put in
  pub insert_same : (m : FinMap R V) (k : K) (v : V) → get m k ≡ Some v → insert m k v ≡ m
  insert_same m k v e = same_map o same (insert m k v) m (λ q. get-insert o m k v q ∙ kept (eq_by_cmp R q k) v (get m k) (get m q) e (λ tie. ap (get m) (tied_same same q k tie)))

-- ---- rows made of the values

module _ {K V W : Type 0} (R : K → K → Ordering) (f : V → W) where
  -- the same keys with what is made of the values
  abbrev pub rows_by : List (K × V) → List (K × W)
  rows_by es = map (λ e. (e.0, f e.1)) es

  pub rows_by-put : (k : K) (v : V) (es : List (K × V)) → rows_by (put R k v es) ≡ put R k (f v) (rows_by es)
  rows_by-put k v [] = refl
  rows_by-put k v (e ∷ es) =
      elim (R k e.0) as (λ r. rows_by (by_order r ((k, v) ∷ e ∷ es) ((e.0, v) ∷ es) (e ∷ put R k v es)) ≡ by_order r ((k, f v) ∷ (e.0, f e.1) ∷ rows_by es) ((e.0, f v) ∷ rows_by es) ((e.0, f e.1) ∷ put R k (f v) (rows_by es))) [
        | Less ↦ refl
        | Equal ↦ refl
        | Greater ↦ ap (λ rest. (e.0, f e.1) ∷ rest) (rows_by-put k v es)
      ]

  pub rows_by-find : (q : K) (es : List (K × V)) → find R q (rows_by es) ≡ option_map f (find R q es)
  rows_by-find q [] = refl
  rows_by-find q (e ∷ es) =
      elim (eq_by_cmp R q e.0) as (λ b. cond b (Some (f e.1)) (find R q (rows_by es)) ≡ option_map f (cond b (Some e.1) (find R q es))) [ true ↦ refl | false ↦ rows_by-find q es ]

  pub rows_by-get : (m : FinMap R V) (q : K) → find R q (rows_by (entries m)) ≡ option_map f (get m q)
  rows_by-get m q = rows_by-find q (entries m) ∙ ap (option_map f) (sym (get-entries m q))

  pub rows_by-insert : IsTotalOrder R → (m : FinMap R V) (k : K) (v : V) → rows_by (entries (insert m k v)) ≡ put R k (f v) (rows_by (entries m))
  rows_by-insert o m k v = ap rows_by (entries-insert o m k v) ∙ rows_by-put k v (entries m)

  rows_by-amended_by : IsTotalOrder R → IsAntisymmetric R → (m : FinMap R V) (k : K) (change : V → V) (x : Option V) → get m k ≡ x → ((v : V) → f (change v) ≡ f v) → rows_by (entries (amended_by m k change x)) ≡ rows_by (entries m)
  rows_by-amended_by o same m k change None e alike = refl
  rows_by-amended_by o same m k change (Some v) e alike =
      rows_by-insert o m k (change v) ∙ ap (λ w. put R k w (rows_by (entries m))) (alike v) ∙ sym (rows_by-insert o m k v) ∙ ap (λ n. rows_by (entries n)) (insert_same o same m k v e)

  -- a change that the rows do not show
  pub rows_by-amended : IsTotalOrder R → IsAntisymmetric R → (m : FinMap R V) (k : K) (change : V → V) → ((v : V) → f (change v) ≡ f v) → rows_by (entries (amended m k change)) ≡ rows_by (entries m)
  rows_by-amended o same m k change alike = rows_by-amended_by o same m k change (get m k) refl alike
