-- Sets and maps of the code, and those of the model.
use Rattle.std.proofs.Common.{◌≡◌, ℕ, suc, ◌+◌, ◌-◌, arith, List, [], ◌∷◌, length, Bool, true, false, cond, not, ◌||◌, ◌&&◌, None, refl, sym, ap, ◌∙◌}
use Rattle.std.proofs.Common.{Result, Ok, Err}
use Rattle.std.specs.Prelude.{OnOk, OnErr}
use Rattle.std.specs.declared.cmp.Ordering.{Ordering}
use Rattle.std.specs.declared.cmp.Ordering.TheVariants.{Less}
use Rattle.std.specs.Ordering.{eq_by_cmp, is_eq}
use Rattle.std.specs.Cmp.{IsTotalOrder, eq_by_cmp_equiv}
use Rattle.std.specs.List.{list_any, AllByRecursion}
use Rattle.std.specs.List.Sorted.{IsStrictlySortedBy}
use Rattle.std.specs.Map.{lookup}
use Rattle.std.proofs.lemmas.Map.Keys.{sorted_head}
use Rattle.std.proofs.lemmas.Map.Steps.{list_any_congr}
use Rattle.std.specs.BTreeMap.{is_at}
use Rattle.std.specs.BTreeSet as tree_set
use Rattle.std.specs.BTreeSet.{BTreeSet}
use Rattle.std.specs.FinMap.{IsAntisymmetric, from_entries}
use Rattle.std.specs.FinSet as set
use Rattle.std.specs.FinSet.{contains, from_list, contains-from_list, contains-insert, contains-remove, same_set}
use Rattle.office_records.specs.Lists.{amended, amended_by}
use Rattle.office_records.specs.Tree.{code_cmp}
use Rattle.office_records.proofs.Plan.{get_is}
use Rattle.office_holds.specs.Numbers.{one_if}

either_true : (b c : Bool) → cond b true c ≡ (b || c)
either_true true c = refl
either_true false c = refl

never_false : (b c : Bool) → cond b false c ≡ (not b && c)
never_false true c = refl
never_false false c = refl

one_more : (m n : ℕ) → m ≡ n → m + 1 ≡ suc n
one_more m n same = omega (arith, same)

module _ {K : Type 0} {R : K → K → Ordering} (o : IsTotalOrder R) where
  -- a set of the code has what the set of its keys has
  pub key_in : (s : BTreeSet K) (k : K) → tree_set.contains R s k ≡ contains (from_list {R = R} s.keys) k
  key_in s k = sym (contains-from_list o s.keys k)

  pub key_put : IsAntisymmetric R → (s n : BTreeSet K) (k : K) → tree_set.Updates R s n k true → from_list {R = R} n.keys ≡ set.insert (from_list s.keys) k
  key_put same s n k updates =
      same_set o same (from_list n.keys) (set.insert (from_list s.keys) k)
      (λ q. sym (key_in n q) ∙ updates.0 q ∙ either_true (eq_by_cmp R k q) (tree_set.contains R s q)
      ∙ (λ i. (eq_by_cmp_equiv o).symm k q i || key_in s q i) ∙ sym (contains-insert o (from_list s.keys) k q))

  pub key_taken : IsAntisymmetric R → (s n : BTreeSet K) (k : K) → tree_set.Updates R s n k false → from_list {R = R} n.keys ≡ set.remove (from_list s.keys) k
  key_taken same s n k updates =
      same_set o same (from_list n.keys) (set.remove (from_list s.keys) k)
      (λ q. sym (key_in n q) ∙ updates.0 q ∙ never_false (eq_by_cmp R k q) (tree_set.contains R s q)
      ∙ (λ i. not ((eq_by_cmp_equiv o).symm k q i) && key_in s q i) ∙ sym (contains-remove o (from_list s.keys) k q))

  none_less : (k : K) (ks : List K) → AllByRecursion (λ q. R k q ≡ Less) ks → list_any (eq_by_cmp R k) ks ≡ false
  none_less k [] a = refl
  none_less k (x ∷ xs) a = (λ i. is_eq (a.0 i) || none_less k xs a.1 i)

  -- keys in order are as many as their set has
  pub key_count : (ks : List K) → IsStrictlySortedBy R ks → set.len (from_list {R = R} ks) ≡ length ks
  unfolding IsStrictlySortedBy
  key_count [] h = set.len-empty R
  key_count (k ∷ ks) h =
      set.len-insert o (from_list ks) k
      ∙ ap (λ b. cond b (set.len (from_list {R = R} ks)) (set.len (from_list {R = R} ks) + 1)) (contains-from_list o ks k ∙ none_less k ks h.0)
      ∙ one_more (set.len (from_list {R = R} ks)) (length ks) (key_count ks h.1)

  -- what is equal to the first of keys in order is equal to none after it
  apart_after : (k q : K) (ks : List K) → IsStrictlySortedBy R (k ∷ ks) → eq_by_cmp R q k ≡ true → list_any (eq_by_cmp R q) ks ≡ false
  apart_after k q ks sorted tie = list_any_congr (eq_by_cmp_equiv o) q k ks tie ∙ none_less k ks (sorted_head R k ks sorted)

  counted_by : (k q : K) (ks : List K) (n : ℕ) (b : Bool) → eq_by_cmp R q k ≡ b → (b ≡ true → list_any (eq_by_cmp R q) ks ≡ false) → (n - one_if (eq_by_cmp R k q)) - one_if (list_any (eq_by_cmp R q) ks) ≡ n - one_if (b || list_any (eq_by_cmp R q) ks)
  counted_by k q ks n true tie none = let one = ap one_if ((eq_by_cmp_equiv o).symm k q ∙ tie) in let rest = ap one_if (none refl) in omega (arith, one, rest)
  counted_by k q ks n false tie none = let one = ap one_if ((eq_by_cmp_equiv o).symm k q ∙ tie) in omega (arith, one)

  -- a number that is counted off for the first of keys in order, and then for the others, is counted off for all of them
  pub counted_off : (k q : K) (ks all : List K) (before after : ℕ) → all ≡ k ∷ ks → IsStrictlySortedBy R (k ∷ ks) → after ≡ before - one_if (eq_by_cmp R k q)
      → after - one_if (list_any (eq_by_cmp R q) ks) ≡ before - one_if (list_any (eq_by_cmp R q) all)
  counted_off k q ks all before after first sorted down =
      ap (λ n. n - one_if (list_any (eq_by_cmp R q) ks)) down
      ∙ counted_by k q ks before (eq_by_cmp R q k) refl (apart_after k q ks sorted)
      ∙ sym (ap (λ (them : List K). before - one_if (list_any (eq_by_cmp R q) them)) first)

-- where nothing is found there is nothing to change
pub unchanged : {V : Type 0} (es : List (List ℕ × V)) (k : List ℕ) (f : V → V) → lookup (is_at (code_cmp k)) es ≡ None → amended (from_entries {R = code_cmp} es) k f ≡ from_entries es
unchanged es k f none = ap (amended_by (from_entries es) k f) (get_is es k ∙ none)

-- what holds of what was answered well holds still where it says less
pub on_ok : {A E : Type 0} {P Q : Type 0} (r : Result A E) → (P → Q) → OnOk r P → OnOk r Q
on_ok (Ok x) less h = less h
on_ok (Err e) less h = h

-- what follows from the good answer and from the bad one follows
pub either_way : {A E : Type 0} {P Q G : Type 0} (r : Result A E) → (P → G) → (Q → G) → OnOk r P → OnErr r Q → G
either_way (Ok x) good bad h k = good h
either_way (Err e) good bad h k = bad k

pub on_err : {A E : Type 0} {P Q : Type 0} (r : Result A E) → (P → Q) → OnErr r P → OnErr r Q
on_err (Ok x) less h = h
on_err (Err e) less h = less h
