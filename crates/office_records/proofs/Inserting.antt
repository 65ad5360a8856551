-- A thing that is put into a map of codes, or changed in it.
use Rattle.std.proofs.Common.{◌≡◌, ℕ, ◌+◌, List, Option, Some, None, refl, sym, ap, ◌∙◌, subst, cond, Bool, true, false, ◌⊎◌, inl, inr}
use Rattle.std.specs.Option.{is_some, option_map}
use Rattle.std.specs.declared.cmp.Ordering.{Ordering}
use Rattle.std.specs.declared.cmp.Ordering.TheVariants.{Less, Equal, Greater}
use Rattle.std.specs.Prelude.{IsSome}
use Rattle.std.specs.Ordering.{eq_by_cmp, is_eq}
use Rattle.std.specs.Cmp.{eq_by_cmp_equiv}
use Rattle.std.specs.Cmp.Lexicographic.{nat_list_cmp_total}
use Rattle.std.specs.Map.{lookup}
use Rattle.std.specs.BTreeMap.{is_at}
use Rattle.std.specs.FinMap.{FinMap, get, contains_key, insert, len, from_entries, get-insert, len-insert, same_map, slice_cmp-IsAntisymmetric, nat_cmp-IsAntisymmetric}
use Rattle.office_records.specs.Lists.{amended, amended_by}
use Rattle.office_records.specs.Tree.{code_cmp}
use Rattle.office_records.specs.Sound.{Names}
use Rattle.office_records.proofs.Places.{Came}
use Rattle.office_records.proofs.Plan.{get_is}

-- entries of which each look-up finds the new thing at its code, and else what it found before, make the map with the new thing
pub inserted : {V : Type 0} (es fs : List (List ℕ × V)) (k : List ℕ) (v : V) → ((q : List ℕ) → lookup (is_at (code_cmp q)) fs ≡ cond (is_at (code_cmp k) q) (Some v) (lookup (is_at (code_cmp q)) es)) → from_entries {R = code_cmp} fs ≡ insert (from_entries es) k v
inserted {V} es fs k v finds = same_map nat_list_cmp_total (slice_cmp-IsAntisymmetric nat_cmp-IsAntisymmetric) _ _
    (λ q. get_is fs q ∙ finds q ∙ ap (λ b. cond b (Some v) (lookup (is_at (code_cmp q)) es)) ((eq_by_cmp_equiv nat_list_cmp_total).symm k q)
    ∙ ap (λ (o : Option V). cond (eq_by_cmp code_cmp q k) (Some v) o) (sym (get_is es q)) ∙ sym (get-insert nat_list_cmp_total (from_entries es) k v q))

some_cond : {V : Type 0} (b : Bool) (v : V) (o : Option V) → IsSome o → IsSome (cond b (Some v) o)
some_cond true v o h = refl
some_cond false v o h = h

-- what was there is there still
pub insert_keeps : {V : Type 0} (m : FinMap code_cmp V) (k : List ℕ) (v : V) (q : List ℕ) → IsSome (get m q) → IsSome (get (insert m k v) q)
insert_keeps {V} m k v q h = subst (λ (o : Option V). IsSome o) (sym (get-insert nat_list_cmp_total m k v q)) (some_cond (eq_by_cmp code_cmp q k) v (get m q) h)

pub Names-insert : {V : Type 0} (m : FinMap code_cmp V) (k : List ℕ) (v : V) (o : Option (List ℕ)) → Names m o → Names (insert m k v) o
Names-insert m k v None h = tt
Names-insert m k v (Some q) h = insert_keeps m k v q h

-- at a code that is free there is one more
pub len-insert_free : {V : Type 0} (m : FinMap code_cmp V) (k : List ℕ) (v : V) → contains_key m k ≡ false → len (insert m k v) ≡ len m + 1
len-insert_free m k v free = len-insert nat_list_cmp_total m k v ∙ ap (λ b. cond b (len m) (len m + 1)) free

-- ---- only equal codes tie

is_equal : (o : Ordering) → is_eq o ≡ true → o ≡ Equal
is_equal Less e = absurd cc
is_equal Equal e = refl
is_equal Greater e = absurd cc

pub same_code : (q k : List ℕ) → eq_by_cmp code_cmp q k ≡ true → q ≡ k
same_code q k e = slice_cmp-IsAntisymmetric nat_cmp-IsAntisymmetric q k (is_equal (code_cmp q k) e)

cond_cases : {V : Type 0} (b : Bool) (v : V) (o : Option V) (x : V) (here : Type 0) → (b ≡ true → here) → cond b (Some v) o ≡ Some x → (here × (v ≡ x)) ⊎ (o ≡ Some x)
cond_cases true v o x here is e = inl (is refl, cc)
cond_cases false v o x here is e = inr e

-- what is there after a thing was put in is the new thing at its code, or was there
pub insert_cases : {V : Type 0} (m : FinMap code_cmp V) (k : List ℕ) (v : V) (q : List ℕ) (x : V) → get (insert m k v) q ≡ Some x → ((q ≡ k) × (v ≡ x)) ⊎ (get m q ≡ Some x)
insert_cases m k v q x e = cond_cases (eq_by_cmp code_cmp q k) v (get m q) x (q ≡ k) (same_code q k) (sym (get-insert nat_list_cmp_total m k v q) ∙ e)

-- ---- a thing that is changed

none_or_same : {V : Type 0} (b : Bool) (here there : Option V) → (b ≡ true → there ≡ here) → here ≡ None → there ≡ cond b None there
none_or_same true here there same none = same refl ∙ none
none_or_same false here there same none = refl

get-amended_by : {V : Type 0} (m : FinMap code_cmp V) (k : List ℕ) (f : V → V) (q : List ℕ) (o : Option V) → get m k ≡ o → get (amended_by m k f o) q ≡ cond (eq_by_cmp code_cmp q k) (option_map f o) (get m q)
get-amended_by m k f q None e = none_or_same (eq_by_cmp code_cmp q k) (get m k) (get m q) (λ tie. ap (get m) (same_code q k tie)) e
get-amended_by m k f q (Some x) e = get-insert nat_list_cmp_total m k (f x) q

-- what a look-up finds after a change
pub get-amended : {V : Type 0} (m : FinMap code_cmp V) (k : List ℕ) (f : V → V) (q : List ℕ) → get (amended m k f) q ≡ cond (eq_by_cmp code_cmp q k) (option_map f (get m k)) (get m q)
get-amended m k f q = get-amended_by m k f q (get m k) refl

came_mapped : {V : Type 0} (old : Option V) (here : Type 0) (f : V → V) (y : V) → here → option_map f old ≡ Some y → Came old here f y
came_mapped None here f y is e = absurd cc
came_mapped (Some x) here f y is e = (x, refl, inr (is, cc))

came_by : {V : Type 0} (b : Bool) (at_key old : Option V) (here : Type 0) (f : V → V) (y : V) → (b ≡ true → here) → (b ≡ true → old ≡ at_key) → cond b (option_map f at_key) old ≡ Some y → Came old here f y
came_by true at_key old here f y is same e = came_mapped old here f y (is refl) (ap (option_map f) (same refl) ∙ e)
came_by false at_key old here f y is same e = (y, e, inl refl)

-- what is there after a change was there, changed or not
pub amended_cases : {V : Type 0} (m : FinMap code_cmp V) (k : List ℕ) (f : V → V) (q : List ℕ) (y : V) → get (amended m k f) q ≡ Some y → Came (get m q) (q ≡ k) f y
amended_cases m k f q y e =
    came_by (eq_by_cmp code_cmp q k) (get m k) (get m q) (q ≡ k) f y (same_code q k) (λ tie. ap (get m) (same_code q k tie)) (sym (get-amended m k f q) ∙ e)

some_mapped : {V : Type 0} (b : Bool) (at_key old : Option V) (f : V → V) → (b ≡ true → old ≡ at_key) → IsSome old → IsSome (cond b (option_map f at_key) old)
some_mapped true None old f same h = subst (λ (o : Option _). IsSome o) (same refl) h
some_mapped true (Some x) old f same h = refl
some_mapped false at_key old f same h = h

-- what was there is there still
pub amended_keeps : {V : Type 0} (m : FinMap code_cmp V) (k : List ℕ) (f : V → V) (q : List ℕ) → IsSome (get m q) → IsSome (get (amended m k f) q)
amended_keeps {V} m k f q h =
    subst (λ (o : Option V). IsSome o) (sym (get-amended m k f q)) (some_mapped (eq_by_cmp code_cmp q k) (get m k) (get m q) f (λ tie. ap (get m) (same_code q k tie)) h)

pub Names-amended : {V : Type 0} (m : FinMap code_cmp V) (k : List ℕ) (f : V → V) (o : Option (List ℕ)) → Names m o → Names (amended m k f) o
Names-amended m k f None h = tt
Names-amended m k f (Some q) h = amended_keeps m k f q h

len-amended_by : {V : Type 0} (m : FinMap code_cmp V) (k : List ℕ) (f : V → V) (o : Option V) → get m k ≡ o → len (amended_by m k f o) ≡ len m
len-amended_by m k f None e = refl
len-amended_by m k f (Some x) e = len-insert nat_list_cmp_total m k (f x) ∙ ap (λ o. cond (is_some o) (len m) (len m + 1)) e

-- a change adds and takes nothing
pub len-amended : {V : Type 0} (m : FinMap code_cmp V) (k : List ℕ) (f : V → V) → len (amended m k f) ≡ len m
len-amended m k f = len-amended_by m k f (get m k) refl

-- entries of which each look-up finds the changed thing at its code, and else what it found before, make the map with the thing changed
pub amended_written : {V : Type 0} (es fs : List (List ℕ × V)) (k : List ℕ) (f : V → V) (x y : V) → lookup (is_at (code_cmp k)) es ≡ Some x → y ≡ f x
    → ((q : List ℕ) → lookup (is_at (code_cmp q)) fs ≡ cond (is_at (code_cmp k) q) (Some y) (lookup (is_at (code_cmp q)) es)) → amended (from_entries {R = code_cmp} es) k f ≡ from_entries fs
amended_written es fs k f x y there is finds =
    ap (amended_by (from_entries es) k f) (get_is es k ∙ there) ∙ ap (insert (from_entries es) k) (sym is) ∙ sym (inserted es fs k y finds)

stays_by : {V : Type 0} (m : FinMap code_cmp V) (k : List ℕ) (v : V) (q : List ℕ) (o : Option V) → IsSome (get m k) → get (insert m k v) q ≡ o → IsSome o → IsSome (get m q)
stays_by m k v q None here e some = absurd cc
stays_by {V} m k v q (Some x) here e some = elim (insert_cases m k v q x e) [
  | inl new ↦ subst (λ (code : List ℕ). IsSome (get m code)) (sym new.0) here
  | inr old ↦ ap is_some old
]

-- what is there once a thing was put in place of another was there
pub stays_there : {V : Type 0} (m : FinMap code_cmp V) (k : List ℕ) (v : V) (q : List ℕ) {x : V} → get m k ≡ Some x → IsSome (get (insert m k v) q) → IsSome (get m q)
stays_there m k v q there some = stays_by m k v q (get (insert m k v) q) (ap is_some there) refl some
