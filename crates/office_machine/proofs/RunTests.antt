-- What the tests of runs, of certificates and of keys report, and back.
use Rattle.std.proofs.Common.{◌≡◌, ◌≢◌, ◌↔◌, ◌+◌, ◌-◌, ◌<◌, ◌≤◌, ℕ, List, [], ◌∷◌, ◌++◌, length, get_or, Option, Some, None, refl, sym, ap, subst, ◌∙◌, ◌⊎◌, inl, inr, Bool, true, false, cond, not, arith}
use Rattle.std.proofs.lemmas.Bool.{cases_lt}
use Rattle.std.proofs.lemmas.List.{length-append}
use Rattle.std.proofs.lemmas.List.Elements.{All-from_recursion, recursion_from_All}
use Rattle.std.specs.BTreeMap.{is_at}
use Rattle.std.specs.Cmp.{nat_cmp_total, tied_itself}
use Rattle.std.specs.FinMap.{contains_key, from_entries, get, nat_cmp-IsAntisymmetric}
use Rattle.std.specs.List.{All, AllByRecursion}
use Rattle.std.specs.Map.{keys_of, lookup, values_of}
use Rattle.std.specs.Option.{is_some}
use Rattle.std.specs.Ordering.{is_eq, nat_cmp}
use Rattle.std.specs.Prelude.{IsSome}
use Rattle.office_records.specs.Disposal.{is_ended}
use Rattle.office_records.specs.Lists.{is_some_and, numbered}
use Rattle.office_records.specs.declared.status.Status.{Status}
use Rattle.office_records.specs.declared.status.Status.TheVariants.{Here, Sent, Received, Ended}
use Rattle.office_records.proofs.Bridge.{from_numbers}
use Rattle.office_records.proofs.Places.{numbered_read, numbered_within}
use Rattle.office_rules.specs.declared.entry.Entry.{Entry}
use Rattle.office_rules.specs.State.{entry_cmp}
use Rattle.office_rules.specs.declared.run.Run.{Run}
use Rattle.office_rules.proofs.SoundMaps.{entry_cmp-IsAntisymmetric, entry_total, pushed_keeps, tied_same}
use Rattle.office_machine.proofs.Stored.{get_is}

true_or_false : (b : Bool) → (b ≡ true) ⊎ (b ≡ false)
true_or_false true = inl refl
true_or_false false = inr refl

-- ---- by numbers

-- no number up to 0 is there
pub numbers_none : {A : Type 0} (P : ℕ → A → Type 0) (xs : List A) → (n : ℕ) (y : A) → n ≤ 0 → numbered xs n ≡ Some y → P n y
numbers_none P xs n y low at = let h = numbered_within xs n y at in absurd (omega (arith, h, low))

-- what was read at place i is number i + 1
pub read_at : {A : Type 0} (xs : List A) (i : ℕ) (x : A) → i < length xs → x ≡ get_or xs i x → numbered xs (i + 1) ≡ Some x
read_at xs i x within is = let same : i + 1 - 1 ≡ i = omega arith in numbered_read xs (i + 1) x (omega arith) (omega arith) (is ∙ ap (λ k. get_or xs k x) (sym same))

-- what holds of the numbers up to i and of the next
pub numbers_more : {A : Type 0} (P : ℕ → A → Type 0) (xs : List A) (i : ℕ) (x : A) → numbered xs (i + 1) ≡ Some x → P (i + 1) x → ((n : ℕ) (y : A) → n ≤ i → numbered xs n ≡ Some y → P n y) → (n : ℕ) (y : A) → n ≤ i + 1 → numbered xs n ≡ Some y → P n y
numbers_more {A} P xs i x there here before n y low at = elim (cases_lt i n) [
  | inl above ↦
      let same : i + 1 ≡ n = omega (arith, above, low) in
      let found : numbered xs n ≡ Some x = subst (λ (k : ℕ). numbered xs k ≡ Some x) same there in
      let is : x ≡ y = cc in
      subst (λ (z : A). P n z) is (subst (λ (k : ℕ). P k x) same here)
  | inr below ↦ before n y below at
]

-- what holds of the numbers up to the length holds of all
pub numbers_all : {A : Type 0} (P : ℕ → A → Type 0) (xs : List A) (i : ℕ) → length xs ≤ i → ((n : ℕ) (y : A) → n ≤ i → numbered xs n ≡ Some y → P n y) → (n : ℕ) (y : A) → numbered xs n ≡ Some y → P n y
numbers_all P xs i all before n y at = let h = numbered_within xs n y at in before n y (omega (arith, h, all)) at

-- ---- only the last run may be open

abbrev pub IsLastOpen : List Run → Type 0
IsLastOpen runs = (run : ℕ) (it : Run) → numbered runs run ≡ Some it → it.is_closed ≡ false → run ≡ length runs

-- where only the last is open, those before it are closed
pub earlier_closed : (runs earlier : List Run) (last : Run) → runs ≡ earlier ++ last ∷ [] → IsLastOpen runs → All (λ it. it.is_closed ≡ true) earlier
earlier_closed runs earlier last is last_open = from_numbers (λ it. it.is_closed ≡ true) earlier (λ n it at. elim (true_or_false it.is_closed) [
  | inl closed ↦ closed
  | inr opened ↦
      let there : numbered runs n ≡ Some it = ap (λ xs. numbered xs n) is ∙ pushed_keeps earlier last n it at in
      let h = numbered_within earlier n it at in
      let last_one = last_open n it there opened in
      let count : length runs ≡ length earlier + 1 = ap length is ∙ length-append earlier (last ∷ []) in
      absurd (omega (arith, h, last_one, count))
])

-- ---- keys

-- whether the map of the entries has a number is whether a look-up finds it
pub contains_is : {V : Type 0} (es : List (ℕ × V)) (q : ℕ) → contains_key (from_entries {R = nat_cmp} es) q ≡ is_some (lookup (is_at (nat_cmp q)) es)
contains_is es q = ap is_some (get_is nat_cmp_total nat_cmp-IsAntisymmetric es q)

found_at : {V : Type 0} (b : Bool) (v : V) (o : Option V) → is_some (cond b (Some v) o) ≡ true → (b ≡ true) ⊎ (is_some o ≡ true)
found_at true v o e = inl refl
found_at false v o e = inr e

still_found : {V : Type 0} (b : Bool) (v : V) (o : Option V) → is_some o ≡ true → is_some (cond b (Some v) o) ≡ true
still_found true v o e = refl
still_found false v o e = e

found_key : {V : Type 0} (P : ℕ → Type 0) (es : List (ℕ × V)) → AllByRecursion P (keys_of es) → (q : ℕ) → is_some (lookup (is_at (nat_cmp q)) es) ≡ true → P q
found_key P [] all q e = absurd cc
found_key P (e ∷ es) all q found = elim (found_at (is_at (nat_cmp q) e.0) e.1 (lookup (is_at (nat_cmp q)) es) found) [
  | inl here ↦ subst P (sym (tied_same nat_cmp-IsAntisymmetric q e.0 here)) all.0
  | inr there ↦ found_key P es all.1 q there
]

key_found : {V : Type 0} (P : ℕ → Type 0) (es : List (ℕ × V)) → ((q : ℕ) → is_some (lookup (is_at (nat_cmp q)) es) ≡ true → P q) → AllByRecursion P (keys_of es)
key_found P [] h = tt
key_found P (e ∷ es) h = (
  h e.0 (ap (λ o. is_some (cond (is_eq o) (Some e.1) (lookup (is_at (nat_cmp e.0)) es))) (tied_itself nat_cmp_total e.0)),
  key_found P es (λ q there. h q (still_found (is_at (nat_cmp q) e.0) e.1 (lookup (is_at (nat_cmp q)) es) there)),
)

-- what holds of all keys holds of each number that the map has
pub at_keys : {V : Type 0} (P : ℕ → Type 0) (es : List (ℕ × V)) → All P (keys_of es) → (q : ℕ) → contains_key (from_entries {R = nat_cmp} es) q ≡ true → P q
at_keys P es all q there = found_key P es (recursion_from_All P (keys_of es) all) q (sym (contains_is es q) ∙ there)

-- and back
pub from_keys : {V : Type 0} (P : ℕ → Type 0) (es : List (ℕ × V)) → ((q : ℕ) → contains_key (from_entries {R = nat_cmp} es) q ≡ true → P q) → All P (keys_of es)
from_keys P es h = All-from_recursion P (keys_of es) (key_found P es (λ q found. h q (contains_is es q ∙ found)))

-- a number that is too great for all keys is none
pub too_great : {V : Type 0} (es : List (ℕ × V)) (q n : ℕ) → All (λ k. k < n) (keys_of es) → (q < n → ⊥) → false ≡ contains_key (from_entries {R = nat_cmp} es) q
too_great es q n small great = elim (true_or_false (contains_key (from_entries {R = nat_cmp} es) q)) [
  | inl there ↦ absurd (great (at_keys (λ k. k < n) es small q there))
  | inr absent ↦ sym absent
]

-- ---- the numbers of the things that pass a test

pub passing : {A : Type 0} (test : A → Bool) (o : Option A) → is_some_and o test ≡ true → (x : A) × (o ≡ Some x) × (test x ≡ true)
passing test None e = absurd cc
passing test (Some x) e = (x, refl, e)

-- the keys are the numbers of the things that pass, where each key is one and each of them a key
pub keys_pass : {A V : Type 0} (xs : List A) (test : A → Bool) (es : List (ℕ × V)) → All (λ n. is_some_and (numbered xs n) test ≡ true) (keys_of es)
    → ((n : ℕ) (x : A) → numbered xs n ≡ Some x → test x ≡ true → contains_key (from_entries {R = nat_cmp} es) n ≡ true)
    → (n : ℕ) → IsSome (get (from_entries {R = nat_cmp} es) n) ↔ ((x : A) × (numbered xs n ≡ Some x) × (test x ≡ true))
keys_pass xs test es pass keyed n = (
  λ there. passing test (numbered xs n) (at_keys (λ n. is_some_and (numbered xs n) test ≡ true) es pass n there),
  λ w. keyed n w.0 w.1 w.2,
)

-- and only there
pub keys_passed : {A V : Type 0} (xs : List A) (test : A → Bool) (es : List (ℕ × V)) → ((n : ℕ) → IsSome (get (from_entries {R = nat_cmp} es) n) → (x : A) × (numbered xs n ≡ Some x) × (test x ≡ true)) → All (λ n. is_some_and (numbered xs n) test ≡ true) (keys_of es)
keys_passed xs test es h = from_keys (λ n. is_some_and (numbered xs n) test ≡ true) es (λ n there. let w = h n there in ap (λ o. is_some_and o test) w.1 ∙ w.2)

-- ---- records that are not ended

pub active_of : (status : Status) → not (is_ended status) ≡ true → status ≢ Ended
active_of Here e is = cc
active_of Sent e is = cc
active_of Received e is = cc
active_of Ended e is = cc

pub to_active : (status : Status) → status ≢ Ended → not (is_ended status) ≡ true
to_active Here other = refl
to_active Sent other = refl
to_active Received other = refl
to_active Ended other = absurd (other refl)

-- ---- values

value_found : {V : Type 0} (b : Bool) (x v : V) (o : Option V) → cond b (Some x) o ≡ Some v → (x ≡ v) ⊎ (o ≡ Some v)
value_found true x v o e = inl cc
value_found false x v o e = inr e

found_value : {K V : Type 0} (P : V → Type 0) (test : K → Bool) (es : List (K × V)) → AllByRecursion P (values_of es) → (v : V) → lookup test es ≡ Some v → P v
found_value P test [] all v e = absurd cc
found_value P test (e ∷ es) all v found = elim (value_found (test e.0) e.1 v (lookup test es) found) [
  | inl here ↦ subst P here all.0
  | inr there ↦ found_value P test es all.1 v there
]

-- what holds of all entries holds of the one under each run and record
pub at_entries : (P : Entry → Type 0) (es : List ((ℕ × ℕ) × Entry)) → All P (values_of es) → (q : ℕ × ℕ) (e : Entry) → get (from_entries {R = entry_cmp} es) q ≡ Some e → P e
at_entries P es all q e there = found_value P (is_at (entry_cmp q)) es (recursion_from_All P (values_of es) all) e (sym (get_is entry_total entry_cmp-IsAntisymmetric es q) ∙ there)
