-- What the certificate of a run lists: the run's entries and the aggregations that are spent by it, each by number.
use Rattle.std.proofs.Common.{◌≡◌, ◌↔◌, ◌⊎◌, inl, inr, ℕ, zero, suc, ◌+◌, ◌<◌, ◌≤◌, ◌==◌, nat_le, Bool, true, false, cond, ◌&&◌, ◌||◌, IsTrue, List, [], ◌∷◌, map, filter, length, Some, refl, sym, ap, ◌∙◌, arith}
use Rattle.std.specs.Prelude.{T, slice_index_or}
use Rattle.std.proofs.lemmas.Bool.{and_parts, and_from, cases_lt}
use Rattle.std.proofs.lemmas.Bool.Decides.{nat_tests}
use Rattle.std.proofs.lemmas.List.Elements.{All-contains, All-from_recursion, Contains-append_right}
use Rattle.std.proofs.lemmas.List.Kept.{IsStrictlySortedBy-filter}
use Rattle.std.proofs.lemmas.Map.Made.{Contains-from_values_of}
use Rattle.std.specs.declared.cmp.Ordering.{Ordering}
use Rattle.std.specs.declared.cmp.Ordering.TheVariants.{Less, Equal, Greater}
use Rattle.std.specs.Cmp.{IsTotalOrder, nat_cmp_total, on_total, then_total, tied_itself, eq_by_cmp_equiv}
use Rattle.std.specs.FinMap.{get, entries, entries_sorted, get-entries, values}
use Rattle.std.specs.FinMap.Entries.{find, below_all, is_sorted}
use Rattle.std.specs.List.{AllByRecursion, Contains, list_any}
use Rattle.std.specs.List.Sorted.{IsStrictlySortedBy}
use Rattle.std.specs.Ordering.{is_eq, is_lt, eq_by_cmp, nat_cmp, ordering_then}
use Rattle.office_records.specs.Disposal.{is_below, is_spent, records_below}
use Rattle.office_records.specs.Lists.{numbers_after}
use Rattle.office_records.specs.Tree.{TreeState, has_aggregation, has_record}
use Rattle.office_rules.specs.Outcomes.{is_ending}
use Rattle.office_rules.specs.declared.entry.Entry.{Entry}
use Rattle.office_rules.specs.Runs.{entries_of, is_ended_in, spent_list}
use Rattle.office_rules.specs.Sound.{IsSound}
use Rattle.office_rules.specs.State.{State, EntryMap, entry_cmp}

-- ---- what a list contains

contains_first : {A : Type 0} (x : A) (xs : List A) → Contains (x ∷ xs) x
contains_first x xs = (0, omega arith, refl)

contains_later : {A : Type 0} (x : A) (xs : List A) (y : A) → Contains xs y → Contains (x ∷ xs) y
contains_later x xs y h = Contains-append_right (x ∷ []) xs y h

first_or_later : {A : Type 0} (x : A) (xs : List A) (y : A) → Contains (x ∷ xs) y → (x ≡ y) ⊎ Contains xs y
first_or_later {A} x xs y h = at h.0 h.1 h.2
  where
    at : (k : ℕ) → k < length (x ∷ xs) → slice_index_or (x ∷ xs) k y ≡ y → (x ≡ y) ⊎ Contains xs y
    at zero low e = inl e
    at (suc k) low e = inr (k, omega arith, e)

none_contained : {A : Type 0} (y : A) → Contains [] y → ⊥
none_contained y h = omega (arith, h.1)

-- ---- what a filter keeps

kept_by : {A : Type 0} (p : A → Bool) (x : A) (xs : List A) (y : A) (b : Bool) → p x ≡ b → Contains (cond b (x ∷ filter p xs) (filter p xs)) y
    → (Contains (filter p xs) y → Contains xs y × (p y ≡ true)) → Contains (x ∷ xs) y × (p y ≡ true)
kept_by p x xs y true is h rest = elim (first_or_later x (filter p xs) y h) [
  | inl same ↦ ((0, omega arith, same), ap p (sym same) ∙ is)
  | inr later ↦ let one = rest later in (contains_later x xs y one.0, one.1)
]
kept_by p x xs y false is h rest = let one = rest h in (contains_later x xs y one.0, one.1)

kept_is : {A : Type 0} (p : A → Bool) (xs : List A) (y : A) → Contains (filter p xs) y → Contains xs y × (p y ≡ true)
kept_is p [] y h = absurd (none_contained y h)
kept_is p (x ∷ xs) y h = kept_by p x xs y (p x) refl h (kept_is p xs y)

is_kept_by : {A : Type 0} (p : A → Bool) (x : A) (xs : List A) (y : A) (b : Bool) → p x ≡ b → (x ≡ y) ⊎ Contains xs y → p y ≡ true → (Contains xs y → Contains (filter p xs) y)
    → Contains (cond b (x ∷ filter p xs) (filter p xs)) y
is_kept_by p x xs y true is (inl same) passes rest = (0, omega arith, same)
is_kept_by p x xs y false is (inl same) passes rest = let not_passes : p y ≡ false = ap p (sym same) ∙ is in absurd cc
is_kept_by p x xs y true is (inr later) passes rest = contains_later x (filter p xs) y (rest later)
is_kept_by p x xs y false is (inr later) passes rest = rest later

is_kept : {A : Type 0} (p : A → Bool) (xs : List A) (y : A) → Contains xs y → p y ≡ true → Contains (filter p xs) y
is_kept p [] y h passes = h
is_kept p (x ∷ xs) y h passes = is_kept_by p x xs y (p x) refl (first_or_later x xs y h) passes (λ later. is_kept p xs y later passes)

-- ---- one that passes

any_by : {A : Type 0} (p : A → Bool) (x : A) (xs : List A) (b : Bool) → p x ≡ b → (b || list_any p xs) ≡ true → (list_any p xs ≡ true → (y : A) × Contains xs y × (p y ≡ true)) → (y : A) × Contains (x ∷ xs) y × (p y ≡ true)
any_by p x xs true is any rest = (x, contains_first x xs, is)
any_by p x xs false is any rest = let later = rest any in (later.0, contains_later x xs later.0 later.1, later.2)

pub any_is : {A : Type 0} (p : A → Bool) (xs : List A) → list_any p xs ≡ true → (y : A) × Contains xs y × (p y ≡ true)
any_is p [] any = absurd cc
any_is p (x ∷ xs) any = any_by p x xs (p x) refl any (any_is p xs)

or_right : (b c : Bool) → c ≡ true → (b || c) ≡ true
or_right true c e = refl
or_right false c e = e

pub is_any : {A : Type 0} (p : A → Bool) (xs : List A) (y : A) → Contains xs y → p y ≡ true → list_any p xs ≡ true
is_any p [] y h passes = absurd (none_contained y h)
is_any p (x ∷ xs) y h passes = elim (first_or_later x xs y h) [
  | inl same ↦ ap (λ b. b || list_any p xs) (ap p same ∙ passes)
  | inr later ↦ or_right (p x) (list_any p xs) (is_any p xs y later passes)
]

-- ---- so many numbers after a number

numbers_are : (from count a : ℕ) → Contains (numbers_after from count) a → (from < a) × (a ≤ from + count)
numbers_are from zero a h = absurd (none_contained a h)
numbers_are from (suc count) a h = elim (first_or_later (suc from) (numbers_after (suc from) count) a h) [
  | inl same ↦ (omega (arith, same), omega (arith, same))
  | inr later ↦ let within = numbers_are (suc from) count a later in (omega (arith, within.0), omega (arith, within.1))
]

are_numbers : (from count a : ℕ) → from < a → a ≤ from + count → Contains (numbers_after from count) a
are_numbers from zero a low high = absurd (omega arith)
are_numbers from (suc count) a low high = elim (cases_lt (suc from) a) [
  | inl after ↦ contains_later (suc from) (numbers_after (suc from) count) a (are_numbers (suc from) count a after (omega (arith, high)))
  | inr here ↦ (0, omega arith, omega arith)
]

before_is : (m n : ℕ) → m < n → nat_cmp m n ≡ Less
before_is m n h = grind (arith, nat_tests)

all_after : (m from count : ℕ) → m ≤ from → AllByRecursion (λ n. nat_cmp m n ≡ Less) (numbers_after from count)
all_after m from zero h = tt
all_after m from (suc count) h = (before_is m (suc from) (omega arith), all_after m (suc from) count (omega arith))

numbers_rise : (from count : ℕ) → IsStrictlySortedBy nat_cmp (numbers_after from count)
unfolding IsStrictlySortedBy
numbers_rise from zero = tt
numbers_rise from (suc count) = (all_after (suc from) (suc from) count (omega arith), numbers_rise (suc from) count)

-- ---- the entries of a run

entry_cmp_total : IsTotalOrder entry_cmp
entry_cmp_total = then_total (on_total (λ (k : ℕ × ℕ). k.0) nat_cmp_total) (on_total (λ (k : ℕ × ℕ). k.1) nat_cmp_total)

-- an entry with its key
abbrev Kept : Type 0
Kept = (ℕ × ℕ) × Entry

-- each key is before those after it
abbrev Rises : List Kept → Type 0
Rises [] = Unit {0}
Rises (e ∷ es) = AllByRecursion (λ f. entry_cmp e.0 f.0 ≡ Less) es × Rises es

parts : (a b : Bool) → T (a && b) → T a × T b
parts true b h = (tt, h)
parts false b h = absurd h

less : (o : Ordering) → T (is_lt o) → o ≡ Less
less Less h = refl
less Equal h = absurd h
less Greater h = absurd h

below_each : (k : ℕ × ℕ) (es : List Kept) → T (below_all entry_cmp k es) → AllByRecursion (λ f. entry_cmp k f.0 ≡ Less) es
below_each k [] h = tt
below_each k (e ∷ es) h = let p = parts (is_lt (entry_cmp k e.0)) (below_all entry_cmp k es) h in (less (entry_cmp k e.0) p.0, below_each k es p.1)

rises_sorted : (es : List Kept) → T (is_sorted entry_cmp es) → Rises es
rises_sorted [] h = tt
rises_sorted (e ∷ es) h = let p = parts (below_all entry_cmp e.0 es) (is_sorted entry_cmp es) h in (below_each e.0 es p.0, rises_sorted es p.1)

-- an entry is found under its key
abbrev IsFoundIn : List Kept → Kept → Type 0
IsFoundIn es f = find entry_cmp f.0 es ≡ Some f.1

found_here : (e : Kept) (es : List Kept) → IsFoundIn (e ∷ es) e
found_here e es = ap (λ o. cond (is_eq o) (Some e.1) (find entry_cmp e.0 es)) (tied_itself entry_cmp_total e.0)

found_later : (e : Kept) (es fs : List Kept) → AllByRecursion (λ f. entry_cmp e.0 f.0 ≡ Less) fs → AllByRecursion (IsFoundIn es) fs → AllByRecursion (IsFoundIn (e ∷ es)) fs
found_later e es [] before found = tt
found_later e es (f ∷ fs) before found =
    let apart : eq_by_cmp entry_cmp f.0 e.0 ≡ false = (eq_by_cmp_equiv entry_cmp_total).symm f.0 e.0 ∙ ap is_eq before.0 in
    (ap (λ b. cond b (Some e.1) (find entry_cmp f.0 es)) apart ∙ found.0, found_later e es fs before.1 found.1)

each_found : (es : List Kept) → Rises es → AllByRecursion (IsFoundIn es) es
each_found [] rises = tt
each_found (e ∷ es) rises = (found_here e es, found_later e es es rises.0 (each_found es rises.1))

-- what is found is one of the values
found_by : (q : ℕ × ℕ) (v : Entry) (e : Kept) (es : List Kept) (b : Bool) → cond b (Some e.1) (find entry_cmp q es) ≡ Some v → (find entry_cmp q es ≡ Some v → Contains (map (λ f. f.1) es) v) → Contains (map (λ f. f.1) (e ∷ es)) v
found_by q v e es true found rest = let same : e.1 ≡ v = cc in (0, omega arith, same)
found_by q v e es false found rest = contains_later e.1 (map (λ f. f.1) es) v (rest found)

found_is : (q : ℕ × ℕ) (v : Entry) (es : List Kept) → find entry_cmp q es ≡ Some v → Contains (map (λ f. f.1) es) v
found_is q v [] found = absurd cc
found_is q v (e ∷ es) found = found_by q v e es (eq_by_cmp entry_cmp q e.0) found (found_is q v es)

-- an entry that is under its run and record
abbrev IsKeyed : Kept → Type 0
IsKeyed e = (e.1.run ≡ e.0.0) × (e.1.record_no ≡ e.0.1)

-- each entry is under its own run and record
abbrev pub AreKeyed : EntryMap → Type 0
AreKeyed m = (run r : ℕ) (e : Entry) → get m (run, r) ≡ Some e → (e.run ≡ run) × (e.record_no ≡ r)

each_keyed_in : (m : EntryMap) → AreKeyed m → (es : List Kept) → AllByRecursion (IsFoundIn (entries m)) es → AllByRecursion IsKeyed es
each_keyed_in m keyed [] found = tt
each_keyed_in m keyed (e ∷ es) found = (keyed e.0.0 e.0.1 e.1 (get-entries m e.0 ∙ found.0), each_keyed_in m keyed es found.1)

entries_rise : (m : EntryMap) → Rises (entries m)
entries_rise m = rises_sorted (entries m) (entries_sorted m)

each_keyed : (m : EntryMap) → AreKeyed m → AllByRecursion IsKeyed (entries m)
each_keyed m keyed = each_keyed_in m keyed (entries m) (each_found (entries m) (entries_rise m))

abbrev of_run : ℕ → Entry → Bool
of_run run e = e.run == run

run_is : (n run : ℕ) → (n == run) ≡ true → n ≡ run
run_is n run e = grind (arith, nat_tests)

is_run : (n run : ℕ) → n ≡ run → (n == run) ≡ true
is_run n run e = grind (arith, nat_tests)

-- each of the values is under some key
pub value_found : (m : EntryMap) (entry : Entry) → Contains (values m) entry → (key : ℕ × ℕ) × (get m key ≡ Some entry)
value_found m entry h =
    let one = Contains-from_values_of (entries m) entry h in
    let found : IsFoundIn (entries m) (one.0, entry) = All-contains (IsFoundIn (entries m)) (entries m) (one.0, entry) (All-from_recursion (IsFoundIn (entries m)) (entries m) (each_found (entries m) (entries_rise m))) one.1 in
    (one.0, get-entries m one.0 ∙ found)

-- what is under a key is one of the values
pub found_value : (m : EntryMap) (key : ℕ × ℕ) (entry : Entry) → get m key ≡ Some entry → Contains (values m) entry
found_value m key entry there = found_is key entry (entries m) (sym (get-entries m key) ∙ there)

listed_is : (m : EntryMap) → AreKeyed m → (run : ℕ) (entry : Entry) → Contains (filter (of_run run) (map (λ e. e.1) (entries m))) entry → (r : ℕ) × (get m (run, r) ≡ Some entry)
listed_is m keyed run entry h =
    let kept = kept_is (of_run run) (map (λ (e : Kept). e.1) (entries m)) entry h in
    let one = value_found m entry kept.0 in
    let same : run ≡ one.0.0 = sym (run_is entry.run run kept.1) ∙ (keyed one.0.0 one.0.1 entry one.1).0 in
    (one.0.1, ap (λ n. get m (n, one.0.1)) same ∙ one.1)

is_listed : (m : EntryMap) → AreKeyed m → (run : ℕ) (entry : Entry) → (r : ℕ) × (get m (run, r) ≡ Some entry) → Contains (filter (of_run run) (map (λ e. e.1) (entries m))) entry
is_listed m keyed run entry one =
    is_kept (of_run run) (map (λ (e : Kept). e.1) (entries m)) entry (found_value m (run, one.0) entry one.1) (is_run entry.run run (keyed run one.0 entry one.1).0)

-- a certificate lists exactly the entries of its run
pub listed_entries : (s : State) (run : ℕ) (entry : Entry) → IsSound s → (Contains (entries_of s.office run) entry ↔ ((r : ℕ) × (get s.office.entries (run, r) ≡ Some entry)))
listed_entries s run entry sound = (listed_is s.office.entries sound.entries.keyed run entry, is_listed s.office.entries sound.entries.keyed run entry)

same_then : (a b : ℕ) (o : Ordering) → a ≡ b → ordering_then (nat_cmp a b) o ≡ Less → o ≡ Less
same_then a b o same e = ap (λ c. ordering_then c o) (sym (ap (nat_cmp a) (sym same) ∙ tied_itself nat_cmp_total a)) ∙ e

-- of two entries of a run, the record of the earlier one is less
record_less : (e f : Kept) (run : ℕ) → e.1.run ≡ run → f.1.run ≡ run → IsKeyed e → IsKeyed f → entry_cmp e.0 f.0 ≡ Less → nat_cmp e.1.record_no f.1.record_no ≡ Less
record_less e f run one other keyed keyed_too before =
    let same : e.0.0 ≡ f.0.0 = sym keyed.0 ∙ one ∙ sym other ∙ keyed_too.0 in
    (λ i. nat_cmp (keyed.1 i) (keyed_too.1 i)) ∙ same_then e.0.0 f.0.0 (nat_cmp e.0.1 f.0.1) same before

abbrev listed_numbers : ℕ → List Kept → List ℕ
listed_numbers run es = map (λ e. e.record_no) (filter (of_run run) (map (λ e. e.1) es))

abbrev numbers_with : ℕ → Kept → List Kept → Bool → List ℕ
numbers_with run e es b = map (λ e. e.record_no) (cond b (e.1 ∷ filter (of_run run) (map (λ e. e.1) es)) (filter (of_run run) (map (λ e. e.1) es)))

one_more : (run : ℕ) (e f : Kept) (es : List Kept) (b : Bool) → of_run run f.1 ≡ b → e.1.run ≡ run → IsKeyed e → IsKeyed f → entry_cmp e.0 f.0 ≡ Less
    → AllByRecursion (λ n. nat_cmp e.1.record_no n ≡ Less) (listed_numbers run es) → AllByRecursion (λ n. nat_cmp e.1.record_no n ≡ Less) (numbers_with run f es b)
one_more run e f es true is one keyed keyed_too before rest = (record_less e f run one (run_is f.1.run run is) keyed keyed_too before, rest)
one_more run e f es false is one keyed keyed_too before rest = rest

later_numbers : (run : ℕ) (e : Kept) (es : List Kept) → e.1.run ≡ run → IsKeyed e → AllByRecursion (λ f. entry_cmp e.0 f.0 ≡ Less) es → AllByRecursion IsKeyed es → AllByRecursion (λ n. nat_cmp e.1.record_no n ≡ Less) (listed_numbers run es)
later_numbers run e [] one keyed before all = tt
later_numbers run e (f ∷ es) one keyed before all = one_more run e f es (of_run run f.1) refl one keyed all.0 before.0 (later_numbers run e es one keyed before.1 all.1)

rise_with : (run : ℕ) (e : Kept) (es : List Kept) (b : Bool) → of_run run e.1 ≡ b → Rises (e ∷ es) → AllByRecursion IsKeyed (e ∷ es) → IsStrictlySortedBy nat_cmp (listed_numbers run es) → IsStrictlySortedBy nat_cmp (numbers_with run e es b)
unfolding IsStrictlySortedBy
rise_with run e es true is rises keyed rest = (later_numbers run e es (run_is e.1.run run is) keyed.0 rises.0 keyed.1, rest)
rise_with run e es false is rises keyed rest = rest

listed_rise : (run : ℕ) (es : List Kept) → Rises es → AllByRecursion IsKeyed es → IsStrictlySortedBy nat_cmp (listed_numbers run es)
unfolding IsStrictlySortedBy
listed_rise run [] rises keyed = tt
listed_rise run (e ∷ es) rises keyed = rise_with run e es (of_run run e.1) refl rises keyed (listed_rise run es rises.1 keyed.1)

-- by record number
pub listed_by_number : (s : State) (run : ℕ) → IsSound s → IsStrictlySortedBy nat_cmp (map (λ e. e.record_no) (entries_of s.office run))
listed_by_number s run sound = listed_rise run (entries s.office.entries) (entries_rise s.office.entries) (each_keyed s.office.entries sound.entries.keyed)

-- ---- the aggregations

is_within : (n a : ℕ) → 0 < a → a ≤ 0 + n → (nat_le 1 a && nat_le a n) ≡ true
is_within n a low high = grind (arith, nat_tests)

within_is : (n a : ℕ) → (nat_le 1 a && nat_le a n) ≡ true → (0 < a) × (a ≤ 0 + n)
within_is n a h = let both = and_parts (nat_le 1 a) (nat_le a n) h in (low a both.0, high a n both.1)
  where
    low : (a : ℕ) → nat_le 1 a ≡ true → 0 < a
    low a h = grind (arith, nat_tests)

    high : (a n : ℕ) → nat_le a n ≡ true → a ≤ 0 + n
    high a n h = grind (arith, nat_tests)

abbrev pub HasEndedEntry : List Entry → ℕ → Type 0
HasEndedEntry entries r = (entry : Entry) × Contains entries entry × (entry.record_no ≡ r) × IsTrue (is_ending entry.outcome)

ended_is : (entries : List Entry) (r : ℕ) → is_ended_in entries r ≡ true → HasEndedEntry entries r
ended_is entries r h =
    let one = any_is (λ (e : Entry). e.record_no == r && is_ending e.outcome) entries h in
    let both = and_parts (one.0.record_no == r) (is_ending one.0.outcome) one.2 in
    (one.0, one.1, run_is one.0.record_no r both.0, both.1)

is_ended_by : (entries : List Entry) (r : ℕ) → HasEndedEntry entries r → is_ended_in entries r ≡ true
is_ended_by entries r one =
    is_any (λ (e : Entry). e.record_no == r && is_ending e.outcome) entries one.0 one.1 (and_from (one.0.record_no == r) (is_ending one.0.outcome) (is_run one.0.record_no r one.2) one.3)

-- a record below the aggregation that one of the entries ended
abbrev pub HasEndedBelow : TreeState → List Entry → ℕ → Type 0
HasEndedBelow tree entries a = (r : ℕ) × IsTrue (has_record tree r) × IsTrue (is_below tree a r) × HasEndedEntry entries r

pub ended_below_is : (tree : TreeState) (entries : List Entry) (a : ℕ) → list_any (is_ended_in entries) (records_below tree a) ≡ true → HasEndedBelow tree entries a
ended_below_is tree entries a h =
    let one = any_is (is_ended_in entries) (records_below tree a) h in
    let kept = kept_is (is_below tree a) (numbers_after 0 (length tree.records)) one.0 one.1 in
    let within = numbers_are 0 (length tree.records) one.0 kept.0 in
    (one.0, is_within (length tree.records) one.0 within.0 within.1, kept.1, ended_is entries one.0 one.2)

pub is_ended_below : (tree : TreeState) (entries : List Entry) (a : ℕ) → HasEndedBelow tree entries a → list_any (is_ended_in entries) (records_below tree a) ≡ true
is_ended_below tree entries a one =
    let within = within_is (length tree.records) one.0 one.1 in
    is_any (is_ended_in entries) (records_below tree a) one.0 (is_kept (is_below tree a) (numbers_after 0 (length tree.records)) one.0 (are_numbers 0 (length tree.records) one.0 within.0 within.1) one.2) (is_ended_by entries one.0 one.3)

abbrev pub is_spent_by : TreeState → List Entry → ℕ → Bool
is_spent_by tree entries a = is_spent tree a && list_any (is_ended_in entries) (records_below tree a)

abbrev IsSpentBy : TreeState → List Entry → ℕ → Type 0
IsSpentBy tree entries a = IsTrue (has_aggregation tree a) × IsTrue (is_spent tree a) × HasEndedBelow tree entries a

spent_list_is : (tree : TreeState) (entries : List Entry) (a : ℕ) → Contains (spent_list tree entries) a → IsSpentBy tree entries a
unfolding spent_list
spent_list_is tree entries a h =
    let kept = kept_is (is_spent_by tree entries) (numbers_after 0 (length tree.aggregations)) a h in
    let within = numbers_are 0 (length tree.aggregations) a kept.0 in
    let both = and_parts (is_spent tree a) (list_any (is_ended_in entries) (records_below tree a)) kept.1 in
    (is_within (length tree.aggregations) a within.0 within.1, both.0, ended_below_is tree entries a both.1)

is_in_spent_list : (tree : TreeState) (entries : List Entry) (a : ℕ) → IsSpentBy tree entries a → Contains (spent_list tree entries) a
unfolding spent_list
is_in_spent_list tree entries a h =
    let within = within_is (length tree.aggregations) a h.0 in
    is_kept (is_spent_by tree entries) (numbers_after 0 (length tree.aggregations)) a (are_numbers 0 (length tree.aggregations) a within.0 within.1) (and_from (is_spent tree a) (list_any (is_ended_in entries) (records_below tree a)) h.1 (is_ended_below tree entries a h.2))

-- a certificate lists exactly the spent aggregations with a record below that the run ended
pub listed_aggregations : (tree : TreeState) (entries : List Entry) (a : ℕ) → (Contains (spent_list tree entries) a ↔ IsSpentBy tree entries a)
listed_aggregations tree entries a = (spent_list_is tree entries a, is_in_spent_list tree entries a)

-- by number
pub spent_by_number : (tree : TreeState) (entries : List Entry) → IsStrictlySortedBy nat_cmp (spent_list tree entries)
unfolding spent_list
spent_by_number tree entries = IsStrictlySortedBy-filter nat_cmp (is_spent_by tree entries) (numbers_after 0 (length tree.aggregations)) (numbers_rise 0 (length tree.aggregations))
