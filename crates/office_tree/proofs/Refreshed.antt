-- What is cached of records, as a loop over them renews it.
use Rattle.std.proofs.Common.{◌≡◌, ◌≢◌, ℕ, zero, suc, ◌+◌, ◌-◌, ◌<◌, ◌≤◌, ◌==◌, Bool, true, List, [], ◌∷◌, ◌++◌, length, get_or, set, Some, refl, sym, subst, ap, ◌∙◌, inl, inr, arith, length-append}
use Rattle.std.specs.Prelude.{◌⊎◌, false}
use Rattle.std.specs.Option.{option_map}
use Rattle.std.proofs.lemmas.Bool.{cases_lt}
use Rattle.std.proofs.lemmas.Bool.Decides.{nat_tests}
use Rattle.office_tree.specs.ChildLists.{IsLastBelow, containers_of}
use Rattle.office_records.specs.Lists.{numbered, put}
use Rattle.office_tree.specs.RecordCaches.{AreRecordCaches, IsRecordCache}
use Rattle.office_tree.specs.Stored.{AreDone, is_in}
use Rattle.office_records.specs.Tree.{TreeState}
use Rattle.office_records.specs.declared.head.Record.{Record}
use Rattle.office_tree.specs.declared.record_cache.RecordCache.{RecordCache}
use Rattle.office_tree.proofs.FoundRefs.{numbered_map}
use Rattle.office_tree.proofs.Frames.{numbered_put_other}
use Rattle.office_records.proofs.Places.{numbered_push, numbered_read, numbered_within}
use Rattle.office_records.proofs.Putting.{numbered-put, put_within}

-- ---- one place written

written : {A : Type 0} (xs : List A) (n : ℕ) (x : A) → 0 < n → n ≤ length xs → put xs n x ≡ set xs (n - 1) x
written xs n x low high = put_within xs n (n - 1) x (omega (arith, low)) high

-- what was written is what its number is
pub written_here : {A : Type 0} (xs : List A) (n : ℕ) (x y : A) → 0 < n → n ≤ length xs → numbered (set xs (n - 1) x) n ≡ Some y → x ≡ y
written_here xs n x y low high e =
    let is : Some x ≡ Some y = sym (numbered-put xs n x low (omega (arith, high))) ∙ ap (λ zs. numbered zs n) (written xs n x low high) ∙ e in
    cc

-- and the others are as they were
pub written_other : {A : Type 0} (xs : List A) (n : ℕ) (x : A) (m : ℕ) → 0 < n → n ≤ length xs → m ≢ n → numbered (set xs (n - 1) x) m ≡ numbered xs m
written_other xs n x m low high other =
    ap (λ zs. numbered zs m) (sym (written xs n x low high)) ∙ numbered_put_other xs n m x (omega (arith, high)) (λ e. other (sym e))

-- what was read at a place is what the next number is
pub read_at : {A : Type 0} (xs : List A) (i : ℕ) (x : A) → i < length xs → x ≡ get_or xs i x → numbered xs (i + 1) ≡ Some x
read_at xs i x low is = let place : i ≡ i + 1 - 1 = omega arith in numbered_read xs (i + 1) x (omega arith) (omega (arith, low)) (is ∙ ap (λ k. get_or xs k x) place)

-- what was read at a place of the records is the record of the next number
pub head_at : (records others : List Record) (i : ℕ) (head : Record) → records ≡ others → i < length records → head ≡ get_or records i head → numbered others (i + 1) ≡ Some head
head_at records others i head same low is =
    ap (λ (heads : List Record). numbered heads (i + 1)) (sym same) ∙ read_at records i head low is

-- ---- the records of one aggregation, from the last on

pub record DoneAbove {A : Type 0} (IsRight : ℕ → A → Type 0) (records : List Record) (aggregation at : ℕ) (old new : List A) : Type 0 where
  pub count : length new ≡ length old
  pub there : 0 < at → numbered (containers_of records) at ≡ Some aggregation
  pub done : (r : ℕ) (it : A) (head : Record) → at < r → numbered new r ≡ Some it → numbered records r ≡ Some head
      → IsRight r it ⊎ ((is_in aggregation head ≡ false) × (numbered old r ≡ Some it))
  pub left : (r : ℕ) → r ≤ at → numbered new r ≡ numbered old r

is_same : (m n : ℕ) → (m == n) ≡ true → m ≡ n
is_same m n h = grind (arith, nat_tests)

aggregation_reported : (records : List Record) (r : ℕ) (head : Record) → numbered records r ≡ Some head → numbered (containers_of records) r ≡ Some head.aggregation
aggregation_reported records r head there = numbered_map (λ (it : Record). it.aggregation) records r ∙ ap (option_map (λ (it : Record). it.aggregation)) there

-- a record that is not of that aggregation is not meant
not_meant : (records : List Record) (aggregation r : ℕ) (head : Record) → numbered records r ≡ Some head → (numbered (containers_of records) r ≡ Some aggregation → ⊥) → (b : Bool) → (head.aggregation == aggregation) ≡ b → (head.aggregation == aggregation) ≡ false
not_meant records aggregation r head there apart true test = absurd (apart (aggregation_reported records r head there ∙ ap Some (is_same head.aggregation aggregation test)))
not_meant records aggregation r head there apart false test = test

-- none are yet
pub done_last : {A : Type 0} (IsRight : ℕ → A → Type 0) (records : List Record) (aggregation at : ℕ) (old : List A) → IsLastBelow (containers_of records) aggregation (length (containers_of records) + 1) at → DoneAbove IsRight records aggregation at old old
done_last IsRight records aggregation at old is = record {
  count = λ _. length old;
  there = is.there;
  done = λ r it head low e there.
      let within = numbered_within (containers_of records) r head.aggregation (aggregation_reported records r head there) in
      inr (not_meant records aggregation r head there (is.last r low (omega (arith, within.1))) (head.aggregation == aggregation) refl, e);
  left = λ r low. λ _. numbered old r;
}

-- one record more, and the one before it is the next
pub done_before : {A : Type 0} (IsRight : ℕ → A → Type 0) (records : List Record) (aggregation at before : ℕ) (old new next : List A) → DoneAbove IsRight records aggregation at old new → length next ≡ length new
    → ((it : A) → numbered next at ≡ Some it → IsRight at it) → ((r : ℕ) → r ≢ at → numbered next r ≡ numbered new r) → IsLastBelow (containers_of records) aggregation at before
    → DoneAbove IsRight records aggregation before old next
done_before {A} IsRight records aggregation at before old new next so_far many here others is = record {
  count = many ∙ so_far.count;
  there = is.there;
  done = λ r it head low e there. elim (cases_lt at r) [
    | inl above ↦ so_far.done r it head above (sym (others r (λ same. omega (arith, same, above))) ∙ e) there
    | inr high ↦ elim (cases_lt r at) [
      | inl between ↦
          let was = sym (so_far.left r high) ∙ sym (others r (λ same. omega (arith, same, between))) ∙ e in
          inr (not_meant records aggregation r head there (is.last r low between) (head.aggregation == aggregation) refl, was)
      | inr up ↦ let same : at ≡ r = omega (arith, high, up) in inl (subst (λ n. numbered next n ≡ Some it → IsRight n it) same (here it) e)
    ]
  ];
  left = λ r low. let below = is.below in others r (λ same. omega (arith, same, low, below)) ∙ so_far.left r (omega (arith, low, below));
}

-- and all are
pub done_aggregation : {A : Type 0} (IsRight : ℕ → A → Type 0) (records : List Record) (aggregation at : ℕ) (old new : List A) → DoneAbove IsRight records aggregation at old new → at ≡ 0 → AreDone IsRight records (is_in aggregation) old new
done_aggregation IsRight records aggregation at old new so_far none = λ r it head e there.
    let within = numbered_within records r head there in
    so_far.done r it head (omega (arith, none, within.0)) e there

-- ---- so many record caches

pub record RecordCachesTo (codes : List (List ℕ)) (tree : TreeState) (i : ℕ) (looks : List RecordCache) : Type 0 where
  pub count : length looks ≡ i
  pub each : (r : ℕ) (it : RecordCache) → numbered looks r ≡ Some it → IsRecordCache codes tree r it

no_look : (r : ℕ) (it : RecordCache) → numbered [] r ≡ Some it → ⊥
no_look zero it e = absurd cc
no_look (suc r) it e = absurd cc

pub record_caches_none : (codes : List (List ℕ)) (tree : TreeState) (looks : List RecordCache) → looks ≡ [] → RecordCachesTo codes tree 0 looks
record_caches_none codes tree looks is = record {
  count = ap length is;
  each = λ r it e. absurd (no_look r it (ap (λ those. numbered those r) (sym is) ∙ e));
}

pub record_caches_next : (codes : List (List ℕ)) (tree : TreeState) (i : ℕ) (looks more : List RecordCache) (look : RecordCache) → RecordCachesTo codes tree i looks → IsRecordCache codes tree (i + 1) look → more ≡ looks ++ look ∷ [] → RecordCachesTo codes tree (i + 1) more
record_caches_next codes tree i looks more look so_far here is = record {
  count = ap length is ∙ length-append looks (look ∷ []) ∙ ap (λ n. n + 1) so_far.count;
  each = λ r it e. elim (numbered_push looks look it r (ap (λ those. numbered those r) (sym is) ∙ e)) [
    | inl old ↦ so_far.each r it old
    | inr new ↦ let same : i + 1 ≡ r = omega (arith, new.0, so_far.count) in
        subst (λ n. IsRecordCache codes tree n it) same (subst (λ (l : RecordCache). IsRecordCache codes tree (i + 1) l) new.1 here)
  ];
}

pub record_caches_all : (codes : List (List ℕ)) (tree : TreeState) (i : ℕ) (looks : List RecordCache) → RecordCachesTo codes tree i looks → i ≡ length tree.records → AreRecordCaches codes tree looks
record_caches_all codes tree i looks so_far all = record { count = so_far.count ∙ all; each = so_far.each }
