-- Records on the lists of their classes, as classes get numbers and rows change.
use Rattle.std.proofs.Common.{◌≡◌, ◌≢◌, ℕ, zero, suc, ◌+◌, List, [], ◌∷◌, ◌++◌, length, Option, Some, None, refl, sym, ap, ◌∙◌, subst, inl, inr, arith}
use Rattle.std.specs.Prelude.{IsSome, Bool, true, false}
use Rattle.std.specs.FinMap.{FinMap, empty, get, get-empty, insert}
use Rattle.std.specs.Option.{is_some}
use Rattle.office_tree.specs.ClassIndex.{HaveNumbers, IsOfClass, NumberMap}
use Rattle.office_records.specs.Lists.{numbered}
use Rattle.office_records.specs.Tree.{code_cmp}
use Rattle.office_records.specs.declared.aggregation.Aggregation.{Aggregation}
use Rattle.office_records.specs.declared.class.Class.{Class}
use Rattle.office_records.specs.declared.head.Record.{Record}
use Rattle.office_records.proofs.Inserting.{insert_cases, insert_keeps}
use Rattle.office_records.proofs.Places.{numbered_push}
use Rattle.office_tree.proofs.Puts.{same_or_not}
use Rattle.office_tree.proofs.RefIndexes.{insert_gives}

-- ---- numbers

none_bad : {V : Type 0} (o : Option V) → o ≡ None → IsSome o → ⊥
none_bad o none some = absurd cc

-- no class has a number where there are none
pub numbers_none : HaveNumbers empty empty 0
numbers_none = record {
  each = λ code there. absurd (none_bad (get (empty {X = Class} {R = code_cmp}) code) (get-empty {X = Class} code_cmp code) there);
  within = λ code n e. let none = get-empty {X = ℕ} code_cmp code in let both : Some n ≡ None = sym e ∙ none in absurd cc;
}

-- one class more has the next number
pub numbers_next : (classes : FinMap code_cmp Class) (numbers : NumberMap) (count n : ℕ) (code : List ℕ) → n ≡ count + 1 → HaveNumbers classes numbers count → HaveNumbers classes (insert numbers code n) (count + 1)
numbers_next classes numbers count n code next right = record {
  each = λ q there. insert_keeps numbers code n q (right.each q there);
  within = λ q m e. elim (insert_cases numbers code n q m e) [
    | inl new ↦ let same = new.1 in (omega (arith, same, next), omega (arith, same, next))
    | inr old ↦ let h = right.within q m old in (h.0, omega (arith, h.1))
  ];
}

pub numbered_new : (numbers : NumberMap) (code : List ℕ) (n : ℕ) → IsSome (get (insert numbers code n) code)
numbered_new numbers code n = ap is_some (insert_gives numbers code n)

kept_by : (numbers : NumberMap) (code : List ℕ) (n : ℕ) (q : List ℕ) (m : ℕ) (o : Option ℕ) → is_some (get numbers code) ≡ false → get numbers q ≡ Some m → get (insert numbers code n) q ≡ o → IsSome o → o ≡ Some m
kept_by numbers code n q m None fresh e is some = absurd cc
kept_by numbers code n q m (Some k) fresh e is some = elim (insert_cases numbers code n q k is) [
  | inl new ↦ let there : is_some (get numbers code) ≡ is_some (Some m) = ap is_some (ap (get numbers) (sym new.0) ∙ e) in absurd (apart (is_some (get numbers code)) there fresh)
  | inr old ↦ sym old ∙ e
] where
  apart : (b : Bool) → b ≡ true → b ≡ false → ⊥
  apart b e f = let both : true ≡ false = sym e ∙ f in absurd cc

-- and the others keep theirs
pub numbers_kept : (numbers : NumberMap) (code : List ℕ) (n : ℕ) (q : List ℕ) (m : ℕ) → is_some (get numbers code) ≡ false → get numbers q ≡ Some m → get (insert numbers code n) q ≡ Some m
numbers_kept numbers code n q m fresh e = kept_by numbers code n q m (get (insert numbers code n) q) fresh e refl (insert_keeps numbers code n q (ap is_some e))

stays_by : (numbers : NumberMap) (code : List ℕ) (o : Option ℕ) → ((m : ℕ) → o ≡ Some m → IsSome (get numbers code)) → IsSome o → IsSome (get numbers code)
stays_by numbers code None kept there = absurd cc
stays_by numbers code (Some m) kept there = kept m refl

-- what has a number has one still
pub stays_named : (old new : NumberMap) (code : List ℕ) → ((q : List ℕ) (n : ℕ) → get old q ≡ Some n → get new q ≡ Some n) → IsSome (get old code) → IsSome (get new code)
stays_named old new code kept there = stays_by new code (get old code) (λ m e. ap is_some (kept code m e)) there

-- ---- so many records on lists

pub record ListedTo (classes : FinMap code_cmp Class) (aggregations : List Aggregation) (records : List Record) (i : ℕ) (numbers : NumberMap) (lists : ℕ) (class : List ℕ) : Type 0 where
  pub numbers_agree : HaveNumbers classes numbers lists
  pub count : length class ≡ i
  pub each : (r c : ℕ) → numbered class r ≡ Some c → IsOfClass numbers aggregations records r c

no_class : (class : List ℕ) (r c : ℕ) → class ≡ [] → numbered class r ≡ Some c → ⊥
no_class class r c none e = nothing r (ap (λ its. numbered its r) (sym none) ∙ e) where
  nothing : (r : ℕ) → numbered [] r ≡ Some c → ⊥
  nothing zero f = absurd cc
  nothing (suc r) f = absurd cc

pub listed_none : (classes : FinMap code_cmp Class) (aggregations : List Aggregation) (records : List Record) (numbers : NumberMap) (lists : ℕ) (class : List ℕ) → HaveNumbers classes numbers lists → class ≡ []
    → ListedTo classes aggregations records 0 numbers lists class
listed_none classes aggregations records numbers lists class right none = record {
  numbers_agree = right;
  count = ap length none;
  each = λ r c e. absurd (no_class class r c none e);
}

-- what was put on a list, or was on one
pub each_of : (IsRight : ℕ → ℕ → Type 0) (old new : List ℕ) (r : ℕ) → ((q c : ℕ) → q ≢ r → numbered old q ≡ Some c → IsRight q c) → ((c : ℕ) → numbered new r ≡ Some c → IsRight r c) → ((q : ℕ) → q ≢ r → numbered new q ≡ numbered old q)
    → (q c : ℕ) → numbered new q ≡ Some c → IsRight q c
each_of IsRight old new r kept here others q c e = elim (same_or_not q r) [
  | inl same ↦ subst (λ (n : ℕ). IsRight n c) (sym same) (here c (ap (numbered new) (sym same) ∙ e))
  | inr apart ↦ kept q c apart (sym (others q apart) ∙ e)
]

pub pushed_other : (old more : List ℕ) (x r q c : ℕ) → more ≡ old ++ x ∷ [] → r ≡ length old + 1 → q ≢ r → numbered more q ≡ Some c → numbered old q ≡ Some c
pushed_other old more x r q c is next apart e = elim (numbered_push old x c q (ap (λ its. numbered its q) (sym is) ∙ e)) [
  | inl there ↦ there
  | inr new ↦ let n = new.0 in absurd (apart (omega (arith, n, next)))
]
