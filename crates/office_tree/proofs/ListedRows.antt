-- Records are on the lists of their classes still as rows change.
use Rattle.std.proofs.Common.{◌≡◌, ◌≢◌, ◌+◌, ℕ, Bool, true, false, List, [], length, Option, Some, None, refl, sym, ap, ◌∙◌, subst, inl, inr, arith}
use Rattle.std.specs.Prelude.{IsSome, ◌&&◌}
use Rattle.std.specs.FinMap.{FinMap, empty, get, insert}
use Rattle.std.specs.Option.{is_some, option_and_then}
use Rattle.office_tree.specs.ClassIndex.{AreListed, HaveNumbers, IsOfClass, NumberMap}
use Rattle.office_tree.specs.Derived.{AreExtended}
use Rattle.office_tree.specs.Inheriting.{inherits_from}
use Rattle.office_records.specs.Lasting.{AggregationStays}
use Rattle.office_records.specs.Lists.{numbered, put}
use Rattle.office_records.specs.Sound.{IsSound}
use Rattle.office_tree.specs.Stored.{AreDone}
use Rattle.office_records.specs.Tree.{TreeState, class_in, code_cmp}
use Rattle.office_records.specs.declared.aggregation.Aggregation.{Aggregation}
use Rattle.office_records.specs.declared.class.Class.{Class}
use Rattle.office_records.specs.declared.head.Record.{Record}
use Rattle.office_tree.proofs.Edits.{LeavesClass, across}
use Rattle.office_tree.proofs.Frames.{class_by_head, class_left, class_put}
use Rattle.office_tree.proofs.Listed.{numbers_none}
use Rattle.office_records.proofs.Inserting.{insert_cases}
use Rattle.office_records.proofs.Places.{numbered_within}
use Rattle.office_tree.proofs.Puts.{same_or_not}
use Rattle.office_records.proofs.Walk.{placed_in}

-- there are none
pub listed_empty : (lists : ℕ) (class : List ℕ) → lists ≡ 0 → class ≡ [] → AreListed empty [] [] empty lists class
listed_empty lists class none nobody = record {
  numbers_agree = subst (λ (n : ℕ). HaveNumbers empty empty n) (sym none) numbers_none;
  count = ap length nobody;
  each = λ r c e. absurd (nothing r c (ap (λ its. numbered its r) (sym nobody) ∙ e));
} where
  nothing : (r c : ℕ) → numbered [] r ≡ Some c → ⊥
  nothing r c e = let h = numbered_within [] r c e in omega (arith, h.0, h.1)

-- other classes under the codes that have numbers
pub listed_classes : (classes others : FinMap code_cmp Class) (xs : List Aggregation) (records : List Record) (numbers : NumberMap) (lists : ℕ) (class : List ℕ) → ((code : List ℕ) → IsSome (get others code) → IsSome (get classes code))
    → AreListed classes xs records numbers lists class → AreListed others xs records numbers lists class
listed_classes classes others xs records numbers lists class there old = record {
  numbers_agree = record { each = λ code some. old.numbers_agree.each code (there code some); within = old.numbers_agree.within };
  count = old.count;
  each = old.each;
}

kept_number : (numbers more : NumberMap) (o : Option (List ℕ)) (c : ℕ) → ((q : List ℕ) (n : ℕ) → get numbers q ≡ Some n → get more q ≡ Some n) → option_and_then (get numbers) o ≡ Some c → option_and_then (get more) o ≡ Some c
kept_number numbers more None c kept e = absurd cc
kept_number numbers more (Some q) c kept e = kept q c e

-- more numbers and lists, where each class keeps its number
pub listed_numbers : (classes : FinMap code_cmp Class) (xs : List Aggregation) (records : List Record) (numbers more : NumberMap) (lists more_lists : ℕ) (class now : List ℕ)
    → HaveNumbers classes more more_lists → now ≡ class → ((q : List ℕ) (n : ℕ) → get numbers q ≡ Some n → get more q ≡ Some n)
    → AreListed classes xs records numbers lists class → AreListed classes xs records more more_lists now
listed_numbers classes xs records numbers more lists more_lists class now right same kept old = record {
  numbers_agree = right;
  count = ap length same ∙ old.count;
  each = λ r c e. kept_number numbers more (class_in xs records r) c kept (old.each r c (ap (λ its. numbered its r) (sym same) ∙ e));
}

named_by : (classes : FinMap code_cmp Class) (numbers : NumberMap) (code : List ℕ) (class : Class) (q : List ℕ) (o : Option Class) → IsSome (get numbers code) → ((k : List ℕ) → IsSome (get classes k) → IsSome (get numbers k)) → get (insert classes code class) q ≡ o → IsSome o → IsSome (get numbers q)
named_by classes numbers code class q None named each e some = absurd cc
named_by classes numbers code class q (Some x) named each e some = elim (insert_cases classes code class q x e) [
  | inl new ↦ subst (λ (k : List ℕ). IsSome (get numbers k)) (sym new.0) named
  | inr old ↦ each q (ap is_some old)
]

-- and one class more, which has a number
pub listed_class : (classes : FinMap code_cmp Class) (code : List ℕ) (it : Class) (xs : List Aggregation) (records : List Record) (numbers : NumberMap) (lists : ℕ) (class : List ℕ) → IsSome (get numbers code)
    → AreListed classes xs records numbers lists class → AreListed (insert classes code it) xs records numbers lists class
listed_class classes code it xs records numbers lists class named old = record {
  numbers_agree = record {
    each = λ q some. named_by classes numbers code it q (get (insert classes code it) q) named old.numbers_agree.each refl some;
    within = old.numbers_agree.within;
  };
  count = old.count;
  each = old.each;
}

-- what is reported of the records that are on lists
head_of : (classes : FinMap code_cmp Class) (xs : List Aggregation) (records : List Record) (numbers : NumberMap) (lists : ℕ) (class : List ℕ) (r c : ℕ) → AreListed classes xs records numbers lists class → numbered class r ≡ Some c → (head : Record) × (numbered records r ≡ Some head)
head_of classes xs records numbers lists class r c old e = across class records r c old.count e

-- aggregations that leave the classes of all records
pub listed_aggregations : (classes : FinMap code_cmp Class) (xs others : List Aggregation) (records : List Record) (numbers : NumberMap) (lists : ℕ) (class : List ℕ) → ((r : ℕ) (head : Record) → numbered records r ≡ Some head → class_in others records r ≡ class_in xs records r)
    → AreListed classes xs records numbers lists class → AreListed classes others records numbers lists class
listed_aggregations classes xs others records numbers lists class left old = record {
  numbers_agree = old.numbers_agree;
  count = old.count;
  each = λ r c e. let head = head_of classes xs records numbers lists class r c old e in ap (option_and_then (get numbers)) (left r head.0 head.1) ∙ old.each r c e;
}

reached : (tree : TreeState) (a : ℕ) (old new : Aggregation) (reclassifies : Bool) → IsSound tree → numbered tree.aggregations a ≡ Some old → AggregationStays old new → LeavesClass reclassifies old new → (r : ℕ) (head : Record) → numbered tree.records r ≡ Some head
    → (reclassifies && inherits_from (put tree.aggregations a new) a head) ≡ false → class_in (put tree.aggregations a new) tree.records r ≡ class_in tree.aggregations tree.records r
reached tree a old new true sound there stays leaves r head here apart =
    class_left tree.aggregations a new old tree.records r head (placed_in tree.aggregations sound.forest sound.names.root_classes) here (sound.names.containers r head here) there stays.parent apart
reached tree a old new false sound there stays leaves r head here apart = class_put tree a new old r head sound here there stays.parent (leaves refl)

-- an aggregation that was edited, with those that it reaches on the lists of their classes
pub listed_affected : (classes : FinMap code_cmp Class) (tree : TreeState) (a : ℕ) (old new : Aggregation) (reclassifies : Bool) (numbers : NumberMap) (lists more_lists : ℕ) (class now : List ℕ)
    → IsSound tree → numbered tree.aggregations a ≡ Some old → AggregationStays old new → LeavesClass reclassifies old new
    → AreListed classes tree.aggregations tree.records numbers lists class → more_lists ≡ lists → length now ≡ length class
    → AreDone (IsOfClass numbers (put tree.aggregations a new) tree.records) tree.records (λ head. reclassifies && inherits_from (put tree.aggregations a new) a head) class now
    → AreListed classes (put tree.aggregations a new) tree.records numbers more_lists now
listed_affected classes tree a old new reclassifies numbers lists more_lists class now sound there stays leaves kept same_lists many done = record {
  numbers_agree = subst (λ (n : ℕ). HaveNumbers classes numbers n) (sym same_lists) kept.numbers_agree;
  count = many ∙ kept.count;
  each = λ r c e.
      let head = across now tree.records r c (many ∙ kept.count) e in
      elim (done r c head.0 e head.1) [
        | inl right ↦ right
        | inr left ↦ ap (option_and_then (get numbers)) (reached tree a old new reclassifies sound there stays leaves r head.0 head.1 left.0) ∙ kept.each r c left.1
      ];
}

-- a record that was edited or added, on the list of its class
pub listed_record : (classes : FinMap code_cmp Class) (xs : List Aggregation) (records more : List Record) (numbers : NumberMap) (lists more_lists : ℕ) (class now : List ℕ) (r : ℕ)
    → AreListed classes xs records numbers lists class → more_lists ≡ lists → length now ≡ length more
    → ((q : ℕ) → q ≢ r → numbered more q ≡ numbered records q) → ((c : ℕ) → numbered now r ≡ Some c → IsOfClass numbers xs more r c) → ((q c : ℕ) → q ≢ r → numbered now q ≡ Some c → numbered class q ≡ Some c)
    → AreListed classes xs more numbers more_lists now
listed_record classes xs records more numbers lists more_lists class now r old same_lists many same here others = record {
  numbers_agree = subst (λ (n : ℕ). HaveNumbers classes numbers n) (sym same_lists) old.numbers_agree;
  count = many;
  each = λ q c e. elim (same_or_not q r) [
    | inl is ↦ subst (λ (n : ℕ). IsOfClass numbers xs more n c) (sym is) (here c (ap (numbered now) (sym is) ∙ e))
    | inr apart ↦ ap (option_and_then (get numbers)) (class_by_head xs records more q (same q apart)) ∙ old.each q c (others q c apart e)
  ];
}

-- a record that was added, on the list of its class
pub listed_added : (classes : FinMap code_cmp Class) (xs : List Aggregation) (records more : List Record) (numbers : NumberMap) (lists more_lists : ℕ) (class now : List ℕ) → AreListed classes xs records numbers lists class → more_lists ≡ lists
    → length more ≡ length records + 1 → ((q : ℕ) → q ≢ length records + 1 → numbered more q ≡ numbered records q) → AreExtended (IsOfClass numbers xs more) more (λ _. false) class now → AreListed classes xs more numbers more_lists now
listed_added classes xs records more numbers lists more_lists class now old same_lists longer same added = record {
  numbers_agree = subst (λ (n : ℕ). HaveNumbers classes numbers n) (sym same_lists) old.numbers_agree;
  count = as_many;
  each = λ q c e.
      let head = across now more q c as_many e in
      elim (added.done q c head.0 e head.1) [
        | inl is ↦ is
        | inr kept ↦
            let within = numbered_within class q c kept.1 in
            ap (option_and_then (get numbers)) (class_by_head xs records more q (same q (λ at. omega (arith, at, within.1, old.count)))) ∙ old.each q c kept.1
      ];
} where
  as_many : length now ≡ length more
  as_many = omega (arith, added.count, longer, old.count)
