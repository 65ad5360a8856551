-- Lists of what is due or overdue: the pairs that are found of one record after the other, and the numbers that are read from them in order.
use Rattle.std.proofs.Common.{◌≡◌, ℕ, zero, suc, ◌+◌, ◌≤◌, Bool, true, false, cond, List, [], ◌∷◌, length, Option, Some, None, refl, sym, ap, ◌∙◌, arith, ◌⊎◌, inl, inr, get_or, not, ◌&&◌}
use Rattle.std.specs.Prelude.{ℤ, pos, ◌+ℤ◌, ◌<ℤ◌, ◌↔◌, int_lt, IsTrue}
use Rattle.std.specs.declared.cmp.Ordering.{Ordering}
use Rattle.std.specs.declared.cmp.Ordering.TheVariants.{Equal, Greater, Less}
use Rattle.std.specs.Ordering.{MatchOrdering, int_cmp, nat_cmp, ordering_then, is_eq}
use Rattle.std.specs.Cmp.{IsTotalOrder, int_cmp_is, int_cmp_total, int_ranks, nat_cmp_total, on_total, tied_itself}
use Rattle.std.specs.BTreeMap.{is_at}
use Rattle.std.specs.BTreeSet.{BTreeSet, contains}
use Rattle.std.specs.FinMap.{FinMap, get}
use Rattle.std.specs.Map.{values_of}
use Rattle.std.specs.List.{AllByRecursion, Contains}
use Rattle.std.specs.List.Sorted.{IsStrictlySortedBy}
use Rattle.std.specs.Option.{option_and_then, option_map, unwrap_or}
use Rattle.std.proofs.Math.Nat.{le-suc_iff}
use Rattle.std.proofs.lemmas.Bool.{and_parts}
use Rattle.std.proofs.lemmas.Cmp.{then_total}
use Rattle.std.proofs.lemmas.Int.{ints}
use Rattle.std.proofs.lemmas.Option.{slice_get_cases}
use Rattle.std.proofs.lemmas.List.Elements.{All-contains_itself, recursion_from_All}
use Rattle.std.proofs.lemmas.Map.Lookups.{CmpEqualImpliesEq, exact_signed, exact_unsigned, exact_pairs}
use Rattle.std.proofs.lemmas.Map.Made.{Contains-values_of, Contains-from_values_of}
use Rattle.std.proofs.lemmas.Map.Views.{btree_set_contains_iff, tells_apart}
use Rattle.office_records.specs.Lists.{is_some_and, numbered}
use Rattle.office_records.specs.Tree.{TreeState, due_by, due_of, has_record, is_keep, schedule_of, start_by, start_in, status_of}
use Rattle.office_records.specs.declared.aggregation.Aggregation.{Aggregation}
use Rattle.office_records.specs.declared.event.Event.{Event}
use Rattle.office_records.specs.declared.head.Record.{Record}
use Rattle.office_records.specs.declared.schedule.Schedule.{Schedule}
use Rattle.office_days.specs.Due.{deadline_from}
use Rattle.office_rules.specs.Readings.{deadline_cmp, due_cmp, is_overdue}
use Rattle.office_rules.specs.Registers.{due_rows_of}
use Rattle.office_rules.specs.State.{Office}
use Rattle.office_records.specs.Disposal.{counts, is_here}
use Rattle.office_machine.specs.DuePairs.{AreOwnPairs}
use Rattle.office_machine.specs.Selections.{AreSelectedPairs, AreSelectedRows, IsSelectedList, due_selected, is_selected, selects_due}
use Rattle.office_machine.specs.declared.selection.Selection.{Selection}
use Rattle.office_machine.specs.declared.selection.Selection.TheVariants.{Due, Overdue}
use Rattle.office_machine.proofs.Places.{within_has}

-- by due day, then number
abbrev pub pair_cmp : ℤ × ℕ → ℤ × ℕ → Ordering
pair_cmp x y = ordering_then (int_cmp x.0 y.0) (nat_cmp x.1 y.1)

pair_total : IsTotalOrder pair_cmp
pair_total = then_total (on_total (λ (p : ℤ × ℕ). p.0) int_cmp_total) (on_total (λ (p : ℤ × ℕ). p.1) nat_cmp_total)

pair_exact : CmpEqualImpliesEq pair_cmp
pair_exact = exact_pairs int_cmp nat_cmp exact_signed exact_unsigned

-- ---- the pairs of the records up to a number

-- a test finds the pairs of the records up to that number, and no other
pub record AreFound (here : ℕ → Option ℤ) (upto : ℕ) (has : ℤ × ℕ → Bool) : Type 0 where
  pub only : (due : ℤ) (r : ℕ) → has (due, r) ≡ true → (r ≤ upto) × (here r ≡ Some due)
  pub these : (due : ℤ) (r : ℕ) → r ≤ upto → here r ≡ Some due → has (due, r) ≡ true

last_or_before : (r n m : ℕ) → m ≡ n + 1 → r ≤ m → (r ≤ n) ⊎ (r ≡ m)
last_or_before r n m next low =
    let cases : (r ≤ n) ⊎ (r ≡ suc n) = le-suc_iff.0 (omega arith) in
    elim cases [ inl before ↦ inl before | inr last ↦ inr (omega arith) ]

by_test : {P : Type 0} (b old : Bool) → (b ≡ true → P) → (old ≡ true → P) → cond b true old ≡ true → P
by_test true old one rest h = one refl
by_test false old one rest h = rest h

stays : (b old : Bool) → old ≡ true → cond b true old ≡ true
stays true old h = refl
stays false old h = h

-- here gives the due day of a record that is selected
module _ (here : ℕ → Option ℤ) (n m : ℕ) (next : m ≡ n + 1) where
  -- the next record is not selected
  pub found_none : (has : ℤ × ℕ → Bool) → here m ≡ None → AreFound here n has → AreFound here m has
  found_none has none found = record {
    only = λ due r h. let before = found.only due r h in (omega arith, before.1);
    these = λ due r low h. elim (last_or_before r n m next low) [
      | inl before ↦ found.these due r before h
      | inr last ↦ let same = ap here last in absurd cc
    ];
  }

  only_here : (due other : ℤ) (r : ℕ) → here m ≡ Some due → ◌≡◌ {A = ℤ × ℕ} (due, m) (other, r) → (r ≤ m) × (here r ≡ Some other)
  only_here due other r is same =
      let number : m ≡ r = ap (λ q. q.1) same in
      (omega arith, ap here (sym number) ∙ is ∙ ap (λ q. Some q.0) same)

  these_here : (due other : ℤ) (r : ℕ) (has had : ℤ × ℕ → Bool) → here m ≡ Some due → ((q : ℤ × ℕ) → has q ≡ cond (is_at (pair_cmp (due, m)) q) true (had q)) → r ≡ m → here r ≡ Some other → has (other, r) ≡ true
  these_here due other r has had is puts last h =
      let same = ap here last in
      let day : other ≡ due = cc in
      ap (λ (k : ℕ). has (other, k)) last ∙ ap (λ (d : ℤ). has (d, m)) day ∙ puts (due, m) ∙ ap (λ o. cond (is_eq o) true (had (due, m))) (tied_itself pair_total (due, m))

  -- the next record is selected, and its pair is put in
  pub found_more : (due : ℤ) (has had : ℤ × ℕ → Bool) → here m ≡ Some due → ((q : ℤ × ℕ) → has q ≡ cond (is_at (pair_cmp (due, m)) q) true (had q)) → AreFound here n had → AreFound here m has
  found_more due has had is puts found = record {
    only = λ other r h. by_test (is_at (pair_cmp (due, m)) (other, r)) (had (other, r))
        (λ tied. only_here due other r is (tells_apart pair_exact (due, m) (other, r) tied))
        (λ old. let before = found.only other r old in (omega arith, before.1))
        (sym (puts (other, r)) ∙ h);
    these = λ other r low h. elim (last_or_before r n m next low) [
      | inl before ↦ puts (other, r) ∙ stays (is_at (pair_cmp (due, m)) (other, r)) (had (other, r)) (found.these other r before h)
      | inr last ↦ these_here due other r has had is puts last h
    ];
  }

-- ---- no record after the last is selected

either : {A : Type 0} (b : Bool) (x : A) → cond b x x ≡ x
either true x = refl
either false x = refl

no_start : (aggregations : List Aggregation) (records : List Record) (events : FinMap nat_cmp Event) (schedule : Schedule) (r : ℕ) → numbered records r ≡ None → start_in aggregations records events schedule r ≡ None
unfolding start_in
no_start aggregations records events schedule r none = ap (option_and_then (λ head. start_by schedule.trigger aggregations records (get events r) head)) none

no_due_by : (schedule : Schedule) → due_by schedule None ≡ None
unfolding due_by
no_due_by schedule = either (is_keep schedule.action) None

no_due : (tree : TreeState) (r : ℕ) (o : Option Schedule) → numbered tree.records r ≡ None → option_and_then (λ schedule. due_by schedule (start_in tree.aggregations tree.records tree.events schedule r)) o ≡ None
no_due tree r None none = refl
no_due tree r (Some schedule) none = ap (due_by schedule) (no_start tree.aggregations tree.records tree.events schedule r none) ∙ no_due_by schedule

due_is : (b : Bool) (o : Option ℤ) (due : ℤ) → cond b o None ≡ Some due → (b ≡ true) × (o ≡ Some due)
due_is true o due h = (refl, h)
due_is false o due h = absurd cc

due_there : (it : Selection) (tree : TreeState) (due : ℤ) (r : ℕ) → due_selected it tree r ≡ Some due → r ≤ length tree.records
due_there it tree due zero h = omega arith
due_there it tree due (suc r) h = elim (slice_get_cases tree.records r).1 [
  | inl there ↦ omega arith
  | inr past ↦ let none = no_due tree (suc r) (schedule_of tree (suc r)) past.1 in let is = (due_is (is_selected it tree (suc r)) (due_of tree (suc r)) due h).1 in absurd cc
]

-- the pairs found of all the records are those that are asked for
pub found_all : (it : Selection) (tree : TreeState) (n : ℕ) (pairs : BTreeSet (ℤ × ℕ)) → n ≡ length tree.records → AreFound (due_selected it tree) n (contains pair_cmp pairs) → AreSelectedPairs it tree pairs.keys
found_all it tree n pairs all found due r =
    let listed = btree_set_contains_iff pair_total pair_exact pairs (due, r) in
    (λ h. (found.only due r (listed.1 h)).1, λ h. let there = due_there it tree due r h in listed.0 (found.these due r (omega arith) h))

due_first : (it : Selection) (tree : TreeState) (due : ℤ) (r : ℕ) → due_selected it tree r ≡ Some due → 1 ≤ r
due_first it tree due zero h = let is = (due_is (is_selected it tree 0) (due_of tree 0) due h).1 in let none = no_due tree 0 (schedule_of tree 0) refl in absurd cc
due_first it tree due (suc r) h = omega arith

-- each pair is of a record that is there, with its due day
pub all_there : (it : Selection) (tree : TreeState) (pairs : List (ℤ × ℕ)) → AreSelectedPairs it tree pairs → AreOwnPairs tree pairs
all_there it tree pairs are =
    recursion_from_All (λ pair. IsTrue (has_record tree pair.1) × (due_of tree pair.1 ≡ Some pair.0)) pairs (λ k d l.
    let pair = get_or pairs k d in
    let own = (are pair.0 pair.1).0 (All-contains_itself pairs k d l) in
    (within_has tree pair.1 (due_first it tree pair.0 pair.1 own) (due_there it tree pair.0 pair.1 own), (due_is (is_selected it tree pair.1) (due_of tree pair.1) pair.0 own).1))

-- ---- the records that are listed

some_due : (o : Option ℤ) (test : ℤ → Bool) → is_some_and o test ≡ true → (due : ℤ) × (o ≡ Some due)
some_due None test h = absurd cc
some_due (Some due) test h = (due, refl)

due_of_passing : (it : Selection) (tree : TreeState) (r : ℕ) → is_selected it tree r ≡ true → (due : ℤ) × (due_selected it tree r ≡ Some due)
due_of_passing it tree r h =
    let both = and_parts (is_some_and (status_of tree r) is_here) (is_some_and (due_of tree r) (λ due. selects_due it tree r due)) h in
    let is = some_due (due_of tree r) (λ due. selects_due it tree r due) both.1 in
    (is.0, ap (λ b. cond b (due_of tree r) None) h ∙ is.1)

-- the numbers of the pairs are those of the records that are selected
lists : (it : Selection) (tree : TreeState) (pairs : List (ℤ × ℕ)) → AreSelectedPairs it tree pairs → (r : ℕ) → (Contains (values_of pairs) r ↔ (is_selected it tree r ≡ true))
lists it tree pairs are r = (
  λ listed. let pair = Contains-from_values_of pairs r listed in (due_is (is_selected it tree r) (due_of tree r) pair.0 ((are pair.0 r).0 pair.1)).0,
  λ h. let is = due_of_passing it tree r h in Contains-values_of pairs is.0 r ((are is.0 r).1 is.1),
)

both_of : (o : Option ℤ) (test : ℤ → Bool) (b : Bool) → is_some_and o (λ due. test due && b) ≡ (is_some_and o test && b)
both_of None test b = refl
both_of (Some due) test b = refl

-- those that are overdue are selected
selects_overdue : (tree : TreeState) (day : ℤ) (n r : ℕ) → is_selected (Overdue day n) tree r ≡ is_overdue tree day n r
selects_overdue tree day n r = ap (λ b. is_some_and (status_of tree r) is_here && b) (both_of (due_of tree r) (λ due. int_lt (deadline_from due n) day) (not (counts tree r)))

-- ---- in order

-- the first of the pair is the due day of the record
abbrev IsOwn : TreeState → ℤ × ℕ → Type 0
IsOwn tree pair = due_of tree pair.1 ≡ Some pair.0

due_same : (tree : TreeState) (p q : ℤ × ℕ) → IsOwn tree p → IsOwn tree q → due_cmp tree p.1 q.1 ≡ pair_cmp p q
due_same tree p q own its =
    ap (λ o. ordering_then (int_cmp (unwrap_or o (pos 0)) (unwrap_or (due_of tree q.1) (pos 0))) (nat_cmp p.1 q.1)) own
    ∙ ap (λ o. ordering_then (int_cmp p.0 (unwrap_or o (pos 0))) (nat_cmp p.1 q.1)) its

-- by deadline is by due day
later_cmp : (a b : ℤ) (n : ℕ) → int_cmp (a +ℤ pos n) (b +ℤ pos n) ≡ int_cmp a b
later_cmp a b n = sym (int_cmp_is (a +ℤ pos n) (b +ℤ pos n) (int_cmp a b) (go (int_cmp a b) (int_ranks a b)))
  where
    go : (o : Ordering) → MatchOrdering o (a <ℤ b) (a ≡ b) (b <ℤ a) → MatchOrdering o ((a +ℤ pos n) <ℤ (b +ℤ pos n)) ((a +ℤ pos n) ≡ (b +ℤ pos n)) ((b +ℤ pos n) <ℤ (a +ℤ pos n))
    go Less h = omega (arith, ints, h)
    go Equal h = ap (λ k. k +ℤ pos n) h
    go Greater h = omega (arith, ints, h)

deadline_same : (tree : TreeState) (n : ℕ) (p q : ℤ × ℕ) → IsOwn tree p → IsOwn tree q → deadline_cmp tree n p.1 q.1 ≡ pair_cmp p q
deadline_same tree n p q own its =
    ap (λ o. ordering_then (int_cmp (unwrap_or (option_map (λ due. deadline_from due n) o) (pos 0)) (unwrap_or (option_map (λ due. deadline_from due n) (due_of tree q.1)) (pos 0))) (nat_cmp p.1 q.1)) own
    ∙ ap (λ o. ordering_then (int_cmp (deadline_from p.0 n) (unwrap_or (option_map (λ due. deadline_from due n) o) (pos 0))) (nat_cmp p.1 q.1)) its
    ∙ ap (λ o. ordering_then o (nat_cmp p.1 q.1)) (later_cmp p.0 q.0 n)

-- an order of numbers that is the pairs' own
module _ (tree : TreeState) (cmp : ℕ → ℕ → Ordering) (same : (p q : ℤ × ℕ) → IsOwn tree p → IsOwn tree q → cmp p.1 q.1 ≡ pair_cmp p q) where
  below : (p : ℤ × ℕ) (ps : List (ℤ × ℕ)) → IsOwn tree p → AllByRecursion (IsOwn tree) ps → AllByRecursion (λ q. pair_cmp p q ≡ Less) ps → AllByRecursion (λ r. cmp p.1 r ≡ Less) (values_of ps)
  below p [] own each low = tt
  below p (q ∷ ps) own each low = (same p q own each.0 ∙ low.0, below p ps own each.1 low.1)

  rise : (ps : List (ℤ × ℕ)) → AllByRecursion (IsOwn tree) ps → IsStrictlySortedBy pair_cmp ps → IsStrictlySortedBy cmp (values_of ps)
  unfolding IsStrictlySortedBy
  rise [] each up = tt
  rise (p ∷ ps) each up = (below p ps each.0 each.1 up.0, rise ps each.1 up.1)

all_own : (it : Selection) (tree : TreeState) (pairs : List (ℤ × ℕ)) → AreSelectedPairs it tree pairs → AllByRecursion (IsOwn tree) pairs
all_own it tree pairs are =
    recursion_from_All (IsOwn tree) pairs (λ k d l.
    let pair = get_or pairs k d in
    (due_is (is_selected it tree pair.1) (due_of tree pair.1) pair.0 ((are pair.0 pair.1).0 (All-contains_itself pairs k d l))).1)

-- ---- the list, and its rows

-- the numbers of these pairs, by due day and number, are the list
pub selected_numbers : (it : Selection) (tree : TreeState) (pairs : List (ℤ × ℕ)) → AreSelectedPairs it tree pairs → IsStrictlySortedBy pair_cmp pairs → IsSelectedList it tree (values_of pairs)
selected_numbers (Due day) tree pairs are up = record {
  these = lists (Due day) tree pairs are;
  in_order = rise tree (due_cmp tree) (due_same tree) pairs (all_own (Due day) tree pairs are) up;
}
selected_numbers (Overdue day n) tree pairs are up = record {
  these = λ r. let same = selects_overdue tree day n r in let listed = lists (Overdue day n) tree pairs are r in (λ h. sym same ∙ listed.0 h, λ h. listed.1 (same ∙ h));
  in_order = rise tree (deadline_cmp tree n) (deadline_same tree n) pairs (all_own (Overdue day n) tree pairs are) up;
}

-- the rows of the list are those that are selected
pub selected_rows : (it : Selection) (s : Office) (list : List ℕ) → IsSelectedList it s.tree list → AreSelectedRows it s (due_rows_of s list)
selected_rows (Due day) s list is = (list, is, refl)
selected_rows (Overdue day n) s list is = (list, is, refl)
