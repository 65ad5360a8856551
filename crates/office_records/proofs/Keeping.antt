-- What an act of which no condition holds makes of a sound tree is sound, each item apart from the others.
use Rattle.std.proofs.Common.{◌≡◌, ℕ, zero, suc, ◌+◌, ◌<◌, ◌≤◌, List, [], ◌∷◌, ◌++◌, length, Option, Some, None, refl, sym, ap, ◌∙◌, subst, true, false, arith, inl, inr, length-append, ℤ}
use Rattle.std.specs.Prelude.{IsSome, IsNone, IfSome, not, nat_le, ◌&&◌, ◌||◌}
use Rattle.std.specs.Option.{is_some, is_none}
use Rattle.std.specs.List.{list_any}
use Rattle.std.specs.FinMap.{FinMap, get, insert, contains_key, len, empty, len-empty, get-empty}
use Rattle.std.proofs.lemmas.Bool.Decides.{nat_tests}
use Rattle.office_records.specs.Conditions.{first_of, conditions_of_add_schedule, conditions_of_add_class, conditions_of_add_aggregation, conditions_of_close_aggregation, conditions_of_add_record, lacks_class, lacks_schedule, lacks_parent, is_closed, is_child_of}
use Rattle.office_records.specs.Effects.{added_schedule, added_class, added_aggregation, closed_aggregation, added_record}
use Rattle.office_records.specs.Lists.{numbered, edited, is_some_and}
use Rattle.office_records.specs.Sound.{IsSound, FitsLimits, IsForest, RootsHaveClasses, NamesExist, NoneIsOpenUnderClosed, Names}
use Rattle.office_records.specs.Tree.{TreeState, code_cmp, empty_tree, has_aggregation, chain_of, chain}
use Rattle.office_records.specs.declared.aggregation.Aggregation.{Aggregation}
use Rattle.office_records.specs.declared.class.Class.{Class}
use Rattle.office_records.specs.declared.head.Record.{Record}
use Rattle.office_records.specs.declared.schedule.Schedule.{Schedule}
use Rattle.office_records.specs.declared.status.Status.TheVariants.{Here}
use Rattle.office_records.proofs.Accepting.{none_holds, not_false, neither, below, none_at}
use Rattle.office_records.proofs.Inserting.{insert_keeps, Names-insert, insert_cases, len-insert_free}
use Rattle.office_records.proofs.Places.{numbered_push, numbered_edited, numbered_within, length-edited}
use Rattle.office_records.proofs.Reading.{aggregation_within}
use Rattle.office_records.proofs.Walk.{chain-edited, chain_pushed, placed_in}

-- ---- names and places

-- a code that does not lack its thing names it
pub names_of : {V : Type 0} (m : FinMap code_cmp V) (o : Option (List ℕ)) → is_some_and o (λ code. not (contains_key m code)) ≡ false → Names m o
names_of m None e = tt
names_of m (Some code) e = not_false (contains_key m code) e

-- ---- schedules and classes

FitsLimits-add_schedule : (tree : TreeState) (code : List ℕ) (schedule : Schedule) → IsSound tree → contains_key tree.schedules code ≡ false → len tree.schedules < 1_000
    → FitsLimits (insert tree.schedules code schedule) tree.classes tree.aggregations tree.records
FitsLimits-add_schedule tree code schedule sound free few = record {
  schedules_few = omega (arith, few, len-insert_free tree.schedules code schedule free);
  classes_few = sound.limits.classes_few;
  aggregations_few = sound.limits.aggregations_few;
  records_few = sound.limits.records_few;
}

NamesExist-add_schedule : (tree : TreeState) (code : List ℕ) (schedule : Schedule) → IsSound tree → NamesExist (insert tree.schedules code schedule) tree.classes tree.aggregations tree.records
NamesExist-add_schedule tree code schedule sound = record {
  class_schedules = λ c class e. insert_keeps tree.schedules code schedule class.schedule (sound.names.class_schedules c class e);
  aggregation_classes = sound.names.aggregation_classes;
  root_classes = sound.names.root_classes;
  containers = sound.names.containers;
  record_classes = sound.names.record_classes;
  record_schedules = λ r head e. Names-insert tree.schedules code schedule head.schedule (sound.names.record_schedules r head e);
}

pub IsSound-add_schedule : (tree : TreeState) (code : List ℕ) (schedule : Schedule) → IsSound tree → first_of (conditions_of_add_schedule tree code) ≡ None → IsSound (added_schedule tree code schedule)
IsSound-add_schedule tree code schedule sound accepted =
    let no = none_holds (conditions_of_add_schedule tree code) accepted in
    record {
      limits = FitsLimits-add_schedule tree code schedule sound no.0 (below (len tree.schedules) 1_000 no.1.0);
      forest = sound.forest;
      names = NamesExist-add_schedule tree code schedule sound;
      closed = sound.closed;
      statuses = sound.statuses;
    }

FitsLimits-add_class : (tree : TreeState) (code : List ℕ) (class : Class) → IsSound tree → contains_key tree.classes code ≡ false → len tree.classes < 1_000
    → FitsLimits tree.schedules (insert tree.classes code class) tree.aggregations tree.records
FitsLimits-add_class tree code class sound free few = record {
  schedules_few = sound.limits.schedules_few;
  classes_few = omega (arith, few, len-insert_free tree.classes code class free);
  aggregations_few = sound.limits.aggregations_few;
  records_few = sound.limits.records_few;
}

NamesExist-add_class : (tree : TreeState) (code : List ℕ) (class : Class) → IsSound tree → IsSome (get tree.schedules class.schedule) → NamesExist tree.schedules (insert tree.classes code class) tree.aggregations tree.records
NamesExist-add_class tree code class sound there = record {
  class_schedules = λ c it e. elim (insert_cases tree.classes code class c it e) [
    | inl new ↦ subst (λ (k : Class). IsSome (get tree.schedules k.schedule)) new.1 there
    | inr old ↦ sound.names.class_schedules c it old
  ];
  aggregation_classes = λ a it e. Names-insert tree.classes code class it.class (sound.names.aggregation_classes a it e);
  root_classes = sound.names.root_classes;
  containers = sound.names.containers;
  record_classes = λ r head e. Names-insert tree.classes code class head.class (sound.names.record_classes r head e);
  record_schedules = sound.names.record_schedules;
}

pub IsSound-add_class : (tree : TreeState) (code : List ℕ) (class : Class) → IsSound tree → first_of (conditions_of_add_class tree code class.schedule) ≡ None → IsSound (added_class tree code class)
IsSound-add_class tree code class sound accepted =
    let no = none_holds (conditions_of_add_class tree code class.schedule) accepted in
    record {
      limits = FitsLimits-add_class tree code class sound no.0 (below (len tree.classes) 1_000 no.1.1.0);
      forest = sound.forest;
      names = NamesExist-add_class tree code class sound (not_false (contains_key tree.schedules class.schedule) no.1.0);
      closed = sound.closed;
      statuses = sound.statuses;
    }

-- ---- a new aggregation

has_its_parent : (tree : TreeState) (parent : Option ℕ) → lacks_parent tree parent ≡ false → IfSome parent (λ p. (0 < p) × (p ≤ length tree.aggregations))
has_its_parent tree None e = tt
has_its_parent tree (Some p) e = aggregation_within tree p (not_false (has_aggregation tree p) e)

root_has_class : (parent : Option ℕ) (class : Option (List ℕ)) → (is_none parent && is_none class) ≡ false → parent ≡ None → IsSome class
root_has_class None class some e = not_false (is_some class) some
root_has_class (Some p) class some e = absurd cc

shallow : (xs : List Aggregation) (parent : Option ℕ) → is_some_and parent (λ a. nat_le 8 (length (chain_of xs a))) ≡ false → IfSome parent (λ a. length (chain_of xs a) < 8)
shallow xs None e = tt
shallow xs (Some p) e = below (length (chain_of xs p)) 8 e

parent_open : (xs : List Aggregation) (o : Option ℕ) (p : ℕ) (parent : Aggregation) → o ≡ Some p → numbered xs p ≡ Some parent → is_some_and o (is_closed xs) ≡ false → IsNone parent.closed
parent_open xs None p parent e there is_open = absurd cc
parent_open xs (Some q) p parent e there is_open =
    let same : q ≡ p = cc in
    let number : numbered xs q ≡ Some parent = ap (numbered xs) same ∙ there in
    sym (ap (λ o. is_some_and o (λ (it : Aggregation). is_some it.closed)) number) ∙ is_open

-- what was there before a push
was_there : {A : Type 0} (xs : List A) (x y : A) (n : ℕ) → n ≤ length xs → numbered (xs ++ x ∷ []) n ≡ Some y → numbered xs n ≡ Some y
was_there xs x y n low e = elim (numbered_push xs x y n e) [ inl old ↦ old | inr new ↦ let is : n ≡ length xs + 1 = new.0 in absurd (omega arith) ]

-- a parent that is there, less than 8 deep
abbrev FitsIn : List Aggregation → Option ℕ → Type 0
FitsIn xs parent = IfSome parent (λ p. length (chain_of xs p) < 8) × IfSome parent (λ p. (0 < p) × (p ≤ length xs))

parent_in : (n p : ℕ) (o : Option ℕ) → o ≡ Some p → IfSome o (λ a. (0 < a) × (a ≤ n)) → (0 < p) × (p ≤ n)
parent_in n p None e h = absurd cc
parent_in n p (Some q) e h = let same : q ≡ p = cc in subst (λ (a : ℕ). (0 < a) × (a ≤ n)) same h

below_push : (xs : List Aggregation) (x : Aggregation) → IsForest xs → FitsIn xs x.parent → (a p : ℕ) (it : Aggregation) → numbered (xs ++ x ∷ []) a ≡ Some it → it.parent ≡ Some p → (0 < p) × (p < a)
below_push xs x forest fits a p it e up = elim (numbered_push xs x it a e) [
  | inl old ↦ forest.below a p it old up
  | inr new ↦ let there = parent_in (length xs) p x.parent (ap (λ (k : Aggregation). k.parent) new.1 ∙ up) fits.1 in (there.0, omega (arith, new.0, there.1))
]

IsForest-push : (xs : List Aggregation) (x : Aggregation) → IsForest xs → RootsHaveClasses xs → FitsIn xs x.parent → IsForest (xs ++ x ∷ [])
IsForest-push xs x forest roots fits = record {
  below = below_push xs x forest fits;
  depth = chain_pushed xs x (placed_in xs forest roots) forest.depth fits.0 fits.1;
}

roots_push : (xs : List Aggregation) (x : Aggregation) → RootsHaveClasses xs → (x.parent ≡ None → IsSome x.class) → RootsHaveClasses (xs ++ x ∷ [])
roots_push xs x roots own a it e root = elim (numbered_push xs x it a e) [
  | inl old ↦ roots a it old root
  | inr new ↦ subst (λ (k : Aggregation). IsSome k.class) new.1 (own (ap (λ (k : Aggregation). k.parent) new.1 ∙ root))
]

closed_push : (xs : List Aggregation) (x : Aggregation) → IsForest xs → NoneIsOpenUnderClosed xs → FitsIn xs x.parent → is_some_and x.parent (is_closed xs) ≡ false → NoneIsOpenUnderClosed (xs ++ x ∷ [])
closed_push xs x forest closed fits parents a p it parent e up above is_open = elim (numbered_push xs x it a e) [
  | inl old ↦
      let low = (forest.below a p it old up).1 in
      let within = (numbered_within xs a it old).1 in
      closed a p it parent old up (was_there xs x parent p (omega (arith, low, within)) above) is_open
  | inr new ↦
      let up_new : x.parent ≡ Some p = ap (λ (k : Aggregation). k.parent) new.1 ∙ up in
      parent_open xs x.parent p parent up_new (was_there xs x parent p (parent_in (length xs) p x.parent up_new fits.1).1 above) parents
]

FitsLimits-add_aggregation : (tree : TreeState) (x : Aggregation) → IsSound tree → length tree.aggregations < 50_000 → FitsLimits tree.schedules tree.classes (tree.aggregations ++ x ∷ []) tree.records
FitsLimits-add_aggregation tree x sound few = record {
  schedules_few = sound.limits.schedules_few;
  classes_few = sound.limits.classes_few;
  aggregations_few = omega (arith, few, length-append tree.aggregations (x ∷ []));
  records_few = sound.limits.records_few;
}

NamesExist-add_aggregation : (tree : TreeState) (x : Aggregation) → IsSound tree → Names tree.classes x.class → (x.parent ≡ None → IsSome x.class) → NamesExist tree.schedules tree.classes (tree.aggregations ++ x ∷ []) tree.records
NamesExist-add_aggregation tree x sound named own = record {
  class_schedules = sound.names.class_schedules;
  aggregation_classes = λ a it e. elim (numbered_push tree.aggregations x it a e) [
    | inl old ↦ sound.names.aggregation_classes a it old
    | inr new ↦ subst (λ (k : Aggregation). Names tree.classes k.class) new.1 named
  ];
  root_classes = roots_push tree.aggregations x sound.names.root_classes own;
  containers = λ r head e. let aggregation = sound.names.containers r head e in (aggregation.0, omega (arith, aggregation.1, length-append tree.aggregations (x ∷ [])));
  record_classes = sound.names.record_classes;
  record_schedules = sound.names.record_schedules;
}

pub IsSound-add_aggregation : (tree : TreeState) (ref_text title : List ℕ) (parent : Option ℕ) (class : Option (List ℕ)) → IsSound tree → first_of (conditions_of_add_aggregation tree ref_text parent class) ≡ None → IsSound (added_aggregation tree ref_text title parent class)
IsSound-add_aggregation tree ref_text title parent class sound accepted =
    let x : Aggregation = record { ref_text = ref_text; title = title; parent = parent; class = class; closed = None } in
    let no = none_holds (conditions_of_add_aggregation tree ref_text parent class) accepted in
    let lacks = neither (lacks_parent tree parent) (lacks_class tree class) no.1.0 in
    let fits : FitsIn tree.aggregations parent = (shallow tree.aggregations parent no.1.1.1.1.0, has_its_parent tree parent lacks.0) in
    record {
      limits = FitsLimits-add_aggregation tree x sound (below (length tree.aggregations) 50_000 no.1.1.0);
      forest = IsForest-push tree.aggregations x sound.forest sound.names.root_classes fits;
      names = NamesExist-add_aggregation tree x sound (names_of tree.classes class lacks.1) (root_has_class parent class no.1.1.1.1.1.0);
      closed = closed_push tree.aggregations x sound.forest sound.closed fits no.1.1.1.0;
      statuses = sound.statuses;
    }

-- ---- an aggregation that is closed

abbrev pub as_closed : ℤ → Aggregation → Aggregation
as_closed day it = record it { closed = Some day }

open_unchanged : (day : ℤ) (it x : Aggregation) → it ≡ as_closed day x → IsNone it.closed → ⊥
open_unchanged day it x e is_open = let closed = rw e at is_open in absurd cc

is_its_child : (a : ℕ) (it : Aggregation) → it.parent ≡ Some a → IsNone it.closed → (is_child_of a it && is_none it.closed) ≡ true
is_its_child a it up is_open = rw (up, is_open) (grind (arith, nat_tests))

closed_close : (xs : List Aggregation) (a : ℕ) (day : ℤ) → NoneIsOpenUnderClosed xs → list_any (λ it. is_child_of a it && is_none it.closed) xs ≡ false → NoneIsOpenUnderClosed (edited xs a (as_closed day))
closed_close xs a day closed none b p it parent e up above is_open =
    let child = numbered_edited xs a (as_closed day) it b e in
    let over = numbered_edited xs a (as_closed day) parent p above in
    elim child.2 [
      | inl same ↦
          let there : numbered xs b ≡ Some it = child.1 ∙ ap Some (sym same) in
          elim over.2 [
            | inl kept ↦ closed b p it parent there up (over.1 ∙ ap Some (sym kept)) is_open
            | inr changed ↦
                let up_here : it.parent ≡ Some a = up ∙ ap Some changed.0 in
                let test : (is_child_of a it && is_none it.closed) ≡ false = none_at (λ (it : Aggregation). is_child_of a it && is_none it.closed) xs b it none there in
                let other = is_its_child a it up_here is_open in
                absurd cc
          ]
      | inr changed ↦ absurd (open_unchanged day it child.0 changed.1 is_open)
    ]

-- a change of an aggregation leaves as many as there were
pub FitsLimits-edited : (tree : TreeState) (a : ℕ) (f : Aggregation → Aggregation) → IsSound tree → FitsLimits tree.schedules tree.classes (edited tree.aggregations a f) tree.records
FitsLimits-edited tree a f sound = record {
  schedules_few = sound.limits.schedules_few;
  classes_few = sound.limits.classes_few;
  aggregations_few = omega (arith, sound.limits.aggregations_few, length-edited tree.aggregations a f);
  records_few = sound.limits.records_few;
}

-- a change that keeps the parent leaves a forest
pub IsForest-edited : (xs : List Aggregation) (a : ℕ) (f : Aggregation → Aggregation) → ((it : Aggregation) → (f it).parent ≡ it.parent) → IsForest xs → IsForest (edited xs a f)
IsForest-edited xs a f keeps forest = record {
  below = λ b p it e up.
      let came = numbered_edited xs a f it b e in
      elim came.2 [
        | inl same ↦ forest.below b p came.0 came.1 (ap (λ (k : Aggregation). k.parent) (sym same) ∙ up)
        | inr changed ↦ forest.below b p came.0 came.1 (sym (keeps came.0) ∙ ap (λ (k : Aggregation). k.parent) (sym changed.1) ∙ up)
      ];
  depth = λ b. let same = chain-edited xs a f keeps b (Some b) in rw same (forest.depth b);
}

roots_close : (xs : List Aggregation) (a : ℕ) (day : ℤ) → RootsHaveClasses xs → RootsHaveClasses (edited xs a (as_closed day))
roots_close xs a day roots b it e root =
    let came = numbered_edited xs a (as_closed day) it b e in
    elim came.2 [
      | inl same ↦ subst (λ (k : Aggregation). IsSome k.class) (sym same) (roots b came.0 came.1 (ap (λ (k : Aggregation). k.parent) (sym same) ∙ root))
      | inr changed ↦ subst (λ (k : Aggregation). IsSome k.class) (sym changed.1) (roots b came.0 came.1 (ap (λ (k : Aggregation). k.parent) (sym changed.1) ∙ root))
    ]

-- a change that gives only a class that is there, after which each root has a class, leaves every named thing there
pub NamesExist-edited : (tree : TreeState) (a : ℕ) (f : Aggregation → Aggregation) → IsSound tree → ((it : Aggregation) → Names tree.classes it.class → Names tree.classes (f it).class) → RootsHaveClasses (edited tree.aggregations a f)
    → NamesExist tree.schedules tree.classes (edited tree.aggregations a f) tree.records
NamesExist-edited tree a f sound named roots = record {
  class_schedules = sound.names.class_schedules;
  aggregation_classes = λ b it e.
      let came = numbered_edited tree.aggregations a f it b e in
      let old = sound.names.aggregation_classes b came.0 came.1 in
      elim came.2 [
        | inl same ↦ subst (λ (k : Aggregation). Names tree.classes k.class) (sym same) old
        | inr changed ↦ subst (λ (k : Aggregation). Names tree.classes k.class) (sym changed.1) (named came.0 old)
      ];
  root_classes = roots;
  containers = λ r head e. let aggregation = sound.names.containers r head e in (aggregation.0, omega (arith, aggregation.1, length-edited tree.aggregations a f));
  record_classes = sound.names.record_classes;
  record_schedules = sound.names.record_schedules;
}

pub IsSound-close_aggregation : (tree : TreeState) (a : ℕ) (day : ℤ) → IsSound tree → first_of (conditions_of_close_aggregation tree a) ≡ None → IsSound (closed_aggregation tree a day)
IsSound-close_aggregation tree a day sound accepted =
    let no = none_holds (conditions_of_close_aggregation tree a) accepted in
    record {
      limits = FitsLimits-edited tree a (as_closed day) sound;
      forest = IsForest-edited tree.aggregations a (as_closed day) (λ it. refl) sound.forest;
      names = NamesExist-edited tree a (as_closed day) sound (λ it named. named) (roots_close tree.aggregations a day sound.names.root_classes);
      closed = closed_close tree.aggregations a day sound.closed no.1.1.0;
      statuses = sound.statuses;
    }

-- ---- a new record

FitsLimits-add_record : (tree : TreeState) (head : Record) → IsSound tree → length tree.records < 200_000 → FitsLimits tree.schedules tree.classes tree.aggregations (tree.records ++ head ∷ [])
FitsLimits-add_record tree head sound few = record {
  schedules_few = sound.limits.schedules_few;
  classes_few = sound.limits.classes_few;
  aggregations_few = sound.limits.aggregations_few;
  records_few = omega (arith, few, length-append tree.records (head ∷ []));
}

NamesExist-add_record : (tree : TreeState) (head : Record) → IsSound tree → (0 < head.aggregation) × (head.aggregation ≤ length tree.aggregations) → Names tree.classes head.class → Names tree.schedules head.schedule
    → NamesExist tree.schedules tree.classes tree.aggregations (tree.records ++ head ∷ [])
NamesExist-add_record tree head sound aggregation class schedule = record {
  class_schedules = sound.names.class_schedules;
  aggregation_classes = sound.names.aggregation_classes;
  root_classes = sound.names.root_classes;
  containers = λ r it e. elim (numbered_push tree.records head it r e) [
    | inl old ↦ sound.names.containers r it old
    | inr new ↦ subst (λ (k : Record). (0 < k.aggregation) × (k.aggregation ≤ length tree.aggregations)) new.1 aggregation
  ];
  record_classes = λ r it e. elim (numbered_push tree.records head it r e) [
    | inl old ↦ sound.names.record_classes r it old
    | inr new ↦ subst (λ (k : Record). Names tree.classes k.class) new.1 class
  ];
  record_schedules = λ r it e. elim (numbered_push tree.records head it r e) [
    | inl old ↦ sound.names.record_schedules r it old
    | inr new ↦ subst (λ (k : Record). Names tree.schedules k.schedule) new.1 schedule
  ];
}

statuses-add_record : (tree : TreeState) (head : Record) → IsSound tree → length (tree.statuses ++ Here ∷ []) ≡ length (tree.records ++ head ∷ [])
statuses-add_record tree head sound = omega (arith, sound.statuses, length-append tree.records (head ∷ []), length-append tree.statuses (Here ∷ []))

pub IsSound-add_record : (tree : TreeState) (head : Record) → IsSound tree → first_of (conditions_of_add_record tree head.ref_text head.aggregation head.class head.schedule) ≡ None → IsSound (added_record tree head)
IsSound-add_record tree head sound accepted =
    let no = none_holds (conditions_of_add_record tree head.ref_text head.aggregation head.class head.schedule) accepted in
    let lacks = neither (not (has_aggregation tree head.aggregation) || lacks_class tree head.class) (lacks_schedule tree head.schedule) no.1.0 in
    let aggregation_or_class = neither (not (has_aggregation tree head.aggregation)) (lacks_class tree head.class) lacks.0 in
    let aggregation = aggregation_within tree head.aggregation (not_false (has_aggregation tree head.aggregation) aggregation_or_class.0) in
    record {
      limits = FitsLimits-add_record tree head sound (below (length tree.records) 200_000 no.1.1.0);
      forest = sound.forest;
      names = NamesExist-add_record tree head sound aggregation (names_of tree.classes head.class aggregation_or_class.1) (names_of tree.schedules head.schedule lacks.1);
      closed = sound.closed;
      statuses = statuses-add_record tree head sound;
    }

-- ---- the empty tree

nothing : {A : Type 0} (n : ℕ) (x : A) → numbered [] n ≡ Some x → ⊥
nothing zero x e = absurd cc
nothing (suc n) x e = absurd cc

no_depth : (a : ℕ) → length (chain_of [] a) ≤ 8
unfolding chain
no_depth zero = omega arith
no_depth (suc zero) = omega arith
no_depth (suc (suc a)) = omega arith

no_class : (q : List ℕ) (x : Class) → get (empty {X = Class} {R = code_cmp}) q ≡ Some x → ⊥
no_class q x e = let none = get-empty {X = Class} code_cmp q in absurd cc

pub IsSound-empty : IsSound empty_tree
IsSound-empty = record {
  limits = record {
    schedules_few = let n = len-empty code_cmp Schedule in omega (arith, n);
    classes_few = let n = len-empty code_cmp Class in omega (arith, n);
    aggregations_few = omega arith;
    records_few = omega arith;
  };
  forest = record {
    below = λ a p it e up. absurd (nothing a it e);
    depth = no_depth;
  };
  names = record {
    class_schedules = λ c class e. absurd (no_class c class e);
    aggregation_classes = λ a it e. absurd (nothing a it e);
    root_classes = λ a it e root. absurd (nothing a it e);
    containers = λ r head e. absurd (nothing r head e);
    record_classes = λ r head e. absurd (nothing r head e);
    record_schedules = λ r head e. absurd (nothing r head e);
  };
  closed = λ a p it parent e up above is_open. absurd (nothing a it e);
  statuses = refl;
}
