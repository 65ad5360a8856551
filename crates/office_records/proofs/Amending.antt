-- What an act of which no condition holds makes of a sound tree is sound, each item apart from the others: the acts that change what is there.
use Rattle.std.proofs.Common.{◌≡◌, ℕ, ◌<◌, ◌≤◌, List, length, Option, Some, None, refl, sym, ap, ◌∙◌, subst, Bool, false, arith, inl, inr, ℤ}
use Rattle.std.specs.Prelude.{IsSome, IsNone, not, ◌&&◌}
use Rattle.std.specs.Option.{is_none, option_map}
use Rattle.std.specs.FinMap.{get, contains_key}
use Rattle.office_records.specs.Conditions.{first_of, conditions_of_set_class_schedule, conditions_of_set_record_schedule, conditions_of_reclassify, conditions_of_confirm, conditions_of_review, conditions_of_receipt, lacks_class, lacks_classified, lacks_schedule, is_root}
use Rattle.office_records.specs.Effects.{with_class_schedule, with_head, with_record_schedule, reclassified, confirmed, reviewed, receipted}
use Rattle.office_records.specs.Lists.{numbered, edited, amended, is_some_and, or_else}
use Rattle.office_records.specs.Sound.{IsSound, FitsLimits, RootsHaveClasses, NoneIsOpenUnderClosed, NamesExist, Names}
use Rattle.office_records.specs.Tree.{TreeState, due_of, has_record}
use Rattle.office_records.specs.declared.action.Action.{Action}
use Rattle.office_records.specs.declared.aggregation.Aggregation.{Aggregation}
use Rattle.office_records.specs.declared.class.Class.{Class}
use Rattle.office_records.specs.declared.classified.Classified.{Classified}
use Rattle.office_records.specs.declared.classified.Classified.TheVariants as classified
use Rattle.office_records.specs.declared.head.Record.{Record}
use Rattle.office_records.specs.declared.status.Status.TheVariants.{Received}
use Rattle.office_records.proofs.Inserting.{Names-amended, amended_cases, len-amended}
use Rattle.office_records.proofs.Accepting.{none_holds, not_false, neither}
use Rattle.office_records.proofs.Keeping.{names_of, FitsLimits-edited, IsForest-edited, NamesExist-edited}
use Rattle.office_records.proofs.Places.{numbered_edited, length-edited}

-- ---- a class's schedule

abbrev pub as_scheduled : List ℕ → Class → Class
as_scheduled schedule it = record it { schedule = schedule }

FitsLimits-set_class_schedule : (tree : TreeState) (class schedule : List ℕ) → IsSound tree → FitsLimits tree.schedules (amended tree.classes class (as_scheduled schedule)) tree.aggregations tree.records
FitsLimits-set_class_schedule tree class schedule sound = record {
  schedules_few = sound.limits.schedules_few;
  classes_few = omega (arith, sound.limits.classes_few, len-amended tree.classes class (as_scheduled schedule));
  aggregations_few = sound.limits.aggregations_few;
  records_few = sound.limits.records_few;
}

NamesExist-set_class_schedule : (tree : TreeState) (class schedule : List ℕ) → IsSound tree → IsSome (get tree.schedules schedule) → NamesExist tree.schedules (amended tree.classes class (as_scheduled schedule)) tree.aggregations tree.records
NamesExist-set_class_schedule tree class schedule sound there = record {
  class_schedules = λ c it e.
      let came = amended_cases tree.classes class (as_scheduled schedule) c it e in
      elim came.2 [
        | inl same ↦ subst (λ (k : Class). IsSome (get tree.schedules k.schedule)) (sym same) (sound.names.class_schedules c came.0 came.1)
        | inr changed ↦ subst (λ (k : Class). IsSome (get tree.schedules k.schedule)) (sym changed.1) there
      ];
  aggregation_classes = λ a it e. Names-amended tree.classes class (as_scheduled schedule) it.class (sound.names.aggregation_classes a it e);
  root_classes = sound.names.root_classes;
  containers = sound.names.containers;
  record_classes = λ r head e. Names-amended tree.classes class (as_scheduled schedule) head.class (sound.names.record_classes r head e);
  record_schedules = sound.names.record_schedules;
}

pub IsSound-set_class_schedule : (tree : TreeState) (class schedule : List ℕ) → IsSound tree → first_of (conditions_of_set_class_schedule tree class schedule) ≡ None → IsSound (with_class_schedule tree class schedule)
IsSound-set_class_schedule tree class schedule sound accepted =
    let no = none_holds (conditions_of_set_class_schedule tree class schedule) accepted in
    let lacks = neither (not (contains_key tree.classes class)) (not (contains_key tree.schedules schedule)) no.0 in
    record {
      limits = FitsLimits-set_class_schedule tree class schedule sound;
      forest = sound.forest;
      names = NamesExist-set_class_schedule tree class schedule sound (not_false (contains_key tree.schedules schedule) lacks.1);
      closed = sound.closed;
      statuses = sound.statuses;
    }

-- ---- a record's head

-- a change that keeps the aggregation and gives only classes and schedules that are there
pub record IsFit (tree : TreeState) (r : ℕ) (change : Record → Record) : Type 0 where
  pub aggregation : (head : Record) → (change head).aggregation ≡ head.aggregation
  pub class : (head : Record) → numbered tree.records r ≡ Some head → Names tree.classes (change head).class
  pub schedule : (head : Record) → numbered tree.records r ≡ Some head → Names tree.schedules (change head).schedule

FitsLimits-with_head : (tree : TreeState) (r : ℕ) (change : Record → Record) → IsSound tree → FitsLimits tree.schedules tree.classes tree.aggregations (edited tree.records r change)
FitsLimits-with_head tree r change sound = record {
  schedules_few = sound.limits.schedules_few;
  classes_few = sound.limits.classes_few;
  aggregations_few = sound.limits.aggregations_few;
  records_few = omega (arith, sound.limits.records_few, length-edited tree.records r change);
}

NamesExist-with_head : (tree : TreeState) (r : ℕ) (change : Record → Record) → IsSound tree → IsFit tree r change → NamesExist tree.schedules tree.classes tree.aggregations (edited tree.records r change)
NamesExist-with_head tree r change sound fit = record {
  class_schedules = sound.names.class_schedules;
  aggregation_classes = sound.names.aggregation_classes;
  root_classes = sound.names.root_classes;
  containers = λ n head e.
      let came = numbered_edited tree.records r change head n e in
      let aggregation = sound.names.containers n came.0 came.1 in
      elim came.2 [
        | inl same ↦ subst (λ (k : Record). (0 < k.aggregation) × (k.aggregation ≤ length tree.aggregations)) (sym same) aggregation
        | inr changed ↦
            let kept : came.0.aggregation ≡ head.aggregation = sym (fit.aggregation came.0) ∙ ap (λ (k : Record). k.aggregation) (sym changed.1) in
            subst (λ (a : ℕ). (0 < a) × (a ≤ length tree.aggregations)) kept aggregation
      ];
  record_classes = λ n head e.
      let came = numbered_edited tree.records r change head n e in
      elim came.2 [
        | inl same ↦ subst (λ (k : Record). Names tree.classes k.class) (sym same) (sound.names.record_classes n came.0 came.1)
        | inr changed ↦ subst (λ (k : Record). Names tree.classes k.class) (sym changed.1) (fit.class came.0 (ap (numbered tree.records) (sym changed.0) ∙ came.1))
      ];
  record_schedules = λ n head e.
      let came = numbered_edited tree.records r change head n e in
      elim came.2 [
        | inl same ↦ subst (λ (k : Record). Names tree.schedules k.schedule) (sym same) (sound.names.record_schedules n came.0 came.1)
        | inr changed ↦ subst (λ (k : Record). Names tree.schedules k.schedule) (sym changed.1) (fit.schedule came.0 (ap (numbered tree.records) (sym changed.0) ∙ came.1))
      ];
}

statuses-with_head : (tree : TreeState) (r : ℕ) (change : Record → Record) → IsSound tree → length tree.statuses ≡ length (edited tree.records r change)
statuses-with_head tree r change sound = sound.statuses ∙ sym (length-edited tree.records r change)

pub IsSound-with_head : (tree : TreeState) (r : ℕ) (change : Record → Record) → IsSound tree → IsFit tree r change → IsSound (with_head tree r change)
IsSound-with_head tree r change sound fit = record {
  limits = FitsLimits-with_head tree r change sound;
  forest = sound.forest;
  names = NamesExist-with_head tree r change sound fit;
  closed = sound.closed;
  statuses = statuses-with_head tree r change sound;
}

names_else : (tree : TreeState) (given own : Option (List ℕ)) → Names tree.schedules given → Names tree.schedules own → Names tree.schedules (or_else given own)
names_else tree None own given_there own_there = own_there
names_else tree (Some code) own given_there own_there = given_there

pub IsSound-set_record_schedule : (tree : TreeState) (r : ℕ) (schedule : Option (List ℕ)) → IsSound tree → first_of (conditions_of_set_record_schedule tree r schedule) ≡ None → IsSound (with_record_schedule tree r schedule)
IsSound-set_record_schedule tree r schedule sound accepted =
    let no = none_holds (conditions_of_set_record_schedule tree r schedule) accepted in
    let lacks = neither (not (has_record tree r)) (lacks_schedule tree schedule) no.0 in
    IsSound-with_head tree r (λ head. record head { schedule = schedule }) sound (record {
      aggregation = λ head. refl;
      class = λ head e. sound.names.record_classes r head e;
      schedule = λ head e. names_of tree.schedules schedule lacks.1;
    })

pub IsSound-confirm : (tree : TreeState) (day : ℤ) (r : ℕ) (named : Action) (by : List ℕ) → IsSound tree → first_of (conditions_of_confirm tree day r named) ≡ None → IsSound (confirmed tree day r named by)
IsSound-confirm tree day r named by sound accepted =
    IsSound-with_head tree r (λ head. record head { confirmation = option_map (λ due. record { action = named; due = due; day = day; by = by }) (due_of tree r) }) sound (record {
      aggregation = λ head. refl;
      class = λ head e. sound.names.record_classes r head e;
      schedule = λ head e. sound.names.record_schedules r head e;
    })

pub IsSound-review : (tree : TreeState) (day : ℤ) (r : ℕ) (schedule : Option (List ℕ)) (by : List ℕ) → IsSound tree → first_of (conditions_of_review tree day r schedule) ≡ None → IsSound (reviewed tree day r schedule by)
IsSound-review tree day r schedule by sound accepted =
    let no = none_holds (conditions_of_review tree day r schedule) accepted in
    let lacks = neither (not (has_record tree r)) (lacks_schedule tree schedule) no.0 in
    IsSound-with_head tree r (λ head. record head { review = Some (record { day = day; by = by }); schedule = or_else schedule head.schedule }) sound (record {
      aggregation = λ head. refl;
      class = λ head e. sound.names.record_classes r head e;
      schedule = λ head e. names_else tree schedule head.schedule (names_of tree.schedules schedule lacks.1) (sound.names.record_schedules r head e);
    })

pub IsSound-receipt : (tree : TreeState) (day : ℤ) (r : ℕ) (digest by : List ℕ) → IsSound tree → first_of (conditions_of_receipt tree r digest) ≡ None → IsSound (receipted tree day r by)
IsSound-receipt tree day r digest by sound accepted =
    let change : Record → Record = λ head. record head { receipt = Some (record { day = day; by = by }) } in
    record {
      limits = FitsLimits-with_head tree r change sound;
      forest = sound.forest;
      names = NamesExist-with_head tree r change sound (record { aggregation = λ head. refl; class = λ head e. sound.names.record_classes r head e; schedule = λ head e. sound.names.record_schedules r head e });
      closed = sound.closed;
      statuses = length-edited tree.statuses r (λ _. Received) ∙ statuses-with_head tree r change sound;
    }

-- ---- an own class

abbrev pub as_classed : Option (List ℕ) → Aggregation → Aggregation
as_classed class it = record it { class = class }

-- a change that keeps parents and closings opens nothing under a closed one
pub closed_edited : (xs : List Aggregation) (a : ℕ) (f : Aggregation → Aggregation) → ((it : Aggregation) → (f it).parent ≡ it.parent) → ((it : Aggregation) → (f it).closed ≡ it.closed) → NoneIsOpenUnderClosed xs → NoneIsOpenUnderClosed (edited xs a f)
closed_edited xs a f parents closings closed b p it parent e up above is_open =
    let child = kept_edited xs a f parents closings b it e in
    let over = kept_edited xs a f parents closings p parent above in
    subst (λ (o : Option ℤ). IsNone o) over.3 (closed b p child.0 over.0 child.1 (child.2 ∙ up) over.1 (subst (λ (o : Option ℤ). IsNone o) (sym child.3) is_open)) where
      kept_edited : (xs : List Aggregation) (a : ℕ) (f : Aggregation → Aggregation) → ((it : Aggregation) → (f it).parent ≡ it.parent) → ((it : Aggregation) → (f it).closed ≡ it.closed) → (b : ℕ) (it : Aggregation) → numbered (edited xs a f) b ≡ Some it
          → (x : Aggregation) × (numbered xs b ≡ Some x) × (x.parent ≡ it.parent) × (x.closed ≡ it.closed)
      kept_edited xs a f parents closings b it e =
          let came = numbered_edited xs a f it b e in
          elim came.2 [
            | inl same ↦ (came.0, came.1, ap (λ (k : Aggregation). k.parent) (sym same), ap (λ (k : Aggregation). k.closed) (sym same))
            | inr changed ↦ (
              came.0,
              came.1,
              sym (parents came.0) ∙ ap (λ (k : Aggregation). k.parent) (sym changed.1),
              sym (closings came.0) ∙ ap (λ (k : Aggregation). k.closed) (sym changed.1),
            )
          ]

root_needs : (parent : Option ℕ) (class : Option (List ℕ)) (root : Bool) → root ≡ is_none parent → (root && is_none class) ≡ false → parent ≡ None → IsSome class
root_needs None None root is some e = absurd cc
root_needs None (Some c) root is some e = refl
root_needs (Some p) class root is some e = absurd cc

roots_classed : (tree : TreeState) (a : ℕ) (class : Option (List ℕ)) → RootsHaveClasses tree.aggregations → (is_root tree (classified.Aggregation a) && is_none class) ≡ false → RootsHaveClasses (edited tree.aggregations a (as_classed class))
roots_classed tree a class roots some b it e root =
    let came = numbered_edited tree.aggregations a (as_classed class) it b e in
    elim came.2 [
      | inl same ↦ subst (λ (k : Aggregation). IsSome k.class) (sym same) (roots b came.0 came.1 (ap (λ (k : Aggregation). k.parent) (sym same) ∙ root))
      | inr changed ↦
          let here : numbered tree.aggregations a ≡ Some came.0 = ap (numbered tree.aggregations) (sym changed.0) ∙ came.1 in
          let parent : came.0.parent ≡ None = ap (λ (k : Aggregation). k.parent) (sym changed.1) ∙ root in
          let needs = root_needs came.0.parent class (is_root tree (classified.Aggregation a)) (ap (λ (o : Option Aggregation). is_some_and o (λ it. is_none it.parent)) here) some parent in
          subst (λ (k : Aggregation). IsSome k.class) (sym changed.1) needs
    ]

aggregation_reclassified : (tree : TreeState) (a : ℕ) (class : Option (List ℕ)) → IsSound tree → Names tree.classes class → (is_root tree (classified.Aggregation a) && is_none class) ≡ false → IsSound (reclassified tree (classified.Aggregation a) class)
aggregation_reclassified tree a class sound there some = record {
  limits = FitsLimits-edited tree a (as_classed class) sound;
  forest = IsForest-edited tree.aggregations a (as_classed class) (λ it. refl) sound.forest;
  names = NamesExist-edited tree a (as_classed class) sound (λ it named. there) (roots_classed tree a class sound.names.root_classes some);
  closed = closed_edited tree.aggregations a (as_classed class) (λ it. refl) (λ it. refl) sound.closed;
  statuses = sound.statuses;
}

pub IsSound-reclassify : (tree : TreeState) (what : Classified) (class : Option (List ℕ)) → IsSound tree → first_of (conditions_of_reclassify tree what class) ≡ None → IsSound (reclassified tree what class)
IsSound-reclassify tree (classified.Aggregation a) class sound accepted =
    let no = none_holds (conditions_of_reclassify tree (classified.Aggregation a) class) accepted in
    let lacks = neither (lacks_classified tree (classified.Aggregation a)) (lacks_class tree class) no.0 in
    aggregation_reclassified tree a class sound (names_of tree.classes class lacks.1) no.1.0
IsSound-reclassify tree (classified.Record r) class sound accepted =
    let no = none_holds (conditions_of_reclassify tree (classified.Record r) class) accepted in
    let lacks = neither (lacks_classified tree (classified.Record r)) (lacks_class tree class) no.0 in
    IsSound-with_head tree r (λ head. record head { class = class }) sound (record {
      aggregation = λ head. refl;
      class = λ head e. names_of tree.classes class lacks.1;
      schedule = λ head e. sound.names.record_schedules r head e;
    })
