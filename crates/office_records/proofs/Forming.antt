-- What an act makes of a tree whose texts, codes, days and numbers are of their forms is such a tree.
use Rattle.std.proofs.Common.{◌≡◌, ℕ, zero, suc, List, [], ◌∷◌, ◌++◌, Option, Some, None, sym, subst, inl, inr, ℤ}
use Rattle.std.specs.Prelude.{IfSome}
use Rattle.std.specs.Option.{option_map}
use Rattle.std.specs.FinMap.{FinMap, get, insert, empty, get-empty}
use Rattle.office_days.specs.Limits.{IsDayNumber, IsDueNumber}
use Rattle.office_records.specs.Effects.{added_schedule, added_class, added_aggregation, closed_aggregation, added_record, with_class_schedule, with_head, with_record_schedule, reclassified, confirmed, reviewed, receipted}
use Rattle.office_records.specs.Forms.{IsCode, IsText, IsWellFormedSchedule, IsWellFormedClass, IsWellFormedAggregation, IsWellFormedRecord, IsWellFormedReview, IsWellFormedConfirmation, IsWellFormedReceipt, IsWellFormedTree}
use Rattle.office_records.specs.Lists.{numbered, edited, amended, or_else}
use Rattle.office_records.specs.Tree.{TreeState, code_cmp, due_of, empty_tree}
use Rattle.std.specs.Ordering.{nat_cmp}
use Rattle.office_records.specs.declared.action.Action.{Action}
use Rattle.office_records.specs.declared.class.Class.{Class}
use Rattle.office_records.specs.declared.classified.Classified.{Classified}
use Rattle.office_records.specs.declared.classified.Classified.TheVariants as classified
use Rattle.office_records.specs.declared.head.Confirmation.{Confirmation}
use Rattle.office_records.specs.declared.head.Receipt.{Receipt}
use Rattle.office_records.specs.declared.head.Record.{Record}
use Rattle.office_records.specs.declared.head.Review.{Review}
use Rattle.office_records.specs.declared.schedule.Schedule.{Schedule}
use Rattle.office_records.proofs.Inserting.{insert_cases, amended_cases}
use Rattle.office_records.proofs.Places.{numbered_push, numbered_edited}

-- ---- what holds of each thing holds after a change

abbrev pub EachNumbered : {A : Type 0} → (A → Type 0) → List A → Type 0
EachNumbered {A} P xs = (n : ℕ) (x : A) → numbered xs n ≡ Some x → P x

abbrev pub EachAt : {V : Type 0} → (List ℕ → V → Type 0) → FinMap code_cmp V → Type 0
EachAt {V} P m = (code : List ℕ) (it : V) → get m code ≡ Some it → P code it

each_push : {A : Type 0} (P : A → Type 0) (xs : List A) (x : A) → EachNumbered P xs → P x → EachNumbered P (xs ++ x ∷ [])
each_push P xs x each new n y e = elim (numbered_push xs x y n e) [ inl old ↦ each n y old | inr last ↦ subst P last.1 new ]

each_edited : {A : Type 0} (P : A → Type 0) (xs : List A) (a : ℕ) (f : A → A) → EachNumbered P xs → ((x : A) → P x → P (f x)) → EachNumbered P (edited xs a f)
each_edited P xs a f each keeps n y e =
    let came = numbered_edited xs a f y n e in
    elim came.2 [ inl same ↦ subst P (sym same) (each n came.0 came.1) | inr changed ↦ subst P (sym changed.1) (keeps came.0 (each n came.0 came.1)) ]

each_insert : {V : Type 0} (P : List ℕ → V → Type 0) (m : FinMap code_cmp V) (k : List ℕ) (v : V) → EachAt P m → P k v → EachAt P (insert m k v)
each_insert {V} P m k v each new q x e = elim (insert_cases m k v q x e) [
  | inl is ↦ subst (λ (it : V). P q it) is.1 (subst (λ (code : List ℕ). P code v) (sym is.0) new)
  | inr old ↦ each q x old
]

each_amended : {V : Type 0} (P : List ℕ → V → Type 0) (m : FinMap code_cmp V) (k : List ℕ) (f : V → V) → EachAt P m → ((q : List ℕ) (x : V) → P q x → P q (f x)) → EachAt P (amended m k f)
each_amended P m k f each keeps q y e =
    let came = amended_cases m k f q y e in
    elim came.2 [ inl same ↦ subst (P q) (sym same) (each q came.0 came.1) | inr changed ↦ subst (P q) (sym changed.1) (keeps q came.0 (each q came.0 came.1)) ]

-- ---- schedules and classes

pub IsWellFormed-add_schedule : (tree : TreeState) (code : List ℕ) (schedule : Schedule) → IsWellFormedTree tree → IsCode code → IsWellFormedSchedule schedule → IsWellFormedTree (added_schedule tree code schedule)
IsWellFormed-add_schedule tree code schedule formed code_well_formed schedule_well_formed = record {
  schedules = each_insert (λ c it. IsCode c × IsWellFormedSchedule it) tree.schedules code schedule formed.schedules (code_well_formed, schedule_well_formed);
  classes = formed.classes;
  aggregations = formed.aggregations;
  records = formed.records;
  events = formed.events;
}

pub IsWellFormed-add_class : (tree : TreeState) (code : List ℕ) (class : Class) → IsWellFormedTree tree → IsCode code → IsWellFormedClass class → IsWellFormedTree (added_class tree code class)
IsWellFormed-add_class tree code class formed code_well_formed class_well_formed = record {
  schedules = formed.schedules;
  classes = each_insert (λ c it. IsCode c × IsWellFormedClass it) tree.classes code class formed.classes (code_well_formed, class_well_formed);
  aggregations = formed.aggregations;
  records = formed.records;
  events = formed.events;
}

pub IsWellFormed-set_class_schedule : (tree : TreeState) (class schedule : List ℕ) → IsWellFormedTree tree → IsCode schedule → IsWellFormedTree (with_class_schedule tree class schedule)
IsWellFormed-set_class_schedule tree class schedule formed schedule_well_formed = record {
  schedules = formed.schedules;
  classes = each_amended (λ c it. IsCode c × IsWellFormedClass it) tree.classes class (λ it. record it { schedule = schedule }) formed.classes
      (λ c it old. (old.0, record { title = old.1.title; schedule = schedule_well_formed }));
  aggregations = formed.aggregations;
  records = formed.records;
  events = formed.events;
}

-- ---- aggregations

pub IsWellFormed-add_aggregation : (tree : TreeState) (ref_text title : List ℕ) (parent : Option ℕ) (class : Option (List ℕ)) → IsWellFormedTree tree → IsText ref_text → IsText title → IfSome class IsCode → IsWellFormedTree (added_aggregation tree ref_text title parent class)
IsWellFormed-add_aggregation tree ref_text title parent class formed ref_well_formed title_well_formed class_well_formed = record {
  schedules = formed.schedules;
  classes = formed.classes;
  aggregations = each_push IsWellFormedAggregation tree.aggregations (record { ref_text = ref_text; title = title; parent = parent; class = class; closed = None }) formed.aggregations
      (record { ref_text = ref_well_formed; title = title_well_formed; class = class_well_formed; closed = tt });
  records = formed.records;
  events = formed.events;
}

pub IsWellFormed-close_aggregation : (tree : TreeState) (a : ℕ) (day : ℤ) → IsWellFormedTree tree → IsDayNumber day → IsWellFormedTree (closed_aggregation tree a day)
IsWellFormed-close_aggregation tree a day formed day_well_formed = record {
  schedules = formed.schedules;
  classes = formed.classes;
  aggregations = each_edited IsWellFormedAggregation tree.aggregations a (λ it. record it { closed = Some day }) formed.aggregations
      (λ it old. record { ref_text = old.ref_text; title = old.title; class = old.class; closed = day_well_formed });
  records = formed.records;
  events = formed.events;
}

-- ---- record heads

pub IsWellFormed-add_record : (tree : TreeState) (head : Record) → IsWellFormedTree tree → IsWellFormedRecord head → IsWellFormedTree (added_record tree head)
IsWellFormed-add_record tree head formed new = record {
  schedules = formed.schedules;
  classes = formed.classes;
  aggregations = formed.aggregations;
  records = each_push IsWellFormedRecord tree.records head formed.records new;
  events = formed.events;
}

pub IsWellFormed-with_head : (tree : TreeState) (r : ℕ) (change : Record → Record) → IsWellFormedTree tree → ((head : Record) → IsWellFormedRecord head → IsWellFormedRecord (change head)) → IsWellFormedTree (with_head tree r change)
IsWellFormed-with_head tree r change formed keeps = record {
  schedules = formed.schedules;
  classes = formed.classes;
  aggregations = formed.aggregations;
  records = each_edited IsWellFormedRecord tree.records r change formed.records keeps;
  events = formed.events;
}

-- the parts of a head that acts change
head_well_formed : (head : Record) (class schedule : Option (List ℕ)) (review : Option Review) (confirmation : Option Confirmation) (receipt : Option Receipt) → IsWellFormedRecord head
    → IfSome class IsCode → IfSome schedule IsCode → IfSome review IsWellFormedReview → IfSome confirmation IsWellFormedConfirmation → IfSome receipt IsWellFormedReceipt
    → IsWellFormedRecord (record head { class = class; schedule = schedule; review = review; confirmation = confirmation; receipt = receipt })
head_well_formed head class schedule review confirmation receipt old class_well_formed schedule_well_formed review_well_formed confirmation_well_formed receipt_well_formed = record {
  ref_text = old.ref_text;
  title = old.title;
  originated = old.originated;
  added = old.added;
  class = class_well_formed;
  schedule = schedule_well_formed;
  length_few = old.length_few;
  digest = old.digest;
  review = review_well_formed;
  confirmation = confirmation_well_formed;
  receipt = receipt_well_formed;
}

pub IsWellFormed-set_record_schedule : (tree : TreeState) (r : ℕ) (schedule : Option (List ℕ)) → IsWellFormedTree tree → IfSome schedule IsCode → IsWellFormedTree (with_record_schedule tree r schedule)
IsWellFormed-set_record_schedule tree r schedule formed schedule_well_formed =
    IsWellFormed-with_head tree r (λ head. record head { schedule = schedule }) formed (λ head old. head_well_formed head head.class schedule head.review head.confirmation head.receipt old old.class schedule_well_formed old.review old.confirmation old.receipt)

confirmation_well_formed : (day : ℤ) (named : Action) (by : List ℕ) (due : Option ℤ) → IsDayNumber day → IsText by → IfSome due IsDueNumber → IfSome (option_map (λ due. record { action = named; due = due; day = day; by = by }) due) IsWellFormedConfirmation
confirmation_well_formed day named by None day_well_formed by_well_formed due_well_formed = tt
confirmation_well_formed day named by (Some due) day_well_formed by_well_formed due_well_formed = record { due = due_well_formed; day = day_well_formed; by = by_well_formed }

pub IsWellFormed-confirm : (tree : TreeState) (day : ℤ) (r : ℕ) (named : Action) (by : List ℕ) → IsWellFormedTree tree → IsDayNumber day → IsText by → IfSome (due_of tree r) IsDueNumber → IsWellFormedTree (confirmed tree day r named by)
IsWellFormed-confirm tree day r named by formed day_well_formed by_well_formed due_well_formed =
    let confirmation : Option Confirmation = option_map (λ due. record { action = named; due = due; day = day; by = by }) (due_of tree r) in
    let confirms = confirmation_well_formed day named by (due_of tree r) day_well_formed by_well_formed due_well_formed in
    IsWellFormed-with_head tree r (λ head. record head { confirmation = confirmation }) formed
    (λ head old. head_well_formed head head.class head.schedule head.review confirmation head.receipt old old.class old.schedule old.review confirms old.receipt)

else_well_formed : (given own : Option (List ℕ)) → IfSome given IsCode → IfSome own IsCode → IfSome (or_else given own) IsCode
else_well_formed None own given_well_formed own_well_formed = own_well_formed
else_well_formed (Some code) own given_well_formed own_well_formed = given_well_formed

pub IsWellFormed-review : (tree : TreeState) (day : ℤ) (r : ℕ) (schedule : Option (List ℕ)) (by : List ℕ) → IsWellFormedTree tree → IsDayNumber day → IfSome schedule IsCode → IsText by → IsWellFormedTree (reviewed tree day r schedule by)
IsWellFormed-review tree day r schedule by formed day_well_formed schedule_well_formed by_well_formed =
    let review : Option Review = Some (record { day = day; by = by }) in
    IsWellFormed-with_head tree r (λ head. record head { review = review; schedule = or_else schedule head.schedule }) formed
    (λ head old. head_well_formed head head.class (or_else schedule head.schedule) review head.confirmation head.receipt old old.class (else_well_formed schedule head.schedule schedule_well_formed old.schedule)
    (record { day = day_well_formed; by = by_well_formed }) old.confirmation old.receipt)

pub IsWellFormed-receipt : (tree : TreeState) (day : ℤ) (r : ℕ) (by : List ℕ) → IsWellFormedTree tree → IsDayNumber day → IsText by → IsWellFormedTree (receipted tree day r by)
IsWellFormed-receipt tree day r by formed day_well_formed by_well_formed =
    let receipt : Option Receipt = Some (record { day = day; by = by }) in
    let kept = IsWellFormed-with_head tree r (λ head. record head { receipt = receipt }) formed
    (λ head old. head_well_formed head head.class head.schedule head.review head.confirmation receipt old old.class old.schedule old.review old.confirmation (record { day = day_well_formed; by = by_well_formed })) in
    record { schedules = kept.schedules; classes = kept.classes; aggregations = kept.aggregations; records = kept.records; events = kept.events }

-- ---- an own class

pub IsWellFormed-reclassify : (tree : TreeState) (what : Classified) (class : Option (List ℕ)) → IsWellFormedTree tree → IfSome class IsCode → IsWellFormedTree (reclassified tree what class)
IsWellFormed-reclassify tree (classified.Aggregation a) class formed class_well_formed = record {
  schedules = formed.schedules;
  classes = formed.classes;
  aggregations = each_edited IsWellFormedAggregation tree.aggregations a (λ it. record it { class = class }) formed.aggregations
      (λ it old. record { ref_text = old.ref_text; title = old.title; class = class_well_formed; closed = old.closed });
  records = formed.records;
  events = formed.events;
}
IsWellFormed-reclassify tree (classified.Record r) class formed class_well_formed =
    IsWellFormed-with_head tree r (λ head. record head { class = class }) formed
    (λ head old. head_well_formed head class head.schedule head.review head.confirmation head.receipt old class_well_formed old.schedule old.review old.confirmation old.receipt)

-- ---- the empty tree

nothing_numbered : {A : Type 0} (n : ℕ) (x : A) → numbered [] n ≡ Some x → ⊥
nothing_numbered zero x e = absurd cc
nothing_numbered (suc n) x e = absurd cc

nothing_at : {V : Type 0} (code : List ℕ) (x : V) → get (empty {X = V} {R = code_cmp}) code ≡ Some x → ⊥
nothing_at {V} code x e = let none = get-empty {X = V} code_cmp code in absurd cc

no_event : {V : Type 0} (r : ℕ) (x : V) → get (empty {X = V} {R = nat_cmp}) r ≡ Some x → ⊥
no_event {V} r x e = let none = get-empty {X = V} nat_cmp r in absurd cc

pub IsWellFormed-empty : IsWellFormedTree empty_tree
IsWellFormed-empty = record {
  schedules = λ code it e. absurd (nothing_at code it e);
  classes = λ code it e. absurd (nothing_at code it e);
  aggregations = λ a it e. absurd (nothing_numbered a it e);
  records = λ r head e. absurd (nothing_numbered r head e);
  events = λ r it e. absurd (no_event r it e);
}
