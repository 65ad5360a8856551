-- Refs that differ still differ after every act.
use Rattle.std.proofs.Common.{◌≡◌, ℕ, zero, suc, List, [], ◌∷◌, ◌++◌, true, false, Option, Some, None, refl, sym, ap, subst, ◌∙◌, inl, inr, ℤ}
use Rattle.std.specs.List.{list_any}
use Rattle.std.specs.Str.{bytes_eq}
use Rattle.std.specs.Cmp.Lexicographic.{nat_list_eq_equiv}
use Rattle.office_records.specs.Conditions.{first_of, conditions_of_add_aggregation, conditions_of_add_record}
use Rattle.office_records.specs.Effects.{added_aggregation, closed_aggregation, added_record, with_head, reclassified}
use Rattle.office_records.specs.Lists.{numbered, edited, Differ}
use Rattle.office_records.specs.Sound.{RefsDiffer}
use Rattle.office_records.specs.Tree.{TreeState}
use Rattle.office_records.specs.declared.aggregation.Aggregation.{Aggregation}
use Rattle.office_records.specs.declared.classified.Classified.{Classified}
use Rattle.office_records.specs.declared.classified.Classified.TheVariants as classified
use Rattle.office_records.specs.declared.head.Record.{Record}
use Rattle.office_records.proofs.Accepting.{none_holds, none_at}
use Rattle.office_records.proofs.Places.{Came, numbered_push, numbered_edited}

-- a name that no one of the list has
new_name : {A : Type 0} (name : A → List ℕ) (xs : List A) (x y : A) (n : ℕ) → list_any (λ z. bytes_eq (name z) (name x)) xs ≡ false → numbered xs n ≡ Some y → name y ≡ name x → ⊥
new_name name xs x y n free there same =
    let other : bytes_eq (name y) (name x) ≡ false = none_at (λ z. bytes_eq (name z) (name x)) xs n y free there in
    let alike : bytes_eq (name y) (name x) ≡ true = subst (λ (text : List ℕ). bytes_eq (name y) text ≡ true) same (nat_list_eq_equiv.refl (name y)) in
    absurd cc

pub Differ-push : {A : Type 0} (name : A → List ℕ) (xs : List A) (x : A) → Differ name xs → list_any (λ z. bytes_eq (name z) (name x)) xs ≡ false → Differ name (xs ++ x ∷ [])
Differ-push name xs x differ free m n a b e f same = elim (numbered_push xs x a m e) [
  | inl old_a ↦ elim (numbered_push xs x b n f) [
    | inl old_b ↦ differ m n a b old_a old_b same
    | inr new_b ↦ absurd (new_name name xs x a m free old_a (same ∙ ap name (sym new_b.1)))
  ]
  | inr new_a ↦ elim (numbered_push xs x b n f) [
    | inl old_b ↦ absurd (new_name name xs x b n free old_b (sym same ∙ ap name (sym new_a.1)))
    | inr new_b ↦ new_a.0 ∙ sym new_b.0
  ]
]

-- a thing that came from one of the same name
same_name : {A : Type 0} (name : A → List ℕ) (old : Option A) (here : Type 0) (f : A → A) (y : A) → ((x : A) → name (f x) ≡ name x) → (came : Came old here f y) → name y ≡ name came.0
same_name name old here f y keeps came = elim came.2 [ inl same ↦ ap name same | inr changed ↦ ap name changed.1 ∙ keeps came.0 ]

pub Differ-edited : {A : Type 0} (name : A → List ℕ) (xs : List A) (k : ℕ) (f : A → A) → ((x : A) → name (f x) ≡ name x) → Differ name xs → Differ name (edited xs k f)
Differ-edited name xs k f keeps differ m n a b e g same =
    let from_a = numbered_edited xs k f a m e in
    let from_b = numbered_edited xs k f b n g in
    differ m n from_a.0 from_b.0 from_a.1 from_b.1 (sym (same_name name (numbered xs m) (m ≡ k) f a keeps from_a) ∙ same ∙ same_name name (numbered xs n) (n ≡ k) f b keeps from_b)

-- ---- each act

pub RefsDiffer-add_aggregation : (tree : TreeState) (ref_text title : List ℕ) (parent : Option ℕ) (class : Option (List ℕ)) → RefsDiffer tree.aggregations tree.records → first_of (conditions_of_add_aggregation tree ref_text parent class) ≡ None
    → RefsDiffer (added_aggregation tree ref_text title parent class).aggregations tree.records
RefsDiffer-add_aggregation tree ref_text title parent class refs accepted = record {
  of_aggregations = Differ-push (λ (it : Aggregation). it.ref_text) tree.aggregations _ refs.of_aggregations (none_holds (conditions_of_add_aggregation tree ref_text parent class) accepted).0;
  of_records = refs.of_records;
}

pub RefsDiffer-close_aggregation : (tree : TreeState) (a : ℕ) (day : ℤ) → RefsDiffer tree.aggregations tree.records → RefsDiffer (closed_aggregation tree a day).aggregations tree.records
RefsDiffer-close_aggregation tree a day refs = record {
  of_aggregations = Differ-edited (λ (it : Aggregation). it.ref_text) tree.aggregations a _ (λ it. refl) refs.of_aggregations;
  of_records = refs.of_records;
}

pub RefsDiffer-add_record : (tree : TreeState) (head : Record) → RefsDiffer tree.aggregations tree.records → first_of (conditions_of_add_record tree head.ref_text head.aggregation head.class head.schedule) ≡ None
    → RefsDiffer tree.aggregations (added_record tree head).records
RefsDiffer-add_record tree head refs accepted = record {
  of_aggregations = refs.of_aggregations;
  of_records = Differ-push (λ (it : Record). it.ref_text) tree.records head refs.of_records (none_holds (conditions_of_add_record tree head.ref_text head.aggregation head.class head.schedule) accepted).0;
}

-- a change of a head that leaves its ref
pub RefsDiffer-with_head : (tree : TreeState) (r : ℕ) (change : Record → Record) → ((head : Record) → (change head).ref_text ≡ head.ref_text) → RefsDiffer tree.aggregations tree.records
    → RefsDiffer tree.aggregations (with_head tree r change).records
RefsDiffer-with_head tree r change keeps refs = record {
  of_aggregations = refs.of_aggregations;
  of_records = Differ-edited (λ (it : Record). it.ref_text) tree.records r change keeps refs.of_records;
}

pub RefsDiffer-reclassify : (tree : TreeState) (what : Classified) (class : Option (List ℕ)) → RefsDiffer tree.aggregations tree.records
    → RefsDiffer (reclassified tree what class).aggregations (reclassified tree what class).records
RefsDiffer-reclassify tree (classified.Aggregation a) class refs = record {
  of_aggregations = Differ-edited (λ (it : Aggregation). it.ref_text) tree.aggregations a _ (λ it. refl) refs.of_aggregations;
  of_records = refs.of_records;
}
RefsDiffer-reclassify tree (classified.Record r) class refs = RefsDiffer-with_head tree r _ (λ head. refl) refs

nothing : {A : Type 0} (n : ℕ) (x : A) → numbered [] n ≡ Some x → ⊥
nothing zero x e = absurd cc
nothing (suc n) x e = absurd cc

pub RefsDiffer-empty : RefsDiffer [] []
RefsDiffer-empty = record {
  of_aggregations = λ m n x y e f same. absurd (nothing m x e);
  of_records = λ m n x y e f same. absurd (nothing m x e);
}
