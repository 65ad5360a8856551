-- Two holds of the worked office, and which records they cover.
use Rattle.std.proofs.Common.{◌≡◌, ◌&&◌, ◌||◌, not, ℕ, List, [], ◌∷◌, map, filter, slice_get, Bool, true, false, cond, Option, Some, refl, ap, ◌∙◌}
use Rattle.std.specs.Prelude.{codes}
use Rattle.std.specs.List.{list_any}
use Rattle.std.specs.Option.{is_some}
use Rattle.std.specs.Cmp.{nat_cmp_total}
use Rattle.std.specs.Cmp.Lexicographic.{nat_list_cmp_total}
use Rattle.std.specs.Ordering.{nat_cmp}
use Rattle.std.specs.FinMap.{empty, entries}
use Rattle.std.specs.FinSet.{contains, contains-empty, contains-insert, contains-remove}
use Rattle.std.specs.FinSet as set
use Rattle.office_base.specs.declared.refusal.Refusal.{Refusal}
use Rattle.office_base.specs.declared.refusal.Refusal.TheVariants.{DayBack, NoSuch, NeedsClass, HeldClass, Ended, InTransfer}
use Rattle.office_records.specs.Conditions.{first_of, lacks_class}
use Rattle.office_records.specs.Tree.{TreeState, code_cmp, above, above_in, chain, class_in, class_of, aggregation_class_in}
use Rattle.office_records.specs.declared.classified.Classified.TheVariants as classified
use Rattle.office_rules.specs.HoldConditions.{would_leave_held_class}
use Rattle.office_rules.specs.HoldEffects.{new_hold, with_target, without_target}
use Rattle.office_rules.specs.Holds.{HoldMap, HoldState, is_in_force, hold_covers, held_in, is_held, covers_in, least_covering, is_held_class}
use Rattle.office_records.specs.declared.target.Target.TheVariants as target
use Rattle.office_rules.specs.Conditions.{refusals_of_reclassify}
use Rattle.office_rules.specs.Meanings.{IsAccepted}
use Rattle.office_rules.specs.Worked.{filing_day, with_hold, base_office, class_held, twice_held, once_held, free_again, both_held, one_left, finance_held}
use Rattle.office_rules.proofs.WorkedBase.{finance_there, legal_there}
use Rattle.office_rules.proofs.WorkedMaps.{no_entries, entries_inserted, entries_amended}

-- ---- the holds one after another

abbrev just_placed : HoldState
just_placed = new_hold filing_day (codes "court") (codes "registrar")

abbrev on_class : List ℕ → HoldState
on_class code = with_target (target.Class code) just_placed

abbrev on_record : HoldState
on_record = with_target (target.Record 2) just_placed

abbrev lifted : HoldState
lifted = record on_record { lifted = Some filing_day }

abbrev emptied : HoldState
emptied = without_target (target.Class (codes "LEG")) (on_class (codes "LEG"))

one_placed : entries (with_hold base_office (codes "H-9")).holds ≡ (codes "H-9", just_placed) ∷ []
one_placed = entries_inserted empty (codes "H-9") [] (no_entries code_cmp) just_placed

on_legal : entries class_held.holds ≡ (codes "H-9", on_class (codes "LEG")) ∷ []
on_legal = entries_amended (with_hold base_office (codes "H-9")).holds (codes "H-9") _ one_placed (with_target (target.Class (codes "LEG"))) just_placed refl

on_finance : entries finance_held.holds ≡ (codes "H-9", on_class (codes "FIN")) ∷ []
on_finance = entries_amended (with_hold base_office (codes "H-9")).holds (codes "H-9") _ one_placed (with_target (target.Class (codes "FIN"))) just_placed refl

two_placed : entries (with_hold class_held (codes "H-2")).holds ≡ (codes "H-2", just_placed) ∷ (codes "H-9", on_class (codes "LEG")) ∷ []
two_placed = entries_inserted class_held.holds (codes "H-2") _ on_legal just_placed

on_both : entries twice_held.holds ≡ (codes "H-2", on_record) ∷ (codes "H-9", on_class (codes "LEG")) ∷ []
on_both = entries_amended (with_hold class_held (codes "H-2")).holds (codes "H-2") _ two_placed (with_target (target.Record 2)) just_placed refl

one_lifted : entries once_held.holds ≡ (codes "H-2", lifted) ∷ (codes "H-9", on_class (codes "LEG")) ∷ []
one_lifted = entries_amended twice_held.holds (codes "H-2") _ on_both (λ hold. record hold { lifted = Some filing_day }) on_record refl

one_emptied : entries free_again.holds ≡ (codes "H-2", lifted) ∷ (codes "H-9", emptied) ∷ []
one_emptied = entries_amended once_held.holds (codes "H-9") _ one_lifted (without_target (target.Class (codes "LEG"))) (on_class (codes "LEG")) refl

abbrev on_classes : HoldState
on_classes = with_target (target.Class (codes "FIN")) (on_class (codes "LEG"))

abbrev in_part : HoldState
in_part = without_target (target.Class (codes "LEG")) on_classes

on_two_classes : entries both_held.holds ≡ (codes "H-9", on_classes) ∷ []
on_two_classes = entries_amended class_held.holds (codes "H-9") _ on_legal (with_target (target.Class (codes "FIN"))) (on_class (codes "LEG")) refl

on_one_class : entries one_left.holds ≡ (codes "H-9", in_part) ∷ []
on_one_class = entries_amended both_held.holds (codes "H-9") _ on_two_classes (without_target (target.Class (codes "LEG"))) on_classes refl

-- ---- which records each of them covers

-- by its three kinds of targets
covering : (hold : HoldState) (r a : ℕ) (class : List ℕ) (x y z : Bool) → contains hold.records r ≡ x → contains hold.aggregations a ≡ y → contains hold.classes class ≡ z → hold_covers hold r (a ∷ []) (Some class) ≡ (is_in_force hold && (x || (y || false) || z))
covering hold r a class x y z e f g = λ i. is_in_force hold && (e i || (f i || false) || g i)

record_in : contains on_record.records 2 ≡ true
record_in = contains-insert nat_cmp_total set.empty 2 2

record_out : contains on_record.records 1 ≡ false
record_out = contains-insert nat_cmp_total set.empty 2 1 ∙ contains-empty nat_cmp 1

class_is_in : contains (set.insert (set.empty {R = code_cmp}) (codes "LEG")) (codes "LEG") ≡ true
class_is_in = contains-insert nat_list_cmp_total set.empty (codes "LEG") (codes "LEG")

class_out : contains (set.insert (set.empty {R = code_cmp}) (codes "LEG")) (codes "FIN") ≡ false
class_out = contains-insert nat_list_cmp_total set.empty (codes "LEG") (codes "FIN") ∙ contains-empty code_cmp (codes "FIN")

class_taken_off : contains emptied.classes (codes "LEG") ≡ false
class_taken_off = contains-remove nat_list_cmp_total (set.insert set.empty (codes "LEG")) (codes "LEG") (codes "LEG")

record_covers : hold_covers on_record 2 (2 ∷ []) (Some (codes "LEG")) ≡ true
record_covers = covering on_record 2 2 (codes "LEG") true false false record_in (contains-empty nat_cmp 2) (contains-empty code_cmp (codes "LEG"))

record_covers_no_other : hold_covers on_record 1 (1 ∷ []) (Some (codes "FIN")) ≡ false
record_covers_no_other = covering on_record 1 1 (codes "FIN") false false false record_out (contains-empty nat_cmp 1) (contains-empty code_cmp (codes "FIN"))

class_covers : hold_covers (on_class (codes "LEG")) 2 (2 ∷ []) (Some (codes "LEG")) ≡ true
class_covers = covering (on_class (codes "LEG")) 2 2 (codes "LEG") false false true (contains-empty nat_cmp 2) (contains-empty nat_cmp 2) class_is_in

class_covers_no_other : hold_covers (on_class (codes "LEG")) 1 (1 ∷ []) (Some (codes "FIN")) ≡ false
class_covers_no_other = covering (on_class (codes "LEG")) 1 1 (codes "FIN") false false false (contains-empty nat_cmp 1) (contains-empty nat_cmp 1) class_out

emptied_covers_none : hold_covers emptied 2 (2 ∷ []) (Some (codes "LEG")) ≡ false
emptied_covers_none = covering emptied 2 2 (codes "LEG") false false false (contains-empty nat_cmp 2) (contains-empty nat_cmp 2) class_taken_off

finance_in : contains on_classes.classes (codes "FIN") ≡ true
finance_in = contains-insert nat_list_cmp_total (set.insert set.empty (codes "LEG")) (codes "FIN") (codes "FIN")

legal_in : contains on_classes.classes (codes "LEG") ≡ true
legal_in = contains-insert nat_list_cmp_total (set.insert set.empty (codes "LEG")) (codes "FIN") (codes "LEG") ∙ class_is_in

finance_kept : contains in_part.classes (codes "FIN") ≡ true
finance_kept = contains-remove nat_list_cmp_total on_classes.classes (codes "LEG") (codes "FIN") ∙ finance_in

legal_taken_off : contains in_part.classes (codes "LEG") ≡ false
legal_taken_off = contains-remove nat_list_cmp_total on_classes.classes (codes "LEG") (codes "LEG")

-- what a hold on classes alone covers
by_class : (hold : HoldState) (r : ℕ) (class : List ℕ) (b : Bool) → contains hold.records r ≡ false → contains hold.aggregations r ≡ false → contains hold.classes class ≡ b → hold_covers hold r (r ∷ []) (Some class) ≡ (is_in_force hold && b)
by_class hold r class b e f g = covering hold r r class false false b e f g

-- ---- by the entries of the holds

held_where : (holds : HoldMap) (tree : TreeState) (r : ℕ) (es : List (List ℕ × HoldState)) → entries holds ≡ es → is_held holds tree r ≡ list_any (λ hold. hold_covers hold r (above tree r) (class_of tree r)) (map (λ e. e.1) es)
unfolding held_in
held_where holds tree r es is = ap (λ (xs : List (List ℕ × HoldState)). list_any (λ hold. hold_covers hold r (above tree r) (class_of tree r)) (map (λ e. e.1) xs)) is

least_where : (holds : HoldMap) (tree : TreeState) (r : ℕ) (es : List (List ℕ × HoldState)) → entries holds ≡ es → least_covering holds tree r ≡ slice_get (map (λ e. e.0) (filter (λ e. hold_covers e.1 r (above tree r) (class_of tree r)) es)) 0
unfolding covers_in
least_where holds tree r es is = ap (λ (xs : List (List ℕ × HoldState)). slice_get (map (λ e. e.0) (filter (λ e. hold_covers e.1 r (above tree r) (class_of tree r)) xs)) 0) is

held_class_where : (holds : HoldMap) (class : List ℕ) (es : List (List ℕ × HoldState)) → entries holds ≡ es → is_held_class holds class ≡ list_any (λ hold. is_in_force hold && contains hold.classes class) (map (λ e. e.1) es)
unfolding is_held_class
held_class_where holds class es is = ap (λ (xs : List (List ℕ × HoldState)). list_any (λ hold. is_in_force hold && contains hold.classes class) (map (λ e. e.1) xs)) is

-- the first code of two holds that cover a record or do not
abbrev first_covering : HoldState → HoldState → Bool → Bool → Option (List ℕ)
first_covering one other a b =
    let rest = cond b ((codes "H-9", other) ∷ []) [] in
    slice_get (map (λ (e : List ℕ × HoldState). e.0) (cond a ((codes "H-2", one) ∷ rest) rest)) 0

pub second_held : is_held twice_held.holds twice_held.tree 2 ≡ true
unfolding above_in chain class_in
second_held = held_where twice_held.holds twice_held.tree 2 _ on_both ∙ (λ i. record_covers i || (class_covers i || false))

pub first_free : is_held twice_held.holds twice_held.tree 1 ≡ false
unfolding above_in chain class_in
first_free = held_where twice_held.holds twice_held.tree 1 _ on_both ∙ (λ i. record_covers_no_other i || (class_covers_no_other i || false))

pub least_is : least_covering twice_held.holds twice_held.tree 2 ≡ Some (codes "H-2")
unfolding above_in chain class_in
least_is = least_where twice_held.holds twice_held.tree 2 _ on_both ∙ (λ i. first_covering on_record (on_class (codes "LEG")) (record_covers i) (class_covers i))

pub least_after_lifting : least_covering once_held.holds once_held.tree 2 ≡ Some (codes "H-9")
unfolding above_in chain class_in
least_after_lifting = least_where once_held.holds once_held.tree 2 _ one_lifted ∙ ap (first_covering lifted (on_class (codes "LEG")) false) class_covers

pub free_after_taking_off : is_held free_again.holds free_again.tree 2 ≡ false
unfolding above_in chain class_in
free_after_taking_off = held_where free_again.holds free_again.tree 2 _ one_emptied ∙ (λ i. emptied_covers_none i || false)

pub held_by_both : (is_held both_held.holds both_held.tree 1 ≡ true) × (is_held both_held.holds both_held.tree 2 ≡ true)
unfolding above_in chain class_in
held_by_both =
    let none : (r : ℕ) → contains (set.empty {R = nat_cmp}) r ≡ false = contains-empty nat_cmp in (
      held_where both_held.holds both_held.tree 1 _ on_two_classes ∙ ap (λ b. b || false) (by_class on_classes 1 (codes "FIN") true (none 1) (none 1) finance_in),
      held_where both_held.holds both_held.tree 2 _ on_two_classes ∙ ap (λ b. b || false) (by_class on_classes 2 (codes "LEG") true (none 2) (none 2) legal_in),
    )

pub held_by_one : (is_held one_left.holds one_left.tree 1 ≡ true) × (is_held one_left.holds one_left.tree 2 ≡ false)
unfolding above_in chain class_in
held_by_one =
    let none : (r : ℕ) → contains (set.empty {R = nat_cmp}) r ≡ false = contains-empty nat_cmp in (
      held_where one_left.holds one_left.tree 1 _ on_one_class ∙ ap (λ b. b || false) (by_class in_part 1 (codes "FIN") true (none 1) (none 1) finance_kept),
      held_where one_left.holds one_left.tree 2 _ on_one_class ∙ ap (λ b. b || false) (by_class in_part 2 (codes "LEG") false (none 2) (none 2) legal_taken_off),
    )

-- ---- leaving a held class

finance_is_held : is_held_class finance_held.holds (codes "FIN") ≡ true
finance_is_held =
    held_class_where finance_held.holds (codes "FIN") _ on_finance
    ∙ ap (λ b. b || false) (contains-insert nat_list_cmp_total (set.empty {R = code_cmp}) (codes "FIN") (codes "FIN"))

legal_is_there : lacks_class finance_held.tree (Some (codes "LEG")) ≡ false
legal_is_there = ap (λ o. not (is_some o)) legal_there

finance_is_there : lacks_class finance_held.tree (Some (codes "FIN")) ≡ false
finance_is_there = ap (λ o. not (is_some o)) finance_there

would_leave : would_leave_held_class finance_held.holds finance_held.tree (classified.Aggregation 1) (Some (codes "LEG")) ≡ true
unfolding aggregation_class_in chain
would_leave = finance_is_held

would_stay : would_leave_held_class finance_held.holds finance_held.tree (classified.Aggregation 1) (Some (codes "FIN")) ≡ false
unfolding aggregation_class_in chain
would_stay = refl

-- the table by the two conditions that maps and holds decide
abbrev table : Bool → Bool → List (Refusal × Bool)
table lacks leaves = (DayBack, false) ∷ (NoSuch, lacks) ∷ (NeedsClass, false) ∷ (HeldClass, leaves) ∷ (Ended, false) ∷ (InTransfer, false) ∷ []

pub leaving_is_refused : first_of (refusals_of_reclassify finance_held filing_day (classified.Aggregation 1) (Some (codes "LEG"))) ≡ Some HeldClass
leaving_is_refused = λ i. first_of (table (legal_is_there i) (would_leave i))

pub staying_is_accepted : IsAccepted (refusals_of_reclassify finance_held filing_day (classified.Aggregation 1) (Some (codes "FIN")))
staying_is_accepted = λ i. first_of (table (finance_is_there i) (would_stay i))
