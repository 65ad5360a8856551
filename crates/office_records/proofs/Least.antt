-- In a table in the order of the numbers the first condition that holds has the least.
use Rattle.std.proofs.Common.{◌≡◌, ℕ, ℤ, suc, ◌<◌, ◌≤◌, List, [], ◌∷◌, Bool, true, false, Option, Some, None, refl, sym, subst, arith, rules}
use Rattle.std.specs.Prelude.{IsTrue, if◌then◌else◌}
use Rattle.std.specs.List.{All, AllByRecursion}
use Rattle.std.proofs.lemmas.List.Elements.{All-nil, All-cons}
use Rattle.office_base.specs.declared.refusal.Refusal.{Refusal}
use Rattle.office_base.specs.Refusals.{refusal_number}
use Rattle.office_records.specs.Conditions.{first_of, IsLeastOf, IsRising, conditions_of_add_aggregation, conditions_of_add_class, conditions_of_add_record, conditions_of_add_schedule, conditions_of_close_aggregation, conditions_of_confirm, conditions_of_event, conditions_of_receipt, conditions_of_reclassify, conditions_of_review, conditions_of_set_class_schedule, conditions_of_set_record_schedule}
use Rattle.office_records.specs.Tree.{TreeState}
use Rattle.office_records.specs.declared.action.Action.{Action}
use Rattle.office_records.specs.declared.classified.Classified.{Classified}

abbrev IsNotBelow : Refusal → Refusal × Bool → Type 0
IsNotBelow r c = IsTrue c.1 → refusal_number r ≤ refusal_number c.0

at_least : (k : Refusal) (cs : List (Refusal × Bool)) → AllByRecursion (λ d. refusal_number k < refusal_number d.0) cs → All (IsNotBelow k) cs
at_least k [] a = All-nil (IsNotBelow k)
at_least k (d ∷ ds) a = let below : refusal_number k < refusal_number d.0 = a.0 in All-cons (IsNotBelow k) d ds (λ _. omega arith) (at_least k ds a.1)

after_false : (k : Refusal) (cs : List (Refusal × Bool)) (answer : Option Refusal) → IsLeastOf cs answer → IsLeastOf ((k, false) ∷ cs) answer
after_false k cs None rest = record { holds = tt; least = tt; none = All-cons (λ c. c.1 ≡ false) (k, false) cs refl rest.none }
after_false k cs (Some r) rest = record {
  holds = (suc rest.holds.0, omega (arith, rest.holds.1), rest.holds.2);
  least = All-cons (IsNotBelow r) (k, false) cs (λ t. absurd cc) rest.least;
  none = tt;
}

by_test : (k : Refusal) (b : Bool) (cs : List (Refusal × Bool)) → AllByRecursion (λ d. refusal_number k < refusal_number d.0) cs → IsLeastOf cs (first_of cs) → IsLeastOf ((k, b) ∷ cs) (if b then Some k else first_of cs)
by_test k true cs low rest = record {
  holds = (0, omega arith, refl);
  least = All-cons (IsNotBelow k) (k, true) cs (λ _. omega arith) (at_least k cs low);
  none = tt;
}
by_test k false cs low rest = after_false k cs (first_of cs) rest

pub first_is_least : (cs : List (Refusal × Bool)) → IsRising cs → IsLeastOf cs (first_of cs)
first_is_least [] rises = record { holds = tt; least = tt; none = All-nil (λ (c : Refusal × Bool). c.1 ≡ false) }
first_is_least (c ∷ cs) rises = by_test c.0 c.1 cs rises.0 (first_is_least cs rises.1)

-- what answers with the first of a table in order answers with the least
pub least_of_first : (cs : List (Refusal × Bool)) (answer : Option Refusal) → IsRising cs → answer ≡ first_of cs → IsLeastOf cs answer
least_of_first cs answer rises e = subst (λ (o : Option Refusal). IsLeastOf cs o) (sym e) (first_is_least cs rises)

-- ---- at each table, which is dearer to search whole

pub least_add_aggregation : (tree : TreeState) (ref_text : List ℕ) (parent : Option ℕ) (class : Option (List ℕ)) (answer : Option Refusal) → answer ≡ first_of (conditions_of_add_aggregation tree ref_text parent class)
    → IsLeastOf (conditions_of_add_aggregation tree ref_text parent class) answer
least_add_aggregation tree ref_text parent class answer e = least_of_first (conditions_of_add_aggregation tree ref_text parent class) answer (search rules) e

pub least_add_record : (tree : TreeState) (ref_text : List ℕ) (aggregation : ℕ) (class schedule : Option (List ℕ)) (answer : Option Refusal) → answer ≡ first_of (conditions_of_add_record tree ref_text aggregation class schedule)
    → IsLeastOf (conditions_of_add_record tree ref_text aggregation class schedule) answer
least_add_record tree ref_text aggregation class schedule answer e = least_of_first (conditions_of_add_record tree ref_text aggregation class schedule) answer (search rules) e

pub least_reclassify : (tree : TreeState) (what : Classified) (class : Option (List ℕ)) (answer : Option Refusal) → answer ≡ first_of (conditions_of_reclassify tree what class) → IsLeastOf (conditions_of_reclassify tree what class) answer
least_reclassify tree what class answer e = least_of_first (conditions_of_reclassify tree what class) answer (search rules) e

pub least_confirm : (tree : TreeState) (day : ℤ) (r : ℕ) (named : Action) (answer : Option Refusal) → answer ≡ first_of (conditions_of_confirm tree day r named) → IsLeastOf (conditions_of_confirm tree day r named) answer
least_confirm tree day r named answer e = least_of_first (conditions_of_confirm tree day r named) answer (search rules) e

pub least_review : (tree : TreeState) (day : ℤ) (r : ℕ) (schedule : Option (List ℕ)) (answer : Option Refusal) → answer ≡ first_of (conditions_of_review tree day r schedule) → IsLeastOf (conditions_of_review tree day r schedule) answer
least_review tree day r schedule answer e = least_of_first (conditions_of_review tree day r schedule) answer (search rules) e

pub least_event : (tree : TreeState) (day : ℤ) (r : ℕ) (occurred : ℤ) (answer : Option Refusal) → answer ≡ first_of (conditions_of_event tree day r occurred) → IsLeastOf (conditions_of_event tree day r occurred) answer
least_event tree day r occurred answer e = least_of_first (conditions_of_event tree day r occurred) answer (search rules) e

pub least_receipt : (tree : TreeState) (r : ℕ) (digest : List ℕ) (answer : Option Refusal) → answer ≡ first_of (conditions_of_receipt tree r digest) → IsLeastOf (conditions_of_receipt tree r digest) answer
least_receipt tree r digest answer e = least_of_first (conditions_of_receipt tree r digest) answer (search rules) e

pub least_add_schedule : (tree : TreeState) (code : List ℕ) (answer : Option Refusal) → answer ≡ first_of (conditions_of_add_schedule tree code) → IsLeastOf (conditions_of_add_schedule tree code) answer
least_add_schedule tree code answer e = least_of_first (conditions_of_add_schedule tree code) answer (search rules) e

pub least_add_class : (tree : TreeState) (code schedule : List ℕ) (answer : Option Refusal) → answer ≡ first_of (conditions_of_add_class tree code schedule) → IsLeastOf (conditions_of_add_class tree code schedule) answer
least_add_class tree code schedule answer e = least_of_first (conditions_of_add_class tree code schedule) answer (search rules) e

pub least_close_aggregation : (tree : TreeState) (a : ℕ) (answer : Option Refusal) → answer ≡ first_of (conditions_of_close_aggregation tree a) → IsLeastOf (conditions_of_close_aggregation tree a) answer
least_close_aggregation tree a answer e = least_of_first (conditions_of_close_aggregation tree a) answer (search rules) e

pub least_set_class_schedule : (tree : TreeState) (class schedule : List ℕ) (answer : Option Refusal) → answer ≡ first_of (conditions_of_set_class_schedule tree class schedule) → IsLeastOf (conditions_of_set_class_schedule tree class schedule) answer
least_set_class_schedule tree class schedule answer e = least_of_first (conditions_of_set_class_schedule tree class schedule) answer (search rules) e

pub least_set_record_schedule : (tree : TreeState) (r : ℕ) (schedule : Option (List ℕ)) (answer : Option Refusal) → answer ≡ first_of (conditions_of_set_record_schedule tree r schedule) → IsLeastOf (conditions_of_set_record_schedule tree r schedule) answer
least_set_record_schedule tree r schedule answer e = least_of_first (conditions_of_set_record_schedule tree r schedule) answer (search rules) e
