-- A tree of things that are each of their forms.
use Rattle.std.proofs.Common.{◌≡◌, ℕ, suc, true, List, Some, sym, subst, ◌∙◌, arith}
use Rattle.std.proofs.lemmas.Bool.Decides.{nat_tests}
use Rattle.std.specs.BTreeMap.{is_at}
use Rattle.std.specs.FinMap.{get, from_entries}
use Rattle.std.specs.List.{All}
use Rattle.std.specs.Ordering.{nat_cmp}
use Rattle.std.proofs.lemmas.Map.Entries.{place_from_lookup}
use Rattle.office_records.specs.Forms.{IsCode, IsWellFormedEvent, IsWellFormedAggregation, IsWellFormedClass, IsWellFormedRecord, IsWellFormedSchedule, IsWellFormedTree}
use Rattle.office_records.specs.Loading.{tree_of}
use Rattle.office_records.specs.Tree.{code_cmp}
use Rattle.office_records.specs.declared.aggregation.Aggregation.{Aggregation}
use Rattle.office_records.specs.declared.class.Class.{Class}
use Rattle.office_records.specs.declared.event.Event.{Event}
use Rattle.office_records.specs.declared.head.Record.{Record}
use Rattle.office_records.specs.declared.schedule.Schedule.{Schedule}
use Rattle.office_records.specs.declared.status.Status.{Status}
use Rattle.office_records.proofs.Bridge.{at_numbers}
use Rattle.office_tree.proofs.EventPlaces.{event_is}
use Rattle.office_records.proofs.Inserting.{same_code}
use Rattle.office_records.proofs.Plan.{get_is}

-- what holds of each entry holds of what is found under a code
each_found : {V : Type 0} (P : List ℕ → V → Type 0) (es : List (List ℕ × V)) → All (λ e. P e.0 e.1) es → (code : List ℕ) (it : V) → get (from_entries {R = code_cmp} es) code ≡ Some it → P code it
each_found {V} P es all code it found =
    let place = place_from_lookup (is_at (code_cmp code)) es it (sym (get_is es code) ∙ found) in
    let same : code ≡ place.1 = same_code code place.1 place.3 in
    subst (λ (k : List ℕ). P k it) (sym same) (at_numbers (λ (e : List ℕ × V). P e.0 e.1) es all (suc place.0) (place.1, it) place.2)

same_number : (m n : ℕ) → is_at (nat_cmp m) n ≡ true → m ≡ n
same_number m n h = grind (arith, nat_tests)

-- what holds of each event holds of what is found under a number
pub each_event : {V : Type 0} (P : ℕ → V → Type 0) (es : List (ℕ × V)) → All (λ e. P e.0 e.1) es → (r : ℕ) (it : V) → get (from_entries {R = nat_cmp} es) r ≡ Some it → P r it
each_event {V} P es all r it found =
    let place = place_from_lookup (is_at (nat_cmp r)) es it (sym (event_is es r) ∙ found) in
    let same : r ≡ place.1 = same_number r place.1 place.3 in
    subst (λ (k : ℕ). P k it) (sym same) (at_numbers (λ (e : ℕ × V). P e.0 e.1) es all (suc place.0) (place.1, it) place.2)

pub tree_well_formed : (schedules : List (List ℕ × Schedule)) (classes : List (List ℕ × Class)) (aggregations : List Aggregation) (records : List Record) (statuses : List Status) (events : List (ℕ × Event))
    → All (λ e. IsCode e.0 × IsWellFormedSchedule e.1) schedules → All (λ e. IsCode e.0 × IsWellFormedClass e.1) classes → All IsWellFormedAggregation aggregations → All IsWellFormedRecord records → All (λ e. IsWellFormedEvent e.1) events
    → IsWellFormedTree (tree_of schedules classes aggregations records statuses events)
tree_well_formed schedules classes aggregations records statuses events of_schedules of_classes of_aggregations of_records of_events = record {
  schedules = each_found (λ code it. IsCode code × IsWellFormedSchedule it) schedules of_schedules;
  classes = each_found (λ code it. IsCode code × IsWellFormedClass it) classes of_classes;
  aggregations = at_numbers IsWellFormedAggregation aggregations of_aggregations;
  records = at_numbers IsWellFormedRecord records of_records;
  events = each_event (λ r it. IsWellFormedEvent it) events of_events;
}
