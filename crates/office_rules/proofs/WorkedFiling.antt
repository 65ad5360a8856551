-- Each act that makes the base office is accepted where it comes.
use Rattle.std.proofs.Common.{◌≡◌, not, ℕ, List, [], ◌∷◌, length, Bool, false, Some, None, ap, ◌∙◌}
use Rattle.std.specs.Prelude.{codes, nat_le}
use Rattle.std.specs.Option.{is_some}
use Rattle.std.specs.FinMap.{FinMap, contains_key, len, entries, find, len-entries}
use Rattle.sha2.specs.Sha256.{sha256}
use Rattle.office_base.specs.declared.refusal.Refusal.{Refusal}
use Rattle.office_base.specs.declared.refusal.Refusal.TheVariants.{DayBack, Exists, NoSuch, Full, Closed, TooDeep, NeedsClass}
use Rattle.office_records.specs.Conditions.{first_of, conditions_of_add_record}
use Rattle.office_records.specs.Effects.{added_record}
use Rattle.office_records.specs.Tree.{code_cmp}
use Rattle.office_rules.specs.Conditions.{dated, refusals_of_add_schedule, refusals_of_add_class, refusals_of_add_aggregation, refusals_of_add_record}
use Rattle.office_rules.specs.Effects.{with_tree, after_add_record}
use Rattle.office_rules.specs.Meanings.{IsAccepted}
use Rattle.office_rules.specs.NewRecords.{NewRecord}
use Rattle.office_rules.specs.State.{Office, empty_office}
use Rattle.office_rules.specs.Worked.{AsksFor, filing_day, class_titled, with_yearly, with_class, classed_office, with_root, rooted_office, first_filed, second_filed, with_record}
use Rattle.office_rules.proofs.WorkedBase.{schedule_there, finance_there, legal_there, one_class}
use Rattle.office_rules.proofs.WorkedMaps.{no_entries, get_of_entries}

module _ {V : Type 0} (m : FinMap code_cmp V) (es : List (List ℕ × V)) (is : entries m ≡ es) where
  there : (k : List ℕ) → contains_key m k ≡ is_some (find code_cmp k es)
  there k = ap is_some (get_of_entries m k es is)

  few : nat_le 1_000 (len m) ≡ nat_le 1_000 (length es)
  few = ap (nat_le 1_000) (len-entries m ∙ ap length is)

abbrev schedule_table : Bool → Bool → List (Refusal × Bool)
schedule_table is_there full = (DayBack, false) ∷ (Exists, is_there) ∷ (Full, full) ∷ []

pub schedule_added : IsAccepted (refusals_of_add_schedule empty_office filing_day (codes "D1"))
schedule_added =
    let is_there = there empty_office.tree.schedules [] (no_entries code_cmp) (codes "D1") in
    let full = few empty_office.tree.schedules [] (no_entries code_cmp) in
    λ i. first_of (schedule_table (is_there i) (full i))

abbrev class_table : Bool → Bool → Bool → List (Refusal × Bool)
class_table is_there has_schedule full = (DayBack, false) ∷ (Exists, is_there) ∷ (NoSuch, not has_schedule) ∷ (Full, full) ∷ []

pub first_class_added : IsAccepted (refusals_of_add_class with_yearly filing_day (codes "FIN") (class_titled (codes "FIN")))
first_class_added =
    let is_there = there with_yearly.tree.classes [] (no_entries code_cmp) (codes "FIN") in
    let has_schedule = ap is_some schedule_there in
    let full = few with_yearly.tree.classes [] (no_entries code_cmp) in
    λ i. first_of (class_table (is_there i) (has_schedule i) (full i))

pub second_class_added : IsAccepted (refusals_of_add_class (with_class with_yearly (codes "FIN")) filing_day (codes "LEG") (class_titled (codes "LEG")))
second_class_added =
    let is_there = there (with_class with_yearly (codes "FIN")).tree.classes _ one_class (codes "LEG") in
    let has_schedule = ap is_some schedule_there in
    let full = few (with_class with_yearly (codes "FIN")).tree.classes _ one_class in
    λ i. first_of (class_table (is_there i) (has_schedule i) (full i))

-- the table of a root by whether its class is there
abbrev root_table : Bool → List (Refusal × Bool)
root_table has_class = (DayBack, false) ∷ (Exists, false) ∷ (NoSuch, not has_class) ∷ (Full, false) ∷ (Closed, false) ∷ (TooDeep, false) ∷ (NeedsClass, false) ∷ []

pub first_root_added : IsAccepted (refusals_of_add_aggregation classed_office filing_day (codes "A") None (Some (codes "FIN")))
first_root_added = ap (λ o. first_of (root_table (is_some o))) finance_there

pub second_root_added : IsAccepted (refusals_of_add_aggregation (with_root classed_office (codes "A") (codes "FIN")) filing_day (codes "B") None (Some (codes "LEG")))
second_root_added = ap (λ o. first_of (root_table (is_some o))) legal_there

-- the table of a record by what is asked for
adding : (s : Office) (new : NewRecord) (name words : List ℕ) (parent : ℕ) (bytes : List ℕ) → AsksFor new name words parent bytes → first_of (refusals_of_add_record s filing_day new) ≡ first_of (dated s filing_day (conditions_of_add_record s.tree name parent None None))
adding s new name words parent bytes h =
    λ i. first_of (dated s filing_day (conditions_of_add_record s.tree (h.ref_text i) (h.aggregation i) (h.class i) (h.schedule i)))

pub first_record_added : (new : NewRecord) → AsksFor new (codes "r1") (codes "r1") 1 (codes "abc") → IsAccepted (refusals_of_add_record rooted_office filing_day new)
first_record_added new h = adding rooted_office new (codes "r1") (codes "r1") 1 (codes "abc") h

pub second_record_added : (new : NewRecord) → AsksFor new (codes "r2") (codes "r2") 2 [] → IsAccepted (refusals_of_add_record first_filed filing_day new)
second_record_added new h = adding first_filed new (codes "r2") (codes "r2") 2 [] h

pub third_record_added : (new : NewRecord) → AsksFor new (codes "r3") (codes "r3") 1 (codes "abc") → IsAccepted (refusals_of_add_record second_filed filing_day new)
third_record_added new h = adding second_filed new (codes "r3") (codes "r3") 1 (codes "abc") h

pub filed : (s : Office) (new : NewRecord) (name : List ℕ) (parent : ℕ) (bytes : List ℕ) → AsksFor new name name parent bytes → after_add_record s filing_day new ≡ with_record s name parent bytes
filed s new name parent bytes h =
    λ i. with_tree s filing_day (added_record s.tree (record {
      ref_text = h.ref_text i;
      title = h.title i;
      originated = h.originated i;
      added = filing_day;
      aggregation = h.aggregation i;
      class = h.class i;
      schedule = h.schedule i;
      length = length (h.content i);
      digest = sha256 (h.content i);
      review = None;
      confirmation = None;
      receipt = None;
    }))
