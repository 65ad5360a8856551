-- The entry of the record that a step takes from a sound office: its forms, and what it names.
use Rattle.std.proofs.Common.{◌≡◌, ◌↔◌, ℕ, List, [], length, Option, Some, None, refl, sym, ap, ◌∙◌, subst}
use Rattle.std.specs.Prelude.{IsSome, IfSome}
use Rattle.std.specs.Option.{unwrap_or, option_map, option_and_then}
use Rattle.std.specs.FinMap.{get}
use Rattle.office_days.specs.Limits.{IsDueNumber}
use Rattle.office_records.specs.Disposal.{confirmation_of}
use Rattle.office_records.specs.Forms.{IsCode, IsText, IsWellFormedConfirmation}
use Rattle.office_records.specs.Tree.{class_of, plan_of}
use Rattle.office_records.specs.declared.head.Confirmation.{Confirmation}
use Rattle.office_records.specs.declared.head.Record.{Record}
use Rattle.office_records.specs.declared.status.Status.{Status}
use Rattle.office_records.proofs.Places.{numbered_within}
use Rattle.office_rules.specs.Holds.{least_covering}
use Rattle.office_rules.specs.EntryForms.{IsWellFormedEntry}
use Rattle.office_rules.specs.declared.outcome.Outcome.{Outcome}
use Rattle.office_rules.specs.declared.outcome.Outcome.TheVariants.{Destroyed, Transferred, Sent, Skipped}
use Rattle.office_rules.specs.Disposing.{hold_by, entry_of}
use Rattle.office_rules.specs.Sound.{IsSound, IsNamedEntry}
use Rattle.office_rules.specs.State.{State}
use Rattle.office_rules.proofs.LeastHolds.{least_is_there, held_has_least}
use Rattle.office_rules.proofs.SoundMaps.{some_is}
use Rattle.office_rules.proofs.SoundPlans.{IsThere, class_there, plan_there}
use Rattle.office_rules.proofs.SoundRuns.{IsOpenIn}
use Rattle.office_rules.proofs.SoundTaken.{IsTaken}

-- what is so of a hold that is reported
hold_all : (P : List ℕ → Type 0) (o : Outcome) (hold : Option (List ℕ)) → ((code : List ℕ) → hold ≡ Some code → P code) → IfSome (hold_by o hold) P
hold_all P Skipped None all = tt
hold_all P Skipped (Some code) all = all code refl
hold_all P Destroyed hold all = tt
hold_all P Transferred hold all = tt
hold_all P Sent hold all = tt

hold_reported : (o : Outcome) (hold : Option (List ℕ)) → (o ≡ Skipped → IsSome hold) → IsSome (hold_by o hold) ↔ (o ≡ Skipped)
hold_reported Skipped hold some = (λ _. refl, λ e. some e)
hold_reported Destroyed hold some = (λ e. absurd cc, λ e. absurd cc)
hold_reported Transferred hold some = (λ e. absurd cc, λ e. absurd cc)
hold_reported Sent hold some = (λ e. absurd cc, λ e. absurd cc)

module _ (s : State) (run r : ℕ) (head : Record) (was : Status) (confirmation : Confirmation) (o : Outcome) (sound : IsSound s) (t : IsTaken s run r head was confirmation o) where
  class_is : IsThere s.office.tree.classes (class_of s.office.tree r)
  class_is = class_there s.office.tree sound.forest sound.names.of_tree r head t.there

  plan_is : IsThere s.office.tree.schedules (plan_of s.office.tree r)
  plan_is = plan_there s.office.tree sound.forest sound.names.of_tree r head t.there

  confirmation_is : confirmation_of s.office.tree r ≡ Some confirmation
  confirmation_is = ap (option_and_then (λ (x : Record). x.confirmation)) t.there ∙ t.confirmed

  confirmation_well_formed : IsWellFormedConfirmation confirmation
  confirmation_well_formed = subst (λ (c : Option Confirmation). IfSome c IsWellFormedConfirmation) t.confirmed (sound.limits.tree_forms.records r head t.there).confirmation

  pub new_entry_well_formed : IsWellFormedEntry (entry_of s.office run r o)
  new_entry_well_formed =
      let class = some_is (get s.office.tree.classes class_is.0) class_is.2 in
      let schedule = some_is (get s.office.tree.schedules plan_is.0) plan_is.2 in
      record {
        class = subst (λ (c : Option (List ℕ)). IsCode (unwrap_or c [])) (sym class_is.1) (sound.limits.tree_forms.classes class_is.0 class.0 class.1).0;
        schedule = subst (λ (c : Option (List ℕ)). IsCode (unwrap_or c [])) (sym plan_is.1) (sound.limits.tree_forms.schedules plan_is.0 schedule.0 schedule.1).0;
        due = subst (λ (c : Option Confirmation). IsDueNumber (unwrap_or (option_map (λ (x : Confirmation). x.due) c) s.office.day)) (sym confirmation_is) confirmation_well_formed.due;
        confirmed_by = subst (λ (c : Option Confirmation). IsText (unwrap_or (option_map (λ (x : Confirmation). x.by) c) [])) (sym confirmation_is) confirmation_well_formed.by;
        hold = hold_all IsCode o (least_covering s.office.holds s.office.tree r) (λ code first.
            let hold = some_is (get s.office.holds code) (least_is_there s.office.holds s.office.tree r code first) in
            (sound.limits.hold_forms code hold.0 hold.1).0);
      }

  pub new_entry_named : IsOpenIn s.office.runs run → IsNamedEntry s.office.tree.schedules s.office.tree.classes s.office.holds (length s.office.runs) (length s.office.tree.records) run r (entry_of s.office run r o)
  new_entry_named is_open = record {
    run_there = numbered_within s.office.runs run is_open.0 is_open.1;
    record_there = numbered_within s.office.tree.records r head t.there;
    class = subst (λ (c : Option (List ℕ)). IsSome (get s.office.tree.classes (unwrap_or c []))) (sym class_is.1) class_is.2;
    schedule = subst (λ (c : Option (List ℕ)). IsSome (get s.office.tree.schedules (unwrap_or c []))) (sym plan_is.1) plan_is.2;
    hold = hold_all (λ code. IsSome (get s.office.holds code)) o (least_covering s.office.holds s.office.tree r) (least_is_there s.office.holds s.office.tree r);
  }

  pub new_entry_hold : IsSome (entry_of s.office run r o).hold ↔ (o ≡ Skipped)
  new_entry_hold = hold_reported o (least_covering s.office.holds s.office.tree r) (λ skipped. held_has_least s.office.holds s.office.tree r (t.held skipped))
