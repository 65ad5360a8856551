-- An office stays sound over the event of a record.
use Rattle.std.proofs.Common.{◌≡◌, ℕ, ◌<◌, ◌≤◌, ℤ, ◌≤ℤ◌, List, length, Bool, true, false, arith, inl, inr, refl, subst, sym}
use Rattle.std.specs.Prelude.{◌&&◌, int_lt, nat_le, not}
use Rattle.std.specs.Cmp.{nat_cmp_total}
use Rattle.std.specs.FinMap.{nat_cmp-IsAntisymmetric}
use Rattle.std.proofs.lemmas.Bool.Decides.{nat_tests}
use Rattle.std.proofs.lemmas.Int.{ints}
use Rattle.office_days.specs.Limits.{IsDayNumber}
use Rattle.office_records.specs.Conditions.{conditions_of_event}
use Rattle.office_records.specs.Effects.{with_event}
use Rattle.office_records.specs.Forms.{IsWellFormedEvent, IsWellFormedTree, IsText}
use Rattle.office_records.specs.Sound.{AreEventsSound}
use Rattle.office_records.specs.Tree.{TreeState}
use Rattle.office_records.specs.declared.event.Event.{Event}
use Rattle.office_records.proofs.Accepting.{none_holds}
use Rattle.office_rules.specs.Conditions.{refusals_of_event}
use Rattle.office_rules.specs.Effects.{after_event}
use Rattle.office_rules.specs.Meanings.{IsAccepted}
use Rattle.office_rules.specs.Sound.{IsSound}
use Rattle.office_rules.specs.State.{State, with_office}
use Rattle.office_rules.proofs.Accepted.{dated_accepted}
use Rattle.office_rules.proofs.SoundMaps.{put_cases}
use Rattle.office_rules.proofs.SoundParts.{as_many, days_later, events_later, limits_after, names_after}

-- a number that a record has
there : (count r : ℕ) → not (nat_le 1 r && nat_le r count) ≡ false → (0 < r) × (r ≤ count)
there count r e = tests (nat_le 1 r) (nat_le r count) refl refl e
  where
    tests : (a b : Bool) → nat_le 1 r ≡ a → nat_le r count ≡ b → not (a && b) ≡ false → (0 < r) × (r ≤ count)
    tests true true ea eb e = (grind (arith, nat_tests), grind (arith, nat_tests))
    tests true false ea eb e = absurd cc
    tests false b ea eb e = absurd cc

not_ahead : (day occurred : ℤ) → int_lt day occurred ≡ false → occurred ≤ℤ day
not_ahead day occurred e = grind (arith, ints)

≤ℤ_itself : (day : ℤ) → day ≤ℤ day
≤ℤ_itself day = omega (arith, ints)

-- the new event is of its form, and so are the others
well_formed_after : (tree : TreeState) (day : ℤ) (r : ℕ) (occurred : ℤ) (by : List ℕ) → IsWellFormedTree tree → IsDayNumber day → IsDayNumber occurred → IsText by → IsWellFormedTree (with_event tree day r occurred by)
well_formed_after tree day r occurred by formed day_well_formed occurred_well_formed by_well_formed =
    let new : Event = record { occurred = occurred; day = day; by = by } in
    let is_well_formed : IsWellFormedEvent new = record { occurred = occurred_well_formed; day = day_well_formed; by = by_well_formed } in
    record {
      schedules = formed.schedules;
      classes = formed.classes;
      aggregations = formed.aggregations;
      records = formed.records;
      events = λ q event at. elim (put_cases nat_cmp_total nat_cmp-IsAntisymmetric tree.events r new q event at) [
        | inl here ↦ subst IsWellFormedEvent here.1 is_well_formed
        | inr old ↦ formed.events q event old
      ];
    }

events_after : (s : State) (day : ℤ) (r : ℕ) (occurred : ℤ) (by : List ℕ) → IsSound s → s.office.day ≤ℤ day → (0 < r) × (r ≤ length s.office.tree.records) → occurred ≤ℤ day
    → AreEventsSound (with_event s.office.tree day r occurred by).events (length s.office.tree.records) day
events_after s day r occurred by sound up there on =
    let t = s.office.tree in
    let new : Event = record { occurred = occurred; day = day; by = by } in
    let others : AreEventsSound t.events (length t.records) day = events_later s day sound up (as_many (length t.records)) in
    record {
      of_records = λ q event at. elim (put_cases nat_cmp_total nat_cmp-IsAntisymmetric t.events r new q event at) [
        | inl here ↦ subst (λ (n : ℕ). (0 < n) × (n ≤ length t.records)) (sym here.0) there
        | inr old ↦ others.of_records q event old
      ];
      not_ahead = λ q event at. elim (put_cases nat_cmp_total nat_cmp-IsAntisymmetric t.events r new q event at) [
        | inl here ↦ subst (λ (it : Event). (it.occurred ≤ℤ it.day) × (it.day ≤ℤ day)) here.1 (on, ≤ℤ_itself day)
        | inr old ↦ others.not_ahead q event old
      ];
    }

pub sound_event : (s : State) (day : ℤ) (r : ℕ) (occurred : ℤ) (by : List ℕ) → IsSound s → IsDayNumber day → IsDayNumber occurred → IsText by → IsAccepted (refusals_of_event s.office day r occurred)
    → IsSound (with_office s (after_event s.office day r occurred by))
sound_event s day r occurred by sound day_well_formed occurred_well_formed by_well_formed accepted =
    let t = s.office.tree in
    let no = dated_accepted s.office day (conditions_of_event t day r occurred) accepted in
    let none = none_holds (conditions_of_event t day r occurred) no.1 in
    let new = with_event t day r occurred by in
    record {
      limits = limits_after s day new sound sound.limits.tree_few sound.limits.statuses (well_formed_after t day r occurred by sound.limits.tree_forms day_well_formed occurred_well_formed by_well_formed) day_well_formed;
      forest = sound.forest;
      names = names_after s new sound sound.names.of_tree (record { schedules = λ c there. there; classes = λ c there. there; aggregations = as_many (length t.aggregations); records = as_many (length t.records) });
      closed = sound.closed;
      contents = sound.contents;
      documents = sound.documents;
      entries = sound.entries;
      runs = sound.runs;
      days = days_later s day sound no.0;
      events = events_after s day r occurred by sound no.0 (there (length t.records) r none.0) (not_ahead day occurred none.1.1.1.0);
      refs = sound.refs;
    }
