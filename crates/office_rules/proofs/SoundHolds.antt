-- An act on the holds keeps a state sound.
use Rattle.std.proofs.Common.{◌≡◌, ℕ, ℤ, List, length, Some, None, false}
use Rattle.std.specs.Option.{is_none}
use Rattle.std.specs.FinMap.{get, contains_key}
use Rattle.office_days.specs.Limits.{IsDayNumber}
use Rattle.office_records.specs.Conditions.{first_of}
use Rattle.office_records.specs.Forms.{IsCode, IsText}
use Rattle.office_records.specs.Tree.{TreeState, has_aggregation, has_record}
use Rattle.office_records.proofs.Accepting.{none_holds, not_false, neither}
use Rattle.office_records.proofs.Inserting.{insert_keeps, amended_keeps}
use Rattle.office_records.proofs.Reading.{aggregation_within, record_within}
use Rattle.office_rules.specs.HoldConditions.{conditions_of_place_hold, conditions_of_hold_on, conditions_of_hold_off, conditions_of_lift_hold}
use Rattle.office_rules.specs.HoldEffects.{new_hold, placed_hold, with_target, without_target, held_on, held_off, lifted_hold}
use Rattle.office_rules.specs.HoldForms.{IsWellFormedTarget}
use Rattle.office_records.specs.declared.target.Target.{Target}
use Rattle.office_records.specs.declared.target.Target.TheVariants as target
use Rattle.office_rules.proofs.HoldSoundness.{TargetIsThere, TargetsExist-placed_hold, TargetsExist-held_on, TargetsExist-held_off, TargetsExist-lifted_hold, AreWellFormedHolds-placed_hold, AreWellFormedHolds-held_on, AreWellFormedHolds-held_off, AreWellFormedHolds-lifted_hold, FitsHoldLimits-placed_hold, FitsHoldLimits-held_on, FitsHoldLimits-held_off, FitsHoldLimits-lifted_hold, NoHoldIsAfter-placed_hold, NoHoldIsAfter-held_on, NoHoldIsAfter-held_off, NoHoldIsAfter-lifted_hold}
use Rattle.office_rules.specs.Conditions.{refusals_of_place_hold, refusals_of_hold_on, refusals_of_hold_off, refusals_of_lift_hold, lacks_target}
use Rattle.office_rules.specs.Effects.{after_place_hold, after_hold_on, after_hold_off, after_lift_hold}
use Rattle.office_rules.specs.Meanings.{IsAccepted}
use Rattle.office_rules.specs.Sound.{IsSound}
use Rattle.office_rules.specs.State.{State, with_office}
use Rattle.office_rules.proofs.Accepted.{not_back, dated_accepted, accepted_of}
use Rattle.office_rules.proofs.SoundParts.{as_many, limits_holding, names_holding, days_holding, events_later}

pub sound_place_hold : (s : State) (day : ℤ) (code reason by : List ℕ) → IsSound s → IsDayNumber day → IsCode code → IsText reason → IsText by → IsAccepted (refusals_of_place_hold s.office day code) → IsSound (with_office s (after_place_hold s.office day code reason by))
sound_place_hold s day code reason by sound day_well_formed code_well_formed reason_well_formed by_well_formed accepted =
    let t = s.office.tree in
    let holds = s.office.holds in
    let no = dated_accepted s.office day (conditions_of_place_hold holds code) accepted in
    let new = placed_hold holds day code reason by in
    record {
      limits = limits_holding s day new sound (FitsHoldLimits-placed_hold holds sound.limits.holds_few day code reason by no.1)
          (AreWellFormedHolds-placed_hold holds sound.limits.hold_forms day code reason by code_well_formed reason_well_formed by_well_formed day_well_formed) day_well_formed;
      forest = sound.forest;
      names = names_holding s new sound (TargetsExist-placed_hold holds t.classes (length t.aggregations) (length t.records) sound.names.of_holds day code reason by) (insert_keeps holds code (new_hold day reason by));
      closed = sound.closed;
      contents = sound.contents;
      documents = sound.documents;
      entries = sound.entries;
      runs = sound.runs;
      days = days_holding s day new sound no.0 (NoHoldIsAfter-placed_hold holds s.office.day day sound.days.held no.0 code reason by);
      events = events_later s day sound no.0 (as_many (length t.records));
      refs = sound.refs;
    }

-- a target that is not lacked is there
target_there : (t : TreeState) (target : Target) → lacks_target t target ≡ false → TargetIsThere t.classes (length t.aggregations) (length t.records) target
target_there t (target.Class code) e = not_false (contains_key t.classes code) e
target_there t (target.Aggregation a) e = aggregation_within t a (not_false (has_aggregation t a) e)
target_there t (target.Record r) e = record_within t r (not_false (has_record t r) e)

pub sound_hold_on : (s : State) (day : ℤ) (code : List ℕ) (target : Target) → IsSound s → IsDayNumber day → IsWellFormedTarget target → IsAccepted (refusals_of_hold_on s.office day code target) → IsSound (with_office s (after_hold_on s.office day code target))
sound_hold_on s day code target sound day_well_formed target_well_formed accepted =
    let t = s.office.tree in
    let holds = s.office.holds in
    let no = none_holds (refusals_of_hold_on s.office day code target) accepted in
    let up = not_back day s.office.day no.0 in
    let lacks = neither (is_none (get holds code)) (lacks_target t target) no.1.1.0 in
    let below : first_of (conditions_of_hold_on holds code target) ≡ None = accepted_of (conditions_of_hold_on holds code target) (no.1.0, (lacks.0, (no.1.1.1.0, (no.1.1.1.1.0, tt)))) in
    let new = held_on holds code target in
    record {
      limits = limits_holding s day new sound (FitsHoldLimits-held_on holds sound.limits.holds_few code target below)
          (AreWellFormedHolds-held_on holds sound.limits.hold_forms code target target_well_formed) day_well_formed;
      forest = sound.forest;
      names = names_holding s new sound (TargetsExist-held_on holds t.classes (length t.aggregations) (length t.records) sound.names.of_holds code target (target_there t target lacks.1)) (amended_keeps holds code (with_target target));
      closed = sound.closed;
      contents = sound.contents;
      documents = sound.documents;
      entries = sound.entries;
      runs = sound.runs;
      days = days_holding s day new sound up (NoHoldIsAfter-held_on holds s.office.day day sound.days.held up code target);
      events = events_later s day sound up (as_many (length t.records));
      refs = sound.refs;
    }

pub sound_hold_off : (s : State) (day : ℤ) (code : List ℕ) (target : Target) → IsSound s → IsDayNumber day → IsAccepted (refusals_of_hold_off s.office day code target) → IsSound (with_office s (after_hold_off s.office day code target))
sound_hold_off s day code target sound day_well_formed accepted =
    let t = s.office.tree in
    let holds = s.office.holds in
    let up = (dated_accepted s.office day (conditions_of_hold_off holds code target) accepted).0 in
    let new = held_off holds code target in
    record {
      limits = limits_holding s day new sound (FitsHoldLimits-held_off holds sound.limits.holds_few code target)
          (AreWellFormedHolds-held_off holds sound.limits.hold_forms code target) day_well_formed;
      forest = sound.forest;
      names = names_holding s new sound (TargetsExist-held_off holds t.classes (length t.aggregations) (length t.records) sound.names.of_holds code target) (amended_keeps holds code (without_target target));
      closed = sound.closed;
      contents = sound.contents;
      documents = sound.documents;
      entries = sound.entries;
      runs = sound.runs;
      days = days_holding s day new sound up (NoHoldIsAfter-held_off holds s.office.day day sound.days.held up code target);
      events = events_later s day sound up (as_many (length t.records));
      refs = sound.refs;
    }

pub sound_lift_hold : (s : State) (day : ℤ) (code : List ℕ) → IsSound s → IsDayNumber day → IsAccepted (refusals_of_lift_hold s.office day code) → IsSound (with_office s (after_lift_hold s.office day code))
sound_lift_hold s day code sound day_well_formed accepted =
    let t = s.office.tree in
    let holds = s.office.holds in
    let up = (dated_accepted s.office day (conditions_of_lift_hold holds code) accepted).0 in
    let new = lifted_hold holds day code in
    record {
      limits = limits_holding s day new sound (FitsHoldLimits-lifted_hold holds sound.limits.holds_few day code)
          (AreWellFormedHolds-lifted_hold holds sound.limits.hold_forms day code day_well_formed) day_well_formed;
      forest = sound.forest;
      names = names_holding s new sound (TargetsExist-lifted_hold holds t.classes (length t.aggregations) (length t.records) sound.names.of_holds day code) (amended_keeps holds code (λ hold. record hold { lifted = Some day }));
      closed = sound.closed;
      contents = sound.contents;
      documents = sound.documents;
      entries = sound.entries;
      runs = sound.runs;
      days = days_holding s day new sound up (NoHoldIsAfter-lifted_hold holds s.office.day day sound.days.held up code);
      events = events_later s day sound up (as_many (length t.records));
      refs = sound.refs;
    }
