-- An act on schedules and classes keeps a state sound.
use Rattle.std.proofs.Common.{ℕ, ℤ, List, length}
use Rattle.office_days.specs.Limits.{IsDayNumber}
use Rattle.office_records.specs.Conditions.{conditions_of_add_schedule, conditions_of_add_class, conditions_of_set_class_schedule}
use Rattle.office_records.specs.Effects.{added_schedule, added_class, with_class_schedule}
use Rattle.office_records.specs.Forms.{IsCode, IsWellFormedSchedule, IsWellFormedClass}
use Rattle.office_records.specs.declared.class.Class.{Class}
use Rattle.office_records.specs.declared.schedule.Schedule.{Schedule}
use Rattle.office_records.proofs.Amending.{IsSound-set_class_schedule}
use Rattle.office_records.proofs.Forming.{IsWellFormed-add_schedule, IsWellFormed-add_class, IsWellFormed-set_class_schedule}
use Rattle.office_records.proofs.Inserting.{insert_keeps, amended_keeps}
use Rattle.office_records.proofs.Keeping.{IsSound-add_schedule, IsSound-add_class}
use Rattle.office_rules.specs.Conditions.{refusals_of_add_schedule, refusals_of_add_class, refusals_of_set_class_schedule}
use Rattle.office_rules.specs.Effects.{after_add_schedule, after_add_class, after_set_class_schedule}
use Rattle.office_rules.specs.Meanings.{IsAccepted}
use Rattle.office_rules.specs.Sound.{IsSound}
use Rattle.office_rules.specs.State.{State, with_office}
use Rattle.office_rules.proofs.Accepted.{tree_sound, dated_accepted}
use Rattle.office_rules.proofs.SoundParts.{days_later, as_many, events_later, limits_after, names_after}

pub sound_add_schedule : (s : State) (day : ℤ) (code : List ℕ) (schedule : Schedule) → IsSound s → IsDayNumber day → IsCode code → IsWellFormedSchedule schedule → IsAccepted (refusals_of_add_schedule s.office day code) → IsSound (with_office s (after_add_schedule s.office day code schedule))
sound_add_schedule s day code schedule sound day_well_formed code_well_formed schedule_well_formed accepted =
    let t = s.office.tree in
    let new = added_schedule t code schedule in
    let no = dated_accepted s.office day (conditions_of_add_schedule t code) accepted in
    let of_tree = IsSound-add_schedule t code schedule (tree_sound s sound) no.1 in
    record {
      limits = limits_after s day new sound of_tree.limits of_tree.statuses (IsWellFormed-add_schedule t code schedule sound.limits.tree_forms code_well_formed schedule_well_formed) day_well_formed;
      forest = sound.forest;
      names = names_after s new sound of_tree.names (record { schedules = insert_keeps t.schedules code schedule; classes = λ c there. there; aggregations = as_many (length t.aggregations); records = as_many (length t.records) });
      closed = sound.closed;
      contents = sound.contents;
      documents = sound.documents;
      entries = sound.entries;
      runs = sound.runs;
      days = days_later s day sound no.0;
      events = events_later s day sound no.0 (as_many (length t.records));
      refs = sound.refs;
    }

pub sound_add_class : (s : State) (day : ℤ) (code : List ℕ) (class : Class) → IsSound s → IsDayNumber day → IsCode code → IsWellFormedClass class → IsAccepted (refusals_of_add_class s.office day code class) → IsSound (with_office s (after_add_class s.office day code class))
sound_add_class s day code class sound day_well_formed code_well_formed class_well_formed accepted =
    let t = s.office.tree in
    let new = added_class t code class in
    let no = dated_accepted s.office day (conditions_of_add_class t code class.schedule) accepted in
    let of_tree = IsSound-add_class t code class (tree_sound s sound) no.1 in
    record {
      limits = limits_after s day new sound of_tree.limits of_tree.statuses (IsWellFormed-add_class t code class sound.limits.tree_forms code_well_formed class_well_formed) day_well_formed;
      forest = sound.forest;
      names = names_after s new sound of_tree.names (record { schedules = λ c there. there; classes = insert_keeps t.classes code class; aggregations = as_many (length t.aggregations); records = as_many (length t.records) });
      closed = sound.closed;
      contents = sound.contents;
      documents = sound.documents;
      entries = sound.entries;
      runs = sound.runs;
      days = days_later s day sound no.0;
      events = events_later s day sound no.0 (as_many (length t.records));
      refs = sound.refs;
    }

pub sound_set_class_schedule : (s : State) (day : ℤ) (class schedule : List ℕ) → IsSound s → IsDayNumber day → IsCode schedule → IsAccepted (refusals_of_set_class_schedule s.office day class schedule) → IsSound (with_office s (after_set_class_schedule s.office day class schedule))
sound_set_class_schedule s day class schedule sound day_well_formed schedule_well_formed accepted =
    let t = s.office.tree in
    let new = with_class_schedule t class schedule in
    let no = dated_accepted s.office day (conditions_of_set_class_schedule t class schedule) accepted in
    let of_tree = IsSound-set_class_schedule t class schedule (tree_sound s sound) no.1 in
    record {
      limits = limits_after s day new sound of_tree.limits of_tree.statuses (IsWellFormed-set_class_schedule t class schedule sound.limits.tree_forms schedule_well_formed) day_well_formed;
      forest = sound.forest;
      names = names_after s new sound of_tree.names (record { schedules = λ c there. there; classes = amended_keeps t.classes class (λ it. record it { schedule = schedule }); aggregations = as_many (length t.aggregations); records = as_many (length t.records) });
      closed = sound.closed;
      contents = sound.contents;
      documents = sound.documents;
      entries = sound.entries;
      runs = sound.runs;
      days = days_later s day sound no.0;
      events = events_later s day sound no.0 (as_many (length t.records));
      refs = sound.refs;
    }
