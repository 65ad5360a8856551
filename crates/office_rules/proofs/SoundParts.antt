-- What an act on the tree or on the holds keeps of a sound state, each item apart from the others.
use Rattle.std.proofs.Common.{◌≡◌, ℕ, ◌≤◌, ◌≤ℤ◌, ℤ, List, [], ◌∷◌, ◌++◌, length, length-append, Option, Some, None, sym, subst, inl, inr, arith}
use Rattle.std.specs.Prelude.{IsSome, IfSome, IsTrue}
use Rattle.std.specs.FinMap.{get}
use Rattle.std.proofs.lemmas.Int.{ints}
use Rattle.office_days.specs.Limits.{IsDayNumber}
use Rattle.office_records.specs.Disposal.{is_disposal}
use Rattle.office_records.specs.Forms.{IsWellFormedTree}
use Rattle.office_records.specs.Lists.{edited}
use Rattle.office_records.specs.Sound.{AreEventsSound, FitsLimits, NamesExist}
use Rattle.office_records.specs.Tree.{TreeState}
use Rattle.office_records.specs.declared.aggregation.Aggregation.{Aggregation}
use Rattle.office_records.specs.declared.head.Confirmation.{Confirmation}
use Rattle.office_records.specs.declared.head.Record.{Record}
use Rattle.office_records.proofs.Forming.{EachNumbered}
use Rattle.office_records.proofs.Places.{numbered_push, numbered_edited, length-edited}
use Rattle.office_rules.specs.HoldForms.{AreWellFormedHolds, FitsHoldLimits}
use Rattle.office_rules.specs.Holds.{HoldMap}
use Rattle.office_rules.specs.SoundHolds.{TargetsExist, NoHoldIsAfter}
use Rattle.office_rules.proofs.HoldSoundness.{TargetsExist-more, NoHoldIsAfter-later}
use Rattle.office_rules.specs.declared.entry.Entry.{Entry}
use Rattle.office_rules.specs.Sound.{IsSound, IsWithinLimits, IsNamedEntry, AllNamesExist, NoDayIsAfter}
use Rattle.office_rules.specs.State.{State}

-- ---- days

not_later : (a b c : ℤ) → a ≤ℤ b → b ≤ℤ c → a ≤ℤ c
not_later a b c h g = omega (arith, ints)

by_later : {A : Type 0} (day_of : A → ℤ) (o : Option A) (before day : ℤ) → before ≤ℤ day → IfSome o (λ x. day_of x ≤ℤ before) → IfSome o (λ x. day_of x ≤ℤ day)
by_later day_of None before day up h = tt
by_later day_of (Some x) before day up h = not_later (day_of x) before day h up

-- what is not after the office's day is not after a later one
pub days_later : (s : State) (day : ℤ) → IsSound s → s.office.day ≤ℤ day → NoDayIsAfter s.office.tree.aggregations s.office.tree.records s.office.holds s.office.runs day
days_later s day sound up = record {
  closed = λ a it e. by_later (λ closed. closed) it.closed s.office.day day up (sound.days.closed a it e);
  added = λ r head e. not_later head.added s.office.day day (sound.days.added r head e) up;
  reviewed = λ r head e. by_later (λ review. review.day) head.review s.office.day day up (sound.days.reviewed r head e);
  confirmed = λ r head e. by_later (λ confirmation. confirmation.day) head.confirmation s.office.day day up (sound.days.confirmed r head e);
  receipted = λ r head e. by_later (λ receipt. receipt.day) head.receipt s.office.day day up (sound.days.receipted r head e);
  held = NoHoldIsAfter-later s.office.holds s.office.day day sound.days.held up;
  run_days = λ run it e. not_later it.day s.office.day day (sound.days.run_days run it e) up;
}

-- and events stay sound beside no fewer records
pub events_later : {count : ℕ} (s : State) (day : ℤ) → IsSound s → s.office.day ≤ℤ day → length s.office.tree.records ≤ count → AreEventsSound s.office.tree.events count day
events_later s day sound up more = record {
  of_records = λ r event at. let there = sound.events.of_records r event at in (there.0, omega (arith, there.1, more));
  not_ahead = λ r event at. let ahead = sound.events.not_ahead r event at in (ahead.0, not_later event.day s.office.day day ahead.1 up);
}

-- an aggregation, or a record's head, has no day after a day
abbrev pub IsClosedBy : ℤ → Aggregation → Type 0
IsClosedBy day it = IfSome it.closed (λ closed. closed ≤ℤ day)

pub record IsHeadBy (day : ℤ) (head : Record) : Type 0 where
  pub added : head.added ≤ℤ day
  pub reviewed : IfSome head.review (λ review. review.day ≤ℤ day)
  pub confirmed : IfSome head.confirmation (λ confirmation. confirmation.day ≤ℤ day)
  pub receipted : IfSome head.receipt (λ receipt. receipt.day ≤ℤ day)

pub closed_by : (s : State) (day : ℤ) → IsSound s → s.office.day ≤ℤ day → EachNumbered (IsClosedBy day) s.office.tree.aggregations
closed_by s day sound up = (days_later s day sound up).closed

pub heads_by : (s : State) (day : ℤ) → IsSound s → s.office.day ≤ℤ day → EachNumbered (IsHeadBy day) s.office.tree.records
heads_by s day sound up r head e =
    let days = days_later s day sound up in
    record { added = days.added r head e; reviewed = days.reviewed r head e; confirmed = days.confirmed r head e; receipted = days.receipted r head e }

-- what holds of each thing holds with a new one of which it holds, and where each change keeps it
pub each_push : {A : Type 0} (P : A → Type 0) (xs : List A) (x : A) → EachNumbered P xs → P x → EachNumbered P (xs ++ x ∷ [])
each_push P xs x each new n y e = elim (numbered_push xs x y n e) [ inl old ↦ each n y old | inr last ↦ subst P last.1 new ]

pub each_edited : {A : Type 0} (P : A → Type 0) (xs : List A) (a : ℕ) (f : A → A) → EachNumbered P xs → ((x : A) → P x → P (f x)) → EachNumbered P (edited xs a f)
each_edited P xs a f each keeps n y e =
    let came = numbered_edited xs a f y n e in
    elim came.2 [ inl same ↦ subst P (sym same) (each n came.0 came.1) | inr changed ↦ subst P (sym changed.1) (keeps came.0 (each n came.0 came.1)) ]

-- ---- an act on the tree

-- what is confirmed is transfer or destruction
abbrev pub NamesDisposal : Option Confirmation → Type 0
NamesDisposal confirmation = IfSome confirmation (λ confirmation. IsTrue (is_disposal confirmation.action))

-- limits: the new tree is within them and formed, and so is the day
pub limits_after : (s : State) (day : ℤ) (new : TreeState) → IsSound s → FitsLimits new.schedules new.classes new.aggregations new.records → length new.statuses ≡ length new.records → IsWellFormedTree new → IsDayNumber day
    → IsWithinLimits new s.office.holds s.office.runs s.office.entries day
limits_after s day new sound few statuses formed day_well_formed = record {
  tree_few = few;
  tree_forms = formed;
  statuses = statuses;
  holds_few = sound.limits.holds_few;
  hold_forms = sound.limits.hold_forms;
  runs_few = sound.limits.runs_few;
  run_forms = sound.limits.run_forms;
  entry_forms = sound.limits.entry_forms;
  day_form = day_well_formed;
}

-- no schedule or class goes, and there are no fewer aggregations and records
pub record Grows (old new : TreeState) : Type 0 where
  pub schedules : (code : List ℕ) → IsSome (get old.schedules code) → IsSome (get new.schedules code)
  pub classes : (code : List ℕ) → IsSome (get old.classes code) → IsSome (get new.classes code)
  pub aggregations : length old.aggregations ≤ length new.aggregations
  pub records : length old.records ≤ length new.records

-- there are no fewer things where none goes, where one is new, and where one is changed
pub as_many : (n : ℕ) → n ≤ n
as_many n = omega arith

pub more_pushed : {A : Type 0} (xs : List A) (x : A) → length xs ≤ length (xs ++ x ∷ [])
more_pushed xs x = omega (arith, length-append xs (x ∷ []))

pub no_fewer_edited : {A : Type 0} (xs : List A) (a : ℕ) (f : A → A) → length xs ≤ length (edited xs a f)
no_fewer_edited xs a f = omega (arith, length-edited xs a f)

entries_named : (s : State) (new : TreeState) → IsSound s → Grows s.office.tree new → (run r : ℕ) (e : Entry) → get s.office.entries (run, r) ≡ Some e
    → IsNamedEntry new.schedules new.classes s.office.holds (length s.office.runs) (length new.records) run r e
entries_named s new sound grows run r e is =
    let old = sound.names.of_entries run r e is in
    record {
      run_there = old.run_there;
      record_there = (old.record_there.0, omega (arith, old.record_there.1, grows.records));
      class = grows.classes e.class old.class;
      schedule = grows.schedules e.schedule old.schedule;
      hold = old.hold;
    }

-- names: those of the new tree are, and none goes that a hold or an entry names
pub names_after : (s : State) (new : TreeState) → IsSound s → NamesExist new.schedules new.classes new.aggregations new.records → Grows s.office.tree new
    → AllNamesExist new s.office.holds s.office.runs s.office.entries
names_after s new sound names grows = record {
  of_tree = names;
  of_holds = TargetsExist-more s.office.holds s.office.tree.classes new.classes (length s.office.tree.aggregations) (length s.office.tree.records) (length new.aggregations) (length new.records)
      sound.names.of_holds grows.classes grows.aggregations grows.records;
  of_entries = entries_named s new sound grows;
}

-- days: none of the new aggregations and heads is after the day
pub days_after : (s : State) (day : ℤ) (new : TreeState) → IsSound s → s.office.day ≤ℤ day → EachNumbered (IsClosedBy day) new.aggregations → EachNumbered (IsHeadBy day) new.records
    → NoDayIsAfter new.aggregations new.records s.office.holds s.office.runs day
days_after s day new sound up closed heads =
    let days = days_later s day sound up in
    record {
      closed = closed;
      added = λ r head e. (heads r head e).added;
      reviewed = λ r head e. (heads r head e).reviewed;
      confirmed = λ r head e. (heads r head e).confirmed;
      receipted = λ r head e. (heads r head e).receipted;
      held = days.held;
      run_days = days.run_days;
    }

-- ---- an act on the holds

-- limits: the new holds are within them and formed, and so is the day
pub limits_holding : (s : State) (day : ℤ) (holds : HoldMap) → IsSound s → FitsHoldLimits holds → AreWellFormedHolds holds → IsDayNumber day → IsWithinLimits s.office.tree holds s.office.runs s.office.entries day
limits_holding s day holds sound few formed day_well_formed = record {
  tree_few = sound.limits.tree_few;
  tree_forms = sound.limits.tree_forms;
  statuses = sound.limits.statuses;
  holds_few = few;
  hold_forms = formed;
  runs_few = sound.limits.runs_few;
  run_forms = sound.limits.run_forms;
  entry_forms = sound.limits.entry_forms;
  day_form = day_well_formed;
}

hold_kept : (old new : HoldMap) (o : Option (List ℕ)) → ((code : List ℕ) → IsSome (get old code) → IsSome (get new code)) → IfSome o (λ code. IsSome (get old code)) → IfSome o (λ code. IsSome (get new code))
hold_kept old new None keeps h = tt
hold_kept old new (Some code) keeps h = keeps code h

-- names: the targets of the new holds are there, and no hold goes that an entry names
pub names_holding : (s : State) (holds : HoldMap) → IsSound s → TargetsExist holds s.office.tree.classes (length s.office.tree.aggregations) (length s.office.tree.records)
    → ((code : List ℕ) → IsSome (get s.office.holds code) → IsSome (get holds code)) → AllNamesExist s.office.tree holds s.office.runs s.office.entries
names_holding s holds sound targets keeps = record {
  of_tree = sound.names.of_tree;
  of_holds = targets;
  of_entries = λ run r e is.
      let old = sound.names.of_entries run r e is in
      record { run_there = old.run_there; record_there = old.record_there; class = old.class; schedule = old.schedule; hold = hold_kept s.office.holds holds e.hold keeps old.hold };
}

-- days: none of the new holds is after the day
pub days_holding : (s : State) (day : ℤ) (holds : HoldMap) → IsSound s → s.office.day ≤ℤ day → NoHoldIsAfter holds day → NoDayIsAfter s.office.tree.aggregations s.office.tree.records holds s.office.runs day
days_holding s day holds sound up held =
    let days = days_later s day sound up in
    record {
      closed = days.closed;
      added = days.added;
      reviewed = days.reviewed;
      confirmed = days.confirmed;
      receipted = days.receipted;
      held = held;
      run_days = days.run_days;
    }
