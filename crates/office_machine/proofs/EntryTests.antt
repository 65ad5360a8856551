-- What the tests of entries report of an office, and that a sound office passes them.
use Rattle.std.proofs.Common.{◌≡◌, ◌≤◌, ◌<◌, ℕ, List, length, Option, Some, None, refl, sym, ap, ◌∙◌, subst, Bool, true, false}
use Rattle.std.specs.Prelude.{◌||◌, ◌↔◌, not, nat_le, IsSome, IfSome, if◌then◌else◌}
use Rattle.std.specs.FinMap.{FinMap, get, values}
use Rattle.std.specs.List.{All, Contains}
use Rattle.std.specs.Option.{is_none, is_some}
use Rattle.std.proofs.lemmas.Bool.{and_parts, and_from, leb-true, le-leb}
use Rattle.std.proofs.lemmas.List.Elements.{All-contains, All-contains_itself, All-weaker}
use Rattle.office_records.specs.Disposal.{is_ended}
use Rattle.office_records.specs.Loading.{is_there}
use Rattle.office_records.specs.Lists.{numbered, is_some_and}
use Rattle.office_records.specs.Tree.{code_cmp}
use Rattle.office_records.specs.declared.head.Record.{Record}
use Rattle.office_records.specs.declared.status.Status.{Status}
use Rattle.office_records.specs.declared.status.Status.TheVariants.{Ended}
use Rattle.office_records.proofs.Places.{numbered_within}
use Rattle.office_rules.specs.Outcomes.{is_ending, is_skipping, is_transferring}
use Rattle.office_rules.specs.declared.entry.Entry.{Entry}
use Rattle.office_rules.specs.declared.outcome.Outcome.{Outcome}
use Rattle.office_rules.specs.declared.outcome.Outcome.TheVariants as outcome
use Rattle.office_rules.specs.Loading.{EachHasOneEnding, is_entry_right}
use Rattle.office_rules.specs.Sound.{EntriesAgree, IsNamedEntry}
use Rattle.office_rules.specs.State.{Office}
use Rattle.office_rules.specs.declared.run.Run.{Run}
use Rattle.office_machine.proofs.Endings.{ended_only}
use Rattle.office_rules.proofs.Listing.{AreKeyed, value_found, found_value}
use Rattle.office_rules.proofs.SoundMaps.{one_there}
use Rattle.office_rules.proofs.SoundPlans.{numbered_there}
use Rattle.office_rules.proofs.SoundTaken.{holds_is}

-- what the items of soundness say of entries
pub record AreEntriesSound (s : Office) : Type 0 where
  pub represent : EntriesAgree s.tree.statuses s.runs s.entries
  pub named : (run r : ℕ) (e : Entry) → get s.entries (run, r) ≡ Some e → IsNamedEntry s.tree.schedules s.tree.classes s.holds (length s.runs) (length s.tree.records) run r e
  pub transferred : (run r : ℕ) (e : Entry) (head : Record) → get s.entries (run, r) ≡ Some e → e.outcome ≡ outcome.Transferred → numbered s.tree.records r ≡ Some head → IsSome head.receipt

-- ---- what passes each test

is_held_of : {A : Type 0} (o : Option A) (test : A → Bool) (x : A) → o ≡ Some x → test x ≡ true → is_some_and o test ≡ true
is_held_of o test x there passes = ap (λ it. is_some_and it test) there ∙ passes

named_is : {V : Type 0} (things : FinMap code_cmp V) (code : Option (List ℕ)) → is_there things code ≡ true → IfSome code (λ c. IsSome (get things c))
named_is things None e = tt
named_is things (Some c) e = e

is_named : {V : Type 0} (things : FinMap code_cmp V) (code : Option (List ℕ)) → IfSome code (λ c. IsSome (get things c)) → is_there things code ≡ true
is_named things None e = refl
is_named things (Some c) e = e

reported_is : {A : Type 0} (o : Outcome) (hold : Option A) → (if is_skipping o then is_some hold else is_none hold) ≡ true → IsSome hold ↔ (o ≡ outcome.Skipped)
reported_is outcome.Skipped hold e = (λ there. refl, λ skipped. e)
reported_is outcome.Destroyed None e = (λ there. absurd cc, λ skipped. absurd cc)
reported_is outcome.Transferred None e = (λ there. absurd cc, λ skipped. absurd cc)
reported_is outcome.Sent None e = (λ there. absurd cc, λ skipped. absurd cc)
reported_is outcome.Destroyed (Some code) e = absurd cc
reported_is outcome.Transferred (Some code) e = absurd cc
reported_is outcome.Sent (Some code) e = absurd cc

is_reported : {A : Type 0} (o : Outcome) (hold : Option A) → IsSome hold ↔ (o ≡ outcome.Skipped) → (if is_skipping o then is_some hold else is_none hold) ≡ true
is_reported outcome.Skipped hold e = e.1 refl
is_reported outcome.Destroyed None e = refl
is_reported outcome.Transferred None e = refl
is_reported outcome.Sent None e = refl
is_reported outcome.Destroyed (Some code) e = let wrong = e.0 refl in absurd cc
is_reported outcome.Transferred (Some code) e = let wrong = e.0 refl in absurd cc
is_reported outcome.Sent (Some code) e = let wrong = e.0 refl in absurd cc

receipted_is : {A : Type 0} (o : Outcome) (receipt : Option A) → (not (is_transferring o) || is_some receipt) ≡ true → o ≡ outcome.Transferred → IsSome receipt
receipted_is outcome.Transferred receipt e is = e
receipted_is outcome.Destroyed receipt e is = absurd cc
receipted_is outcome.Sent receipt e is = absurd cc
receipted_is outcome.Skipped receipt e is = absurd cc

is_receipted : {A : Type 0} (o : Outcome) (receipt : Option A) → (o ≡ outcome.Transferred → IsSome receipt) → (not (is_transferring o) || is_some receipt) ≡ true
is_receipted outcome.Transferred receipt e = e refl
is_receipted outcome.Destroyed receipt e = refl
is_receipted outcome.Sent receipt e = refl
is_receipted outcome.Skipped receipt e = refl

ended_is : (ending : Bool) (status : Status) → (not ending || is_ended status) ≡ true → ending ≡ true → status ≡ Ended
ended_is true status e is = ended_only status e
ended_is false status e is = absurd cc

is_ended_where : (ending : Bool) (status : Status) → (ending ≡ true → status ≡ Ended) → (not ending || is_ended status) ≡ true
is_ended_where true status e = ap is_ended (e refl)
is_ended_where false status e = refl

-- ---- one entry

-- what an entry that passes fits
record FitsOffice (s : Office) (e : Entry) : Type 0 where
  class : IsSome (get s.tree.classes e.class)
  schedule : IsSome (get s.tree.schedules e.schedule)
  hold : IfSome e.hold (λ code. IsSome (get s.holds code))
  reported : IsSome e.hold ↔ (e.outcome ≡ outcome.Skipped)
  run : (it : Run) × (numbered s.runs e.run ≡ Some it) × (e.record_no ≤ it.cursor)
  head : (head : Record) × (numbered s.tree.records e.record_no ≡ Some head) × (e.outcome ≡ outcome.Transferred → IsSome head.receipt)
  status : (status : Status) × (numbered s.tree.statuses e.record_no ≡ Some status) × (is_ending e.outcome ≡ true → status ≡ Ended)

right_fits : (s : Office) (e : Entry) → is_entry_right s e ≡ true → FitsOffice s e
right_fits s e right =
    let g = and_parts _ _ right in
    let f = and_parts _ _ g.0 in
    let d = and_parts _ _ f.0 in
    let c = and_parts _ _ d.0 in
    let b = and_parts _ _ c.0 in
    let a = and_parts _ _ b.0 in
    let run = holds_is (numbered s.runs e.run) _ d.1 in
    let head = holds_is (numbered s.tree.records e.record_no) _ f.1 in
    let status = holds_is (numbered s.tree.statuses e.record_no) _ g.1 in
    record {
      class = a.0;
      schedule = a.1;
      hold = named_is s.holds e.hold b.1;
      reported = reported_is e.outcome e.hold c.1;
      run = (run.0, run.1, leb-true e.record_no run.0.cursor run.2);
      head = (head.0, head.1, receipted_is e.outcome head.0.receipt head.2);
      status = (status.0, status.1, ended_is (is_ending e.outcome) status.0 status.2);
    }

fits_right : (s : Office) (e : Entry) → FitsOffice s e → is_entry_right s e ≡ true
fits_right s e fits =
    let run = is_held_of (numbered s.runs e.run) (λ it. nat_le e.record_no it.cursor) fits.run.0 fits.run.1 (le-leb e.record_no fits.run.0.cursor fits.run.2) in
    let head = is_held_of (numbered s.tree.records e.record_no) (λ head. not (is_transferring e.outcome) || is_some head.receipt) fits.head.0 fits.head.1 (is_receipted e.outcome fits.head.0.receipt fits.head.2) in
    let status = is_held_of (numbered s.tree.statuses e.record_no) (λ status. not (is_ending e.outcome) || is_ended status) fits.status.0 fits.status.1 (is_ended_where (is_ending e.outcome) fits.status.0 fits.status.2) in
    and_from _ _ (and_from _ _ (and_from _ _ (and_from _ _ (and_from _ _ (and_from _ _ fits.class fits.schedule) (is_named s.holds e.hold fits.hold)) (is_reported e.outcome e.hold fits.reported)) run) head) status

-- ---- all entries

-- an entry that is in the map is one of the values
fits_under : (s : Office) → All (λ e. is_entry_right s e ≡ true) (values s.entries) → (run r : ℕ) (e : Entry) → get s.entries (run, r) ≡ Some e → FitsOffice s e
fits_under s right run r e there = right_fits s e (All-contains (λ it. is_entry_right s it ≡ true) (values s.entries) e right (found_value s.entries (run, r) e there))

represent : (s : Office) → AreKeyed s.entries → All (λ e. is_entry_right s e ≡ true) (values s.entries) → EachHasOneEnding s.tree.statuses (values s.entries) → EntriesAgree s.tree.statuses s.runs s.entries
represent s keyed right one = record {
  keyed = keyed;
  ended = λ r at.
      let ending = one.one r at in
      let found = value_found s.entries ending.0 ending.1 in
      let same : r ≡ found.0.1 = sym ending.2 ∙ (keyed found.0.0 found.0.1 ending.0 found.1).1 in
      (found.0.0, ending.0, ap (λ n. get s.entries (found.0.0, n)) same ∙ found.1, ending.3);
  once = λ run other r e f at too ending ends.
      let key = keyed run r e at in
      let other_key = keyed other r f too in
      sym key.0 ∙ one.once e f (found_value s.entries (run, r) e at) (found_value s.entries (other, r) f too) ending ends (key.1 ∙ sym other_key.1) ∙ other_key.0;
  no_other = λ run r e at ending.
      let fits = fits_under s right run r e at in
      ap (numbered s.tree.statuses) (sym (keyed run r e at).1) ∙ fits.status.1 ∙ ap Some (fits.status.2 ending);
  holds = λ run r e at. (fits_under s right run r e at).reported;
  passed = λ run r e it at there.
      let key = keyed run r e at in
      let fits = fits_under s right run r e at in
      let same : fits.run.0 ≡ it = one_there (numbered s.runs run) fits.run.0 it (ap (numbered s.runs) (sym key.0) ∙ fits.run.1) there in
      subst (λ n. n ≤ it.cursor) key.1 (subst (λ (x : Run). e.record_no ≤ x.cursor) same fits.run.2);
}

named : (s : Office) → AreKeyed s.entries → All (λ e. is_entry_right s e ≡ true) (values s.entries) → (run r : ℕ) (e : Entry) → get s.entries (run, r) ≡ Some e
    → IsNamedEntry s.tree.schedules s.tree.classes s.holds (length s.runs) (length s.tree.records) run r e
named s keyed right run r e at =
    let key = keyed run r e at in
    let fits = fits_under s right run r e at in
    record {
      run_there = subst (λ n. (0 < n) × (n ≤ length s.runs)) key.0 (numbered_within s.runs e.run fits.run.0 fits.run.1);
      record_there = subst (λ n. (0 < n) × (n ≤ length s.tree.records)) key.1 (numbered_within s.tree.records e.record_no fits.head.0 fits.head.1);
      class = fits.class;
      schedule = fits.schedule;
      hold = fits.hold;
    }

receipted : (s : Office) → AreKeyed s.entries → All (λ e. is_entry_right s e ≡ true) (values s.entries) → (run r : ℕ) (e : Entry) (head : Record) → get s.entries (run, r) ≡ Some e → e.outcome ≡ outcome.Transferred → numbered s.tree.records r ≡ Some head → IsSome head.receipt
receipted s keyed right run r e head at is there =
    let key = keyed run r e at in
    let fits = fits_under s right run r e at in
    let same : fits.head.0 ≡ head = one_there (numbered s.tree.records r) fits.head.0 head (ap (numbered s.tree.records) (sym key.1) ∙ fits.head.1) there in
    subst (λ (x : Record). IsSome x.receipt) same (fits.head.2 is)

-- entries that pass, each under its own run and record, are as the items of soundness say
pub entries_sound : (s : Office) → AreKeyed s.entries → All (λ e. is_entry_right s e ≡ true) (values s.entries) → EachHasOneEnding s.tree.statuses (values s.entries) → AreEntriesSound s
entries_sound s keyed right one = record { represent = represent s keyed right one; named = named s keyed right; transferred = receipted s keyed right }

fits_there : (s : Office) → length s.tree.statuses ≡ length s.tree.records → AreEntriesSound s → (run r : ℕ) (e : Entry) → get s.entries (run, r) ≡ Some e → FitsOffice s e
fits_there s many sound run r e at =
    let key = sound.represent.keyed run r e at in
    let names = sound.named run r e at in
    let it = numbered_there s.runs run names.run_there.0 names.run_there.1 in
    let head = numbered_there s.tree.records r names.record_there.0 names.record_there.1 in
    let status = numbered_there s.tree.statuses r names.record_there.0 (subst (λ n. r ≤ n) (sym many) names.record_there.1) in
    record {
      class = names.class;
      schedule = names.schedule;
      hold = names.hold;
      reported = sound.represent.holds run r e at;
      run = (it.0, ap (numbered s.runs) key.0 ∙ it.1, subst (λ n. n ≤ it.0.cursor) (sym key.1) (sound.represent.passed run r e it.0 at it.1));
      head = (head.0, ap (numbered s.tree.records) key.1 ∙ head.1, λ is. sound.transferred run r e head.0 at is head.1);
      status = (status.0, ap (numbered s.tree.statuses) key.1 ∙ status.1, λ ending. one_there (numbered s.tree.statuses r) status.0 Ended status.1 (sound.represent.no_other run r e at ending));
    }

all_right : (s : Office) → length s.tree.statuses ≡ length s.tree.records → AreEntriesSound s → All (λ e. is_entry_right s e ≡ true) (values s.entries)
all_right s many sound =
    All-weaker (Contains (values s.entries)) (λ e. is_entry_right s e ≡ true)
    (λ e among. let found = value_found s.entries e among in fits_right s e (fits_there s many sound found.0.0 found.0.1 e found.1))
    (values s.entries) (All-contains_itself (values s.entries))

one_each : (s : Office) → AreEntriesSound s → EachHasOneEnding s.tree.statuses (values s.entries)
one_each s sound = record {
  one = λ r at. let ending = sound.represent.ended r at in (ending.1, found_value s.entries (ending.0, r) ending.1 ending.2, (sound.represent.keyed ending.0 r ending.1 ending.2).1, ending.3);
  once = λ e f among too ending ends same.
      let found = value_found s.entries e among in
      let other = value_found s.entries f too in
      let key = sound.represent.keyed found.0.0 found.0.1 e found.1 in
      let other_key = sound.represent.keyed other.0.0 other.0.1 f other.1 in
      let record_no : found.0.1 ≡ other.0.1 = sym key.1 ∙ same ∙ other_key.1 in
      key.0 ∙ sound.represent.once found.0.0 other.0.0 found.0.1 e f found.1 (ap (λ n. get s.entries (other.0.0, n)) record_no ∙ other.1) ending ends ∙ sym other_key.0;
}

-- and entries that are as the items of soundness say pass
pub entries_tested : (s : Office) → length s.tree.statuses ≡ length s.tree.records → AreEntriesSound s → All (λ e. is_entry_right s e ≡ true) (values s.entries) × EachHasOneEnding s.tree.statuses (values s.entries)
entries_tested s many sound = (all_right s many sound, one_each s sound)
