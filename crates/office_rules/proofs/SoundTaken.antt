-- What is so of the record that a step of a run takes from a sound office.
use Rattle.std.proofs.Common.{◌≡◌, ◌≢◌, ℕ, zero, suc, ◌+◌, ◌-◌, ◌<◌, ◌≤◌, length, Option, Some, None, refl, sym, ap, ◌∙◌, cond, Bool, true, false, arith}
use Rattle.std.specs.Prelude.{IsSome, ◌&&◌, int_le}
use Rattle.std.specs.Option.{option_and_then}
use Rattle.std.specs.List.{find}
use Rattle.office_records.specs.Disposal.{is_disposal, counts, confirmation_of}
use Rattle.office_records.specs.Lists.{numbered, numbers_after, is_some_and}
use Rattle.office_records.specs.Tree.{TreeState, action_of, due_of}
use Rattle.office_records.specs.declared.action.Action.{Action}
use Rattle.office_records.specs.declared.action.Action.TheVariants as action
use Rattle.office_records.specs.declared.head.Confirmation.{Confirmation}
use Rattle.office_records.specs.declared.head.Record.{Record}
use Rattle.office_records.specs.declared.status.Status.{Status}
use Rattle.office_records.specs.declared.status.Status.TheVariants.{Here, Sent, Received, Ended}
use Rattle.office_rules.specs.Holds.{is_held}
use Rattle.office_rules.specs.declared.outcome.Outcome.{Outcome}
use Rattle.office_rules.specs.declared.outcome.Outcome.TheVariants as outcome
use Rattle.office_rules.specs.Disposing.{may_begin, ready_by, outcome_by, outcome_of}
use Rattle.office_rules.specs.Meanings.{IsCandidate}
use Rattle.office_rules.specs.Runs.{cursor_of, run_day, next_ready}
use Rattle.office_rules.specs.Sound.{IsSound}
use Rattle.office_rules.specs.State.{State, Office}
use Rattle.office_rules.proofs.SoundMaps.{some_is, is_there}
use Rattle.office_rules.proofs.SoundPlans.{numbered_there}

-- ---- the record that is next

found_by : (test : ℕ → Bool) (b : Bool) (from count r : ℕ) → test (suc from) ≡ b → cond b (Some (suc from)) (find test (numbers_after (suc from) count)) ≡ Some r
    → (find test (numbers_after (suc from) count) ≡ Some r → (test r ≡ true) × (suc from < r) × (r ≤ suc from + count)) → (test r ≡ true) × (from < r) × (r ≤ from + suc count)
found_by test true from count r e found later = let same : suc from ≡ r = cc in (ap test (sym same) ∙ e, omega (arith, same), omega (arith, same))
found_by test false from count r e found later = let h = later found in (h.0, omega (arith, h.1), omega (arith, h.2))

-- a number that is found passes, and is one of those that are looked at
found_after : (test : ℕ → Bool) (from count r : ℕ) → find test (numbers_after from count) ≡ Some r → (test r ≡ true) × (from < r) × (r ≤ from + count)
found_after test from zero r found = absurd cc
found_after test from (suc count) r found = found_by test (test (suc from)) from count r refl found (found_after test (suc from) count r)

pub next_is : (s : Office) (run r : ℕ) → next_ready s run ≡ Some r → IsCandidate s run r
next_is s run r e =
    let h = found_after _ (cursor_of s run) (length s.tree.records - cursor_of s run) r e in
    record { above = h.1; there = omega (arith, h.1, h.2); ready = h.0 }

-- ---- what comes of it

-- a record that a step takes: it was here or received, it is confirmed, and what comes of it fits its status
pub record IsTaken (s : State) (run r : ℕ) (head : Record) (was : Status) (confirmation : Confirmation) (o : Outcome) : Type 0 where
  pub above : cursor_of s.office run < r
  pub there : numbered s.office.tree.records r ≡ Some head
  pub status : numbered s.office.tree.statuses r ≡ Some was
  pub not_ended : was ≢ Ended
  pub confirmed : head.confirmation ≡ Some confirmation
  pub comes : outcome_of s.office r ≡ Some o
  pub received : o ≡ outcome.Transferred → was ≡ Received
  pub held : o ≡ outcome.Skipped → is_held s.office.holds s.office.tree r ≡ true

-- what a step takes
abbrev pub Taken : State → ℕ → ℕ → Type 0
Taken s run r = (head : Record) × (was : Status) × (confirmation : Confirmation) × (o : Outcome) × IsTaken s run r head was confirmation o

both : (a b : Bool) → (a && b) ≡ true → (a ≡ true) × (b ≡ true)
both true b e = (refl, e)
both false b e = absurd cc

-- a test that holds of what is there
pub holds_is : {A : Type 0} (o : Option A) (test : A → Bool) → is_some_and o test ≡ true → (x : A) × (o ≡ Some x) × (test x ≡ true)
holds_is None test e = absurd cc
holds_is (Some x) test e = (x, refl, e)

-- what may come of a record of that status
record IsOutcome (was : Status) (covered : Bool) (o : Outcome) : Type 0 where
  pub not_ended : was ≢ Ended
  pub received : o ≡ outcome.Transferred → was ≡ Received
  pub held : o ≡ outcome.Skipped → covered ≡ true

abbrev Comes : Status → Option Action → Bool → Type 0
Comes was plan held = (o : Outcome) × (outcome_by (Some was) plan held ≡ Some o) × IsOutcome was held o

here_not_ended : Here ≢ Ended
here_not_ended e = absurd cc

received_not_ended : Received ≢ Ended
received_not_ended e = absurd cc

comes_here : (a : Action) (held : Bool) → is_disposal a ≡ true → Comes Here (Some a) held
comes_here action.Keep held e = absurd cc
comes_here action.Review held e = absurd cc
comes_here action.Transfer held e = (outcome.Sent, refl, record { not_ended = here_not_ended; received = λ is. absurd cc; held = λ is. absurd cc })
comes_here action.Destroy true e = (outcome.Skipped, refl, record { not_ended = here_not_ended; received = λ is. absurd cc; held = λ is. refl })
comes_here action.Destroy false e = (outcome.Destroyed, refl, record { not_ended = here_not_ended; received = λ is. absurd cc; held = λ is. absurd cc })

comes_received : (plan : Option Action) (held : Bool) → Comes Received plan held
comes_received plan true = (outcome.Skipped, refl, record { not_ended = received_not_ended; received = λ is. refl; held = λ is. refl })
comes_received plan false = (outcome.Transferred, refl, record { not_ended = received_not_ended; received = λ is. refl; held = λ is. absurd cc })

-- the parts of what is taken
taken_of : (s : State) (run r : ℕ) (head : Record) (was : Status) → cursor_of s.office run < r → numbered s.office.tree.records r ≡ Some head → numbered s.office.tree.statuses r ≡ Some was
    → IsSome head.confirmation → Comes was (action_of s.office.tree r) (is_held s.office.holds s.office.tree r) → Taken s run r
taken_of s run r head was above there status confirmed (o, comes, is) =
    let confirmation = some_is head.confirmation confirmed in (
      head,
      was,
      confirmation.0,
      o,
      record {
        above = above;
        there = there;
        status = status;
        not_ended = is.not_ended;
        confirmed = confirmation.1;
        comes = ap (λ old. outcome_by old (action_of s.office.tree r) (is_held s.office.holds s.office.tree r)) status ∙ comes;
        received = is.received;
        held = is.held;
      },
    )

-- a record that counts as confirmed has a confirmation
confirmed_head : (tree : TreeState) (r : ℕ) (head : Record) → numbered tree.records r ≡ Some head → counts tree r ≡ true → IsSome head.confirmation
confirmed_head tree r head e h = let is = holds_is (confirmation_of tree r) _ h in is_there head.confirmation is.0 (sym (ap (option_and_then (λ (x : Record). x.confirmation)) e) ∙ is.1)

taken_here : (s : State) (run r : ℕ) (head : Record) → cursor_of s.office run < r → numbered s.office.tree.records r ≡ Some head → numbered s.office.tree.statuses r ≡ Some Here
    → may_begin s.office.tree r (run_day s.office run) ≡ true → Taken s run r
taken_here s run r head above there status may =
    let due = is_some_and (due_of s.office.tree r) (λ due. int_le due (run_day s.office run)) in
    let begins = both (is_some_and (action_of s.office.tree r) is_disposal && due) (counts s.office.tree r) may in
    let plan = holds_is (action_of s.office.tree r) is_disposal (both (is_some_and (action_of s.office.tree r) is_disposal) due begins.0).0 in
    let comes = comes_here plan.0 (is_held s.office.holds s.office.tree r) plan.2 in
    taken_of s run r head Here above there status (confirmed_head s.office.tree r head there begins.1)
    (comes.0, ap (λ a. outcome_by (Some Here) a (is_held s.office.holds s.office.tree r)) plan.1 ∙ comes.1, comes.2)

taken_by : (s : State) (run r : ℕ) (head : Record) (was : Option Status) → IsSound s → cursor_of s.office run < r → numbered s.office.tree.records r ≡ Some head → numbered s.office.tree.statuses r ≡ was
    → ready_by was (may_begin s.office.tree r (run_day s.office run)) ≡ true → Taken s run r
taken_by s run r head None sound above there status ready = absurd cc
taken_by s run r head (Some Here) sound above there status ready = taken_here s run r head above there status ready
taken_by s run r head (Some Sent) sound above there status ready = absurd cc
taken_by s run r head (Some Received) sound above there status ready =
    taken_of s run r head Received above there status (sound.documents.confirmed r head Received there status (λ e. absurd cc)) (comes_received (action_of s.office.tree r) (is_held s.office.holds s.office.tree r))
taken_by s run r head (Some Ended) sound above there status ready = absurd cc

pub taken : (s : State) (run r : ℕ) → IsSound s → next_ready s.office run ≡ Some r → Taken s run r
taken s run r sound e =
    let next = next_is s.office run r e in
    let head = numbered_there s.office.tree.records r (omega (arith, next.above)) next.there in
    taken_by s run r head.0 (numbered s.office.tree.statuses r) sound next.above head.1 refl next.ready
