-- What the outcome of a step rests on: the status, the plan and the holds of the record just before it.
use Rattle.std.proofs.Common.{◌≡◌, inl, inr, ℕ, ◌≤ℤ◌, ◌&&◌, ℤ, Bool, true, false, Option, Some, None, refl, sym, subst, int_le, option_and_then, arith}
use Rattle.std.specs.Prelude.{IsSome}
use Rattle.std.proofs.lemmas.Bool.{and_parts}
use Rattle.std.proofs.lemmas.Int.{ints}
use Rattle.office_records.specs.Disposal.{counts, is_disposal}
use Rattle.office_records.specs.Lists.{is_some_and, numbered}
use Rattle.office_records.specs.Tree.{TreeState, action_of, due_of, status_of}
use Rattle.office_records.specs.declared.action.Action.{Action}
use Rattle.office_records.specs.declared.action.Action.TheVariants as action
use Rattle.office_records.specs.declared.head.Record.{Record}
use Rattle.office_records.specs.declared.status.Status.{Status}
use Rattle.office_records.specs.declared.status.Status.TheVariants as status
use Rattle.office_rules.specs.Disposing.{may_begin, outcome_by, outcome_of, ready_by}
use Rattle.office_rules.specs.Holds.{is_held}
use Rattle.office_rules.specs.Runs.{next_ready, run_day}
use Rattle.office_rules.specs.Sound.{IsSound}
use Rattle.office_rules.specs.State.{State}
use Rattle.office_rules.specs.declared.outcome.Outcome.{Outcome}
use Rattle.office_rules.specs.declared.outcome.Outcome.TheVariants as outcome
use Rattle.office_rules.proofs.SoundTaken.{holds_is, next_is}
use Rattle.office_evidence.specs.Truth.{IsWarranted, WasDue, WasReceived}

le_of : (a b : ℤ) → int_le a b ≡ true → a ≤ℤ b
le_of a b e = grind (arith, ints)

same_outcome : (o p : Outcome) → Some o ≡ Some p → o ≡ p
same_outcome o p e = cc

-- what was due
was_due : (tree : TreeState) (r : ℕ) (day : ℤ) (planned : Action) → status_of tree r ≡ Some status.Here → action_of tree r ≡ Some planned → may_begin tree r day ≡ true → WasDue tree r day planned
was_due tree r day planned here plan may =
    let due_test = is_some_and (due_of tree r) (λ due. int_le due day) in
    let parts = and_parts (is_some_and (action_of tree r) is_disposal && due_test) (counts tree r) may in
    let due = holds_is (due_of tree r) (λ (due : ℤ). int_le due day) (and_parts (is_some_and (action_of tree r) is_disposal) due_test parts.0).1 in
    record { here = here; action = plan; due = (due.0, due.1, le_of due.0 day due.2); confirmed = parts.1 }

module _ (s : State) (r : ℕ) (day : ℤ) (o : Outcome) where
  abbrev Warranted : Outcome → Type 0
  Warranted p = IsWarranted s.office day r p

  by_outcome : (p : Outcome) → Some p ≡ Some o → Warranted p → Warranted o
  by_outcome p same is = subst Warranted (same_outcome p o same) is

  destroyed_by : (held : Bool) → is_held s.office.holds s.office.tree r ≡ held → WasDue s.office.tree r day action.Destroy → outcome_by (Some status.Here) (Some action.Destroy) held ≡ Some o → Warranted o
  destroyed_by true covered was comes = by_outcome outcome.Skipped comes (inl was, covered)
  destroyed_by false free was comes = by_outcome outcome.Destroyed comes (was, free)

  here_by : (plan : Option Action) → action_of s.office.tree r ≡ plan → status_of s.office.tree r ≡ Some status.Here → may_begin s.office.tree r day ≡ true
      → outcome_by (Some status.Here) plan (is_held s.office.holds s.office.tree r) ≡ Some o → Warranted o
  here_by None plan here may comes = absurd cc
  here_by (Some action.Keep) plan here may comes = absurd cc
  here_by (Some action.Review) plan here may comes = absurd cc
  here_by (Some action.Transfer) plan here may comes = by_outcome outcome.Sent comes (was_due s.office.tree r day action.Transfer here plan may)
  here_by (Some action.Destroy) plan here may comes =
      destroyed_by (is_held s.office.holds s.office.tree r) refl (was_due s.office.tree r day action.Destroy here plan may) comes

  received_by : (held : Bool) → is_held s.office.holds s.office.tree r ≡ held → WasReceived s.office.tree r → outcome_by (Some status.Received) (action_of s.office.tree r) held ≡ Some o → Warranted o
  received_by true covered was comes = by_outcome outcome.Skipped comes (inr was, covered)
  received_by false free was comes = by_outcome outcome.Transferred comes (was, free)

  status_by : (was : Option Status) → status_of s.office.tree r ≡ was → IsSound s → (head : Record) → numbered s.office.tree.records r ≡ Some head → ready_by was (may_begin s.office.tree r day) ≡ true
      → outcome_by was (action_of s.office.tree r) (is_held s.office.holds s.office.tree r) ≡ Some o → Warranted o
  status_by None is sound head there ready comes = absurd cc
  status_by (Some status.Here) is sound head there ready comes = here_by (action_of s.office.tree r) refl is ready comes
  status_by (Some status.Sent) is sound head there ready comes = absurd cc
  status_by (Some status.Ended) is sound head there ready comes = absurd cc
  status_by (Some status.Received) is sound head there ready comes =
      let receipt : IsSome (option_and_then (λ (it : Record). it.receipt) (numbered s.office.tree.records r)) =
      subst (λ (x : Option Record). IsSome (option_and_then (λ (it : Record). it.receipt) x)) (sym there) (sound.documents.received r head there is) in
      received_by (is_held s.office.holds s.office.tree r) refl (record { status = is; receipt = receipt }) comes

-- what comes of the record that is next in a sound office is warranted
pub warranted : (s : State) (run r : ℕ) (head : Record) (o : Outcome) → IsSound s → next_ready s.office run ≡ Some r → numbered s.office.tree.records r ≡ Some head → outcome_of s.office r ≡ Some o → IsWarranted s.office (run_day s.office run) r o
warranted s run r head o sound next there comes =
    status_by s r (run_day s.office run) o (status_of s.office.tree r) refl sound head there (next_is s.office run r next).ready comes
