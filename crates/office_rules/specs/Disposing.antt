-- Which records are ready for a disposal run, and what comes of them. Source: MoReq2010, its disposal scheduling and
-- disposal holding services; statuses, outcomes and entries are own.
use Rattle.std.specs.Prelude.{ℕ, Bool, true, false, ◌&&◌, List, [], Option, Some, None, ℤ, int_le, if◌then◌else◌}
use Rattle.std.specs.Option.{unwrap_or, option_map}
use Rattle.office_records.specs.Disposal.{is_disposal, counts, confirmation_of}
use Rattle.office_records.specs.Lists.{is_some_and}
use Rattle.office_records.specs.Tree.{TreeState, class_of, plan_of, action_of, due_of, status_of}
use Rattle.office_records.specs.declared.action.Action.{Action}
use Rattle.office_records.specs.declared.action.Action.TheVariants as action
use Rattle.office_records.specs.declared.status.Status.{Status}
use Rattle.office_records.specs.declared.status.Status.TheVariants as status
use Rattle.office_rules.specs.Holds.{is_held, least_covering}
use Rattle.office_rules.specs.declared.entry.Entry.{Entry}
use Rattle.office_rules.specs.declared.outcome.Outcome.{Outcome}
use Rattle.office_rules.specs.declared.outcome.Outcome.TheVariants as outcome
use Rattle.office_rules.specs.State.{Office}

-- its action is to transfer or to destroy, it is due, and its confirmation counts
abbrev pub may_begin : TreeState → ℕ → ℤ → Bool
may_begin tree r day =
    is_some_and (action_of tree r) is_disposal && is_some_and (due_of tree r) (λ due. int_le due day) && counts tree r

abbrev pub ready_by : Option Status → Bool → Bool
ready_by (Some status.Here) may = may
ready_by (Some status.Sent) may = false
ready_by (Some status.Received) may = true
ready_by (Some status.Ended) may = false
ready_by None may = false

-- a record is ready for a run of that day where it is here and may begin, or where it is received
abbrev pub is_ready : Office → ℤ → ℕ → Bool
is_ready s day r = ready_by (status_of s.tree r) (may_begin s.tree r day)

-- what comes of a record, by its status, its plan's action and whether it is held: to transfer sends it, held or not;
-- what is to be ended is skipped while it is held
abbrev pub outcome_by : Option Status → Option Action → Bool → Option Outcome
outcome_by (Some status.Here) (Some action.Transfer) held = Some outcome.Sent
outcome_by (Some status.Here) (Some action.Destroy) held = Some (if held then outcome.Skipped else outcome.Destroyed)
outcome_by (Some status.Received) plan held = Some (if held then outcome.Skipped else outcome.Transferred)
outcome_by _ _ _ = None

abbrev pub outcome_of : Office → ℕ → Option Outcome
outcome_of s r = outcome_by (status_of s.tree r) (action_of s.tree r) (is_held s.holds s.tree r)

-- a hold is reported of a skipped record alone
abbrev pub hold_by : Outcome → Option (List ℕ) → Option (List ℕ)
hold_by outcome.Skipped hold = hold
hold_by _ hold = None

-- the entry of a ready record, which has a class, a plan and a confirmation
abbrev pub entry_of : Office → ℕ → ℕ → Outcome → Entry
entry_of s run r o = record {
  run = run;
  record_no = r;
  outcome = o;
  class = unwrap_or (class_of s.tree r) [];
  schedule = unwrap_or (plan_of s.tree r) [];
  due = unwrap_or (option_map (λ confirmation. confirmation.due) (confirmation_of s.tree r)) s.day;
  confirmed_by = unwrap_or (option_map (λ confirmation. confirmation.by) (confirmation_of s.tree r)) [];
  hold = hold_by o (least_covering s.holds s.tree r);
}
