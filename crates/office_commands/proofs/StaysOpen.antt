-- A command that exits without a fault leaves its connection open.
use Rattle.std.proofs.Common.{◌≡◌, ◌∙◌, inl, inr, ℕ, ℤ, List, Option, Some, Result, IsTrue, ap, sym, subst}
use Rattle.std.specs.Prelude.{option_map}
use Rattle.csv.specs.Reading.{strip_bom}
use Rattle.sqlite.specs.Held.{Held, state}
use Rattle.sqlite.specs.State.{State as FileState}
use Rattle.sqlite_trees.specs.declared.store.Store.{Ghosts}
use Rattle.office_rules.specs.State.{Office, State}
use Rattle.office_rules.specs.declared.act.Act.{Act}
use Rattle.office_rules.specs.declared.answer.Answer.{Answer}
use Rattle.office_desk.specs.Outcomes.{ActsCameTo, ActsOutcome, all_done, answers_of, stopped}
use Rattle.office_desk.specs.Resumptions.{RunLeft, RunOutcome, none_open, run_closed, run_stopped}
use Rattle.office_json.specs.Answers.{answer_lines}
use Rattle.office_wire.specs.declared.record_import.ImportStop.{ImportStop}
use Rattle.office_csv.specs.ImportRows.{Fields}
use Rattle.office_wire.specs.Importing.{ImportEnd, result_by, row_stopped}
use Rattle.office_command_line.specs.Orders as command
use Rattle.office_command_line.specs.Orders.{Command}
use Rattle.office_commands.specs.Applying.{TextEnds}
use Rattle.office_commands.specs.Calling.{Reports}
use Rattle.office_commands.specs.ExitStatuses.{exit_of_acts}
use Rattle.office_commands.specs.FileAlone.{IsFaultless}
use Rattle.office_commands.specs.Importing.{AreImported, ImportEnds, ImportLeaves, exit_of_import}
use Rattle.office_commands.specs.Opening.{EndsOpenFailed, IsOpened, WasFound}
use Rattle.office_commands.specs.Resuming.{IsRunReported, ResumeEnds}
use Rattle.office_commands.specs.Running.{RunEnds}
use Rattle.office_commands.specs.declared.exit.Exit.{Exit}

module _ (old new : FileState) (s : State) (was : WasFound old new s) (written after : Option (List ℕ)) (exit : Exit) (fine : IsFaultless exit) where
  abbrev IsOn : Type 0
  IsOn = IsTrue new.is_open

  not_opened : EndsOpenFailed old new written after exit → IsOn
  not_opened none = absurd (fine.0 none.0 none.1)

  -- ---- apply

  came_on : (acts : List Act) (o : ActsOutcome) → Reports (answer_lines (answers_of o)) (exit_of_acts o) written after exit → ActsCameTo s acts o new → IsOn
  came_on acts (all_done replies) reported it = it.leaves.rows.rest.is_open
  came_on acts (stopped replies f) (inl all) it = absurd (fine.0 f all.1)
  came_on acts (stopped replies f) (inr some) it = absurd (fine.1 some.1)

  text_on : (text : List ℕ) → TextEnds text old new written after exit → IsOn
  text_on text (inl none) = not_opened none
  text_on text (inr (opened, inl it)) = (it.rows s was).rest.is_open
  text_on text (inr (opened, inr it)) = came_on it.0 it.2.outcome it.2.reported (it.2.came s was)

  -- ---- import

  imported_by : (day : ℤ) (rows : List Fields) (replies : List Answer) (why : ImportEnd) (u : State) → exit ≡ exit_of_import (result_by rows replies why) → ImportLeaves day u why new → IsOn
  imported_by day rows replies (row_stopped row f) u is left = absurd (fine.0 f is)
  imported_by day rows replies why u is left = left.rest.is_open

  imported_on : (day : ℤ) (text : Option (List ℕ)) (done : Result ℕ ImportStop) → exit ≡ exit_of_import done → AreImported day text done new written after s → IsOn
  imported_on day text done is (o, u, gives, came, left) = imported_by day o.rows o.answers o.why u (is ∙ ap exit_of_import gives) left

  import_on : (day : ℤ) (text : Option (List ℕ)) → ImportEnds day text old new written after exit → IsOn
  import_on day text (inl none) = not_opened none
  import_on day text (inr (found, (done, is, it))) = imported_on day (option_map strip_bom text) done is (it s was)

  -- ---- resume

  run_on : (o : RunOutcome) → RunLeft o new s → IsRunReported o written after exit → IsOn
  run_on (run_closed run) it reported = it.leaves.rest.is_open
  run_on none_open it reported = it.leaves.rest.is_open
  run_on (run_stopped f) it reported = absurd (fine.0 f reported.0)

  resume_on : ResumeEnds old new written after exit → IsOn
  resume_on (inl none) = not_opened none
  resume_on (inr (opened, it)) = run_on it.outcome (it.came s was) it.reported

  -- ---- the readings

  opened_on : (office : Office) → IsOpened old new office → IsOn
  opened_on office it = (it.rows s was).rest.is_open

-- ---- each command

module _ {S : Type 0} (g : Ghosts S) (old new : Held S) (s : State) (on : IsTrue (state g old).is_open) (was : WasFound (state g old) (state g new) s)
    (text : List ℕ) (written after : Option (List ℕ)) (exit : Exit) (fine : IsFaultless exit) where
  same_on : new ≡ old → IsTrue (state g new).is_open
  same_on same = subst (λ (h : Held S). IsTrue (state g h).is_open) (sym same) on

  reading_on : EndsOpenFailed (state g old) (state g new) written after exit → IsTrue (state g new).is_open
  reading_on none = not_opened (state g old) (state g new) s was written after exit fine none

  done_on : (office : Office) → IsOpened (state g old) (state g new) office → IsTrue (state g new).is_open
  done_on office it = opened_on (state g old) (state g new) s was written after exit fine office it

  pub command_on : (order : Command) → RunEnds g order (Some text) old new written after exit → IsTrue (state g new).is_open
  command_on command.nothing it = same_on it.1
  command_on (command.due unit count offset day) it = same_on it.1
  command_on (command.plan file) it = same_on it.1
  command_on (command.serve file port count) it = same_on it.1
  command_on (command.gate file port count access token journal) it = same_on it.1
  command_on (command.init file) (inl none) = reading_on none
  command_on (command.init file) (inr it) = done_on it.0 it.1
  command_on (command.apply file acts) (inl none) = same_on none.1
  command_on (command.apply file acts) (inr it) = text_on (state g old) (state g new) s was written after exit fine text it
  command_on (command.import file day csv) it = import_on (state g old) (state g new) s was written after exit fine day (Some text) it
  command_on (command.overdue file day n) (inl none) = reading_on none
  command_on (command.overdue file day n) (inr it) = done_on it.0 it.1
  command_on (command.export file register) (inl none) = reading_on none
  command_on (command.export file register) (inr it) = done_on it.0 it.1
  command_on (command.resume file) it = resume_on (state g old) (state g new) s was written after exit fine it
  command_on (command.certificate file run) (inl none) = reading_on none
  command_on (command.certificate file run) (inr it) = done_on it.0 it.1
