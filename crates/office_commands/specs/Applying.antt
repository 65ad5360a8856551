-- How `apply` ends. Source: own.
use Rattle.std.specs.Prelude.{◌≡◌, ◌⊎◌, ℕ, List, IfSome, Option, Ok, Err}
use Rattle.sqlite.specs.Held.{Held, state}
use Rattle.sqlite.specs.State.{State as FileState}
use Rattle.sqlite_trees.specs.declared.store.Store.{Ghosts}
use Rattle.office_rules.specs.Rows.{rows_of}
use Rattle.office_rules.specs.State.{State}
use Rattle.office_rules.specs.declared.act.Act.{Act}
use Rattle.office_store.specs.RepresentsRows.{ContainsRows}
use Rattle.office_store.specs.declared.fault.Fault.TheVariants as fault
use Rattle.office_desk.specs.Outcomes.{ActsCameTo, ActsOutcome, answers_of}
use Rattle.office_json.specs.Answers.{answer_lines}
use Rattle.office_json.specs.Lists.{NoActs, acts_in, not_json, bad_act}
use Rattle.office_commands.specs.Calling.{Reports}
use Rattle.office_commands.specs.ExitStatuses.{exit_of_acts}
use Rattle.office_commands.specs.declared.exit.Exit.{Exit}
use Rattle.office_commands.specs.declared.exit.Exit.TheVariants as how
use Rattle.office_commands.specs.Opening.{EndsOpenFailed, WasFound, WasOpened}

-- acts were performed, and what they came to is reported; they came to it from the state at which the office was
pub record Performs (Was : State → Type 0) (acts : List Act) (new : FileState) (written after : Option (List ℕ))
    (exit : Exit) : Type 0 where
  pub outcome : ActsOutcome
  pub reported : Reports (answer_lines (answers_of outcome)) (exit_of_acts outcome) written after exit
  pub came : (s : State) → Was s → ActsCameTo s acts outcome new

-- how a text that is no list of acts is reported
abbrev pub exit_of_none : NoActs → Exit
exit_of_none not_json = how.NotJson
exit_of_none (bad_act place refusal) = how.ActRefused place refusal

-- that was reported, or memory ran out to read it
abbrev pub IsUnread : List ℕ → Exit → Type 0
IsUnread text exit =
    ((why : NoActs) × (acts_in text ≡ Err why) × (exit ≡ exit_of_none why)) ⊎ (exit ≡ how.Fault fault.Memory)

-- the text was not read as acts, which is reported, and nothing was done
pub record IsNotPerformed (Was : State → Type 0) (text : List ℕ) (new : FileState) (written after : Option (List ℕ))
    (exit : Exit) : Type 0 where
  pub why : IsUnread text exit
  pub rows : (s : State) → Was s → ContainsRows (rows_of s) new
  pub silent : after ≡ written

-- that, or the acts of the text were performed; the office was at a state of this kind
abbrev pub Applies : (State → Type 0) → List ℕ → FileState → Option (List ℕ) → Option (List ℕ) → Exit → Type 0
Applies Was text new written after exit =
    IsNotPerformed Was text new written after exit
    ⊎ ((acts : List Act) × (acts_in text ≡ Ok acts) × Performs Was acts new written after exit)

-- `apply FILE ACTS` once the text of acts was read, by the exit
abbrev pub TextEnds : List ℕ → FileState → FileState → Option (List ℕ) → Option (List ℕ) → Exit → Type 0
TextEnds text old new written after exit =
    EndsOpenFailed old new written after exit
    ⊎ WasOpened old new × Applies (WasFound old new) text new written after exit

-- the text of acts was not read to its end, or memory ran out for it, and nothing was done
abbrev pub IsNoText : {S : Type 0} → Held S → Held S → Option (List ℕ) → Option (List ℕ) → Exit → Type 0
IsNoText old new written after exit =
    ((exit ≡ how.File) ⊎ (exit ≡ how.Fault fault.Memory)) × (new ≡ old) × (after ≡ written)

-- `apply FILE ACTS`, by the exit, where the reader reports the text
abbrev pub ApplyEnds : {S : Type 0} → Ghosts S → Option (List ℕ) → Held S → Held S → Option (List ℕ) → Option (List ℕ)
    → Exit → Type 0
ApplyEnds g text old new written after exit =
    IfSome text
    (λ it. IsNoText old new written after exit ⊎ TextEnds it (state g old) (state g new) written after exit)
