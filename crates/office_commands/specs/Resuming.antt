-- How `resume` ends. Source: own.
use Rattle.std.specs.Fmt.{decimal}
use Rattle.std.specs.Prelude.{◌≡◌, ◌⊎◌, ℕ, List, ◌∷◌, [], ◌++◌, codes, Option}
use Rattle.sqlite.specs.State.{State as FileState}
use Rattle.office_base.specs.declared.refusal.Refusal.TheVariants as refused
use Rattle.office_rules.specs.State.{State}
use Rattle.office_desk.specs.Resumptions.{RunLeft, RunOutcome, none_open, run_closed, run_stopped}
use Rattle.office_commands.specs.Calling.{Reports}
use Rattle.office_commands.specs.declared.exit.Exit.{Exit}
use Rattle.office_commands.specs.declared.exit.Exit.TheVariants as how
use Rattle.office_commands.specs.Opening.{EndsOpenFailed, WasFound, WasOpened}

-- the line that reports the run that was closed
abbrev pub certificate_line : ℕ → List ℕ
certificate_line run = codes "certificate " ++ decimal run ++ 10 ∷ []

-- what a resumption came to is reported
abbrev pub IsRunReported : RunOutcome → Option (List ℕ) → Option (List ℕ) → Exit → Type 0
IsRunReported (run_closed run) written after exit = Reports (certificate_line run) how.Done written after exit
IsRunReported none_open written after exit = (exit ≡ how.Refused refused.NoRun) × (after ≡ written)
IsRunReported (run_stopped f) written after exit = (exit ≡ how.Fault f) × (after ≡ written)

-- the open run was resumed, and what that came to is reported; it came to it from the state at which the office was
pub record Resumes (Was : State → Type 0) (new : FileState) (written after : Option (List ℕ)) (exit : Exit) : Type 0
  where
    pub outcome : RunOutcome
    pub reported : IsRunReported outcome written after exit
    pub came : (s : State) → Was s → RunLeft outcome new s

-- `resume FILE`, by its exit
abbrev pub ResumeEnds : FileState → FileState → Option (List ℕ) → Option (List ℕ) → Exit → Type 0
ResumeEnds old new written after exit =
    EndsOpenFailed old new written after exit
    ⊎ WasOpened old new × Resumes (WasFound old new) new written after exit
