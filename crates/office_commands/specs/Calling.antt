-- How a command is reported. Source: own.
use Rattle.std.specs.Prelude.{◌≡◌, ◌⊎◌, ℕ, List, Option}
use Rattle.std.specs.Io.KnownBytes.{Appends}
use Rattle.office_base.specs.Output.{AppendsSome}
use Rattle.office_commands.specs.ExitStatuses.{exit_status}
use Rattle.office_commands.specs.declared.exit.Exit.{Exit}
use Rattle.office_commands.specs.declared.exit.Exit.TheVariants as how

-- these lines are written, and this is the exit; or the writer failed, and their first bytes went out, or none
abbrev pub Reports : List ℕ → Exit → Option (List ℕ) → Option (List ℕ) → Exit → Type 0
Reports lines last written after exit =
    Appends written after lines × (exit ≡ last) ⊎ AppendsSome written after lines × (exit ≡ how.File)

-- the status is that of an exit, and a command ended so
pub record Exits (status : ℕ) (Ends : Exit → Type 0) : Type 0 where
  pub exit : Exit
  pub is : status ≡ exit_status exit
  pub ends : Ends exit
