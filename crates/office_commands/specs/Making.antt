-- How `init` ends. Source: own.
use Rattle.std.specs.Prelude.{◌⊎◌, ℕ, List, ◌∷◌, [], ◌++◌, codes, Option}
use Rattle.sqlite.specs.State.{State as FileState}
use Rattle.office_rules.specs.State.{Office}
use Rattle.office_commands.specs.Calling.{Reports}
use Rattle.office_commands.specs.Opening.{EndsOpenFailed, IsOpened}
use Rattle.office_commands.specs.declared.exit.Exit.{Exit}
use Rattle.office_commands.specs.declared.exit.Exit.TheVariants as how

-- the line that reports the version of the office's file
abbrev pub version_line : List ℕ
version_line = codes "version 2" ++ 10 ∷ []

-- `init FILE`: the office was not opened, and nothing is written; or it was, and the version is reported
abbrev pub InitEnds : FileState → FileState → Option (List ℕ) → Option (List ℕ) → Exit → Type 0
InitEnds old new written after exit =
    EndsOpenFailed old new written after exit
    ⊎ ((office : Office) × IsOpened old new office × Reports version_line how.Done written after exit)
