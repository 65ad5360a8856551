-- How a command on the office in a file ends. Source: own.
use Rattle.std.specs.Prelude.{◌≡◌, ℕ, List, ◌∷◌, [], ◌++◌, codes, Option}
use Rattle.std.specs.Fmt.{decimal}
use Rattle.sqlite.specs.Held.{Held, state}
use Rattle.sqlite.specs.State.{State as FileState}
use Rattle.sqlite_trees.specs.declared.store.Store.{Ghosts}
use Rattle.office_command_line.specs.Orders as command
use Rattle.office_command_line.specs.Orders.{Command}
use Rattle.office_command_line.specs.declared.register.Register.TheVariants as register
use Rattle.office_commands.specs.declared.exit.Exit.{Exit}
use Rattle.office_commands.specs.declared.exit.Exit.TheVariants as how
use Rattle.office_commands.specs.Applying.{ApplyEnds}
use Rattle.office_commands.specs.Certifying.{CertificateEnds}
use Rattle.office_commands.specs.Exporting.{ExportEnds}
use Rattle.office_commands.specs.Importing.{ImportEnds}
use Rattle.office_commands.specs.Making.{InitEnds}
use Rattle.office_commands.specs.Resuming.{ResumeEnds}

-- the line that reports where a service listens
abbrev pub listening_line : ℕ → List ℕ
listening_line port = codes "listening 127.0.0.1:" ++ decimal port ++ 10 ∷ []

-- nothing is done
abbrev pub IsNotRun : {S : Type 0} → Held S → Held S → Option (List ℕ) → Option (List ℕ) → Exit → Type 0
IsNotRun old new written after exit = (exit ≡ how.BadWords) × (new ≡ old) × (after ≡ written)

-- how a command ends, by what the connections show
abbrev pub Shown : {S : Type 0} → Ghosts S
    → (FileState → FileState → Option (List ℕ) → Option (List ℕ) → Exit → Type 0) → Held S → Held S → Option (List ℕ)
    → Option (List ℕ) → Exit → Type 0
Shown g Ends old new written after exit = Ends (state g old) (state g new) written after exit

-- what a command does, by its exit, where the reader reports the text that it reads; a command that is not run over a
-- connection is none here, and nothing is done
abbrev pub RunEnds : {S : Type 0} → Ghosts S → Command → Option (List ℕ) → Held S → Held S → Option (List ℕ)
    → Option (List ℕ) → Exit → Type 0
RunEnds g command.nothing text = IsNotRun
RunEnds g (command.due unit count offset day) text = IsNotRun
RunEnds g (command.plan file) text = IsNotRun
RunEnds g (command.serve file port count) text = IsNotRun
RunEnds g (command.gate file port count access token journal) text = IsNotRun
RunEnds g (command.init file) text = Shown g InitEnds
RunEnds g (command.apply file acts) text = ApplyEnds g text
RunEnds g (command.import file day csv) text = Shown g (ImportEnds day text)
RunEnds g (command.overdue file day n) text = Shown g (ExportEnds (register.Overdue day n))
RunEnds g (command.export file it) text = Shown g (ExportEnds it)
RunEnds g (command.resume file) text = Shown g ResumeEnds
RunEnds g (command.certificate file run) text = Shown g (CertificateEnds run)
