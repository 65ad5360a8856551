-- Whom the evidence in an office's file names, if gates alone acted on it. Source: own.
use Rattle.std.specs.Prelude.{◌≡◌, ℕ, List, [], ◌∷◌, Some}
use Rattle.std.specs.FinMap.{get}
use Rattle.std.specs.List.{Contains}
use Rattle.sqlite_wal.specs.Recovery.{Image}
use Rattle.sqlite.specs.Files.{IsNothing}
use Rattle.office_access.specs.Deeds.{Deed, acts_of}
use Rattle.office_rules.specs.Acts.{after as after_acts}
use Rattle.office_rules.specs.State.{empty_state}
use Rattle.office_life.specs.Standing.{Stage, StandsAt, unmade}
use Rattle.office_command_line.specs.Orders as command
use Rattle.office_command_line.specs.Orders.{Command}
use Rattle.office_evidence.specs.Truth.{IsBetween, IsTrueCertificate}
use Rattle.office_evidence.specs.declared.parsed.EntryLine.{EntryLine}
use Rattle.office_guard.specs.ByRights.{AllByRights}
use Rattle.office_guard.specs.SignedLines.{IsSignedLine, IsSignedOpening}
use Rattle.office_commands.specs.FileHistory.{FileHistory, ProgramRun, ran_command, ran_gate, ran_service}

-- a command that changes no office
abbrev pub ChangesNothing : Command → Type 0
ChangesNothing (command.apply file acts) = ⊥
ChangesNothing (command.import file day csv) = ⊥
ChangesNothing (command.resume file) = ⊥
ChangesNothing _ = Unit {0}

-- a gate, or a command that changes no office
abbrev pub AsksForNames : ProgramRun → Type 0
AsksForNames (ran_gate first port count written after exit) = Unit {0}
AsksForNames (ran_command order text written after exit) = ChangesNothing order
AsksForNames (ran_service port count written after exit) = ⊥

abbrev pub GatesAloneAct : List ProgramRun → Type 0
GatesAloneAct [] = Unit {0}
GatesAloneAct (run ∷ runs) = AsksForNames run × GatesAloneAct runs

-- A certificate is true of the deeds, and complete. It names whoever signed in to open the run, and each line of it
-- whoever signed in to confirm the record, before the step that took it.
pub record IsSignedCertificate (deeds : List Deed) (run : ℕ) (text : List ℕ) : Type 0 where
  pub certificate : IsTrueCertificate empty_state (acts_of deeds) run text
  pub opening : IsSignedOpening deeds certificate.is_true.opening certificate.certificate.day certificate.certificate.by
  pub lines : (line : EntryLine) → Contains certificate.certificate.entries line
      → (place : ℕ) × IsBetween certificate.is_true.opening certificate.is_true.closing place
      × IsSignedLine deeds place line

-- the files stand for the office after deeds that were each done by right, and each certificate in it names who signed in
pub record AreSignedFiles (deeds : List Deed) (stage : Stage) (image : Image) : Type 0 where
  pub by_right : AllByRights empty_state deeds
  pub stands : StandsAt stage image (after_acts empty_state (acts_of deeds))
  pub certificates : (run : ℕ) (text : List ℕ)
      → get (after_acts empty_state (acts_of deeds)).office.certificates run ≡ Some text
      → IsSignedCertificate deeds run text

-- after runs from no file on, of which gates alone acted
abbrev pub FilesNameWhoSignedIn : Type 0
FilesNameWhoSignedIn =
    (first : Image) (runs : List ProgramRun) (stage : Stage) (image : Image) → IsNothing first
    → FileHistory unmade first runs stage image → GatesAloneAct runs
    → ∥ ((deeds : List Deed) × AreSignedFiles deeds stage image) ∥₁
