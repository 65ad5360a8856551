-- What an office's file is true of, after any number of runs of the program. Source: own.
use Rattle.std.specs.Prelude.{◌≡◌, ◌<◌, ℕ, List, length, Option, Some}
use Rattle.std.specs.FinMap.{get}
use Rattle.std.specs.Io.KnownBytes.{Appends}
use Rattle.sqlite_wal.specs.Recovery.{Image}
use Rattle.sqlite.specs.Files.{IsNothing}
use Rattle.office_records.specs.Lists.{numbered}
use Rattle.office_rules.specs.Acts.{after as after_acts}
use Rattle.office_rules.specs.Forms.{AreWellFormed}
use Rattle.office_rules.specs.Sound.{IsSound}
use Rattle.office_rules.specs.State.{State, empty_state}
use Rattle.office_rules.specs.declared.act.Act.{Act}
use Rattle.office_rules.specs.declared.entry.Entry.{Entry}
use Rattle.office_store.specs.Adopted.{AreCertificatesTexts}
use Rattle.office_life.specs.Standing.{Stage, StandsAt, unmade}
use Rattle.office_command_line.specs.Orders as command
use Rattle.office_evidence.specs.Truth.{IsTrueCertificate, IsTrueEntry}
use Rattle.office_commands.specs.FileHistory.{ActsOfRuns, FileHistory, ProgramRun, ran_command}
use Rattle.office_commands.specs.declared.exit.Exit.TheVariants as how

-- these acts account for the two files: the runs did them, one after another, and the files stand for the office after
-- them
pub record AccountFor (s : State) (runs : List ProgramRun) (done : List Act) (stage : Stage) (image : Image) : Type 0
  where
    pub of_runs : ActsOfRuns s runs done
    pub formed : AreWellFormed done
    pub stands : StandsAt stage image (after_acts s done)

-- one of the runs was `certificate FILE N` for the run of that number and was done; this was written before it, and
-- this after it
abbrev pub HasPrinted : List ProgramRun → ℕ → Option (List ℕ) → Option (List ℕ) → Type 0
HasPrinted runs run written after =
    (n : ℕ) × (file text : List ℕ)
    × (numbered runs n ≡ Some (ran_command (command.certificate file run) text written after how.Done))

-- the evidence of the office after the acts of these runs is true
pub record IsTrueEvidence (s : State) (runs : List ProgramRun) (done : List Act) : Type 0 where
  -- each certificate that the office keeps is true of the acts, and complete
  pub certificates : (run : ℕ) (text : List ℕ) → get (after_acts s done).office.certificates run ≡ Some text
      → IsTrueCertificate s done run text
  -- each entry is true of them
  pub entries : (run r : ℕ) (e : Entry) → get (after_acts s done).office.entries (run, r) ≡ Some e
      → IsTrueEntry s done run r e
  -- what a run of the program printed as a certificate is one that is true of them, and complete
  pub printed : (run : ℕ) (written after : Option (List ℕ)) → HasPrinted runs run written after
      → (text : List ℕ) × Appends written after text × IsTrueCertificate s done run text
  -- each certificate is UTF-8
  pub texts : AreCertificatesTexts (after_acts s done)

-- the same for the disposal runs that the acts opened
pub record IsTrueEvidenceSince (s : State) (runs : List ProgramRun) (done : List Act) : Type 0 where
  pub certificates : (run : ℕ) (text : List ℕ) → length s.office.runs < run
      → get (after_acts s done).office.certificates run ≡ Some text → IsTrueCertificate s done run text
  pub entries : (run r : ℕ) (e : Entry) → length s.office.runs < run
      → get (after_acts s done).office.entries (run, r) ≡ Some e → IsTrueEntry s done run r e
  pub printed : (run : ℕ) (written after : Option (List ℕ)) → length s.office.runs < run
      → HasPrinted runs run written after
      → (text : List ℕ) × Appends written after text × IsTrueCertificate s done run text
  pub texts : AreCertificatesTexts s → AreCertificatesTexts (after_acts s done)

-- after runs from no file on, the files hold true evidence of the acts of these runs
abbrev pub FilesAreTrue : Type 0
FilesAreTrue =
    (first : Image) (runs : List ProgramRun) (stage : Stage) (image : Image) → IsNothing first
    → FileHistory unmade first runs stage image
    → ∥ ((done : List Act) × AccountFor empty_state runs done stage image × IsTrueEvidence empty_state runs done) ∥₁

-- after runs from a sound office on, the files hold true evidence of what was done since
abbrev pub FilesAreTrueSince : Type 0
FilesAreTrueSince =
    (start : Stage) (first : Image) (s : State) (runs : List ProgramRun) (stage : Stage) (image : Image) → IsSound s
    → StandsAt start first s → FileHistory start first runs stage image
    → ∥ ((done : List Act) × AccountFor s runs done stage image × IsTrueEvidenceSince s runs done) ∥₁
