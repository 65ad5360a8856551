-- How `certificate` ends. Source: own.
use Rattle.std.specs.FinMap.{get}
use Rattle.std.specs.Prelude.{◌≡◌, ◌⊎◌, ℕ, List, IsSome, Option, Some, None}
use Rattle.sqlite.specs.State.{State as FileState}
use Rattle.office_base.specs.declared.refusal.Refusal.TheVariants as refused
use Rattle.office_rules.specs.State.{Office}
use Rattle.office_store.specs.declared.fault.Fault.TheVariants as fault
use Rattle.office_commands.specs.Calling.{Reports}
use Rattle.office_commands.specs.declared.exit.Exit.{Exit}
use Rattle.office_commands.specs.declared.exit.Exit.TheVariants as how
use Rattle.office_commands.specs.Opening.{EndsOpenFailed, IsOpened}

-- a certificate is reported, or that there is none
abbrev pub ReportsCertificate : Option (List ℕ) → Option (List ℕ) → Option (List ℕ) → Exit → Type 0
ReportsCertificate None written after exit = (exit ≡ how.Refused refused.NoSuch) × (after ≡ written)
ReportsCertificate (Some text) written after exit = Reports text how.Done written after exit

-- the certificate of a run of the office is reported; or there is one, and memory ran out for it
abbrev pub Certifies : Office → ℕ → Option (List ℕ) → Option (List ℕ) → Exit → Type 0
Certifies office run written after exit =
    ReportsCertificate (get office.certificates run) written after exit
    ⊎ IsSome (get office.certificates run) × (exit ≡ how.Fault fault.Memory) × (after ≡ written)

-- `certificate FILE N`, by its exit; an office of version 2 that was opened stays as it was
abbrev pub CertificateEnds : ℕ → FileState → FileState → Option (List ℕ) → Option (List ℕ) → Exit → Type 0
CertificateEnds run old new written after exit =
    EndsOpenFailed old new written after exit
    ⊎ ((office : Office) × IsOpened old new office × Certifies office run written after exit)
