-- How the writing of a register ends. Source: own.
use Rattle.std.specs.Prelude.{◌≡◌, ◌⊎◌, ℕ, ℤ, IfErr, IsTrue, List, OnErr, OnOk, Option, Result, Err}
use Rattle.std.specs.Io.KnownBytes.{Appends}
use Rattle.office_base.specs.Output.{AppendsSome}
use Rattle.office_rules.specs.Registers.{AreDueRows, AreOverdueRows, DueRowView, entry_rows}
use Rattle.office_rules.specs.State.{Office}
use Rattle.office_csv.specs.Registers.{due_register, entry_register, overdue_register}
use Rattle.office_store.specs.declared.fault.Fault.TheVariants as fault
use Rattle.office_desk.specs.Desk.{DeskState}
use Rattle.office_wire.specs.declared.registers.ExportStop.{ExportStop}
use Rattle.office_wire.specs.declared.registers.ExportStop.TheVariants as stop

-- the text is the due register of a day
abbrev pub IsDueRegister : ℤ → Office → List ℕ → Type 0
IsDueRegister day office text = (rows : List DueRowView) × AreDueRows office day rows × (text ≡ due_register rows)

-- the register of what is overdue on a day, so many days after the due day
abbrev pub IsOverdueRegister : ℤ → ℕ → Office → List ℕ → Type 0
IsOverdueRegister day days office text =
    (rows : List DueRowView) × AreOverdueRows office day days rows × (text ≡ overdue_register days rows)

-- the register of the entries of all runs
abbrev pub IsEntryRegister : Office → List ℕ → Type 0
IsEntryRegister office text = text ≡ entry_register (entry_rows office)

-- nothing went out, or the first bytes of a register of the office
abbrev pub IsSomeOut : (Office → List ℕ → Type 0) → Office → Option (List ℕ) → Option (List ℕ) → Type 0
IsSomeOut IsText office written after =
    (after ≡ written) ⊎ ((text : List ℕ) × IsText office text × AppendsSome written after text)

-- the writer failed, or memory ran out, or the desk was poisoned before
abbrev pub IsExportStopped : {S : Type 0} → DeskState S → ExportStop → Type 0
IsExportStopped old why =
    (why ≡ stop.Io) ⊎ ((why ≡ stop.Fault fault.Memory) ⊎ (why ≡ stop.Fault fault.Reopen) × IsTrue old.is_poisoned)

-- a register of the office was written whole, or stopped; the desk stays as it was
pub record Exports {S W : Type 0} (IsText : Office → List ℕ → Type 0) (contents : W → Option (List ℕ)) (out after : W)
    (ended : Result (Unit {0}) ExportStop) (old new : DeskState S) : Type 0 where
  pub ok : OnOk ended ((text : List ℕ) × IsText old.office text × Appends (contents out) (contents after) text)
  pub err : IfErr ended (λ why. IsExportStopped old why)
  pub some : OnErr ended (IsSomeOut IsText old.office (contents out) (contents after))
  pub kept : new ≡ old
  pub gone : IsTrue old.is_poisoned → (ended ≡ Err (stop.Fault fault.Reopen)) × (after ≡ out)
