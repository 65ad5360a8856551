-- How the writing of a register ends.
use Rattle.std.proofs.Common.{◌≡◌, ◌⊎◌, inl, inr, ℕ, Bool, true, false, IsTrue, List, Option, Result, Ok, Err, IfErr, OnErr, OnOk, ap}
use Rattle.office_rules.specs.State.{Office}
use Rattle.office_store.specs.declared.fault.Fault.TheVariants as fault
use Rattle.office_wire.specs.Exporting.{IsSomeOut}
use Rattle.office_wire.specs.declared.registers.ExportStop.{ExportStop}
use Rattle.office_wire.specs.declared.registers.ExportStop.TheVariants as export
use Rattle.office_command_line.specs.declared.register.Register.{Register}
use Rattle.office_commands.specs.Exporting.{Exports, IsRegister, IsRegisterText, exit_of_export}
use Rattle.office_commands.specs.declared.exit.Exit.{Exit}

not_gone : (is_poisoned : Bool) → is_poisoned ≡ false → IsTrue is_poisoned → ⊥
not_gone true still gone = absurd cc
not_gone false still gone = let no : false ≡ true = gone in absurd cc

stopped : (office : Office) (it : Register) (written after : Option (List ℕ)) (stop : ExportStop) (is_poisoned : Bool) → is_poisoned ≡ false
    → (stop ≡ export.Io) ⊎ ((stop ≡ export.Fault fault.Memory) ⊎ (stop ≡ export.Fault fault.Reopen) × IsTrue is_poisoned)
    → IsSomeOut (IsRegisterText it) office written after → Exports office it written after (exit_of_export (Err stop))
stopped office it written after stop is_poisoned still (inl io) some = inr (inl (ap (λ (x : ExportStop). exit_of_export (Err x)) io), some)
stopped office it written after stop is_poisoned still (inr (inl memory)) some = inr (inr (ap (λ (x : ExportStop). exit_of_export (Err x)) memory), some)
stopped office it written after stop is_poisoned still (inr (inr gone)) some = absurd (not_gone is_poisoned still gone.1)

-- an export ends as the register was written
pub exported : (old : Office) (it : Register) (written after : Option (List ℕ)) (is_poisoned : Bool) (x : Result (Unit {0}) ExportStop) (e : Exit) → is_poisoned ≡ false → e ≡ exit_of_export x
    → OnOk x (IsRegister it written after old)
    → IfErr x (λ stop. (stop ≡ export.Io) ⊎ ((stop ≡ export.Fault fault.Memory) ⊎ (stop ≡ export.Fault fault.Reopen) × IsTrue is_poisoned))
    → OnErr x (IsSomeOut (IsRegisterText it) old written after)
    → Exports old it written after e
exported old it written after is_poisoned (Ok done) e still is ok err some = inl (is, ok)
exported old it written after is_poisoned (Err stop) e still is ok err some = rw is (stopped old it written after stop is_poisoned still err some)
