-- How the reporting of a certificate ends.
use Rattle.std.proofs.Common.{◌≡◌, ◌⊎◌, inl, inr, Bool, true, false, IsTrue}
use Rattle.office_store.specs.declared.fault.Fault.{Fault}
use Rattle.office_store.specs.declared.fault.Fault.TheVariants as fault

-- a desk that is open reports no fault but that of memory
pub memory_alone : (f : Fault) (is_poisoned : Bool) → is_poisoned ≡ false → (f ≡ fault.Memory) ⊎ (f ≡ fault.Reopen) × IsTrue is_poisoned → f ≡ fault.Memory
memory_alone f true still reported = absurd cc
memory_alone f false still (inl memory) = memory
memory_alone f false still (inr gone) = let no : false ≡ true = gone.1 in absurd cc
