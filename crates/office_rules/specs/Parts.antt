-- Parts of an act that was written, and why they are refused: of several refusals the least is reported, and a refusal
-- before lack of memory. Source: own.
use Rattle.std.specs.Prelude.{◌≡◌, Result, Ok, Err, MatchResult, nat_le, if◌then◌else◌}
use Rattle.office_base.specs.Refusals.{refusal_number}
use Rattle.office_base.specs.declared.refusal.Refusal.{Refusal}
use Rattle.office_rules.specs.declared.read_fault.ReadFault.{ReadFault}
use Rattle.office_rules.specs.declared.read_fault.ReadFault.TheVariants.{Refused, Memory}

-- of two refusals the one with the least number
abbrev pub least : Refusal → Refusal → Refusal
least e f = if nat_le (refusal_number e) (refusal_number f) then e else f

-- both parts, or why they are refused
abbrev pub both : {A B : Type 0} → Result A Refusal → Result B Refusal → Result (A × B) Refusal
both (Ok a) (Ok b) = Ok (a, b)
both (Ok a) (Err f) = Err f
both (Err e) (Ok b) = Err e
both (Err e) (Err f) = Err (least e f)

-- what is made of a part that was read
abbrev pub made : {A B : Type 0} → (A → B) → Result A Refusal → Result B Refusal
made f (Ok a) = Ok (f a)
made f (Err e) = Err e

-- why nothing was read of a part: the part is refused, or it is of its form and memory ran out
abbrev pub fault_of : {A : Type 0} → Result A Refusal → ReadFault
fault_of (Ok a) = Memory
fault_of (Err refusal) = Refused refusal

-- what was read is the part, or why nothing was read of it
abbrev pub IsReadAs : {A : Type 0} → Result A Refusal → Result A ReadFault → Type 0
IsReadAs part read = MatchResult read (λ a. part ≡ Ok a) (λ fault. fault ≡ fault_of part)

-- of two faults the one to report: a refusal before lack of memory
abbrev pub min_refusal : ReadFault → ReadFault → ReadFault
min_refusal Memory other = other
min_refusal (Refused e) Memory = Refused e
min_refusal (Refused e) (Refused f) = Refused (least e f)
