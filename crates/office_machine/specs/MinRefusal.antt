-- Where two tables of conditions are asked apart, the lesser of their refusals is answered. Source: own.
use Rattle.std.specs.Prelude.{nat_lt, Option, Some, None, if◌then◌else◌}
use Rattle.office_base.specs.Refusals.{refusal_number}
use Rattle.office_base.specs.declared.refusal.Refusal.{Refusal}

-- of two refusals the one with the lesser number
abbrev pub min_refusal : Option Refusal → Option Refusal → Option Refusal
min_refusal None other = other
min_refusal (Some one) None = Some one
min_refusal (Some one) (Some other) =
    if nat_lt (refusal_number other) (refusal_number one) then Some other else Some one
