-- What is reported of what is made of a part: what is reported of the part.
use Rattle.std.proofs.Common.{◌≡◌, Result, Ok, Err, refl}
use Rattle.office_base.specs.declared.refusal.Refusal.{Refusal}
use Rattle.office_rules.specs.Parts.{fault_of, made}

pub fault_made : {A B : Type 0} (f : A → B) (part : Result A Refusal) → fault_of (made f part) ≡ fault_of part
fault_made f (Ok a) = refl
fault_made f (Err e) = refl
