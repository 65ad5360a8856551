-- What is reported of an act: what is reported of its parts.
use Rattle.std.proofs.Common.{◌≡◌, ◌∙◌, Bool, true, cond, Result, Ok, Err, IfErr, IfOk, refl, sym, inl}
use Rattle.serde_json.specs.Data.{Data}
use Rattle.office_base.specs.declared.refusal.Refusal.{Refusal}
use Rattle.office_base.specs.declared.refusal.Refusal.TheVariants.{BadText}
use Rattle.office_rules.specs.declared.act.Act.{Act}
use Rattle.office_json.specs.Acts.{IsActRead, IsReadFault}
use Rattle.office_rules.specs.Parts.{IsReadAs, fault_of, made}
use Rattle.office_rules.specs.declared.read_fault.ReadFault.{ReadFault}
use Rattle.office_rules.specs.declared.read_fault.ReadFault.TheVariants.{Refused, Memory}
use Rattle.office_rules.proofs.Made.{fault_made}

-- the parts of an object without strange members are there
pub act_ok : {A : Type 0} (plain : Bool) (f : A → Act) (part : Result A Refusal) (p : A) → plain ≡ true → part ≡ Ok p → cond plain (made f part) (Err BadText) ≡ Ok (f p)
act_ok plain f part p h k = rw (h, k) refl

-- they are not
pub act_fault : {A : Type 0} (plain : Bool) (f : A → Act) (part : Result A Refusal) (fault : ReadFault) → plain ≡ true → fault ≡ fault_of part → fault ≡ fault_of (cond plain (made f part) (Err BadText))
act_fault plain f part fault h k = rw h (k ∙ sym (fault_made f part))

-- what is read of an object without strange members is what is read of its parts
pub only_read : {A : Type 0} (plain : Bool) (part : Result A Refusal) (read : Result A ReadFault) → plain ≡ true → IsReadAs part read → IsReadAs (cond plain part (Err BadText)) read
only_read plain part read h k = rw h k

-- a fault that is reported of an act without a content
pub plain_fault : (d : Data) (part : Result Act Refusal) (fault : ReadFault) → fault ≡ fault_of part → IsReadFault d part fault
plain_fault d (Ok it) (Refused refusal) h = absurd cc
plain_fault d (Err e) (Refused refusal) h = cc
plain_fault d (Ok it) Memory h = inl refl
plain_fault d (Err e) Memory h = absurd cc

-- what was read of an act without a content, as the office reports it
pub reported_act : (d : Data) (part : Result Act Refusal) (read : Result Act ReadFault) → IsActRead part read → IfOk read (λ it. part ≡ Ok it) × IfErr read (λ fault. IsReadFault d part fault)
reported_act d part (Ok it) h = (h, tt)
reported_act d part (Err fault) h = (tt, plain_fault d part fault h)
