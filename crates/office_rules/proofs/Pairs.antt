-- What is reported of two parts together.
use Rattle.std.proofs.Common.{◌≡◌, Result, Ok, Err, refl}
use Rattle.office_base.specs.declared.refusal.Refusal.{Refusal}
use Rattle.office_rules.specs.Parts.{both, fault_of, min_refusal, IsReadAs}
use Rattle.office_rules.specs.declared.read_fault.ReadFault.{ReadFault}

fault_first : {A B : Type 0} (a : Result A Refusal) (v : B) → fault_of a ≡ fault_of (both a (Ok v))
fault_first (Ok u) v = refl
fault_first (Err e) v = refl

fault_second : {A B : Type 0} (u : A) (b : Result B Refusal) → fault_of b ≡ fault_of (both (Ok u) b)
fault_second u (Ok v) = refl
fault_second u (Err f) = refl

faults_both : {A B : Type 0} (a : Result A Refusal) (b : Result B Refusal) → min_refusal (fault_of a) (fault_of b) ≡ fault_of (both a b)
faults_both (Ok u) (Ok v) = refl
faults_both (Ok u) (Err f) = refl
faults_both (Err e) (Ok v) = refl
faults_both (Err e) (Err f) = refl

-- both parts as they were read
abbrev pub both_read : {A B : Type 0} → Result A ReadFault → Result B ReadFault → Result (A × B) ReadFault
both_read (Ok u) (Ok v) = Ok (u, v)
both_read (Ok u) (Err f) = Err f
both_read (Err e) (Ok v) = Err e
both_read (Err e) (Err f) = Err (min_refusal e f)

pub both_reads : {A B : Type 0} (x : Result A ReadFault) (y : Result B ReadFault) (a : Result A Refusal) (b : Result B Refusal) → IsReadAs a x → IsReadAs b y → IsReadAs (both a b) (both_read x y)
both_reads (Ok u) (Ok v) a b h k = rw (h, k) refl
both_reads (Ok u) (Err f) a b h k = rw (k, h) (fault_second u b)
both_reads (Err e) (Ok v) a b h k = rw (h, k) (fault_first a v)
both_reads (Err e) (Err f) a b h k = rw (h, k) (faults_both a b)
