-- The first record of the base office, asked for again.
use Rattle.std.proofs.Common.{◌≡◌, ◌≢◌, ◌==◌, ◌&&◌, ℕ, suc, List, [], length, Bool, true, cond, Option, Some, None, refl, ap, ◌∙◌}
use Rattle.std.specs.Prelude.{codes}
use Rattle.std.specs.Ordering.{int_eq}
use Rattle.std.specs.Str.{bytes_eq}
use Rattle.std.proofs.lemmas.Slice.Eq.{bytes_eq-Decides}
use Rattle.sha2.specs.Sha256.{sha256}
use Rattle.office_base.specs.declared.refusal.Refusal.TheVariants.{Exists}
use Rattle.office_records.specs.Conditions.{first_of, conditions_of_add_record}
use Rattle.office_records.specs.declared.head.Record.{Record}
use Rattle.office_rules.specs.Conditions.{dated, refusals_of_add_record, is_same_record, same_record}
use Rattle.office_rules.specs.Effects.{with_new_record}
use Rattle.office_rules.specs.NewRecords.{NewRecord}
use Rattle.office_rules.specs.State.{Office, State}
use Rattle.office_rules.specs.Steps.{by_refusal, by_same_record, step_add_record}
use Rattle.office_rules.specs.Worked.{AsksFor, filing_day, head_with, base_office}
use Rattle.office_rules.specs.declared.answer.Answer.TheVariants.{Number, Same, Refused}
use Rattle.office_rules.proofs.WorkedTransfer.{fails}

-- the comparison with a head, reported by what is asked
abbrev compared : List ℕ → List ℕ → ℕ → List ℕ → Record → Bool
compared name words parent bytes head =
    bytes_eq name head.ref_text && bytes_eq words head.title && int_eq filing_day head.originated
    && parent == head.aggregation && length bytes == head.length && bytes_eq (sha256 bytes) head.digest

compares : (new : NewRecord) (name words : List ℕ) (parent : ℕ) (bytes : List ℕ) (head : Record) → AsksFor new name words parent bytes → is_same_record new head ≡ compared name words parent bytes head
compares new name words parent bytes head h =
    λ i. bytes_eq (h.ref_text i) head.ref_text && bytes_eq (h.title i) head.title && int_eq (h.originated i) head.originated
    && h.aggregation i == head.aggregation && length (h.content i) == head.length && bytes_eq (sha256 (h.content i)) head.digest

same_digest : bytes_eq (sha256 (codes "abc")) (sha256 (codes "abc")) ≡ true
same_digest = (bytes_eq-Decides (sha256 (codes "abc")) (sha256 (codes "abc"))).1 refl

-- the number of the first of three that passes
abbrev of_three : Bool → Bool → Bool → Option ℕ
of_three a b c = cond a (Some 1) (cond b (Some 2) (cond c (Some 3) None))

pub is_same : (new : NewRecord) → AsksFor new (codes "r1") (codes "r1") 1 (codes "abc") → same_record base_office new ≡ Some 1
is_same new h =
    let one = compares new (codes "r1") (codes "r1") 1 (codes "abc") (head_with (codes "r1") 1 (codes "abc")) h ∙ same_digest in
    ap (λ b. of_three b (is_same_record new (head_with (codes "r2") 2 [])) (is_same_record new (head_with (codes "r3") 1 (codes "abc")))) one

pub is_other : (new : NewRecord) (title : List ℕ) → title ≢ codes "r1" → AsksFor new (codes "r1") title 1 (codes "abc") → same_record base_office new ≡ None
is_other new title other h =
    let differs = fails (bytes_eq title (codes "r1")) (bytes_eq-Decides title (codes "r1")) other in
    let one = compares new (codes "r1") title 1 (codes "abc") (head_with (codes "r1") 1 (codes "abc")) h
    ∙ ap (λ b. b && true && true && true && bytes_eq (sha256 (codes "abc")) (sha256 (codes "abc"))) differs in
    let two = compares new (codes "r1") title 1 (codes "abc") (head_with (codes "r2") 2 []) h in
    let three = compares new (codes "r1") title 1 (codes "abc") (head_with (codes "r3") 1 (codes "abc")) h in
    λ i. of_three (one i) (two i) (three i)

pub is_reported : (s : State) (new : NewRecord) → s.office ≡ base_office → AsksFor new (codes "r1") (codes "r1") 1 (codes "abc") → step_add_record s filing_day new ≡ (Same 1, s)
is_reported s new base h = ap (λ o. by_same_record o s filing_day new) (ap (λ (o : Office). same_record o new) base ∙ is_same new h)

exists : (new : NewRecord) (title : List ℕ) → AsksFor new (codes "r1") title 1 (codes "abc") → first_of (refusals_of_add_record base_office filing_day new) ≡ Some Exists
exists new title h = λ i. first_of (dated base_office filing_day (conditions_of_add_record base_office.tree (h.ref_text i) new.aggregation new.class new.schedule))

pub is_refused : (s : State) (new : NewRecord) (title : List ℕ) → s.office ≡ base_office → title ≢ codes "r1" → AsksFor new (codes "r1") title 1 (codes "abc") → step_add_record s filing_day new ≡ (Refused Exists, s)
is_refused s new title base other h =
    ap (λ o. by_same_record o s filing_day new) (ap (λ (o : Office). same_record o new) base ∙ is_other new title other h)
    ∙ ap (λ o. by_refusal o s (Number (suc (length s.office.tree.records))) (with_new_record s filing_day new)) (ap (λ (o : Office). first_of (refusals_of_add_record o filing_day new)) base ∙ exists new title h)
