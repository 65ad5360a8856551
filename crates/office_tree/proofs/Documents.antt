-- Records that have their required documents, one after another.
use Rattle.std.proofs.Common.{◌≡◌, ℕ, ◌+◌, ◌-◌, ◌<◌, ◌≤◌, List, length, get_or, Some, true, false, sym, subst, inl, inr, ◌∙◌, arith, ap}
use Rattle.std.proofs.lemmas.Bool.{cases_lt}
use Rattle.office_records.specs.Examined.{AllHaveDocuments, has_documents}
use Rattle.office_records.specs.Lists.{numbered}
use Rattle.office_records.specs.declared.head.Record.{Record}
use Rattle.office_records.specs.declared.status.Status.{Status}
use Rattle.office_records.proofs.Places.{numbered_read, numbered_within}

-- so many of the first records have them
abbrev pub HaveDocumentsTo : List Record → List Status → ℕ → Type 0
HaveDocumentsTo records statuses count =
    (r : ℕ) (head : Record) (status : Status) → r ≤ count → numbered records r ≡ Some head → numbered statuses r ≡ Some status → has_documents head status ≡ true

pub documents_none : (records : List Record) (statuses : List Status) → HaveDocumentsTo records statuses 0
documents_none records statuses r head status low at beside = let h = numbered_within records r head at in absurd (omega (arith, h))

same_entity : {A : Type 0} (x y : A) → Some x ≡ Some y → x ≡ y
same_entity x y e = cc

same_at : {A : Type 0} (xs : List A) (i n : ℕ) (x y : A) → i < length xs → i + 1 ≡ n → x ≡ get_or xs i x → numbered xs n ≡ Some y → x ≡ y
same_at xs i n x y low next is at =
    let here : i + 1 - 1 ≡ i = omega arith in
    let there = numbered_read xs (i + 1) x (omega arith) (omega arith) (is ∙ ap (λ k. get_or xs k x) (sym here)) in
    same_entity x y (sym there ∙ ap (numbered xs) next ∙ at)

-- one more has them
pub documents_more : (records : List Record) (statuses : List Status) (i : ℕ) (head : Record) (status : Status) → i < length records → i < length statuses → head ≡ get_or records i head → status ≡ get_or statuses i status
    → HaveDocumentsTo records statuses i → has_documents head status ≡ true → HaveDocumentsTo records statuses (i + 1)
documents_more records statuses i head status low beside is status_is so_far one r other its high at at_status = elim (cases_lt i r) [
  | inl above ↦
      let next : i + 1 ≡ r = omega arith in
      let a = same_at records i r head other low next is at in
      let b = same_at statuses i r status its beside next status_is at_status in
      subst (λ (s : Status). has_documents other s ≡ true) b (subst (λ (h : Record). has_documents h status ≡ true) a one)
  | inr below ↦ so_far r other its below at at_status
]

-- one has them not
pub documents_lack : (records : List Record) (statuses : List Status) (i : ℕ) (head : Record) (status : Status) → i < length records → i < length statuses → head ≡ get_or records i head → status ≡ get_or statuses i status
    → has_documents head status ≡ false → AllHaveDocuments records statuses → ⊥
documents_lack records statuses i head status low beside is status_is lack all =
    let here : i + 1 - 1 ≡ i = omega arith in
    let at = numbered_read records (i + 1) head (omega arith) (omega arith) (is ∙ ap (λ k. get_or records k head) (sym here)) in
    let at_status = numbered_read statuses (i + 1) status (omega arith) (omega arith) (status_is ∙ ap (λ k. get_or statuses k status) (sym here)) in
    absurd (cc (all (i + 1) head status at at_status, lack))

-- all have them, where there are no more
pub documents_all : (records : List Record) (statuses : List Status) (i : ℕ) → length records ≤ i → HaveDocumentsTo records statuses i → AllHaveDocuments records statuses
documents_all records statuses i end so_far r head status at at_status = let h = numbered_within records r head at in so_far r head status (omega (arith, h)) at at_status
