-- Rows of records, one by one.
use Rattle.std.proofs.Common.{◌≡◌, ◌≢◌, ℕ, suc, List, [], ◌∷◌, ◌++◌, length, Option, Some, None, MatchOption, refl, sym, ap, ◌∙◌, append_assoc, arith}
use Rattle.office_base.specs.Rows.{numbered_rows}
use Rattle.office_base.proofs.Counted.{numbered_rows-push, next_number, value_of_row}
use Rattle.office_records.specs.declared.head.Record.{Record}
use Rattle.office_records.specs.declared.status.Status.{Status}
use Rattle.office_rules.specs.Rows.{record_row, record_rows}
use Rattle.office_rules.specs.declared.rows.RecordRow.{RecordRow}
use Rattle.office_rules.proofs.NumberedRows.{length-record_rows}

record_rows-push : (heads : List Record) (statuses : List Status) (head : Record) (status : Status) → length statuses ≡ length heads
    → record_rows (heads ++ head ∷ []) (statuses ++ status ∷ []) ≡ record_rows heads statuses ++ record_row head status ∷ []
record_rows-push [] [] head status e = refl
record_rows-push [] (s ∷ ss) head status e = absurd (omega arith)
record_rows-push (h ∷ hs) [] head status e = absurd (omega arith)
record_rows-push (h ∷ hs) (s ∷ ss) head status e = let shorter : length ss ≡ length hs = omega arith in ap (λ rest. record_row h s ∷ rest) (record_rows-push hs ss head status shorter)

row_at : (heads : List Record) (statuses : List Status) (done rest : List RecordRow) (row : RecordRow) → record_rows heads statuses ≡ done ++ row ∷ rest → (head : Record) × (status : Status) × (record_row head status ≡ row)
row_at [] statuses [] rest row e = absurd cc
row_at [] statuses (d ∷ done) rest row e = absurd cc
row_at (h ∷ hs) [] [] rest row e = absurd cc
row_at (h ∷ hs) [] (d ∷ done) rest row e = absurd cc
row_at (h ∷ hs) (s ∷ ss) [] rest row e = (h, s, (cc))
row_at (h ∷ hs) (s ∷ ss) (d ∷ done) rest row e = row_at hs ss done rest row (cc)

-- a row among the rows of records is that of one
pub row_among : (heads : List Record) (statuses : List Status) (done rest : List (ℕ × RecordRow)) (number : ℕ) (row : RecordRow) → numbered_rows (record_rows heads statuses) ≡ done ++ (number, row) ∷ rest
    → (head : Record) × (status : Status) × (record_row head status ≡ row)
row_among heads statuses done rest number row e =
    let among = value_of_row (record_rows heads statuses) done number row rest (e ∙ sym (append_assoc done ((number, row) ∷ []) rest)) in
    row_at heads statuses among.0 among.1 row among.2

-- where no record is found for a row it is that of none
pub no_record : (found : Option (Record × Status)) (row : RecordRow) → ((p : Record × Status) → found ≡ Some p → ⊥)
    → MatchOption found ((head : Record) (status : Status) → record_row head status ≢ row) (λ p. record_row p.0 p.1 ≡ row) → (head : Record) (status : Status) → record_row head status ≢ row
no_record None row none said = said
no_record (Some p) row none said = absurd (none p refl)

module _ (heads : List Record) (statuses : List Status) (long : length statuses ≡ length heads) where
  -- one more record has the next number
  pub records-push : (head : Record) (status : Status) (number : ℕ) (row : RecordRow) → number ≡ suc (length heads) → record_row head status ≡ row
      → numbered_rows (record_rows (heads ++ head ∷ []) (statuses ++ status ∷ [])) ≡ numbered_rows (record_rows heads statuses) ++ (number, row) ∷ []
  records-push head status number row next same =
      ap numbered_rows (record_rows-push heads statuses head status long ∙ ap (λ r. record_rows heads statuses ++ r ∷ []) same)
      ∙ numbered_rows-push (record_rows heads statuses) row number (next ∙ sym (ap suc (length-record_rows heads statuses long)))

  -- what follows the rows of records in a table of records has the next number
  pub next_record : (all : List Record) (ends : List Status) (number : ℕ) (row : RecordRow) (rest : List (ℕ × RecordRow)) → numbered_rows (record_rows all ends) ≡ numbered_rows (record_rows heads statuses) ++ (number, row) ∷ rest
      → number ≡ suc (length heads)
  next_record all ends number row rest e = next_number (record_rows all ends) (record_rows heads statuses) number row rest e ∙ ap suc (length-record_rows heads statuses long)
