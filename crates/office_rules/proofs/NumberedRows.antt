-- The rows of a numbered list after one is put in, and the list that they are of.
use Rattle.std.proofs.Common.{◌≡◌, ℕ, zero, suc, ◌+◌, ◌<◌, ◌≤◌, List, [], ◌∷◌, length, map, Option, Some, None, refl, sym, ap, ◌∙◌, arith}
use Rattle.std.specs.declared.cmp.Ordering.TheVariants.{Equal, Greater}
use Rattle.std.specs.Option.{option_map}
use Rattle.std.specs.Ordering.{nat_cmp}
use Rattle.std.specs.Cmp.{nat_cmp_is}
use Rattle.std.specs.FinMap.Entries.{put, by_order}
use Rattle.std.specs.Prelude.{ℤ}
use Rattle.office_records.specs.Lists as lists
use Rattle.office_records.specs.declared.action.Action.{Action}
use Rattle.office_records.specs.declared.head.Confirmation.{Confirmation}
use Rattle.office_records.specs.declared.head.Receipt.{Receipt}
use Rattle.office_records.specs.declared.head.Record.{Record}
use Rattle.office_records.specs.declared.head.Review.{Review}
use Rattle.office_records.specs.declared.status.Status.{Status}
use Rattle.office_rules.specs.Rows.{record_row, record_rows}
use Rattle.office_base.specs.Rows.{numbered_from, numbered_rows}
use Rattle.office_rules.specs.declared.rows.RecordRow.{RecordRow}

-- ---- one is put in

put_from : {A : Type 0} (k : ℕ) (xs : List A) (i n : ℕ) (x : A) → i ≤ length xs → n ≡ suc (k + i) → numbered_from k (lists.put_at xs i x) ≡ put nat_cmp n x (numbered_from k xs)
put_from k [] i n x h e = let same : suc k ≡ n = omega arith in ap (λ m. (m, x) ∷ []) same
put_from k (y ∷ ys) zero n x h e =
    let same : n ≡ suc k = omega arith in
    ap (λ o. by_order o ((n, x) ∷ (suc k, y) ∷ numbered_from (suc k) ys) ((suc k, x) ∷ numbered_from (suc k) ys) ((suc k, y) ∷ put nat_cmp n x (numbered_from (suc k) ys))) (nat_cmp_is n (suc k) Equal same)
put_from k (y ∷ ys) (suc i) n x h e =
    let later : suc k < n = omega arith in
    let fits : i ≤ length ys = omega arith in
    let same : n ≡ suc (suc k + i) = omega arith in
    ap (λ rest. (suc k, y) ∷ rest) (put_from (suc k) ys i n x fits same)
    ∙ ap (λ o. by_order o ((n, x) ∷ (suc k, y) ∷ numbered_from (suc k) ys) ((suc k, x) ∷ numbered_from (suc k) ys) ((suc k, y) ∷ put nat_cmp n x (numbered_from (suc k) ys))) (nat_cmp_is n (suc k) Greater later)

-- a number that is there or is the next is put in by its key
pub numbered_rows-put : {A : Type 0} (xs : List A) (n : ℕ) (x : A) → 0 < n → n ≤ length xs + 1 → numbered_rows (lists.put xs n x) ≡ put nat_cmp n x (numbered_rows xs)
numbered_rows-put xs zero x h g = absurd (omega arith)
numbered_rows-put xs (suc i) x h g = let fits : i ≤ length xs = omega arith in let same : suc i ≡ suc (0 + i) = omega arith in put_from 0 xs i (suc i) x fits same

-- ---- records with their statuses

put_record_at : (heads : List Record) (statuses : List Status) (i : ℕ) (head : Record) (status : Status) → length statuses ≡ length heads
    → record_rows (lists.put_at heads i head) (lists.put_at statuses i status) ≡ lists.put_at (record_rows heads statuses) i (record_row head status)
put_record_at [] [] i head status e = refl
put_record_at [] (s ∷ ss) i head status e = absurd (omega arith)
put_record_at (h ∷ hs) [] i head status e = absurd (omega arith)
put_record_at (h ∷ hs) (s ∷ ss) zero head status e = refl
put_record_at (h ∷ hs) (s ∷ ss) (suc i) head status e = let shorter : length ss ≡ length hs = omega arith in ap (λ rest. record_row h s ∷ rest) (put_record_at hs ss i head status shorter)

pub record_rows-put : (heads : List Record) (statuses : List Status) (n : ℕ) (head : Record) (status : Status) → length statuses ≡ length heads
    → record_rows (lists.put heads n head) (lists.put statuses n status) ≡ lists.put (record_rows heads statuses) n (record_row head status)
record_rows-put heads statuses zero head status e = refl
record_rows-put heads statuses (suc i) head status e = put_record_at heads statuses i head status e

pub length-record_rows : (heads : List Record) (statuses : List Status) → length statuses ≡ length heads → length (record_rows heads statuses) ≡ length heads
length-record_rows [] statuses e = refl
length-record_rows (h ∷ hs) [] e = absurd (omega arith)
length-record_rows (h ∷ hs) (s ∷ ss) e = let shorter : length ss ≡ length hs = omega arith in ap suc (length-record_rows hs ss shorter)

-- ---- what the rows are of

pub things_of : {A : Type 0} (k : ℕ) (xs : List A) → map (λ e. e.1) (numbered_from k xs) ≡ xs
things_of k [] = refl
things_of k (x ∷ xs) = ap (λ rest. x ∷ rest) (things_of (suc k) xs)

-- two lists with the same rows are one
pub same_numbered : {A : Type 0} (xs ys : List A) → numbered_rows xs ≡ numbered_rows ys → xs ≡ ys
same_numbered xs ys e = sym (things_of 0 xs) ∙ ap (map (λ e. e.1)) e ∙ things_of 0 ys

review_of : Option ℤ → Option (List ℕ) → Option Review
review_of (Some day) (Some by) = Some (record { day = day; by = by })
review_of _ _ = None

same_review : (o : Option Review) → review_of (option_map (λ review. review.day) o) (option_map (λ review. review.by) o) ≡ o
unfolding review_of
same_review None = refl
same_review (Some review) = refl

confirmation_of : Option Action → Option ℤ → Option ℤ → Option (List ℕ) → Option Confirmation
confirmation_of (Some action) (Some due) (Some day) (Some by) = Some (record { action = action; due = due; day = day; by = by })
confirmation_of _ _ _ _ = None

same_confirmation : (o : Option Confirmation)
    → confirmation_of (option_map (λ it. it.action) o) (option_map (λ it. it.due) o) (option_map (λ it. it.day) o) (option_map (λ it. it.by) o) ≡ o
unfolding confirmation_of
same_confirmation None = refl
same_confirmation (Some confirmation) = refl

receipt_of : Option ℤ → Option (List ℕ) → Option Receipt
receipt_of (Some day) (Some by) = Some (record { day = day; by = by })
receipt_of _ _ = None

same_receipt : (o : Option Receipt) → receipt_of (option_map (λ receipt. receipt.day) o) (option_map (λ receipt. receipt.by) o) ≡ o
unfolding receipt_of
same_receipt None = refl
same_receipt (Some receipt) = refl

-- the head that columns are of
head_of : RecordRow → Record
head_of row = record {
  ref_text = row.ref_text;
  title = row.title;
  originated = row.originated;
  added = row.added;
  aggregation = row.aggregation;
  class = row.class;
  schedule = row.schedule;
  length = row.size;
  digest = row.digest;
  review = review_of row.reviewed row.reviewed_by;
  confirmation = confirmation_of row.conf_action row.conf_due row.conf_day row.conf_by;
  receipt = receipt_of row.receipt_day row.receipt_by;
}

same_head : (head : Record) (status : Status) → head_of (record_row head status) ≡ head
unfolding head_of
same_head head status = λ i. record head { review = same_review head.review i; confirmation = same_confirmation head.confirmation i; receipt = same_receipt head.receipt i }

heads_of : (heads : List Record) (statuses : List Status) → length statuses ≡ length heads → map head_of (record_rows heads statuses) ≡ heads
heads_of [] statuses e = refl
heads_of (h ∷ hs) [] e = absurd (omega arith)
heads_of (h ∷ hs) (s ∷ ss) e = let shorter : length ss ≡ length hs = omega arith in λ i. same_head h s i ∷ heads_of hs ss shorter i

statuses_of : (heads : List Record) (statuses : List Status) → length statuses ≡ length heads → map (λ row. row.status) (record_rows heads statuses) ≡ statuses
statuses_of [] [] e = refl
statuses_of [] (s ∷ ss) e = absurd (omega arith)
statuses_of (h ∷ hs) [] e = absurd (omega arith)
statuses_of (h ∷ hs) (s ∷ ss) e = let shorter : length ss ≡ length hs = omega arith in ap (λ rest. s ∷ rest) (statuses_of hs ss shorter)

module _ (heads others : List Record) (statuses other_statuses : List Status) (e : length statuses ≡ length heads) (f : length other_statuses ≡ length others) (same : record_rows heads statuses ≡ record_rows others other_statuses) where
  -- the same rows are of the same heads
  pub same_heads : heads ≡ others
  same_heads = sym (heads_of heads statuses e) ∙ ap (map head_of) same ∙ heads_of others other_statuses f

  -- and of the same statuses
  pub same_statuses : statuses ≡ other_statuses
  same_statuses = sym (statuses_of heads statuses e) ∙ ap (map (λ row. row.status)) same ∙ statuses_of others other_statuses f
