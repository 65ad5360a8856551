-- A record that an act added keeps the ref, the length and the digest with which it was added.
use Rattle.std.proofs.Common.{◌≡◌, ℕ, zero, suc, ◌+◌, ◌<◌, ◌==◌, ◌&&◌, ℤ, Bool, true, false, cond, List, [], ◌∷◌, length, take, Option, Some, None, refl, ap, ◌∙◌, arith}
use Rattle.std.specs.Prelude.{slice_get}
use Rattle.std.proofs.lemmas.Bool.{and_parts}
use Rattle.std.proofs.lemmas.Bool.Decides.{nat_tests}
use Rattle.std.proofs.lemmas.Slice.Eq.{bytes_eq-Decides}
use Rattle.std.specs.Ordering.{int_eq}
use Rattle.std.specs.Str.{bytes_eq}
use Rattle.sha2.specs.Sha256.{sha256}
use Rattle.office_base.specs.declared.refusal.Refusal.{Refusal}
use Rattle.office_records.specs.Conditions.{first_of}
use Rattle.office_records.specs.Lists.{numbered}
use Rattle.office_records.specs.declared.head.Record.{Record}
use Rattle.office_rules.specs.Acts.{after, answers, step}
use Rattle.office_rules.specs.Conditions.{is_same_record, number_passing, refusals_of_add_record, same_record}
use Rattle.office_rules.specs.Effects.{with_new_record}
use Rattle.office_rules.specs.NewRecords.{NewRecord, add_record}
use Rattle.office_rules.specs.State.{State}
use Rattle.office_rules.specs.Steps.{by_refusal, by_same_record}
use Rattle.office_rules.specs.declared.act.Act.{Act}
use Rattle.office_rules.specs.declared.answer.Answer.{Answer}
use Rattle.office_rules.specs.declared.answer.Answer.TheVariants.{Number, Same}
use Rattle.office_evidence.specs.History.{before}

-- ---- the first acts alone

pub taken_get : {A : Type 0} (xs : List A) (j i : ℕ) → i < j → slice_get (take j xs) i ≡ slice_get xs i
taken_get xs zero i low = absurd (omega arith)
taken_get [] (suc j) i low = refl
taken_get (x ∷ xs) (suc j) zero low = refl
taken_get (x ∷ xs) (suc j) (suc i) low = taken_get xs j i (omega arith)

pub answers_get : (s : State) (acts : List Act) (j i : ℕ) → i < j → slice_get (answers s (take j acts)) i ≡ slice_get (answers s acts) i
answers_get s acts zero i low = absurd (omega arith)
answers_get s [] (suc j) i low = refl
answers_get s (a ∷ acts) (suc j) zero low = refl
answers_get s (a ∷ acts) (suc j) (suc i) low = answers_get (step s a).1 acts j i (omega arith)

-- ---- the record of that number

not_same : (o : Option Refusal) (u : State) (m n : ℕ) (next : State) → (by_refusal o u (Number m) next).0 ≡ Same n → ⊥
not_same (Some refusal) u m n next is = absurd cc
not_same None u m n next is = absurd cc

same_by : (o : Option ℕ) (u : State) (later : ℤ) (new : NewRecord) (n : ℕ) → (by_same_record o u later new).0 ≡ Same n → o ≡ Some n
same_by (Some r) u later new n is = cc
same_by None u later new n is = absurd (not_same (first_of (refusals_of_add_record u.office later new)) u (suc (length u.office.tree.records)) n (with_new_record u later new) is)

found_again : (u : State) (later : ℤ) (new : NewRecord) (n : ℕ) → (step u (add_record later new)).0 ≡ Same n → same_record u.office new ≡ Some n
unfolding step
found_again u later new n is = same_by (same_record u.office new) u later new n is

-- what passes at the number that is found
passing_by : (test : Record → Bool) (m n : ℕ) (x : Record) (xs : List Record) (b : Bool) → test x ≡ b → cond b (Some m) (number_passing test (suc m) xs) ≡ Some n
    → (number_passing test (suc m) xs ≡ Some n → (k : ℕ) × (n ≡ suc m + k) × (y : Record) × (slice_get xs k ≡ Some y) × (test y ≡ true))
    → (k : ℕ) × (n ≡ m + k) × (y : Record) × (slice_get (x ∷ xs) k ≡ Some y) × (test y ≡ true)
passing_by test m n x xs true passes found rest = let same : m ≡ n = cc in (0, omega arith, x, refl, passes)
passing_by test m n x xs false passes found rest = let it = rest found in (suc it.0, omega (arith, it.1), it.2, it.3, it.4)

passing_is : (test : Record → Bool) (m n : ℕ) (xs : List Record) → number_passing test m xs ≡ Some n → (k : ℕ) × (n ≡ m + k) × (y : Record) × (slice_get xs k ≡ Some y) × (test y ≡ true)
passing_is test m n [] found = absurd cc
passing_is test m n (x ∷ xs) found = passing_by test m n x xs (test x) refl found (passing_is test (suc m) n xs)

-- a record with the ref, the length and the digest of what was asked for
pub record IsAsAdded (new : NewRecord) (head : Record) : Type 0 where
  pub ref_text : new.ref_text ≡ head.ref_text
  pub size : length new.content ≡ head.length
  pub digest : sha256 new.content ≡ head.digest

as_added : (new : NewRecord) (head : Record) → is_same_record new head ≡ true → IsAsAdded new head
as_added new head is =
    let ref_is = bytes_eq new.ref_text head.ref_text in
    let title_is = bytes_eq new.title head.title in
    let day_is = int_eq new.originated head.originated in
    let container_is = new.aggregation == head.aggregation in
    let size_is = length new.content == head.length in
    let last = and_parts (ref_is && title_is && day_is && container_is && size_is) (bytes_eq (sha256 new.content) head.digest) is in
    let fifth = and_parts (ref_is && title_is && day_is && container_is) size_is last.0 in
    let fourth = and_parts (ref_is && title_is && day_is) container_is fifth.0 in
    let third = and_parts (ref_is && title_is) day_is fourth.0 in
    let second = and_parts ref_is title_is third.0 in
    record {
      ref_text = (bytes_eq-Decides new.ref_text head.ref_text).0 second.0;
      size = equal (length new.content) head.length fifth.1;
      digest = (bytes_eq-Decides (sha256 new.content) head.digest).0 last.1;
    }
  where
    equal : (a b : ℕ) → (a == b) ≡ true → a ≡ b
    equal a b e = grind (arith, nat_tests)

head_as_added : (u : State) (new : NewRecord) (n : ℕ) → same_record u.office new ≡ Some n → (head : Record) × (numbered u.office.tree.records n ≡ Some head) × IsAsAdded new head
head_as_added u new n found =
    let it = passing_is (is_same_record new) 1 n u.office.tree.records found in
    let number : n ≡ suc it.0 = omega (arith, it.1) in
    (it.2, ap (numbered u.office.tree.records) number ∙ it.3, as_added new it.2 it.4)

-- what the law of a repeated record says
abbrev pub RepeatedIsReported : Type 0
RepeatedIsReported =
    (s : State) (acts more : List Act) (k n : ℕ) (day later : ℤ) (new : NewRecord) → numbered acts k ≡ Some (add_record day new) → numbered (answers s acts) k ≡ Some (Number n)
    → step (after (after s acts) more) (add_record later new) ≡ (Same n, after (after s acts) more)

-- at a later place the record is as it was added
pub stays_as_added : RepeatedIsReported → (s : State) (acts : List Act) (i k r : ℕ) (day : ℤ) (new : NewRecord) → i < k → slice_get acts i ≡ Some (add_record day new) → slice_get (answers s acts) i ≡ Some (Number r)
    → (head : Record) × (numbered (before s acts k).office.tree.records r ≡ Some head) × IsAsAdded new head
stays_as_added reported s acts i k r day new low asked answered =
    let again = reported s (take k acts) [] (suc i) r day day new (taken_get acts k i low ∙ asked) (answers_get s acts k i low ∙ answered) in
    head_as_added (before s acts k) new r (found_again (before s acts k) day new r (ap (λ (p : Answer × State). p.0) again))
