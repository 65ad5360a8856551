-- What the tests of contents' keys, of required documents and of days report of an office, and back.
use Rattle.std.proofs.Common.{◌≡◌, ◌≢◌, ◌↔◌, ℕ, ◌-◌, ℤ, ◌≤ℤ◌, List, map, length, Option, Some, None, refl, sym, ap, ◌∙◌, Bool, true, false, arith}
use Rattle.std.specs.Prelude.{IsSome, IsTrue, IfSome, int_le, not, ◌&&◌, ◌||◌}
use Rattle.std.specs.FinMap.{FinMap, contains_key, contains_key-keys, entries, get}
use Rattle.std.specs.List.{list_any}
use Rattle.std.specs.Option.{is_some}
use Rattle.std.specs.Ordering.{eq_by_cmp, nat_cmp}
use Rattle.std.proofs.lemmas.Int.{ints}
use Rattle.office_records.specs.Disposal.{is_disposal, is_here, is_received}
use Rattle.office_records.specs.Examined.{AllHaveDocuments, IsTreeBy, is_by, is_confirmed_by, is_disposal_confirmed, is_receipted_by, is_record_by, is_reviewed_by}
use Rattle.office_records.specs.Lists.{numbered}
use Rattle.office_records.specs.declared.aggregation.Aggregation.{Aggregation}
use Rattle.office_records.specs.declared.head.Confirmation.{Confirmation}
use Rattle.office_records.specs.declared.head.Receipt.{Receipt}
use Rattle.office_records.specs.declared.head.Record.{Record}
use Rattle.office_records.specs.declared.head.Review.{Review}
use Rattle.office_records.specs.declared.status.Status.{Status}
use Rattle.office_records.specs.declared.status.Status.TheVariants.{Here, Sent, Received, Ended}
use Rattle.office_records.proofs.Bridge.{at_numbers, from_numbers}
use Rattle.office_records.proofs.Placed.{numbered_there}
use Rattle.office_records.proofs.Places.{numbered_at, numbered_within}
use Rattle.office_rules.specs.Holds.{HoldMap}
use Rattle.office_rules.specs.SoundHolds.{NoHoldIsAfter}
use Rattle.office_rules.specs.declared.entry.Entry.{Entry}
use Rattle.office_rules.specs.declared.outcome.Outcome.TheVariants.{Transferred}
use Rattle.office_rules.specs.Loading.{AreActiveKeys, AreRunsBy}
use Rattle.office_rules.specs.Sound.{ContentsAgree, NoDayIsAfter, DocumentsAgree}
use Rattle.office_rules.specs.State.{ByteMap, EntryMap}
use Rattle.office_rules.specs.declared.run.Run.{Run}

-- ---- keys of contents

-- two maps with the same list of keys have the same numbers
pub keys_of_contents : {V : Type 0} (contents : ByteMap) (marks : FinMap nat_cmp V) → map (λ e. e.0) (entries contents) ≡ map (λ e. e.0) (entries marks) → (r : ℕ) → IsSome (get contents r) ↔ IsSome (get marks r)
keys_of_contents contents marks same r =
    let alike : contains_key contents r ≡ contains_key marks r = contains_key-keys contents r ∙ ap (list_any (eq_by_cmp nat_cmp r)) same ∙ sym (contains_key-keys marks r) in
    (λ here. sym alike ∙ here, λ there. alike ∙ there)

-- so contents are there where the keys are those of the records that are not ended
pub contents_agree : {V : Type 0} (statuses : List Status) (contents : ByteMap) (marks : FinMap nat_cmp V) → map (λ e. e.0) (entries contents) ≡ map (λ e. e.0) (entries marks) → AreActiveKeys statuses marks → ContentsAgree statuses contents
contents_agree statuses contents marks same active r =
    let alike = keys_of_contents contents marks same r in
    (λ here. (active r).0 (alike.0 here), λ there. alike.1 ((active r).1 there))

-- and only there
pub active_keys : {V : Type 0} (statuses : List Status) (contents : ByteMap) (marks : FinMap nat_cmp V) → map (λ e. e.0) (entries contents) ≡ map (λ e. e.0) (entries marks) → ContentsAgree statuses contents → AreActiveKeys statuses marks
active_keys statuses contents marks same represent r =
    let alike = keys_of_contents contents marks same r in
    (λ here. (represent r).0 (alike.1 here), λ there. alike.0 ((represent r).1 there))

-- ---- tests together

and_3 : (a b c : Bool) → (a && b && c) ≡ true → (a ≡ true) × (b ≡ true) × (c ≡ true)
and_3 true true c e = (refl, refl, e)
and_3 true false c e = absurd cc
and_3 false b c e = absurd cc

all_3 : (a b c : Bool) → a ≡ true → b ≡ true → c ≡ true → (a && b && c) ≡ true
all_3 true true c p q r = r
all_3 true false c p q r = absurd cc
all_3 false b c p q r = absurd cc

and_4 : (a b c d : Bool) → (a && b && c && d) ≡ true → (a ≡ true) × (b ≡ true) × (c ≡ true) × (d ≡ true)
and_4 true true true d e = (refl, refl, refl, e)
and_4 true true false d e = absurd cc
and_4 true false c d e = absurd cc
and_4 false b c d e = absurd cc

all_4 : (a b c d : Bool) → a ≡ true → b ≡ true → c ≡ true → d ≡ true → (a && b && c && d) ≡ true
all_4 true true true d p q r s = s
all_4 true true false d p q r s = absurd cc
all_4 true false c d p q r s = absurd cc
all_4 false b c d p q r s = absurd cc

-- ---- required documents

-- a number that is there is within the length
within_length : {A B : Type 0} (xs : List A) (ys : List B) → length ys ≡ length xs → (n : ℕ) (x : A) → numbered xs n ≡ Some x → (y : B) × (numbered ys n ≡ Some y)
within_length xs ys same n x at =
    let h = numbered_within xs n x at in
    let there = numbered_there ys (n - 1) (omega (arith, h, same)) in
    (there.0, numbered_at ys n (n - 1) (omega (arith, h)) ∙ there.1)

confirmed_of : (status : Status) (o : Option Confirmation) → (is_here status || is_some o) ≡ true → status ≢ Here → IsSome o
confirmed_of Here o e other = absurd (other refl)
confirmed_of Sent o e other = e
confirmed_of Received o e other = e
confirmed_of Ended o e other = e

to_confirmed : (status : Status) (o : Option Confirmation) → (status ≢ Here → IsSome o) → (is_here status || is_some o) ≡ true
to_confirmed Here o h = refl
to_confirmed Sent o h = h (λ e. cc)
to_confirmed Received o h = h (λ e. cc)
to_confirmed Ended o h = h (λ e. cc)

disposal_of : (o : Option Confirmation) → is_disposal_confirmed o ≡ true → IfSome o (λ confirmation. IsTrue (is_disposal confirmation.action))
disposal_of None e = tt
disposal_of (Some confirmation) e = e

to_disposal : (o : Option Confirmation) → IfSome o (λ confirmation. IsTrue (is_disposal confirmation.action)) → is_disposal_confirmed o ≡ true
to_disposal None h = refl
to_disposal (Some confirmation) h = h

receipt_of : (status : Status) (o : Option Receipt) → (not (is_received status) || is_some o) ≡ true → status ≡ Received → IsSome o
receipt_of Here o e is = absurd cc
receipt_of Sent o e is = absurd cc
receipt_of Received o e is = e
receipt_of Ended o e is = absurd cc

to_receipt : (status : Status) (o : Option Receipt) → (status ≡ Received → IsSome o) → (not (is_received status) || is_some o) ≡ true
to_receipt Here o h = refl
to_receipt Sent o h = refl
to_receipt Received o h = h refl
to_receipt Ended o h = refl

-- required documents are there where each record has its required documents, and what was transferred has a receipt
pub documents_sound : (records : List Record) (statuses : List Status) (entries : EntryMap) → length statuses ≡ length records → AllHaveDocuments records statuses
    → ((run r : ℕ) (e : Entry) (head : Record) → get entries (run, r) ≡ Some e → e.outcome ≡ Transferred → numbered records r ≡ Some head → IsSome head.receipt)
    → DocumentsAgree records statuses entries
documents_sound records statuses entries same documents transferred =
    let parts : (r : ℕ) (head : Record) (status : Status) → numbered records r ≡ Some head → numbered statuses r ≡ Some status
    → ((is_here status || is_some head.confirmation) ≡ true) × (is_disposal_confirmed head.confirmation ≡ true) × ((not (is_received status) || is_some head.receipt) ≡ true) =
    λ r head status at has. and_3 (is_here status || is_some head.confirmation) (is_disposal_confirmed head.confirmation) (not (is_received status) || is_some head.receipt) (documents r head status at has) in
    record {
      confirmed = λ r head status at has other. confirmed_of status head.confirmation (parts r head status at has).0 other;
      disposal = λ r head at. let has = within_length records statuses same r head at in disposal_of head.confirmation (parts r head has.0 at has.1).1;
      received = λ r head at has. receipt_of Received head.receipt (parts r head Received at has).2 refl;
      transferred = transferred;
    }

-- and only there
pub documents_tested : (records : List Record) (statuses : List Status) (entries : EntryMap) → DocumentsAgree records statuses entries → AllHaveDocuments records statuses
documents_tested records statuses entries represent r head status at has =
    all_3 (is_here status || is_some head.confirmation) (is_disposal_confirmed head.confirmation) (not (is_received status) || is_some head.receipt)
    (to_confirmed status head.confirmation (represent.confirmed r head status at has))
    (to_disposal head.confirmation (represent.disposal r head at))
    (to_receipt status head.receipt (λ is. represent.received r head at (has ∙ ap Some is)))

-- ---- days

le_of : (a b : ℤ) → int_le a b ≡ true → a ≤ℤ b
le_of a b e = grind (arith, ints)

le_to : (a b : ℤ) → a ≤ℤ b → int_le a b ≡ true
le_to a b h = grind (arith, ints)

closed_by : (last : ℤ) (o : Option ℤ) → is_by last o ≡ true → IfSome o (λ closed. closed ≤ℤ last)
closed_by last None e = tt
closed_by last (Some day) e = le_of day last e

to_closed_by : (last : ℤ) (o : Option ℤ) → IfSome o (λ closed. closed ≤ℤ last) → is_by last o ≡ true
to_closed_by last None h = refl
to_closed_by last (Some day) h = le_to day last h

reviewed_by : (last : ℤ) (o : Option Review) → is_reviewed_by last o ≡ true → IfSome o (λ review. review.day ≤ℤ last)
reviewed_by last None e = tt
reviewed_by last (Some review) e = le_of review.day last e

to_reviewed_by : (last : ℤ) (o : Option Review) → IfSome o (λ review. review.day ≤ℤ last) → is_reviewed_by last o ≡ true
to_reviewed_by last None h = refl
to_reviewed_by last (Some review) h = le_to review.day last h

confirmed_by : (last : ℤ) (o : Option Confirmation) → is_confirmed_by last o ≡ true → IfSome o (λ confirmation. confirmation.day ≤ℤ last)
confirmed_by last None e = tt
confirmed_by last (Some confirmation) e = le_of confirmation.day last e

to_confirmed_by : (last : ℤ) (o : Option Confirmation) → IfSome o (λ confirmation. confirmation.day ≤ℤ last) → is_confirmed_by last o ≡ true
to_confirmed_by last None h = refl
to_confirmed_by last (Some confirmation) h = le_to confirmation.day last h

receipted_by : (last : ℤ) (o : Option Receipt) → is_receipted_by last o ≡ true → IfSome o (λ receipt. receipt.day ≤ℤ last)
receipted_by last None e = tt
receipted_by last (Some receipt) e = le_of receipt.day last e

to_receipted_by : (last : ℤ) (o : Option Receipt) → IfSome o (λ receipt. receipt.day ≤ℤ last) → is_receipted_by last o ≡ true
to_receipted_by last None h = refl
to_receipted_by last (Some receipt) h = le_to receipt.day last h

-- no day is after the office's where none is in the tree, among the holds and among the runs
pub days_sound : (aggregations : List Aggregation) (records : List Record) (holds : HoldMap) (runs : List Run) (day : ℤ) → IsTreeBy aggregations records day → NoHoldIsAfter holds day → AreRunsBy runs day → NoDayIsAfter aggregations records holds runs day
days_sound aggregations records holds runs day tree held run_days =
    let parts : (r : ℕ) (head : Record) → numbered records r ≡ Some head → (int_le head.added day ≡ true) × (is_reviewed_by day head.review ≡ true) × (is_confirmed_by day head.confirmation ≡ true) × (is_receipted_by day head.receipt ≡ true) =
    λ r head at. and_4 (int_le head.added day) (is_reviewed_by day head.review) (is_confirmed_by day head.confirmation) (is_receipted_by day head.receipt) (at_numbers (λ head. is_record_by day head ≡ true) records tree.acted r head at) in
    record {
      closed = λ a it at. closed_by day it.closed (at_numbers (λ it. is_by day it.closed ≡ true) aggregations tree.closed a it at);
      added = λ r head at. le_of head.added day (parts r head at).0;
      reviewed = λ r head at. reviewed_by day head.review (parts r head at).1;
      confirmed = λ r head at. confirmed_by day head.confirmation (parts r head at).2;
      receipted = λ r head at. receipted_by day head.receipt (parts r head at).3;
      held = held;
      run_days = run_days;
    }

-- and only there
pub days_tested : (aggregations : List Aggregation) (records : List Record) (holds : HoldMap) (runs : List Run) (day : ℤ) → NoDayIsAfter aggregations records holds runs day → IsTreeBy aggregations records day × NoHoldIsAfter holds day × AreRunsBy runs day
days_tested aggregations records holds runs day none = (
  record {
    closed = from_numbers (λ it. is_by day it.closed ≡ true) aggregations (λ a it at. to_closed_by day it.closed (none.closed a it at));
    acted = from_numbers (λ head. is_record_by day head ≡ true) records (λ r head at.
        all_4 (int_le head.added day) (is_reviewed_by day head.review) (is_confirmed_by day head.confirmation) (is_receipted_by day head.receipt)
        (le_to head.added day (none.added r head at)) (to_reviewed_by day head.review (none.reviewed r head at)) (to_confirmed_by day head.confirmation (none.confirmed r head at)) (to_receipted_by day head.receipt (none.receipted r head at)));
  },
  none.held,
  none.run_days,
)
