-- What is examined of a tree before it is taken over with the rest of an office, each a test of one thing. Source: own.
use Rattle.std.specs.Prelude.{◌≡◌, ℕ, ℤ, Bool, true, ◌&&◌, ◌||◌, not, nat_le, int_le, List, Option, Some, None}
use Rattle.std.specs.List.{All}
use Rattle.std.specs.Option.{is_some}
use Rattle.office_records.specs.Disposal.{is_disposal, is_here, is_received}
use Rattle.office_records.specs.Lists.{numbered}
use Rattle.office_records.specs.declared.aggregation.Aggregation.{Aggregation}
use Rattle.office_records.specs.declared.event.Event.{Event}
use Rattle.office_records.specs.declared.head.Confirmation.{Confirmation}
use Rattle.office_records.specs.declared.head.Receipt.{Receipt}
use Rattle.office_records.specs.declared.head.Record.{Record}
use Rattle.office_records.specs.declared.head.Review.{Review}
use Rattle.office_records.specs.declared.status.Status.{Status}

-- the action that is confirmed, if one is, is one that a disposal run does
abbrev pub is_disposal_confirmed : Option Confirmation → Bool
is_disposal_confirmed None = true
is_disposal_confirmed (Some confirmation) = is_disposal confirmation.action

-- a record that is not here has a confirmation, a confirmation names transfer or destruction, and a received record has
-- a receipt
abbrev pub has_documents : Record → Status → Bool
has_documents head status =
    (is_here status || is_some head.confirmation) && is_disposal_confirmed head.confirmation
    && (not (is_received status) || is_some head.receipt)

-- so it is with each record
abbrev pub AllHaveDocuments : List Record → List Status → Type 0
AllHaveDocuments records statuses =
    (r : ℕ) (head : Record) (status : Status) → numbered records r ≡ Some head → numbered statuses r ≡ Some status
    → has_documents head status ≡ true

-- the day, if there is one, is not after the other
abbrev pub is_by : ℤ → Option ℤ → Bool
is_by last None = true
is_by last (Some day) = int_le day last

-- a review, a confirmation, a receipt of that day or before it, if there is one

abbrev pub is_reviewed_by : ℤ → Option Review → Bool
is_reviewed_by last None = true
is_reviewed_by last (Some review) = int_le review.day last

abbrev pub is_confirmed_by : ℤ → Option Confirmation → Bool
is_confirmed_by last None = true
is_confirmed_by last (Some confirmation) = int_le confirmation.day last

abbrev pub is_receipted_by : ℤ → Option Receipt → Bool
is_receipted_by last None = true
is_receipted_by last (Some receipt) = int_le receipt.day last

-- no day of an act on the record is after that day
abbrev pub is_record_by : ℤ → Record → Bool
is_record_by last head =
    int_le head.added last && is_reviewed_by last head.review && is_confirmed_by last head.confirmation
    && is_receipted_by last head.receipt

-- no day of an act on the tree is after that day
pub record IsTreeBy (aggregations : List Aggregation) (records : List Record) (last : ℤ) : Type 0 where
  pub closed : All (λ it. is_by last it.closed ≡ true) aggregations
  pub acted : All (λ head. is_record_by last head ≡ true) records

-- no content is longer than one may be
abbrev pub AreContentsShort : List Record → Type 0
AreContentsShort records = All (λ head. nat_le head.length 262_144 ≡ true) records

-- an event is of one of so many records; it occurred on or before the day of its act, which is not after that day
abbrev pub is_sound_event : ℕ → ℤ → ℕ → Event → Bool
is_sound_event count last r event =
    nat_le 1 r && nat_le r count && int_le event.occurred event.day && int_le event.day last
