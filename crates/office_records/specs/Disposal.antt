-- What a record's disposal rests on: its confirmation, its status, and what is spent below an aggregation.
-- Source: MoReq2010, its disposal scheduling service; confirmation, statuses and what is spent are own.
use Rattle.std.specs.Prelude.{ℕ, ◌==◌, nat_lt, Bool, true, false, ◌&&◌, List, filter, length, Option}
use Rattle.std.specs.List.{list_any, list_all}
use Rattle.std.specs.Option.{option_and_then, is_some}
use Rattle.std.specs.Ordering.{int_eq}
use Rattle.office_records.specs.Lists.{numbered, numbers_after, is_some_and}
use Rattle.office_records.specs.Tree.{TreeState, above, action_of, due_of, status_of}
use Rattle.office_records.specs.declared.action.Action.{Action}
use Rattle.office_records.specs.declared.action.Action.TheVariants as action
use Rattle.office_records.specs.declared.status.Status.{Status}
use Rattle.office_records.specs.declared.status.Status.TheVariants.{Here, Sent, Received, Ended}
use Rattle.office_records.specs.declared.head.Confirmation.{Confirmation}

abbrev pub same_action : Action → Action → Bool
same_action action.Keep action.Keep = true
same_action action.Review action.Review = true
same_action action.Transfer action.Transfer = true
same_action action.Destroy action.Destroy = true
same_action _ _ = false

-- the action is one that a disposal run does
abbrev pub is_disposal : Action → Bool
is_disposal action.Keep = false
is_disposal action.Review = false
is_disposal action.Transfer = true
is_disposal action.Destroy = true

abbrev pub is_here : Status → Bool
is_here Here = true
is_here Sent = false
is_here Received = false
is_here Ended = false

abbrev pub is_received : Status → Bool
is_received Here = false
is_received Sent = false
is_received Received = true
is_received Ended = false

abbrev pub is_ended : Status → Bool
is_ended Here = false
is_ended Sent = false
is_ended Received = false
is_ended Ended = true

abbrev pub is_sent : Status → Bool
is_sent Here = false
is_sent Sent = true
is_sent Received = false
is_sent Ended = false

-- the record is sent, or received and not ended
abbrev pub is_in_transfer : Status → Bool
is_in_transfer Here = false
is_in_transfer Sent = true
is_in_transfer Received = true
is_in_transfer Ended = false

-- the confirmation that is stored for a record
abbrev pub confirmation_of : TreeState → ℕ → Option Confirmation
confirmation_of tree r = option_and_then (λ head. head.confirmation) (numbered tree.records r)

-- a confirmation counts only while its action and due day are still the record's
abbrev pub counts : TreeState → ℕ → Bool
counts tree r =
    is_some_and (confirmation_of tree r) (λ confirmation.
    is_some_and (action_of tree r) (same_action confirmation.action) && is_some_and (due_of tree r) (int_eq confirmation.due))

-- the aggregation contains the record, at any height
abbrev pub is_below : TreeState → ℕ → ℕ → Bool
is_below tree a r = list_any (λ b. b == a) (above tree r)

-- the records below an aggregation, at any depth
abbrev pub records_below : TreeState → ℕ → List ℕ
records_below tree a = filter (is_below tree a) (numbers_after 0 (length tree.records))

-- an aggregation is spent where it is closed, a record lies below it, and all records below it are ended
unfoldable pub is_spent : TreeState → ℕ → Bool
is_spent tree a =
    is_some_and (numbered tree.aggregations a) (λ it. is_some it.closed)
    && nat_lt 0 (length (records_below tree a))
    && list_all (λ r. is_some_and (status_of tree r) is_ended) (records_below tree a)
