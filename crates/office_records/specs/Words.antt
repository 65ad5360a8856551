-- The words for triggers, actions and statuses. Source: own; the four actions are those of
-- MoReq2010's disposal scheduling service.
use Rattle.std.specs.Prelude.{List, [], ◌∷◌, ℕ, Option, codes}
use Rattle.std.specs.List.{find}
use Rattle.std.specs.Str.{bytes_eq}
use Rattle.office_records.specs.declared.action.Action.{Action}
use Rattle.office_records.specs.declared.action.Action.TheVariants as action
use Rattle.office_records.specs.declared.status.Status.{Status}
use Rattle.office_records.specs.declared.status.Status.TheVariants.{Here, Sent, Received, Ended}
use Rattle.office_records.specs.declared.trigger.Trigger.{Trigger}
use Rattle.office_records.specs.declared.trigger.Trigger.TheVariants.{Origin, Added, Closed, LastAddition, Review, Event}

-- the word for each trigger
abbrev pub trigger_word : Trigger → List ℕ
trigger_word Origin = codes "origin"
trigger_word Added = codes "added"
trigger_word Closed = codes "closed"
trigger_word LastAddition = codes "last-addition"
trigger_word Review = codes "review"
trigger_word Event = codes "event"

-- the trigger that a text names: the one whose word it is
abbrev pub trigger_named : List ℕ → Option Trigger
trigger_named text =
    find (λ trigger. bytes_eq text (trigger_word trigger))
    (Origin ∷ Added ∷ Closed ∷ LastAddition ∷ Review ∷ Event ∷ [])

-- the word for each action
abbrev pub action_word : Action → List ℕ
action_word action.Keep = codes "keep"
action_word action.Review = codes "review"
action_word action.Transfer = codes "transfer"
action_word action.Destroy = codes "destroy"

-- the action that a text names: the one whose word it is
abbrev pub action_named : List ℕ → Option Action
action_named text =
    find (λ action. bytes_eq text (action_word action))
    (action.Keep ∷ action.Review ∷ action.Transfer ∷ action.Destroy ∷ [])

-- the word for each status
abbrev pub status_word : Status → List ℕ
status_word Here = codes "here"
status_word Sent = codes "sent"
status_word Received = codes "received"
status_word Ended = codes "ended"

-- the status that a text names: the one whose word it is
abbrev pub status_named : List ℕ → Option Status
status_named text = find (λ status. bytes_eq text (status_word status)) (Here ∷ Sent ∷ Received ∷ Ended ∷ [])
