-- What an outcome says. Source: own.
use Rattle.std.specs.Prelude.{Bool, true, false, List, [], ◌∷◌, ℕ, Option, codes}
use Rattle.std.specs.List.{find}
use Rattle.std.specs.Str.{bytes_eq}
use Rattle.office_rules.specs.declared.outcome.Outcome.{Outcome}
use Rattle.office_rules.specs.declared.outcome.Outcome.TheVariants.{Destroyed, Transferred, Sent, Skipped}

-- the record is ended by it, and its content gone
abbrev pub is_ending : Outcome → Bool
is_ending Destroyed = true
is_ending Transferred = true
is_ending Sent = false
is_ending Skipped = false

abbrev pub is_sending : Outcome → Bool
is_sending Destroyed = false
is_sending Transferred = false
is_sending Sent = true
is_sending Skipped = false

abbrev pub is_skipping : Outcome → Bool
is_skipping Destroyed = false
is_skipping Transferred = false
is_skipping Sent = false
is_skipping Skipped = true

abbrev pub is_transferring : Outcome → Bool
is_transferring Destroyed = false
is_transferring Transferred = true
is_transferring Sent = false
is_transferring Skipped = false

-- the word for each outcome
abbrev pub outcome_word : Outcome → List ℕ
outcome_word Destroyed = codes "destroyed"
outcome_word Transferred = codes "transferred"
outcome_word Sent = codes "sent"
outcome_word Skipped = codes "skipped"

-- the outcome that a text names: the one whose word it is
abbrev pub outcome_named : List ℕ → Option Outcome
outcome_named text =
    find (λ outcome. bytes_eq text (outcome_word outcome)) (Destroyed ∷ Transferred ∷ Sent ∷ Skipped ∷ [])
