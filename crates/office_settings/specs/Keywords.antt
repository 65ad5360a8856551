-- The keywords of the settings. Source: docs/ACCESS.md, "The settings"; docs/ACTS.md, "An act".
use Rattle.std.specs.Prelude.{ℕ, ◌||◌, Bool, List, codes}
use Rattle.std.specs.Str.{bytes_eq}

-- an act on the plan, the classes or the files
unfoldable pub is_plan_act : List ℕ → Bool
is_plan_act token =
    bytes_eq token (codes "add-schedule")
    || bytes_eq token (codes "add-class")
    || bytes_eq token (codes "set-class-schedule")
    || bytes_eq token (codes "add-aggregation")
    || bytes_eq token (codes "close-aggregation")
    || bytes_eq token (codes "add-record")
    || bytes_eq token (codes "set-record-schedule")
    || bytes_eq token (codes "reclassify")

-- an act on a hold, or a decision about a record
unfoldable pub is_hold_act : List ℕ → Bool
is_hold_act token =
    bytes_eq token (codes "place-hold")
    || bytes_eq token (codes "hold-on")
    || bytes_eq token (codes "hold-off")
    || bytes_eq token (codes "lift-hold")
    || bytes_eq token (codes "confirm")
    || bytes_eq token (codes "review")

-- an act of a run, or one beside the acts of a list
unfoldable pub is_run_act : List ℕ → Bool
is_run_act token =
    bytes_eq token (codes "open-run")
    || bytes_eq token (codes "run-step")
    || bytes_eq token (codes "receipt")
    || bytes_eq token (codes "event")
    || bytes_eq token (codes "resume")
    || bytes_eq token (codes "vault")
    || bytes_eq token (codes "later-day")

-- a kind of act, or resume, vault or later-day
unfoldable pub is_act : List ℕ → Bool
is_act token = is_plan_act token || is_hold_act token || is_run_act token

-- a thing to read
unfoldable pub is_thing : List ℕ → Bool
is_thing token =
    bytes_eq token (codes "records")
    || bytes_eq token (codes "contents")
    || bytes_eq token (codes "lists")
    || bytes_eq token (codes "certificates")
    || bytes_eq token (codes "catalogue")
    || bytes_eq token (codes "history")
    || bytes_eq token (codes "health")

-- a rule that is on or off
unfoldable pub is_on_or_off : List ℕ → Bool
is_on_or_off token =
    bytes_eq token (codes "opener-does-not-carry-out")
    || bytes_eq token (codes "confirmer-does-not-open")
    || bytes_eq token (codes "sender-does-not-receive")
    || bytes_eq token (codes "receiver-does-not-open")
