-- What a word of the settings allows. Source: docs/ACCESS.md, "The settings"; docs/ACTS.md, "An act".
use Rattle.std.specs.Prelude.{ℕ, List, codes, Option, Some, None, if◌then◌else◌}
use Rattle.std.specs.Str.{bytes_eq}
use Rattle.office_access.specs.declared.kind.Kind.{Kind}
use Rattle.office_access.specs.declared.kind.Kind.TheVariants as kind
use Rattle.office_access.specs.declared.power.Power.{Power}
use Rattle.office_access.specs.declared.power.Power.TheVariants as power
use Rattle.office_access.specs.declared.reading.Reading.TheVariants as reading

-- an act on the plan, the classes or the files
unfoldable pub plan_kind : List ℕ → Option Kind
plan_kind token =
    if bytes_eq token (codes "add-schedule") then Some kind.AddSchedule
    else if bytes_eq token (codes "add-class") then Some kind.AddClass
    else if bytes_eq token (codes "set-class-schedule") then Some kind.SetClassSchedule
    else if bytes_eq token (codes "add-aggregation") then Some kind.AddAggregation
    else if bytes_eq token (codes "close-aggregation") then Some kind.CloseAggregation
    else if bytes_eq token (codes "add-record") then Some kind.AddRecord
    else if bytes_eq token (codes "set-record-schedule") then Some kind.SetRecordSchedule
    else if bytes_eq token (codes "reclassify") then Some kind.Reclassify
    else None

-- an act on a hold, or a decision about a record
unfoldable pub hold_kind : List ℕ → Option Kind
hold_kind token =
    if bytes_eq token (codes "place-hold") then Some kind.PlaceHold
    else if bytes_eq token (codes "hold-on") then Some kind.HoldOn
    else if bytes_eq token (codes "hold-off") then Some kind.HoldOff
    else if bytes_eq token (codes "lift-hold") then Some kind.LiftHold
    else if bytes_eq token (codes "confirm") then Some kind.Confirm
    else if bytes_eq token (codes "review") then Some kind.Review
    else None

-- an act of a run, or of what follows a run
unfoldable pub run_kind : List ℕ → Option Kind
run_kind token =
    if bytes_eq token (codes "open-run") then Some kind.OpenRun
    else if bytes_eq token (codes "run-step") then Some kind.RunStep
    else if bytes_eq token (codes "receipt") then Some kind.Receipt
    else if bytes_eq token (codes "event") then Some kind.Event
    else None

-- something beside the acts of a list
unfoldable pub power_beside : List ℕ → Option Power
power_beside token =
    if bytes_eq token (codes "resume") then Some power.Resume
    else if bytes_eq token (codes "vault") then Some power.Vault
    else if bytes_eq token (codes "later-day") then Some power.LaterDay
    else None

abbrev pub power_to : Option Kind → Option Power → Option Power
power_to None other = other
power_to (Some kind) other = Some (power.Act kind)

-- what a word behind `may` allows
unfoldable pub act_power : List ℕ → Option Power
act_power token =
    power_to (plan_kind token) (power_to (hold_kind token) (power_to (run_kind token) (power_beside token)))

-- what a word behind `reads` allows
unfoldable pub thing_power : List ℕ → Option Power
thing_power token =
    if bytes_eq token (codes "records") then Some (power.Read reading.Records)
    else if bytes_eq token (codes "contents") then Some (power.Read reading.Contents)
    else if bytes_eq token (codes "lists") then Some (power.Read reading.Lists)
    else if bytes_eq token (codes "certificates") then Some (power.Read reading.Certificates)
    else if bytes_eq token (codes "catalogue") then Some (power.Read reading.Catalogue)
    else if bytes_eq token (codes "history") then Some (power.Read reading.History)
    else if bytes_eq token (codes "health") then Some (power.Read reading.Health)
    else None
