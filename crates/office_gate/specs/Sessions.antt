-- Requests that come through a proxy, one after another, and where they leave an office. Source: own.
use Rattle.std.specs.Prelude.{◌≡◌, ◌⊎◌, ◌≤◌, ℕ, ℤ, zero, suc, Bool, true, false, ◌||◌, List, Option, Result}
use Rattle.sqlite_trees.specs.declared.store.Store.{Ghosts}
use Rattle.office_access.specs.Deeds.{AllPermitted}
use Rattle.office_access.specs.Permits.{PermitsResumption}
use Rattle.office_access.specs.Settings.{Settings}
use Rattle.office_access.specs.declared.person.SignIn.{SignIn}
use Rattle.office_base.specs.declared.output.Io.{Io}
use Rattle.office_base.specs.declared.stop.Stop.{Stop}
use Rattle.office_desk.specs.Desk.{DeskState}
use Rattle.office_gate.specs.Exchanges.{LeavesVisited}
use Rattle.office_gate.specs.InForce.{IsInForceSince, Renews}
use Rattle.office_gate.specs.declared.access.Access.{Access}
use Rattle.office_gate.specs.declared.access.AccessError.{AccessError}
use Rattle.office_guard.specs.Permitted.{deeds_of}
use Rattle.office_rules.specs.Acts.{after}
use Rattle.office_rules.specs.Forms.{AreWellFormed}
use Rattle.office_rules.specs.Runs.{after_steps}
use Rattle.office_rules.specs.State.{State}
use Rattle.office_rules.specs.declared.act.Act.{Act}
use Rattle.office_wire.specs.Connections.{Ends, IsVisitedBy, has_failed}
use Rattle.office_wire.specs.declared.connections.Service.{Service}

-- One connection: it failed before anything was asked. Or the text of the settings was read anew, and a request was
-- served for a visitor under the settings that are in force then.
abbrev pub GateTurn : {S T : Type 0} → Ghosts S → (T → Option (List (Result (List ℕ) Stop))) → Result ℕ Io
    → (was is : Access T) → (old new : DeskState S) → Type 0
GateTurn g readings status was is old new =
    ((has_failed status ≡ true) × (is ≡ was) × (new ≡ old))
    ⊎ (((renewal : Result Bool AccessError) × Renews readings renewal was is)
    × IsVisitedBy (λ t d. LeavesVisited g t is.gate.policy d) g status old new)

-- so many connections, one after another, whether one of them failed, and whether serving ends after the last one
unfoldable pub GateTurns : {S T : Type 0} → Ghosts S → (T → Option (List (Result (List ℕ) Stop))) → ℕ → Bool → Bool
    → (first is : Access T) → (old new : DeskState S) → Type 0
GateTurns g readings zero failed ended first is old new =
    (failed ≡ false) × (ended ≡ false) × (is ≡ first) × (new ≡ old)
GateTurns {S} {T} g readings (suc n) failed ended first is old new =
    (m : DeskState S) × (was : Access T) × (earlier : Bool) × (status : Result ℕ Io)
    × GateTurns g readings n earlier false first was old m × GateTurn g readings status was is m new
    × Ends status new.is_poisoned ended × (failed ≡ (earlier || has_failed status))

-- connections were served, as many as the count, and fewer only if the desk was poisoned
pub record GatesAll {S T : Type 0} (g : Ghosts S) (readings : T → Option (List (Result (List ℕ) Stop))) (count : ℕ)
    (service : Service) (first is : Access T) (old new : DeskState S) : Type 0 where
  pub turns : GateTurns g readings service.connections service.has_failed service.is_poisoned first is old new
  pub most : service.connections ≤ count
  pub all : service.is_poisoned ≡ false → service.connections ≡ count

-- from a state the desk is where serving a visitor leaves it, under settings that were in force since those first ones
abbrev pub LeavesGated : {S : Type 0} → Ghosts S → Settings → State → DeskState S → Type 0
LeavesGated g first t desk = (settings : Settings) × IsInForceSince first settings × LeavesVisited g t settings desk

-- From a state an office came to another by what was permitted alone: acts of names that signed in, each permitted to the
-- name, under settings in force, in the office in which it was done; and steps of the open run, if it was permitted to a
-- name to carry that out.
pub data CameByRights (InForce : Settings → Type 0) (s : State) : State → Type 0 where
  stayed : CameByRights InForce s s
  performed : (t : State) (settings : Settings) (today : ℤ) (name : SignIn) (acts : List Act)
      → CameByRights InForce s t → InForce settings → AreWellFormed acts
      → AllPermitted t (deeds_of settings today name acts) → CameByRights InForce s (after t acts)
  carried_out : (t : State) (settings : Settings) (name : SignIn) (steps : ℕ)
      → CameByRights InForce s t → InForce settings → PermitsResumption settings t.office name
      → CameByRights InForce s (after_steps t steps)
