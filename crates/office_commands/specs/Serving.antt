-- How a service ends. Source: own.
use Rattle.std.specs.Prelude.{◌≡◌, ◌⊎◌, ◌≤◌, ℕ, Bool, false, List, Option}
use Rattle.std.specs.Io.KnownBytes.{Appends}
use Rattle.sqlite_trees.specs.declared.store.Store.{Ghosts}
use Rattle.sqlite.specs.Held.{Held, state}
use Rattle.office_access.specs.Settings.{Settings}
use Rattle.office_base.specs.Output.{AppendsSome}
use Rattle.office_rules.specs.State.{State}
use Rattle.office_desk.specs.Desk.{DeskState}
use Rattle.office_desk.specs.Leaving.{IsAt}
use Rattle.office_gate.specs.Sessions.{LeavesGated}
use Rattle.office_wire.specs.Connections.{TurnsBy}
use Rattle.office_wire.specs.Serving.{LeavesServed}
use Rattle.office_commands.specs.declared.exit.Exit.{Exit}
use Rattle.office_commands.specs.declared.exit.Exit.TheVariants as how
use Rattle.office_commands.specs.ExitStatuses.{exit_of_service}
use Rattle.office_commands.specs.Opening.{EndsOpenFailed, RepresentSome, WasFound}
use Rattle.office_commands.specs.Running.{listening_line}

-- a desk was opened over a connection, at the state with which the office was opened
pub record IsDeskOf {S : Type 0} (g : Ghosts S) (conn : Held S) (desk : DeskState S) : Type 0 where
  pub is_open : desk.is_poisoned ≡ false
  pub found : RepresentSome (state g conn) (state g desk.connection)
  pub is_at : (s : State) → WasFound (state g conn) (state g desk.connection) s → IsAt g s desk

-- a desk was served, by the exit: the first bytes of the line that reports where it listens went out, or none, and
-- nothing is served; or connections were, one after another, as many as were asked for or fewer if the desk was
-- poisoned, and each request left the desk so
abbrev pub ServesAtBy : {S : Type 0} → (State → DeskState S → Type 0) → Ghosts S → ℕ → ℕ → DeskState S → DeskState S
    → Option (List ℕ) → Option (List ℕ) → Exit → Type 0
ServesAtBy Leaves g port count old new written after exit =
    ((exit ≡ how.File) × (new ≡ old) × AppendsSome written after (listening_line port))
    ⊎ ((n : ℕ) × (failed ended : Bool) × Appends written after (listening_line port)
    × TurnsBy Leaves g n failed ended old new
    × (n ≤ count) × (ended ≡ false → n ≡ count) × (exit ≡ exit_of_service failed ended))

abbrev pub ServesAt : {S : Type 0} → Ghosts S → ℕ → ℕ → DeskState S → DeskState S → Option (List ℕ) → Option (List ℕ)
    → Exit → Type 0
ServesAt g port count old new written after exit =
    ServesAtBy (LeavesServed g) g port count old new written after exit

-- a service over a connection, by its exit
abbrev pub ServiceEndsBy : {S : Type 0} → (State → DeskState S → Type 0) → Ghosts S → ℕ → ℕ → Held S → Held S
    → Option (List ℕ) → Option (List ℕ) → Exit → Type 0
ServiceEndsBy {S} Leaves g port count old new written after exit =
    EndsOpenFailed (state g old) (state g new) written after exit
    ⊎ ((first last : DeskState S) × IsDeskOf g old first
    × ServesAtBy Leaves g port count first last written after exit × (new ≡ last.connection))

-- `serve FILE PORT COUNT`
abbrev pub ServiceEnds : {S : Type 0} → Ghosts S → ℕ → ℕ → Held S → Held S → Option (List ℕ) → Option (List ℕ) → Exit
    → Type 0
ServiceEnds g port count old new written after exit =
    ServiceEndsBy (LeavesServed g) g port count old new written after exit

-- `gate FILE PORT COUNT ACCESS TOKEN JOURNAL`, with these settings at first
abbrev pub GateEnds : {S : Type 0} → Ghosts S → Settings → ℕ → ℕ → Held S → Held S → Option (List ℕ)
    → Option (List ℕ) → Exit → Type 0
GateEnds g first port count old new written after exit =
    ServiceEndsBy (LeavesGated g first) g port count old new written after exit
