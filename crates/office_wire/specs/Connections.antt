-- Connections that are served one after another. Source: own.
use Rattle.std.specs.Prelude.{◌≡◌, ◌≢◌, ◌⊎◌, ◌≤◌, ℕ, zero, suc, IfOk, Bool, true, false, ◌||◌, Result, Ok, Err}
use Rattle.sqlite_trees.specs.declared.store.Store.{Ghosts}
use Rattle.office_base.specs.declared.output.Io.{Io}
use Rattle.office_rules.specs.State.{State}
use Rattle.office_desk.specs.Desk.{DeskState}
use Rattle.office_wire.specs.Calling.{AnsweredAt}
use Rattle.office_wire.specs.Serving.{LeavesServed}
use Rattle.office_wire.specs.declared.connections.Service.{Service}

-- a connection failed: it was not accepted, or not read or written
abbrev pub has_failed : Result ℕ Io → Bool
has_failed (Ok status) = false
has_failed (Err e) = true

-- one request was served: from a state the desk is left so; it is poisoned only if the answer was 503
abbrev pub IsVisitedBy : {S : Type 0} → (State → DeskState S → Type 0) → Ghosts S → Result ℕ Io → DeskState S
    → DeskState S → Type 0
IsVisitedBy Leaves g status old new =
    AnsweredAt g old new (λ t. Leaves t new) (Unit {0}) (IfOk status (λ code. code ≡ 503))

-- one connection: it failed before the desk was asked, or a request was served
abbrev pub TurnBy : {S : Type 0} → (State → DeskState S → Type 0) → Ghosts S → Result ℕ Io → DeskState S → DeskState S
    → Type 0
TurnBy Leaves g status old new = ((has_failed status ≡ true) × (new ≡ old)) ⊎ IsVisitedBy Leaves g status old new

-- the same of a request that anybody may send, whatever it was
abbrev pub IsVisited : {S : Type 0} → Ghosts S → Result ℕ Io → DeskState S → DeskState S → Type 0
IsVisited g status old new = IsVisitedBy (LeavesServed g) g status old new

abbrev pub Turn : {S : Type 0} → Ghosts S → Result ℕ Io → DeskState S → DeskState S → Type 0
Turn g status old new = TurnBy (LeavesServed g) g status old new

-- whether serving ends after a connection: its answer was 503, and the desk was poisoned
pub record Ends (status : Result ℕ Io) (is_poisoned ended : Bool) : Type 0 where
  pub asked : status ≡ Ok 503 → ended ≡ is_poisoned
  pub unasked : status ≢ Ok 503 → ended ≡ false

-- so many connections, one after another, whether one of them failed, and whether serving ends after the last one
unfoldable pub TurnsBy : {S : Type 0} → (State → DeskState S → Type 0) → Ghosts S → ℕ → Bool → Bool → DeskState S
    → DeskState S → Type 0
TurnsBy Leaves g zero failed ended old new = (failed ≡ false) × (ended ≡ false) × (new ≡ old)
TurnsBy {S} Leaves g (suc n) failed ended old new =
    (m : DeskState S) × (earlier : Bool) × (status : Result ℕ Io)
    × TurnsBy Leaves g n earlier false old m × TurnBy Leaves g status m new × Ends status new.is_poisoned ended
    × (failed ≡ (earlier || has_failed status))

abbrev pub Turns : {S : Type 0} → Ghosts S → ℕ → Bool → Bool → DeskState S → DeskState S → Type 0
Turns g n failed ended old new = TurnsBy (LeavesServed g) g n failed ended old new

-- connections were served, as many as the count, and fewer only if the desk was poisoned
pub record ServesAllBy {S : Type 0} (Leaves : State → DeskState S → Type 0) (g : Ghosts S) (count : ℕ)
    (service : Service) (old new : DeskState S) : Type 0 where
  pub turns : TurnsBy Leaves g service.connections service.has_failed service.is_poisoned old new
  pub most : service.connections ≤ count
  pub all : service.is_poisoned ≡ false → service.connections ≡ count

abbrev pub ServesAll : {S : Type 0} → Ghosts S → ℕ → Service → DeskState S → DeskState S → Type 0
ServesAll g count service old new = ServesAllBy (LeavesServed g) g count service old new
