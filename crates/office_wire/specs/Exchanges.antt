-- Connections whose bytes are known, served one after another. Source: own.
use Rattle.std.specs.Prelude.{◌≡◌, ◌⊎◌, ℕ, true, Bool, false, List, [], ◌∷◌, ◌++◌, length, IfOk, OnErr, Option, Some, Result}
use Rattle.sqlite_trees.specs.declared.store.Store.{Ghosts}
use Rattle.office_base.specs.declared.output.Io.{Io}
use Rattle.office_desk.specs.Desk.{DeskState}
use Rattle.office_wire.specs.Calling.{AnsweredAt, CalledAt}
use Rattle.office_wire.specs.Connections.{has_failed}
use Rattle.office_wire.specs.Serving.{Breaks, IsGoneAnswered, IsOneServed}
use Rattle.office_wire.specs.Sources.{Sent, Traffic}

-- all bytes of a connection were answered at a desk, and this went out: the whole answer; or at an error its first bytes,
-- or none
pub record IsExchanged {S : Type 0} (g : Ghosts S) (bytes : List ℕ) (it : Sent) (old new : DeskState S) : Type 0 where
  pub served : AnsweredAt g old new
      (λ t. IsOneServed g t (Some bytes) (Unit {0}) it.status (Some []) (Some it.bytes) new)
      (IsGoneAnswered (Some bytes) (Unit {0}) it.status (Some []) (Some it.bytes))
      (IfOk it.status (λ code. code ≡ 503))
  pub broken : OnErr it.status
      (((new ≡ old) × (it.bytes ≡ []))
      ⊎ CalledAt g old new (λ t. Breaks g t bytes (Unit {0}) (Some []) (Some it.bytes) new))

-- the connections with these bytes were served one after another, and this went out; each began where the one before it
-- left the desk, so that nothing else was done
pub data AreExchanged {S : Type 0} (g : Ghosts S) (first : DeskState S) : List (List ℕ) → List Sent → DeskState S
    → Type 0 where
  none : AreExchanged g first [] [] first
  one_more : (came : List (List ℕ)) (sent : List Sent) (bytes : List ℕ) (it : Sent) (old new : DeskState S)
      → AreExchanged g first came sent old → IsExchanged g bytes it old new
      → AreExchanged g first (came ++ bytes ∷ []) (sent ++ it ∷ []) new

-- one connection of a source that reports its bytes: none is to come, and nothing was done; or the next one was served
abbrev pub IsNextServed : {S : Type 0} → Ghosts S → Result ℕ Io → Traffic → Option Traffic → DeskState S → DeskState S → Type 0
IsNextServed g status before after old new =
    ((has_failed status ≡ true) × (new ≡ old) × (after ≡ Some before) × (before.coming ≡ []))
    ⊎ ((bytes : List ℕ) × (rest : List (List ℕ)) × (it : Sent) × (before.coming ≡ bytes ∷ rest)
    × (after ≡ Some (record { coming = rest; sent = before.sent ++ it ∷ [] })) × (it.status ≡ status)
    × IsExchanged g bytes it old new)

-- so many connections of it, and whether one failed: those that came were served in their order, and nothing else was
-- done; where none failed, each came, and fewer came only where no more are to come
pub record AreServed {S : Type 0} (g : Ghosts S) (count : ℕ) (failed : Bool) (before : Traffic) (after : Option Traffic)
    (old new : DeskState S) : Type 0 where
  pub came : List (List ℕ)
  pub rest : List (List ℕ)
  pub sent : List Sent
  pub coming : before.coming ≡ came ++ rest
  pub traffic : after ≡ Some (record { coming = rest; sent = before.sent ++ sent })
  pub exchanged : AreExchanged g old came sent new
  pub each : failed ≡ false → length sent ≡ count
  pub all : (length sent ≡ count) ⊎ (rest ≡ [])
