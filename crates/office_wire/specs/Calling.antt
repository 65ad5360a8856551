-- What a call at a desk does, and what becomes of the desk. Source: own.
use Rattle.std.specs.Prelude.{◌≡◌, false, IsTrue}
use Rattle.sqlite.specs.Held.{state}
use Rattle.sqlite.specs.State.{HasCleanDisk}
use Rattle.sqlite_trees.specs.declared.store.Store.{Ghosts}
use Rattle.office_rules.specs.State.{State}
use Rattle.office_desk.specs.Desk.{DeskState}
use Rattle.office_desk.specs.Leaving.{IsAt}

-- from each state at which the desk was, over a disk that is clean, this was done
pub record CalledAt {S : Type 0} (g : Ghosts S) (old new : DeskState S) (DoneFrom : State → Type 0) : Type 0 where
  pub clean : HasCleanDisk (state g new.connection) → HasCleanDisk (state g old.connection)
  pub shield : (state g old.connection).IsShielded → (state g new.connection).IsShielded
  pub did : (t : State) → HasCleanDisk (state g new.connection) → IsAt g t old → DoneFrom t

-- and this is answered by a poisoned desk before, which stays as it was; and this where it is poisoned here
pub record AnsweredAt {S : Type 0} (g : Ghosts S) (old new : DeskState S) (DoneFrom : State → Type 0)
    (IfPoisoned OnPoisoning : Type 0) : Type 0 where
  pub call : CalledAt g old new DoneFrom
  pub kept : IsTrue old.is_poisoned → new ≡ old
  pub gone : IsTrue old.is_poisoned → IfPoisoned
  pub reported : old.is_poisoned ≡ false → IsTrue new.is_poisoned → OnPoisoning
