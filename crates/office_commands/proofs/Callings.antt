-- A command over a connection, and over the one that a closing gives back.
use Rattle.std.proofs.Common.{◌≡◌, sym, subst}
use Rattle.sqlite.specs.Held.{Held, state}
use Rattle.sqlite.specs.State.{HasCleanDisk}
use Rattle.sqlite_trees.specs.declared.store.Store.{Ghosts}

-- what is so of the connection of a desk is so of the one that its closing gives back
pub once_closed : {S : Type 0} (contained closed : Held S) → closed ≡ contained → (P : Held S → Type 0) → P contained → P closed
once_closed contained closed same P it = subst P (sym same) it

pub clean_closed : {S : Type 0} (g : Ghosts S) (old contained closed : Held S) → closed ≡ contained → (HasCleanDisk (state g contained) → HasCleanDisk (state g old)) → HasCleanDisk (state g closed) → HasCleanDisk (state g old)
clean_closed g old contained closed same clean = subst (λ (h : Held _). HasCleanDisk (state g h) → HasCleanDisk (state g old)) (sym same) clean

pub shield_closed : {S : Type 0} (g : Ghosts S) (old contained closed : Held S) → closed ≡ contained → ((state g old).IsShielded → (state g contained).IsShielded) → (state g old).IsShielded → (state g closed).IsShielded
shield_closed g old contained closed same shield = subst (λ (h : Held _). (state g old).IsShielded → (state g h).IsShielded) (sym same) shield
