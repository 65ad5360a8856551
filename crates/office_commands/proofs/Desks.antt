-- A desk that was opened over a connection, by what its opening says.
use Rattle.std.proofs.Common.{inl, inr, sym, subst}
use Rattle.sqlite.specs.Held.{Held, state}
use Rattle.sqlite.specs.State.{State as FileState, HasCleanDisk}
use Rattle.sqlite_trees.specs.declared.store.Store.{Ghosts}
use Rattle.office_rules.specs.State.{State}
use Rattle.office_store.proofs.OneDatabase.{one_database}
use Rattle.office_desk.specs.Desk.{DeskState}
use Rattle.office_desk.specs.Leaving.{IsAt}
use Rattle.office_desk.specs.Opening.{Opens}
use Rattle.office_commands.specs.Opening.{IsOpened, RepresentSome, WasAt, WasFound}

module _ {S : Type 0} (g : Ghosts S) (conn : Held S) (desk : DeskState S) (it : Opens g conn desk) where
  module _ (new : FileState) (was_clean : HasCleanDisk new → HasCleanDisk (state g desk.connection)) where
    -- the desk is at the state with which the office was opened
    pub desk_at : (s : State) → WasFound (state g conn) new s → IsAt g s desk
    desk_at s (clean, inl (blank, is)) = subst (λ (t : State). IsAt g t desk) (sym is) ((it.finds (was_clean clean)).made blank)
    desk_at s (clean, inr (ed, rest, sound, rows)) =
        let found = (it.finds (was_clean clean)).found ed rest in
        subst (λ (t : State). IsAt g t desk) (one_database ed found.0 s (state g conn).now.trees found.1.sound sound found.1.rows rows) found.2

    -- and there is one
    pub represent_some : RepresentSome (state g conn) new
    represent_some ed clean rest = let found = (it.finds (was_clean clean)).found ed rest in (found.0, found.1)

  -- it was at that state before something was done at it
  pub was_at : (after : DeskState S) → (HasCleanDisk (state g after.connection) → HasCleanDisk (state g desk.connection)) → (s : State) → WasFound (state g conn) (state g after.connection) s → WasAt g desk after s
  was_at after was_clean s was = (was.0, desk_at (state g after.connection) was_clean s was)

  -- the office was opened
  pub opened : IsOpened (state g conn) (state g desk.connection) desk.office
  opened =
      let file = state g desk.connection in
      record {
        clear = it.clear;
        found = represent_some file (λ clean. clean);
        is = λ s was. sym (desk_at file (λ clean. clean) s was).office;
        rows = λ s was. (desk_at file (λ clean. clean) s was).rows;
        same = λ clean rest. (it.finds clean).same rest;
        rest = λ clean. (it.finds clean).rest;
      }
