-- What else a file has is kept, from the opening of its office to what is done at its desk.
use Rattle.std.proofs.Common.{inl, inr}
use Rattle.sqlite.specs.Held.{Held, state}
use Rattle.sqlite.specs.State.{HasCleanDisk}
use Rattle.sqlite_trees.specs.declared.store.Store.{Ghosts}
use Rattle.office_rules.specs.State.{State, empty_state}
use Rattle.office_sql.specs.declared.schema_versions.SchemaVersion.TheVariants as schema_version
use Rattle.office_sql.proofs.Rest.{leaves_kept}
use Rattle.office_desk.specs.Calling.{LeavesRestOf}
use Rattle.office_desk.specs.Desk.{DeskState}
use Rattle.office_desk.specs.Leaving.{IsAt}
use Rattle.office_desk.specs.Opening.{IsOpenable, Opens}
use Rattle.office_desk.specs.Outcomes.{FromEach}
use Rattle.office_commands.specs.Opening.{IsRestKept}

module _ {S : Type 0} (g : Ghosts S) (conn : Held S) (desk : DeskState S) (it : Opens g conn desk) where
  -- the state at which the desk is
  found_at : HasCleanDisk (state g desk.connection) → IsOpenable (state g conn) → (s : State) × IsAt g s desk
  found_at clean (inl blank) = (empty_state, (it.finds clean).made blank)
  found_at clean (inr at) = let found = (it.finds clean).found at.0 at.1 in (found.0, found.2)

  -- by what spares it
  pub kept_after : (after : DeskState S) → (HasCleanDisk (state g after.connection) → HasCleanDisk (state g desk.connection)) → FromEach g desk after (λ s. LeavesRestOf g desk after) → IsRestKept (state g conn) (state g after.connection)
  kept_after after was_clean spares clean openable =
      let here = was_clean clean in
      let at = found_at here openable in
      leaves_kept schema_version.Two (state g conn) (state g desk.connection) (state g after.connection) at.1.rows.rest ((it.finds here).rest openable) (spares at.0 clean at.1)
