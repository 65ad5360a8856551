-- What calls in a row spare of the rest of a file.
use Rattle.std.proofs.Common.{◌≡◌, sym, subst}
use Rattle.sqlite.specs.Held.{state}
use Rattle.sqlite.specs.State as sqlite
use Rattle.sqlite_trees.specs.declared.store.Store.{Ghosts}
use Rattle.office_rules.specs.State.{State}
use Rattle.office_sql.specs.declared.schema_versions.SchemaVersion.{SchemaVersion}
use Rattle.office_sql.specs.declared.schema_versions.SchemaVersion.TheVariants as schema_version
use Rattle.office_sql.specs.Office.{IsAtRestOver, KeepsRest, SparesRest}
use Rattle.office_sql.proofs.Rest.{keeps_spared, leaves_at_rest, leaves_one, leaves_then, spares_none}
use Rattle.office_store.specs.Adopted.{LeavesLess}
use Rattle.office_desk.specs.Calling.{LeavesRestOf}
use Rattle.office_desk.specs.Desk.{DeskState}
use Rattle.office_desk.specs.Leaving.{IsAt}
use Rattle.office_desk.specs.Outcomes.{FromEach, SparesTheRest}
use Rattle.office_desk.specs.Opening.{LeavesRest}

-- where nothing was done
rest_here : {S : Type 0} (g : Ghosts S) (s : State) (d : DeskState S) → IsAt g s d → LeavesRestOf g d d
rest_here g s d represents = leaves_at_rest schema_version.Two (SparesRest (state g d.connection).now) (state g d.connection) represents.rows.rest (spares_none (state g d.connection).now)

pub spares_here : {S : Type 0} (g : Ghosts S) (d : DeskState S) → SparesTheRest g d d
spares_here g d = record { clean = λ clean. clean; shield = λ shielded. shielded; rest = λ s clean at. rest_here g s d at }

-- one call after another
rest_then : {S : Type 0} (g : Ghosts S) (t : State) (old mid new : DeskState S) → IsAt g t mid → LeavesRestOf g old mid → LeavesRestOf g mid new → LeavesRestOf g old new
rest_then g t old mid new represents = leaves_then schema_version.Two (state g old.connection) (state g mid.connection) (state g new.connection) represents.rows.rest

-- where the first leads to a state
pub spares_then : {S : Type 0} (g : Ghosts S) (old mid new : DeskState S) → FromEach g old mid (λ s. (t : State) × IsAt g t mid) → SparesTheRest g old mid → SparesTheRest g mid new → SparesTheRest g old new
spares_then g old mid new there first next = record {
  clean = λ clean. first.clean (next.clean clean);
  shield = λ shielded. next.shield (first.shield shielded);
  rest = λ s clean at.
      let before = next.clean clean in
      let mid_at = there s before at in
      rest_then g mid_at.0 old mid new mid_at.1 (first.rest s before at) (next.rest mid_at.0 clean mid_at.1);
}

-- where a crash leaves no more than it left
pub rest_read : {S : Type 0} (g : Ghosts S) (s : State) (old new : DeskState S) → IsAt g s old → LeavesLess (state g old.connection) (state g new.connection) → LeavesRestOf g old new
rest_read g s old new represents less db may =
    leaves_one (SparesRest (state g old.connection).now) (state g old.connection).now db represents.rows.rest.office.has.database (spares_none (state g old.connection).now) (represents.rows.rest.only db (less db may))

pub rest_less : (ed : SchemaVersion) (old new : sqlite.State) → IsAtRestOver ed old → LeavesLess old new → LeavesRest old new
rest_less ed old new rest less db may =
    leaves_one (KeepsRest old.now) old.now db rest.office.has.database (keeps_spared old.now old.now (spares_none old.now)) (rest.only db (less db may))

-- where the tables are as they were found
pub rest_same : (ed : SchemaVersion) (old new : sqlite.State) → new.now ≡ old.now → IsAtRestOver ed new → LeavesRest old new
rest_same ed old new same rest = leaves_at_rest ed (KeepsRest old.now) new rest (subst (KeepsRest old.now) (sym same) (keeps_spared old.now old.now (spares_none old.now)))
