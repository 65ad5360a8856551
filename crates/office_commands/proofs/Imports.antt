-- How an import ends.
use Rattle.std.proofs.Common.{◌≡◌, inl, inr, ℕ, ℤ, List, Option, Result}
use Rattle.sqlite.specs.Held.{state}
use Rattle.sqlite.specs.State.{State as FileState, HasCleanDisk}
use Rattle.sqlite_trees.specs.declared.store.Store.{Ghosts}
use Rattle.office_rules.specs.State.{State}
use Rattle.office_store.specs.declared.fault.Fault.{Fault}
use Rattle.office_desk.specs.Desk.{DeskState}
use Rattle.office_desk.specs.Leaving.{IsAt}
use Rattle.office_csv.specs.ImportRows.{Fields}
use Rattle.office_wire.specs.Importing.{EndsImport, ImportEnd, ImportLeads, IsRowStopped, row_stopped}
use Rattle.office_wire.specs.declared.record_import.ImportStop.{ImportStop}
use Rattle.office_commands.specs.Importing.{AreImported, ImportLeaves, ImportsAt, IsRowCut, exit_of_import}
use Rattle.office_commands.specs.Opening.{WasAt}
use Rattle.office_commands.specs.declared.exit.Exit.{Exit}

-- what was imported from each state of one kind was so from each of another that is among them
pub imports_of : (Was Other : State → Type 0) → ((s : State) → Other s → Was s) → (day : ℤ) (text : Option (List ℕ)) (new : FileState) (written after : Option (List ℕ)) (e : Exit) → ImportsAt Was day text new written after e → ImportsAt Other day text new written after e
imports_of Was Other to day text new written after e (done, is, h) = (done, is, λ s was. h s (to s was))

row_cut : {S : Type 0} (g : Ghosts S) (day : ℤ) (u : State) (row : Fields) (f : Fault) (desk : DeskState S) → IsRowStopped g day u row f desk → IsRowCut day u row f (state g desk.connection)
row_cut g day u row f desk (inl it) = inl (it.0, it.1.rows)
row_cut g day u row f desk (inr it) = inr (it.0, it.1, it.2, it.3.1)

module _ {S : Type 0} (g : Ghosts S) (day : ℤ) (text : Option (List ℕ)) (t : State) (desk : DeskState S) (written after : Option (List ℕ)) where
  leaves : (why : ImportEnd) (u : State) → ImportLeads g day u why desk → ImportLeaves day u why (state g desk.connection)
  leaves (row_stopped row f) u it = row_cut g day u row f desk it
  leaves why u it = it.rows

  came : (x : Result ℕ ImportStop) → EndsImport g day t text x desk written after → AreImported day text x (state g desk.connection) written after t
  came x (o, u, is, it, leads) = (o, u, is, it, leaves o.why u leads)

-- an import ends as it was done
pub imported : {S : Type 0} (g : Ghosts S) (day : ℤ) (text : Option (List ℕ)) (old desk : DeskState S) (written after : Option (List ℕ)) (x : Result ℕ ImportStop) (e : Exit) → e ≡ exit_of_import x
    → ((t : State) → HasCleanDisk (state g desk.connection) → IsAt g t old → EndsImport g day t text x desk written after)
    → ImportsAt (WasAt g old desk) day text (state g desk.connection) written after e
imported g day text old desk written after x e is did = (x, is, λ t was. came g day text t desk written after x (did t was.0 was.1))
