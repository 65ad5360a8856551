-- Files that stand for an office are not refused, and neither is the office in them.
use Rattle.std.proofs.Common.{false, true, ◌≡◌, ◌≢◌, ◌⊎◌, ◌∙◌, codes, is_some, inl, inr, refl, sym, ap}
use Rattle.sqlite_disk.specs.declared.Disk.{Ghosts}
use Rattle.sqlite_schema.specs.Names.{table_named}
use Rattle.sqlite_schema.specs.declared.schema.Schema.{Schema}
use Rattle.sqlite_trees.specs.Tree.{Trees}
use Rattle.sqlite_trees.specs.declared.store.Store as store
use Rattle.sqlite_wal.specs.Recovery.{Image}
use Rattle.sqlite.specs.Files.{HoldsDatabase, IsEmpty, IsNothing, over_files}
use Rattle.sqlite.specs.Held.{Held, state}
use Rattle.sqlite.specs.State.{State as FileState, HasCleanDisk}
use Rattle.office_rules.specs.Rows.{rows_of}
use Rattle.office_rules.specs.Sound.{IsSound}
use Rattle.office_rules.specs.State.{State}
use Rattle.office_sql.specs.Names.{has_other_table}
use Rattle.office_sql.specs.Office.{IsBlank}
use Rattle.office_sql.specs.declared.schema_versions.SchemaVersion.{SchemaVersion}
use Rattle.office_store.specs.Calling.{IsUnmadeBy, has_office_table}
use Rattle.office_store.specs.RepresentsRows.{RepresentsRowsIn}
use Rattle.office_store.specs.declared.fault.Fault.{Fault}
use Rattle.office_store.specs.declared.fault.Fault.TheVariants as fault
use Rattle.office_store.proofs.OfficeRow.{this_schema_version}
use Rattle.office_desk.specs.Opening.{ExistingOpenFailed, OpenFailed}
use Rattle.office_life.specs.Opening.{AreNotRefused, IsNotRefused, StopsOffice}
use Rattle.office_life.specs.Standing.{RestsAt, Stage, StandsAt, half_made, stored, unmade}
use Rattle.office_life.proofs.LeftTables.{database_of}
use Rattle.office_life.proofs.Rests.{no_schema, no_tables}

-- ---- two files

-- files that stand for a state hold a database, or there is none yet
holds_or_none : (stage : Stage) (image : Image) (s : State) → StandsAt stage image s → ((db : Trees) × HoldsDatabase image db) ⊎ IsNothing image
holds_or_none stage image s (inl (db, held, at)) = inl (db, database_of image db held)
holds_or_none stored image s (inr none) = absurd none.0
holds_or_none unmade image s (inr none) = inr none.0
holds_or_none half_made image s (inr (inl nothing, is)) = inr nothing
holds_or_none half_made image s (inr (inr begun, is)) = inl (begun.0, begun.1)

pub files_not_refused : {D : Type 0} (g : Ghosts D) → AreNotRefused g
files_not_refused g files rest e stage s stands (inl memory) = inl memory
files_not_refused g files rest e stage s stands (inr (inl refused)) = absurd (refused.1 (holds_or_none stage _ s stands))
files_not_refused g files rest e stage s stands (inr (inr (inl failed))) = inr (inl (record { names = failed.0; counts = failed.1 }))
files_not_refused g files rest e stage s stands (inr (inr (inr met))) = inr (inr (record { names = met.0; full = met.1 }))

-- ---- the office in them

-- without a table there is none of the office's
no_office_table : (s : FileState) → IsBlank s → IsEmpty s.now.trees → has_office_table s ≡ false
no_office_table s blank empty =
    let none : is_some (table_named no_schema (codes "office")) ≡ false = refl in
    ap (λ (x : Schema). is_some (table_named x (codes "office"))) (no_tables s blank empty) ∙ none

no_other_table : (s : FileState) → IsBlank s → IsEmpty s.now.trees → has_other_table s.now.schema ≡ false
no_other_table s blank empty = let none : has_other_table no_schema ≡ false = refl in ap has_other_table (no_tables s blank empty) ∙ none

module _ {S : Type 0} (g : store.Ghosts S) (conn back : Held S) (s : State) where
  -- an office that is there
  existing : (ed : SchemaVersion) → IsSound s → RepresentsRowsIn ed (rows_of s) (state g conn).now.trees → (f : Fault) → ExistingOpenFailed ed (state g conn) (state g back) f → f ≢ fault.Reopen → StopsOffice s f
  existing ed sound rows fault.Memory failed other = tt
  existing ed sound rows fault.Store failed other = tt
  existing ed sound rows fault.Reopen failed other = other refl
  existing ed sound rows fault.Damaged failed other = λ texts. failed.damaged refl s (record { sound = sound; texts = texts; rows = rows })
  existing ed sound rows fault.Version failed other = this_schema_version ed (state g conn).now.trees (rows_of s).day rows.office (failed.version refl)

  -- one that is to be made
  unmade_by : (f : Fault) → IsUnmadeBy g conn f back → has_other_table (state g conn).now.schema ≡ false → StopsOffice s f
  unmade_by fault.Memory why none = tt
  unmade_by fault.Store why none = tt
  unmade_by fault.Reopen why none = elim why.faults [ inl is ↦ absurd cc | inr is ↦ absurd cc ]
  unmade_by fault.Damaged why none = λ texts. let both : true ≡ false = sym (why.damaged refl).0 ∙ none in cc
  unmade_by fault.Version why none = elim why.faults [ inl is ↦ absurd cc | inr is ↦ absurd cc ]

  pub not_refused : RestsAt (state g conn) s → HasCleanDisk (state g back) → (f : Fault) → OpenFailed g conn f back → StopsOffice s f
  not_refused (inl (ed, rest, sound, rows)) clean f failed = existing ed sound rows f ((failed.left clean).office ed rest) failed.faults
  not_refused (inr (blank, empty, is)) clean f failed =
      unmade_by f (failed.anew (no_office_table (state g conn) blank empty)) (no_other_table (state g conn) blank empty)

pub office_not_refused : {D : Type 0} (g : Ghosts D) → IsNotRefused g
office_not_refused g conn back f s rests clean failed = not_refused over_files conn back s rests clean f failed
