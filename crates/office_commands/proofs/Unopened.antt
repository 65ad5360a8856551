-- An office that was not opened, by what the desk's opening says of the connection that it gives back, and why it was not.
use Rattle.std.proofs.Common.{◌≡◌, ◌≢◌, ◌∙◌, codes, false, true, inl, inr, is_some, refl, sym, ap, subst}
use Rattle.sqlite_schema.specs.Names.{table_named}
use Rattle.sqlite_schema.specs.declared.schema.Schema.{Schema}
use Rattle.sqlite.specs.Files.{IsEmpty}
use Rattle.sqlite.specs.State.{State as FileState, HasCleanDisk}
use Rattle.sqlite.specs.Held.{Held, state}
use Rattle.sqlite_trees.specs.declared.store.Store.{Ghosts}
use Rattle.office_rules.specs.Rows.{rows_of}
use Rattle.office_rules.specs.Sound.{IsSound}
use Rattle.office_rules.specs.State.{State}
use Rattle.office_sql.specs.Names.{has_other_table}
use Rattle.office_sql.specs.Office.{IsAtRestOver, IsBlank}
use Rattle.office_sql.specs.declared.schema_versions.SchemaVersion.{SchemaVersion}
use Rattle.office_store.specs.Calling.{has_office_table}
use Rattle.office_store.specs.RepresentsRows.{RepresentsRowsIn}
use Rattle.office_store.specs.declared.fault.Fault.{Fault}
use Rattle.office_store.specs.declared.fault.Fault.TheVariants as fault
use Rattle.office_store.proofs.OfficeRow.{this_schema_version}
use Rattle.office_desk.specs.Opening.{ExistingOpenFailed, OpenFailed}
use Rattle.office_life.specs.Opening.{StopsOffice}
use Rattle.office_life.proofs.Rests.{no_schema, no_tables}
use Rattle.office_commands.specs.Opening.{OfficeOpenFailed}

pub unopened : {S : Type 0} (g : Ghosts S) (conn : Held S) (f : Fault) (back : Held S) → OpenFailed g conn f back → OfficeOpenFailed f (state g conn) (state g back)
unopened {S = S} g conn f back it = record {
  left = it.left;
  anew = λ none. (it.anew none).faults;
  other_tables = λ none wrong. let is = (it.anew none).damaged wrong in (is.0, ap (λ (h : Held S). (state g h).now) is.1, λ db may. subst (λ (h : Held S). (state g h).may_leave db) is.1 may);
  always = λ none other. (it.anew none).other other;
  used = λ none in_use. let is = (it.anew none).used in_use in (ap (λ (h : Held S). (state g h).now) is, λ db may. subst (λ (h : Held S). (state g h).may_leave db) is may);
  faults = it.faults;
  outside = it.ended;
}

-- ---- why not

module _ (old new : FileState) (s : State) (clean : HasCleanDisk new) where
  existing : (ed : SchemaVersion) → IsSound s → RepresentsRowsIn ed (rows_of s) old.now.trees → (f : Fault) → ExistingOpenFailed ed old new f → f ≢ fault.Reopen → StopsOffice s f
  existing ed sound rows fault.Memory failed other = tt
  existing ed sound rows fault.Store failed other = tt
  existing ed sound rows fault.Reopen failed other = other refl
  existing ed sound rows fault.Damaged failed other = λ texts. failed.damaged refl s (record { sound = sound; texts = texts; rows = rows })
  existing ed sound rows fault.Version failed other = this_schema_version ed old.now.trees (rows_of s).day rows.office (failed.version refl)

  -- an office at this state that is there
  pub stops_there : (ed : SchemaVersion) → IsAtRestOver ed old → IsSound s → RepresentsRowsIn ed (rows_of s) old.now.trees → (f : Fault) → OfficeOpenFailed f old new → StopsOffice s f
  stops_there ed rest sound rows f it = existing ed sound rows f ((it.left clean).office ed rest) it.faults

  unmade : (f : Fault) → OfficeOpenFailed f old new → has_office_table old ≡ false → has_other_table old.now.schema ≡ false → StopsOffice s f
  unmade fault.Memory it none other = tt
  unmade fault.Store it none other = tt
  unmade fault.Reopen it none other = it.faults refl
  unmade fault.Damaged it none other = λ texts. let both : true ≡ false = sym (it.other_tables none refl).0 ∙ other in cc
  unmade fault.Version it none other = elim (it.anew none) [ inl is ↦ absurd cc | inr is ↦ absurd cc ]

  -- or one that is to be made
  pub stops_unmade : IsBlank old → IsEmpty old.now.trees → (f : Fault) → OfficeOpenFailed f old new → StopsOffice s f
  stops_unmade blank empty f it =
      let no_office : is_some (table_named no_schema (codes "office")) ≡ false = refl in
      let no_other : has_other_table no_schema ≡ false = refl in
      unmade f it (ap (λ (x : Schema). is_some (table_named x (codes "office"))) (no_tables old blank empty) ∙ no_office) (ap has_other_table (no_tables old blank empty) ∙ no_other)
