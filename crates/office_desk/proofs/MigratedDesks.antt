-- A desk over tables of version 2, and over tables of version 1 that were made those of version 2.
use Rattle.std.proofs.Common.{◌≡◌, inl, inr, true, false, Ok, Err, refl, sym, ap, subst, ◌∙◌}
use Rattle.sqlite.specs.Effect.{Database}
use Rattle.sqlite.specs.Held.{Held, state}
use Rattle.sqlite.specs.State as sqlite
use Rattle.sqlite.specs.State.{HasCleanDisk}
use Rattle.sqlite_trees.specs.Tree.{Trees}
use Rattle.sqlite_trees.specs.declared.store.Store.{Ghosts}
use Rattle.office_rules.specs.Rows.{rows_of}
use Rattle.office_rules.specs.State.{Office, State}
use Rattle.office_rules.specs.Tables.{no_rows}
use Rattle.office_sql.specs.declared.schema_versions.SchemaVersion.{SchemaVersion}
use Rattle.office_sql.specs.declared.schema_versions.SchemaVersion.TheVariants as schema_version
use Rattle.office_sql.specs.Office.{IsAtRest, IsAtRestOver, KeepsRest, Leaves}
use Rattle.office_store.specs.Adopted.{LeavesLess}
use Rattle.office_store.specs.Calling.{AreNotTaken, IsNotAdopted, Migrated, has_office_table}
use Rattle.office_store.specs.RepresentsRows.{ContainsOldRows, OldRepresentsRows, RepresentsRows}
use Rattle.office_store.specs.declared.fault.Fault.{Fault}
use Rattle.office_store.specs.declared.fault.Fault.TheVariants as fault
use Rattle.office_desk.specs.Desk.{DeskState}
use Rattle.office_desk.specs.Leaving.{IsAt}
use Rattle.office_desk.specs.Opening.{ExistingOpenFailed, IsLoaded, LeavesRest, LeavesTables, MigratedDesk, MigrationFailed, OpenFailed, Opens, RepresentIn}
use Rattle.office_desk.proofs.LeftRest.{rest_less, rest_same}
use Rattle.office_desk.proofs.Opened.{both, none_of_blank}

-- ---- a desk over a store

module _ {S : Type 0} (g : Ghosts S) (machine : Office) (store : Held S) where
  -- whose tables are not of version 1
  pub over_store : (desk : DeskState S) → desk.is_poisoned ≡ false → desk.office ≡ machine → desk.connection ≡ store → (IsAtRestOver schema_version.One (state g store) → ⊥) → MigratedDesk g machine store desk
  over_store desk still office connection other = record {
    is_open = still;
    office = office;
    same = λ rest. connection;
    migrated = record { faults = tt; clean = subst (λ h. HasCleanDisk (state g h)) connection; shield = subst (λ h. (state g h).IsShielded) (sym connection); moved = λ s clean holds. absurd (other holds.rest) };
  }

  -- whose tables were made those of version 2
  pub over_moved : (new : Held S) (desk : DeskState S) → desk.is_poisoned ≡ false → desk.office ≡ machine → desk.connection ≡ new → (IsAtRest (state g store) → ⊥) → Migrated {X = Unit {0}} (state g store) (state g new) (Ok tt)
      → MigratedDesk g machine store desk
  over_moved new desk still office connection only it = record {
    is_open = still;
    office = office;
    same = λ rest. absurd (only rest);
    migrated = subst (λ h. Migrated {X = Unit {0}} (state g store) (state g h) (Ok tt)) (sym connection) it;
  }

-- whose tables were not
pub not_moved : {S : Type 0} (g : Ghosts S) (store new back : Held S) (f : Fault) → back ≡ new → back.in_transaction ≡ false → (IsAtRest (state g store) → ⊥) → Migrated {X = Unit {0}} (state g store) (state g new) (Err f) → MigrationFailed g store f back
not_moved g store new back f is ended only it = record {
  ended = ended;
  only_old = only;
  migrated = subst (λ h. Migrated {X = Unit {0}} (state g store) (state g h) (Err f)) (sym is) it;
}

-- ---- over a connection that has an office

module _ {S : Type 0} (g : Ghosts S) (conn : Held S) (there : has_office_table (state g conn) ≡ true) where
  -- it was not loaded
  tables_less : (ed : SchemaVersion) (old new : sqlite.State) → LeavesLess old new → LeavesTables ed old new
  tables_less schema_version.One old new less = λ db may. inl (less db may)
  tables_less schema_version.Two old new less = less

  unread : (ed : SchemaVersion) (old new : sqlite.State) (f : Fault) → AreNotTaken ed old new f no_rows (Unit {0}) → ExistingOpenFailed ed old new f
  unread ed old new f it = record {
    damaged = λ is s represents. it.damaged is refl s represents.sound represents.texts represents.rows;
    version = it.version;
    this_version = it.this_version;
    kept = it.kept;
    leaves = tables_less ed old new it.leaves;
  }

  pub not_taken : (f : Fault) (back : Held S) → IsNotAdopted g conn f back no_rows (Unit {0}) → OpenFailed g conn f back
  not_taken f back it = record {
    ended = it.ended;
    faults = it.faults;
    anew = λ none. absurd (both _ there none);
    mixed = it.mixed;
    clean = it.clean;
    shield = it.shield;
    left = λ disk. record {
      first = λ blank. absurd (none_of_blank (state g conn) blank there);
      office = λ ed rest. unread ed (state g conn) (state g back) f (it.left ed disk rest);
      rest = λ is. elim is [
        | inl blank ↦ absurd (none_of_blank (state g conn) blank there)
        | inr at ↦ rest_less at.0 (state g conn) (state g back) at.1 (it.left at.0 disk at.1).leaves
      ];
    };
  }

  module _ (store : Held S) (machine : Office) (taken : IsLoaded g conn store machine) where
    -- what was loaded is at the store
    holds_old : (s : State) → RepresentIn schema_version.One (state g conn).now.trees s → IsAtRestOver schema_version.One (state g store) → (state g store).now ≡ (state g conn).now → ContainsOldRows (rows_of s) (state g store)
    holds_old s represents rest same = record { rest = rest; represents = subst (λ (d : Database). OldRepresentsRows (rows_of s) d.trees) (sym same) represents.rows }

    module _ (desk : DeskState S) (up : MigratedDesk g machine store desk) (disk : HasCleanDisk (state g desk.connection)) where
      same_up : IsAtRest (state g conn) → (state g desk.connection).now ≡ (state g conn).now
      same_up rest =
          let at = taken.found schema_version.Two (up.migrated.clean disk) rest in
          ap (λ (h : Held S). (state g h).now) (up.same at.3) ∙ at.4

      found_up : (ed : SchemaVersion) → IsAtRestOver ed (state g conn) → (s : State) × RepresentIn ed (state g conn).now.trees s × IsAt g s desk
      found_up schema_version.One rest =
          let at = taken.found schema_version.One (up.migrated.clean disk) rest in
          (at.0, at.1, record { is_open = up.is_open; office = up.office ∙ at.2; sound = at.1.sound; rows = (up.migrated.moved at.0 disk (holds_old at.0 at.1 at.3 at.4)).ok })
      found_up schema_version.Two rest =
          let at = taken.found schema_version.Two (up.migrated.clean disk) rest in (
            at.0,
            at.1,
            record {
              is_open = up.is_open;
              office = up.office ∙ at.2;
              sound = at.1.sound;
              rows = record { rest = subst (λ (h : Held S). IsAtRest (state g h)) (sym (up.same at.3)) at.3; represents = subst (λ (d : Database). RepresentsRows (rows_of at.0) d.trees) (sym (same_up rest)) at.1.rows };
            },
          )

      rest_up : (ed : SchemaVersion) → IsAtRestOver ed (state g conn) → LeavesRest (state g conn) (state g desk.connection)
      rest_up schema_version.One rest =
          let at = taken.found schema_version.One (up.migrated.clean disk) rest in
          subst (λ (d : Database). Leaves (KeepsRest d) (state g desk.connection)) at.4 (up.migrated.moved at.0 disk (holds_old at.0 at.1 at.3 at.4)).rest
      rest_up schema_version.Two rest =
          let at = taken.found schema_version.Two (up.migrated.clean disk) rest in
          subst (λ (h : Held S). LeavesRest (state g conn) (state g h)) (sym (up.same at.3)) (rest_same schema_version.Two (state g conn) (state g store) at.4 at.3)

    -- it is opened
    pub taken_up : (desk : DeskState S) → MigratedDesk g machine store desk → Opens g conn desk
    taken_up desk up = record {
      is_open = up.is_open;
      clear = λ none. absurd (both _ there none);
      version = λ is. record { version = taken.version.version; layout = taken.version.layout; named = λ disk. taken.version.named (up.migrated.clean disk) };
      clean = λ disk. taken.clean (up.migrated.clean disk);
      shield = λ shielded. up.migrated.shield (taken.shield shielded);
      finds = λ disk. record {
        made = λ blank. absurd (none_of_blank (state g conn) blank there);
        found = found_up desk up disk;
        same = same_up desk up disk;
        rest = λ is. elim is [ inl blank ↦ absurd (none_of_blank (state g conn) blank there) | inr at ↦ rest_up desk up disk at.0 at.1 ];
      };
    }

    module _ (f : Fault) (back : Held S) (down : MigrationFailed g store f back) (disk : HasCleanDisk (state g back)) where
      of_store : (other : Fault) → (fault.Store ≡ other → ⊥) → f ≡ other → ⊥
      of_store other differs is = differs (sym down.migrated.faults ∙ is)

      unread_old : (ed : SchemaVersion) → IsAtRestOver ed (state g conn) → ExistingOpenFailed ed (state g conn) (state g back) f
      unread_old schema_version.One rest =
          let at = taken.found schema_version.One (down.migrated.clean disk) rest in
          record {
            damaged = λ is. absurd (of_store fault.Damaged (λ same. cc) is);
            version = λ is. absurd (of_store fault.Version (λ same. cc) is);
            this_version = λ is. absurd (of_store fault.Damaged (λ same. cc) is);
            kept = λ other. absurd (other down.migrated.faults);
            leaves = λ db may. elim ((down.migrated.moved at.0 disk (holds_old at.0 at.1 at.3 at.4)).err db may) [
              | inl same ↦ inl (subst (λ (t : Trees). (state g conn).may_leave t) (sym (same ∙ ap (λ (d : Database). d.trees) at.4)) rest.stays)
              | inr next ↦ inr (at.0, at.1, next.0, next.1)
            ];
          }
      unread_old schema_version.Two rest = absurd (down.only_old (taken.found schema_version.Two (down.migrated.clean disk) rest).3)

      rest_down : (ed : SchemaVersion) → IsAtRestOver ed (state g conn) → LeavesRest (state g conn) (state g back)
      rest_down schema_version.One rest =
          let at = taken.found schema_version.One (down.migrated.clean disk) rest in
          subst (λ (d : Database). Leaves (KeepsRest d) (state g back)) at.4 (down.migrated.moved at.0 disk (holds_old at.0 at.1 at.3 at.4)).rest
      rest_down schema_version.Two rest = absurd (down.only_old (taken.found schema_version.Two (down.migrated.clean disk) rest).3)

    -- or its tables were not made those of version 2
    pub not_up : (f : Fault) (back : Held S) → MigrationFailed g store f back → OpenFailed g conn f back
    not_up f back down = record {
      ended = down.ended;
      faults = λ is. let no : fault.Store ≡ fault.Reopen = sym down.migrated.faults ∙ is in cc;
      anew = λ none. absurd (both _ there none);
      mixed = λ named disk has is differs. inr down.migrated.faults;
      clean = λ disk. taken.clean (down.migrated.clean disk);
      shield = λ shielded. down.migrated.shield (taken.shield shielded);
      left = λ disk. record {
        first = λ blank. absurd (none_of_blank (state g conn) blank there);
        office = unread_old f back down disk;
        rest = λ is. elim is [ inl blank ↦ absurd (none_of_blank (state g conn) blank there) | inr at ↦ rest_down f back down disk at.0 at.1 ];
      };
    }
