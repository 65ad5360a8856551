-- What a connection is to files that were opened: at rest over the office that they held, or without a table.
use Rattle.std.proofs.Common.{◌≡◌, ◌∙◌, [], ap, ap₂, sym, subst, refl, inl, inr}
use Rattle.sqlite_catalog.specs.Listing.{Lists}
use Rattle.sqlite_catalog.proofs.ReadLemmas.{lists_once}
use Rattle.sqlite.specs.Schema.{Schema}
use Rattle.sqlite_schema.specs.declared.schema.Table.{Table}
use Rattle.sqlite_trees.specs.Objects.{catalog_tree}
use Rattle.sqlite_trees.specs.Sound.{is_sound_list}
use Rattle.sqlite_trees.specs.Tree.{IsAscending, Trees}
use Rattle.sqlite_wal.specs.Recovery.{Image}
use Rattle.sqlite.specs.Effect.{Database}
use Rattle.sqlite.specs.Files.{AreFoundIn, HoldsDatabase, IsEmpty}
use Rattle.sqlite.specs.State.{State as FileState, IsLive, Opens}
use Rattle.office_rules.specs.Rows.{rows_of}
use Rattle.office_rules.specs.State.{State, empty_state}
use Rattle.office_sql.specs.SchemaVersions.{version_2}
use Rattle.office_sql.specs.declared.schema_versions.SchemaVersion.{SchemaVersion}
use Rattle.office_sql.specs.Office.{HasRoom, IsAtRestOver, IsBlank, IsOfficeIn, IsOfficeOf}
use Rattle.office_store.specs.RepresentsRows.{RepresentsRowsIn}
use Rattle.office_life.specs.Standing.{RestsAt, Stage, StandsAt, half_made, stored, unmade}
use Rattle.office_life.specs.Tables.{IsOfficeAt}
use Rattle.office_life.proofs.LeftTables.{database_of}
use Rattle.office_life.proofs.Nothing.{finds_nothing}

-- where there is no object there is room for each table
abbrev pub no_schema : Schema
no_schema = record { tables = []; indexes = []; views = [] }

all_free : HasRoom version_2 no_schema
all_free = record {
  free = (refl, (refl, (refl, (refl, (refl, (refl, (refl, (refl, (refl, (refl, (refl, (refl, (refl, tt)))))))))))));
  unreferred = (tt, (tt, (tt, (tt, (tt, (tt, (tt, (tt, (tt, (tt, (tt, (tt, (tt, tt)))))))))))));
  uncounted = refl;
}

-- no object is listed where no table is there
none_listed : Lists [] no_schema
unfolding is_sound_list
none_listed = record { listed = record { tables = tt; indexes = tt; views = tt; owned = tt; named = tt; loads = refl }; guarded = tt }

-- of a file without rows no table is listed
pub no_tables : (s : FileState) → IsBlank s → IsEmpty s.now.trees → s.now.schema ≡ no_schema
no_tables s blank empty = lists_once [] s.now.schema no_schema (subst (λ rows. Lists rows s.now.schema) empty.1 blank.bare.has.database.lists) none_listed

module _ (s : FileState) (opened : Opens s) (live : IsLive s) (only : (db : Trees) → s.may_leave db → db ≡ s.committed.trees) (stays : s.may_leave s.committed.trees) where
  pub same_trees : s.now.trees ≡ s.committed.trees
  same_trees = ap (λ (d : Database). d.trees) opened.clean

  left_alone : (db : Trees) → s.may_leave db → db ≡ s.now.trees
  left_alone db left = only db left ∙ sym same_trees

  left_at_all : s.may_leave s.now.trees
  left_at_all = subst s.may_leave (sym same_trees) stays

  -- over the trees of an office
  pub rests : (ed : SchemaVersion) (trees : Trees) → s.committed.trees ≡ trees → IsOfficeIn ed trees → IsAtRestOver ed s × (s.now.trees ≡ trees)
  rests ed trees held office =
      let same : s.now.trees ≡ trees = same_trees ∙ held in
      let schema : s.now.schema ≡ office.0 =
      lists_once (trees catalog_tree) s.now.schema office.0 (subst (λ (t : Trees). Lists (t catalog_tree) s.now.schema) same (live opened.is_open).0.lists) office.1.has.database.lists in
      let over : s.now ≡ record { schema = office.0; trees = trees } = ap₂ (λ (a : Schema) (b : Trees). let d : Database = record { schema = a; trees = b } in d) schema same in
      (record { is_open = opened.is_open; autocommit = opened.autocommit; settled = opened.clean; office = subst (IsOfficeOf ed) (sym over) office.1; only = left_alone; stays = left_at_all }, same)

  -- over empty trees
  pub blanks : IsEmpty s.now.trees → IsBlank s
  blanks empty =
      let schema : s.now.schema ≡ no_schema = lists_once [] s.now.schema no_schema (subst (λ rows. Lists rows s.now.schema) empty.1 (live opened.is_open).0.lists) none_listed in
      record {
        is_open = opened.is_open;
        autocommit = opened.autocommit;
        settled = opened.clean;
        bare = record {
          has = record { database = (live opened.is_open).0; apart = subst (λ (x : Schema). IsAscending (λ (a b : Table). a.tree ≡ b.tree → ⊥) x.tables) (sym schema) tt; tables = tt; shaped = tt };
          room = subst (HasRoom version_2) (sym schema) all_free;
        };
        only = left_alone;
        stays = left_at_all;
      }

  empty_now : (db : Trees) → s.committed.trees ≡ db → IsEmpty db → IsEmpty s.now.trees
  empty_now db held empty = subst IsEmpty (sym (same_trees ∙ held)) empty

  module _ (image : Image) (holds : (db : Trees) → HoldsDatabase image db → s.committed.trees ≡ db) (reads : AreFoundIn image s.committed.trees) where
    blank_at : (u : State) → (db : Trees) → s.committed.trees ≡ db → IsEmpty db → u ≡ empty_state → RestsAt s u
    blank_at u db held empty is = let now = empty_now db held empty in inr (blanks now, now, is)

    office_at : (u : State) (db : Trees) → HoldsDatabase image db → IsOfficeAt db u → RestsAt s u
    office_at u db held at =
        let rest = rests at.schema_version db (holds db held) at.office in
        inl (at.schema_version, rest.0, at.sound, subst (λ (t : Trees). RepresentsRowsIn at.schema_version (rows_of u) t) (sym rest.1) at.rows)

    -- over files that stand for a state it is at rest there
    pub rests_at : (stage : Stage) (u : State) → StandsAt stage image u → RestsAt s u
    rests_at stage u (inl (db, held, inl office)) = office_at u db (database_of _ db held) office
    rests_at stage u (inl (db, held, inr none)) = blank_at u db (holds db (database_of _ db held)) none.0 none.1
    rests_at stored u (inr none) = absurd none.0
    rests_at unmade u (inr none) = blank_at u s.committed.trees refl (finds_nothing image s.committed.trees none.0 reads) none.1
    rests_at half_made u (inr (inl nothing, is)) = blank_at u s.committed.trees refl (finds_nothing image s.committed.trees nothing reads) is
    rests_at half_made u (inr (inr begun, is)) = blank_at u begun.0 (holds begun.0 begun.1) begun.2 is
