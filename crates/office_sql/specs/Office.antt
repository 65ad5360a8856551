-- What the database of an office is between calls and inside a transaction, beside whatever else the file has, and what
-- a put or a removal does to it. Source: own.
use Rattle.std.specs.Prelude.{◌≡◌, ◌≢◌, ◌⊎◌, ℕ, pos, neg_ℤ, true, false, List, [], ◌∷◌, filter, not, slice_get, Some, option_map, option_and_then, unwrap_or, Result, OnOk, OnErr, IsSome, IsTrue}
use Rattle.std.specs.List.{AllByRecursion, list_any}
use Rattle.std.specs.Str.{bytes_eq}
use Rattle.sqlite_value.specs.Keys.{plain}
use Rattle.sqlite_value.specs.Order.{Row}
use Rattle.sqlite_trees.specs.Tree.{Trees, IsAscending}
use Rattle.sqlite_trees.specs.View.{IsShaped}
use Rattle.sqlite_trees.specs.declared.store.Shape.TheVariants as shape
use Rattle.sqlite_schema.specs.declared.schema.Index.{Index}
use Rattle.sqlite_schema.specs.declared.schema.Schema.{Schema}
use Rattle.sqlite_schema.specs.declared.schema.Table.{Table}
use Rattle.sqlite_schema.specs.declared.schema.View.{View}
use Rattle.sqlite_schema.specs.Names.{same_name, table_named}
use Rattle.sqlite_schema.specs.Rules.{guards}
use Rattle.sqlite_rules.specs.Edit.{IsNoIndex}
use Rattle.sqlite_rules.specs.Lists.{Has}
use Rattle.sqlite.specs.Change.{is_used}
use Rattle.sqlite.specs.Does.{lacks_sequence}
use Rattle.sqlite.specs.Effect.{Database, IsDatabase}
use Rattle.sqlite.specs.State.{State, HasCleanDisk, KeepsCommit, Survives}
use Rattle.sqlite.specs.declared.error.Error.{Error}
use Rattle.office_sql.specs.Bags.{rows_of, share, IsPut}
use Rattle.office_sql.specs.SchemaVersions.{later_tables, tables_of, version_2}
use Rattle.office_sql.specs.Schema.{at, office}
use Rattle.office_sql.specs.Shown.{office_row}
use Rattle.office_sql.specs.declared.schema_versions.SchemaVersion.{SchemaVersion}
use Rattle.office_sql.specs.declared.schema_versions.SchemaVersion.TheVariants as schema_version

-- the tree of the table that has this name
unfoldable pub tree_of : Schema → List ℕ → ℕ
tree_of s name = unwrap_or (option_map (λ t. t.tree) (option_and_then (slice_get s.tables) (table_named s name))) 0

-- no foreign key names the table
abbrev pub IsUnreferred : Schema → Table → Type 0
IsUnreferred s t = AllByRecursion (λ u. list_any (λ ref. same_name t.name ref.parent) u.references ≡ false) s.tables

-- the table is there as it is made; no foreign key names it, and each unique index on it is one of its own keys
pub record HasTable (s : Schema) (t : Table) : Type 0 where
  pub found : option_and_then (slice_get s.tables) (table_named s t.name) ≡ Some (at (tree_of s t.name) t)
  pub unreferred : IsUnreferred s t
  pub keyed : AllByRecursion
      (λ i. guards i (at (tree_of s t.name) t) ≡ true
      → (list_any (bytes_eq i.columns) t.uniques ≡ true) × (i.order ≡ plain)) s.indexes

-- a sound database in which each table has a tree of its own, with these tables, in each of which the rowids rise
pub record HasTables (version : List Table) (db : Database) : Type 0 where
  pub database : IsDatabase db
  pub apart : IsAscending (λ a b. a.tree ≡ b.tree → ⊥) db.schema.tables
  pub tables : AllByRecursion (HasTable db.schema) version
  pub shaped : AllByRecursion (λ t. IsShaped shape.Table (db.trees (tree_of db.schema t.name))) version

-- these tables can be made: no table, index or view has their names, and no foreign key names them
pub record HasRoom (tables : List Table) (s : Schema) : Type 0 where
  pub free : AllByRecursion (λ t. is_used s t.name ≡ false) tables
  pub unreferred : AllByRecursion (IsUnreferred s) tables
  pub uncounted : lacks_sequence s ≡ false

-- these tables are there, and there is room for those
pub record HasRoomBeside (made rest : List Table) (db : Database) : Type 0 where
  pub has : HasTables made db
  pub room : HasRoom rest db.schema

-- a sound database in which each table has a tree of its own, and an office can be made, whatever else is there
pub record IsBare (db : Database) : Type 0 where
  pub has : HasTables [] db
  pub room : HasRoom version_2 db.schema

-- version 1 has room for the tables of version 2
abbrev pub HasRoomBy : SchemaVersion → Schema → Type 0
HasRoomBy schema_version.One s = HasRoom later_tables s
HasRoomBy schema_version.Two s = Unit {0}

-- the database has the office's tables of that version, beside whatever else
pub record IsOfficeOf (e : SchemaVersion) (db : Database) : Type 0 where
  pub has : HasTables (tables_of e) db
  pub room : HasRoomBy e db.schema

-- the trees are those of such a database; its schema is one alone, which they list
abbrev pub IsOfficeIn : SchemaVersion → Trees → Type 0
IsOfficeIn e trees = (schema : Schema) × IsOfficeOf e (record { schema = schema; trees = trees })

-- an office's tables of version 2
abbrev pub IsOffice : Database → Type 0
IsOffice db = IsOfficeOf schema_version.Two db

-- a table that is none of the office's, by its name
abbrev pub IsOtherTable : Table → Type 0
IsOtherTable u = AllByRecursion (λ t. same_name u.name t.name ≡ false) version_2

-- each such table has the rows that it had
abbrev pub KeepsOtherRows : Database → Database → Type 0
KeepsOtherRows old new = (u : Table) → Has old.schema.tables u → IsOtherTable u → new.trees u.tree ≡ old.trees u.tree

-- the tree is that of no table and of no index that the schema lists
abbrev pub IsUnlisted : Schema → ℕ → Type 0
IsUnlisted s tree = AllByRecursion (λ t. t.tree ≢ tree) s.tables × IsNoIndex s tree

-- each such tree is as it was: the list of objects, and the tables that the database keeps as they are
abbrev pub KeepsUnlisted : Database → Database → Type 0
KeepsUnlisted old new = (tree : ℕ) → IsUnlisted old.schema tree → new.trees tree ≡ old.trees tree

-- nothing but rows of the office's tables and entries of indexes is other than it was
pub record SparesRest (old new : Database) : Type 0 where
  pub schema : new.schema ≡ old.schema
  pub rows : KeepsOtherRows old new
  pub unlisted : KeepsUnlisted old new

-- each table, index and view that was there is there
pub record KeepsObjects (old new : Schema) : Type 0 where
  pub tables : (t : Table) → Has old.tables t → Has new.tables t
  pub indexes : (i : Index) → Has old.indexes i → Has new.indexes i
  pub views : (v : View) → Has old.views v → Has new.views v

-- a table that the database keeps as it is, since it does not understand it or a trigger is on it; or an index of one
abbrev pub IsKeptAside : View → Type 0
IsKeptAside v = IsSome v.foreign × (v.binds ≡ false)

-- its tree is that of nothing else
pub record IsAlone (s : Schema) (v : View) : Type 0 where
  pub unlisted : IsUnlisted s v.tree
  pub views : AllByRecursion (λ w. w.tree ≡ v.tree → w ≡ v) s.views

-- each such table has the rows that it had, in a tree that is its own still
abbrev pub KeepsAsides : Database → Database → Type 0
KeepsAsides old new =
    (v : View) → Has old.schema.views v → IsKeptAside v → IsAlone old.schema v
    → IsAlone new.schema v × (new.trees v.tree ≡ old.trees v.tree)

-- whatever else was there is there, and has its rows
pub record KeepsRest (old new : Database) : Type 0 where
  pub objects : KeepsObjects old.schema new.schema
  pub rows : KeepsOtherRows old new
  pub asides : KeepsAsides old new

-- whatever a crash leaves is a database of this kind; its schema is one alone, which the trees list
abbrev pub Leaves : (Database → Type 0) → State → Type 0
Leaves Is s = (db : Trees) → s.may_leave db → (schema : Schema) × IsDatabase (record { schema = schema; trees = db }) × Is (record { schema = schema; trees = db })

-- the rows of the others of these tables are as they were
abbrev pub KeepsOthers : List Table → Table → Database → Database → Type 0
KeepsOthers tables t old new =
    AllByRecursion (λ u. bytes_eq u.name t.name ≡ false → rows_of u new.trees ≡ rows_of u old.trees) tables

-- nothing but this table and entries of indexes is other than it was
pub record SparesOthers (t : Table) (old new : Database) : Type 0 where
  pub schema : new.schema ≡ old.schema
  pub tables : AllByRecursion (λ u. u.tree ≢ tree_of old.schema t.name → new.trees u.tree ≡ old.trees u.tree)
      old.schema.tables
  pub others : (tree : ℕ) → tree ≢ tree_of old.schema t.name → IsNoIndex old.schema tree
      → new.trees tree ≡ old.trees tree

-- the row is put in: those that share one of the keys with it are out, all else as it was
pub record Wrote (tables : List Table) (table : Table) (keys : List (List ℕ)) (row : Row) (old new : Database) : Type 0
  where
    pub has : HasTables tables new
    pub put : IsPut keys row (rows_of table old.trees) (rows_of table new.trees)
    pub others : KeepsOthers tables table old new
    pub spares : SparesOthers table old new

-- in a transaction over a database that has these tables
pub record IsInside (tables : List Table) (s : State) : Type 0 where
  pub is_open : IsTrue s.is_open
  pub inside : IsTrue s.in_transaction
  pub has : HasTables tables s.now

-- what a call inside a transaction does, where its change of the database is so
pub record GoesInside {X : Type 0} (tables : List Table) (Changes : Database → Database → Type 0) (old new : State)
    (result : Result X Error) : Type 0 where
  pub ok : HasCleanDisk new → IsInside tables old
      → OnOk result (Changes old.now new.now × IsInside tables new × (new.committed ≡ old.committed))
  pub err : HasCleanDisk new → IsInside tables old → OnErr result (KeepsCommit old new)
  pub survives : Survives old new (λ _. ⊥)

-- a row is put into this table, whatever tables are there beside it
abbrev pub PutsInto : {X : Type 0} → Table → List (List ℕ) → Row → State → State → Result X Error → Type 0
PutsInto table keys row old new result =
    (tables : List Table) → Has tables table → GoesInside tables (Wrote tables table keys row) old new result

-- between calls over tables of that version: open, outside a transaction, and a crash leaves just what the last commit
-- left
pub record IsAtRestOver (e : SchemaVersion) (s : State) : Type 0 where
  pub is_open : IsTrue s.is_open
  pub autocommit : s.in_transaction ≡ false
  pub settled : s.now ≡ s.committed
  pub office : IsOfficeOf e s.now
  pub only : (db : Trees) → s.may_leave db → db ≡ s.now.trees
  pub stays : s.may_leave s.now.trees

-- over those of version 2
abbrev pub IsAtRest : State → Type 0
IsAtRest s = IsAtRestOver schema_version.Two s

-- the same of a database that has room for an office, whatever else it has
pub record IsBlank (s : State) : Type 0 where
  pub is_open : IsTrue s.is_open
  pub autocommit : s.in_transaction ≡ false
  pub settled : s.now ≡ s.committed
  pub bare : IsBare s.now
  pub only : (db : Trees) → s.may_leave db → db ≡ s.now.trees
  pub stays : s.may_leave s.now.trees

-- version 2, and the first day there is
abbrev pub first_row : Row
first_row = office_row (pos 1) (pos 2) (neg_ℤ (pos 719_162))

-- the table `office` has that row alone, no other table of the office has a row, and whatever was there is there
pub record IsNewOffice (old new : Database) : Type 0 where
  pub is_office : IsOffice new
  pub row : rows_of office new.trees ≡ first_row ∷ []
  pub others : AllByRecursion (λ t. bytes_eq t.name office.name ≡ false → rows_of t new.trees ≡ []) version_2
  pub rest : KeepsRest old new

-- what a crash may leave is the old database, or a new office
abbrev pub LeavesNew : State → State → Type 0
LeavesNew old new =
    (db : Trees) → new.may_leave db → (db ≡ old.now.trees)
    ⊎ ((next : Database) × IsNewOffice old.now next × (db ≡ next.trees))

-- how the making of an office ends
pub record Creates {X : Type 0} (old new : State) (result : Result X Error) : Type 0 where
  pub ok : HasCleanDisk new → IsBlank old → OnOk result (IsNewOffice old.now new.now × IsAtRest new)
  pub err : HasCleanDisk new → IsBlank old → OnErr result (LeavesNew old new)
  -- where no fault has shut it, nothing was done
  pub undone : HasCleanDisk new → IsBlank old → IsTrue new.is_open → OnErr result ((new.now ≡ old.now) × IsBlank new)

-- the rows that share the key with this one are out, all else as it was
pub record Removed (tables : List Table) (table : Table) (keys : List (List ℕ)) (row : Row) (old new : Database) : Type
    0 where
  pub has : HasTables tables new
  pub removed : rows_of table new.trees ≡ filter (λ r. not (share keys r row)) (rows_of table old.trees)
  pub others : KeepsOthers tables table old new
  pub spares : SparesOthers table old new

-- they are taken out of this table, whatever tables are there beside it
abbrev pub TakesFrom : {X : Type 0} → Table → List (List ℕ) → Row → State → State → Result X Error → Type 0
TakesFrom table keys row old new result =
    (tables : List Table) → Has tables table → GoesInside tables (Removed tables table keys row) old new result

-- each of them is done, one after the other
abbrev pub AreDone : {X : Type 0} → (X → Database → Database → Type 0) → List X → Database → Database → Type 0
AreDone Does [] old new = new ≡ old
AreDone Does (x ∷ xs) old new = (mid : Database) × Does x old mid × AreDone Does xs mid new
