-- What a text that makes a table does, beside whatever a file has. Source: own.
use Rattle.std.specs.Prelude.{◌≡◌, ◌++◌, ℕ, [], false, List, Ok, Result, drop, take, IsTrue, OnOk, OnErr}
use Rattle.std.specs.List.{AllByRecursion}
use Rattle.sqlite_schema.specs.declared.schema.Schema.{Schema}
use Rattle.sqlite_schema.specs.declared.schema.Table.{Table}
use Rattle.sqlite_schema.specs.declared.command.Command.TheVariants.{CreateTable}
use Rattle.sqlite.specs.Compile.{table_defined_by}
use Rattle.sqlite.specs.Change.{created, next_tree, KeepsRows}
use Rattle.sqlite.specs.Effect.{Database, IsDatabase, SparesFrozen}
use Rattle.sqlite.specs.State.{State, HasCleanDisk, KeepsCommit, Survives}
use Rattle.sqlite.specs.declared.error.Error.{Error}
use Rattle.sqlite.specs.Does.{lacks_sequence}
use Rattle.sqlite.specs.Listing.{understood}
use Rattle.sqlite.specs.Given.{IsPlain}
use Rattle.sqlite.proofs.Callers.{command_of, statement_of}
use Rattle.office_sql.specs.Bags.{rows_of}
use Rattle.office_sql.specs.SchemaVersions.{version_2}
use Rattle.office_sql.specs.Office.{HasRoom, HasRoomBeside, HasTables, KeepsAsides, KeepsObjects}

-- under this schema the text makes this table
pub record Makes (s : Schema) (text : List ℕ) (table : Table) : Type 0 where
  pub defined : table_defined_by text ≡ Ok table
  pub is : command_of (understood s text) ≡ CreateTable
  pub plain : IsPlain (understood s text)
  pub whole : statement_of text (understood s text) ≡ text
  pub uncounted : lacks_sequence (created s table) ≡ false

-- the table is there, with no row, and the others have theirs
pub record IsMade (table : Table) (old new : Database) : Type 0 where
  pub schema : new.schema ≡ created old.schema table
  pub empty : new.trees (next_tree old.schema) ≡ []
  pub others : KeepsRows old.schema.tables old.trees new.trees
  pub frozen : SparesFrozen old new
  pub sound : IsDatabase new

-- what the making of tables inside a transaction leaves, where it starts so
pub record MakesInside {X : Type 0} (Starts : Database → Type 0) (Changes : Database → Database → Type 0)
    (old new : State) (result : Result X Error) : Type 0 where
  pub ok : HasCleanDisk new → IsTrue old.is_open → IsTrue old.in_transaction → Starts old.now
      → OnOk result
      (Changes old.now new.now × IsTrue new.is_open × IsTrue new.in_transaction × (new.committed ≡ old.committed))
  pub err : HasCleanDisk new → IsTrue old.is_open → IsTrue old.in_transaction → Starts old.now
      → OnErr result (KeepsCommit old new)
  pub survives : Survives old new (λ _. ⊥)

-- the new tables are there beside those that were made before, and have no row; whatever was there is as it was, and
-- there is still room for the rest
pub record Grown (made news rest : List Table) (old new : Database) : Type 0 where
  pub has : HasTables (made ++ news) new
  pub room : HasRoom rest new.schema
  pub fresh : AllByRecursion (λ t. rows_of t new.trees ≡ []) news
  pub kept : AllByRecursion (λ t. rows_of t new.trees ≡ rows_of t old.trees) made
  pub others : KeepsRows old.schema.tables old.trees new.trees
  pub objects : KeepsObjects old.schema new.schema
  pub asides : KeepsAsides old new

-- the first so many tables of version 2 are there, and there is room for the others
abbrev pub IsMadeUpTo : ℕ → Database → Type 0
IsMadeUpTo n db = HasRoomBeside (take n version_2) (drop n version_2) db

-- after the first so many of them, those up to the second number are made
abbrev pub GrowsTo : ℕ → ℕ → Database → Database → Type 0
GrowsTo m n old new = Grown (take m version_2) (drop m (take n version_2)) (drop n version_2) old new
