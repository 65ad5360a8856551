-- What one statement leaves of an office: all but one table is as it was, and that is in order.
use Rattle.std.proofs.Common.{◌≡◌, ◌≢◌, inl, inr, ℕ, ◌<◌, List, map, bytes_eq, true, false, true≢false, sym, ap, subst, ◌∙◌, arith}
use Rattle.std.specs.List.{AllByRecursion}
use Rattle.std.proofs.lemmas.Bool.Decides.{eqb_tells}
use Rattle.std.proofs.lemmas.Slice.Eq.{bytes_eq-Decides}
use Rattle.sqlite_value.specs.Order.{Row}
use Rattle.sqlite_trees.specs.Objects.{catalog_tree}
use Rattle.sqlite_trees.specs.Tree.{IsAscending}
use Rattle.sqlite_trees.specs.View.{IsShaped}
use Rattle.sqlite_trees.specs.declared.store.Shape.TheVariants as shape
use Rattle.sqlite_schema.specs.declared.schema.Schema.{Schema}
use Rattle.sqlite_schema.specs.declared.schema.Table.{Table}
use Rattle.sqlite_catalog.proofs.StepLemmas.{same_itself}
use Rattle.sqlite_schema.specs.Names.{same_name}
use Rattle.sqlite_rules.specs.Edit.{IsNoIndex}
use Rattle.sqlite_rules.specs.Lists.{Has}
use Rattle.sqlite_rules.proofs.ListLemmas.{all_from, all_has}
use Rattle.sqlite_rules.proofs.RuleLemmas.{same_table}
use Rattle.sqlite_catalog.specs.Listing.{IsIndexRow, IsTableRow}
use Rattle.sqlite_catalog.proofs.LayoutLemmas.{zipped_left}
use Rattle.sqlite.specs.Effect.{Database, IsDatabase}
use Rattle.office_sql.specs.Bags.{rows_of, shown, tree_in}
use Rattle.office_sql.specs.SchemaVersions.{version_2}
use Rattle.office_sql.specs.Office.{HasTable, HasTables, KeepsOthers, SparesOthers, SparesRest, tree_of}
use Rattle.office_sql.specs.Schema.{at}
use Rattle.office_sql.proofs.TableThere.{Representing, finds_it, itself, representing}
use Rattle.office_sql.proofs.Understood.{Finds}
use Rattle.office_sql.proofs.TreeFound.{tree_is}

-- a table of the office is somewhere
pub represents_in : (version : List Table) (t : Table) → Has version t → (db : Database) → HasTables version db → Representing db.schema t
represents_in version t mine db is = representing db.schema t (all_has _ version t is.tables mine)

pub finds_in : (version : List Table) (t : Table) (mine : Has version t) (db : Database) (is : HasTables version db) → Finds db.schema t (represents_in version t mine db is).place (tree_of db.schema t.name)
finds_in version t mine db is = finds_it db.schema t is.apart (represents_in version t mine db is) db.trees is.database

-- and the trees themselves list it so
pub found_in : (version : List Table) (t : Table) → Has version t → (db : Database) → HasTables version db → tree_in db.trees t.name ≡ tree_of db.schema t.name
found_in version t mine db is = tree_is db.schema db.trees t is.database (represents_in version t mine db is)

-- the rowids of its rows rise
pub shape_in : (version : List Table) (t : Table) → Has version t → (db : Database) → HasTables version db → IsShaped shape.Table (db.trees (tree_of db.schema t.name))
shape_in version t mine db is = all_has _ version t is.shaped mine

kept_tables : (version : List Table) (t : Table) (old new : Database) → HasTables version old → IsDatabase new → SparesOthers t old new
    → IsShaped shape.Table (new.trees (tree_of old.schema t.name)) → HasTables version new
kept_tables version t old new was sound spares here = record {
  database = sound;
  apart = subst (λ (s : Schema). IsAscending (λ (a b : Table). a.tree ≡ b.tree → ⊥) s.tables) (sym spares.schema) was.apart;
  tables = subst (λ s. AllByRecursion (HasTable s) version) (sym spares.schema) was.tables;
  shaped = subst (λ s. AllByRecursion (λ u. IsShaped shape.Table (new.trees (tree_of s u.name))) version) (sym spares.schema) (all_from _ version shaped_now);
}
  where
    shaped_now : (u : Table) → Has version u → IsShaped shape.Table (new.trees (tree_of old.schema u.name))
    shaped_now u listed = elim (eqb_tells (tree_of old.schema u.name) (tree_of old.schema t.name)) [
      | inl same ↦ subst (λ n. IsShaped shape.Table (new.trees n)) (sym same.1) here
      | inr other ↦
          let there = itself old.schema u was.apart (represents_in version u listed old was) in
          subst (IsShaped shape.Table) (sym (all_has _ old.schema.tables (at (tree_of old.schema u.name) u) spares.tables there other.1)) (all_has _ version u was.shaped listed)
    ]

bytes_same : (a b : List ℕ) → a ≡ b → bytes_eq a b ≡ true
bytes_same a b same = (bytes_eq-Decides a b).1 same

module _ (version : List Table) (t : Table) (mine : Has version t) (old new : Database) (was : HasTables version old) (now : HasTables version new) (spares : SparesOthers t old new) where
  low_tree : tree_of old.schema t.name < 65536
  low_tree =
      let has = represents_in version t mine old was in
      (zipped_left IsTableRow _ old.schema.tables (at (tree_of old.schema t.name) t) was.database.lists.listed.tables (itself old.schema t was.apart has)).2.described.low

  no_index : IsNoIndex old.schema catalog_tree
  no_index = all_from _ old.schema.indexes (λ i h same. let low = (zipped_left (IsIndexRow old.schema.tables) _ old.schema.indexes i was.database.lists.listed.indexes h).2.described.low in omega (arith, low, same))

  -- the list of objects is as it was
  pub same_list : new.trees catalog_tree ≡ old.trees catalog_tree
  same_list = spares.others catalog_tree (λ same. let low = low_tree in omega (arith, low, same)) no_index

  -- and so are the rows of each other table
  pub other_rows : (u : Table) → Has version u → (u.name ≡ t.name → ⊥) → rows_of u new.trees ≡ rows_of u old.trees
  other_rows u listed apart =
      let s = old.schema in
      let has = represents_in version u listed old was in
      let its = represents_in version t mine old was in
      let here = found_in version u listed old was in
      let there : tree_in new.trees u.name ≡ tree_of s u.name = found_in version u listed new now ∙ ap (λ x. tree_of x u.name) spares.schema in
      let differs : tree_of s u.name ≢ tree_of s t.name = λ same.
      apart (ap (λ (x : Table). x.name) (same_table s.tables (at (tree_of s u.name) u) (at (tree_of s t.name) t) was.apart (itself s u was.apart has) (itself s t was.apart its) same)) in
      let rows : new.trees (tree_of s u.name) ≡ old.trees (tree_of s u.name) = all_has _ s.tables (at (tree_of s u.name) u) spares.tables (itself s u was.apart has) differs in
      ap (map (shown u)) (ap new.trees there ∙ rows ∙ sym (ap old.trees here))

-- a write of one table leaves these tables, and the rows of the others
module _ (version : List Table) (t : Table) (mine : Has version t) (old new : Database) (was : HasTables version old) (sound : IsDatabase new) (spares : SparesOthers t old new) (here : IsShaped shape.Table (new.trees (tree_of old.schema t.name))) where
  pub left_tables : HasTables version new
  left_tables = kept_tables version t old new was sound spares here

  pub left_others : KeepsOthers version t old new
  left_others = all_from (λ (u : Table). bytes_eq u.name t.name ≡ false → rows_of u new.trees ≡ rows_of u old.trees) version (λ u listed differs. other_rows version t mine old new was left_tables spares u listed (λ same. absurd (true≢false (sym (bytes_same u.name t.name same) ∙ differs))))

-- what is known of the rows of the table in its tree is known of them as the trees list it
pub as_listed : (version : List Table) (t : Table) → Has version t → (old new : Database) → HasTables version old → HasTables version new → new.schema ≡ old.schema → (P : List Row → List Row → Type 0)
    → P (map (shown t) (old.trees (tree_of old.schema t.name))) (map (shown t) (new.trees (tree_of old.schema t.name))) → P (rows_of t old.trees) (rows_of t new.trees)
as_listed version t mine old new was now same P h =
    let there : tree_in new.trees t.name ≡ tree_of old.schema t.name = found_in version t mine new now ∙ ap (λ x. tree_of x t.name) same in
    subst (λ n. P (rows_of t old.trees) (map (shown t) (new.trees n))) (sym there) (subst (λ n. P (map (shown t) (old.trees n)) (map (shown t) (new.trees (tree_of old.schema t.name)))) (sym (found_in version t mine old was)) h)

-- a table of another name is in another tree
other_tree : (version : List Table) (t : Table) → Has version t → (db : Database) → HasTables version db → (u : Table) → Has db.schema.tables u → same_name u.name t.name ≡ false → u.tree ≢ tree_of db.schema t.name
other_tree version t mine db is u here differs same =
    let its = represents_in version t mine db is in
    let one : u ≡ at (tree_of db.schema t.name) t = same_table db.schema.tables u (at (tree_of db.schema t.name) t) is.apart here (itself db.schema t is.apart its) same in
    true≢false (sym (same_itself t.name) ∙ ap (λ (x : Table). same_name x.name t.name) (sym one) ∙ differs)

-- so a write of one table of the office spares the rest of the file
pub spares_rest : (t : Table) → Has version_2 t → (old new : Database) → HasTables version_2 old → SparesOthers t old new → SparesRest old new
spares_rest t mine old new has spares = record {
  schema = spares.schema;
  rows = λ u here other. all_has _ old.schema.tables u spares.tables here (other_tree version_2 t mine old has u here (all_has (λ (t : Table). same_name u.name t.name ≡ false) version_2 t other mine));
  unlisted = λ tree is. spares.others tree (λ same. all_has _ old.schema.tables (at (tree_of old.schema t.name) t) is.0 (itself old.schema t has.apart (represents_in version_2 t mine old has)) (sym same)) is.1;
}
