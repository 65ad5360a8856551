-- What a text means under a schema that is not written out, but has the table that the text names.
use Rattle.std.proofs.Common.{◌≡◌, ℕ, ◌+◌, List, [], ◌∷◌, ◌++◌, Some, None, Option, Ok, Err, false, refl, ap, ◌∙◌, slice_get, find, eqb, nat_le, ◌^◌, length, ◌==◌, ◌&&◌, not, if◌then◌else◌}
use Rattle.sqlite_ast.specs.declared.Rows.{Rows}
use Rattle.sqlite_ast.specs.declared.CreateTable.{CreateTable}
use Rattle.sqlite_ast.specs.declared.Conflict.TheVariants as conflict
use Rattle.sqlite_ast.specs.declared.Expr.{Expr}
use Rattle.sqlite_ast.specs.declared.Select.{Select as Asked}
use Rattle.sqlite_ast.specs.declared.Statement.TheVariants as written
use Rattle.sqlite_syntax.specs.declared.statement.Parsed.{Parsed}
use Rattle.sqlite_schema.specs.declared.schema.Schema.{Schema}
use Rattle.sqlite_schema.specs.declared.schema.Table.{Table}
use Rattle.sqlite_schema.specs.declared.command.Command.{Command}
use Rattle.sqlite_schema.specs.declared.command.Command.TheVariants.{Insert, InsertOr, Update, Delete, Select, CreateTable as MakeTable}
use Rattle.sqlite_schema.specs.declared.command.Conflict.TheVariants.{Replace}
use Rattle.sqlite_schema.specs.declared.command.Returning.{Returning}
use Rattle.sqlite_schema.specs.declared.command.Source.{Source}
use Rattle.sqlite_schema.specs.declared.program.Program.{Program}
use Rattle.sqlite_schema.specs.Names.{table_named, view_named, index_named}
use Rattle.sqlite_draft.specs.declared.query.Draft.{Draft}
use Rattle.sqlite_resolve.specs.Compile.{compiled, planned, meaning, timed, returning, command, insert, insert_or, insert_or_abort, update, delete, read, create_table, is_attached, creates, is_reserved, shows, first, new_rows, small, with_command, on_table, formats_of}
use Rattle.sqlite_resolve.specs.Define as define
use Rattle.sqlite_resolve.specs.Given.{upserts}
use Rattle.sqlite_resolve.specs.Lowering.{Checked, and_then}
use Rattle.sqlite_resolve.specs.Program.{program, query}
use Rattle.sqlite_resolve.specs.Write.{deleted, updated}
use Rattle.sqlite_resolve.specs.declared.compiled.Compiled.{Compiled}
use Rattle.sqlite_resolve.specs.declared.error.CompileError.TheVariants.{Unsupported}
use Rattle.sqlite_value.specs.declared.keys.Collation.{Collation}
use Rattle.sqlite.specs.Listing.{understood, reads_listing, misses_table}
use Rattle.sqlite_sql.specs.Term.{Term}
use Rattle.sqlite_catalog.proofs.StepLemmas.{no_index, no_table, no_view}
use Rattle.sqlite.specs.Change.{is_used}
use Rattle.sqlite.proofs.Callers.{IsPlain, command_of, statement_of}
use Rattle.office_sql.specs.Schema.{at}
use Rattle.office_sql.specs.Texts.{ids_where, puts}

-- what a text means is what it compiles to, where it compiles
abbrev pub IsGiven : Checked Compiled → Type 0
IsGiven (Ok c) = Unit {0}
IsGiven (Err e) = ⊥

pub understood_is : (s : Schema) (text : List ℕ) (r : Checked Compiled) → compiled s text ≡ r → IsGiven r → understood s text ≡ r
unfolding understood
understood_is s text (Ok c) is given = rw is refl
understood_is s text (Err e) is given = absurd given

pub unlisted : (s : Schema) (text : List ℕ) (c : Compiled) → compiled s text ≡ Ok c → reads_listing s text ≡ false
unlisted s text c is = ap misses_table is

module _ (s : Schema) (name : List ℕ) (place : ℕ) (t : Table) (named : table_named s name ≡ Some place) (found : slice_get s.tables place ≡ Some t) where
  on_table_at : (f : ℕ → Table → Checked Command) → on_table s name f ≡ f place t
  on_table_at f = rw (named, found) refl

  formats_at : formats_of s name ≡ t.stamps.formats
  formats_at = rw (named, found) refl

  inserts_at : (formats : List (List ℕ)) (base : ℕ) (columns : List (List ℕ)) (rows : Rows)
      → command s formats base (written.Insert conflict.Replace name columns rows [] []) ≡ and_then (new_rows s t base columns rows) (λ src. Ok (InsertOr place Replace src []))
  unfolding command insert_or upserts
  inserts_at formats base columns rows = on_table_at _

  abbrev insert_given : Parsed → List (List ℕ) → Rows → Checked Compiled
  insert_given p columns rows =
      and_then (and_then (and_then (and_then (new_rows s t (small p.names + small (p.formats ++ t.stamps.formats)) columns rows) (λ src. Ok (InsertOr place Replace src []))) (λ c. let none : Option Returning = None in Ok (c, none))) (λ plan. Ok (p.formats ++ t.stamps.formats, plan)))
      (λ plan. Ok (with_command p plan))

  pub insert_compiled : (text : List ℕ) (p : Parsed) (columns : List (List ℕ)) (rows : Rows) → first text ≡ Ok p → p.statement ≡ written.Insert conflict.Replace name columns rows [] []
      → compiled s text ≡ insert_given p columns rows
  unfolding compiled planned meaning timed returning shows
  insert_compiled text p columns rows is states = rw (is, states, formats_at, inserts_at) refl

  pub insert_understood : (text : List ℕ) (p : Parsed) (columns : List (List ℕ)) (rows : Rows) → first text ≡ Ok p → p.statement ≡ written.Insert conflict.Replace name columns rows [] []
      → IsGiven (insert_given p columns rows) → understood s text ≡ insert_given p columns rows
  insert_understood text p columns rows is states given = understood_is s text _ (insert_compiled text p columns rows is states) given

  inserts_plain_at : (formats : List (List ℕ)) (base : ℕ) (columns : List (List ℕ)) (rows : Rows)
      → command s formats base (written.Insert conflict.Abort name columns rows [] []) ≡ and_then (new_rows s t base columns rows) (λ src. Ok (Insert place src))
  unfolding command insert_or_abort insert
  inserts_plain_at formats base columns rows = on_table_at _

  abbrev insert_plain_given : Parsed → List (List ℕ) → Rows → Checked Compiled
  insert_plain_given p columns rows =
      and_then (and_then (and_then (and_then (new_rows s t (small p.names + small (p.formats ++ t.stamps.formats)) columns rows) (λ src. Ok (Insert place src))) (λ c. let none : Option Returning = None in Ok (c, none))) (λ plan. Ok (p.formats ++ t.stamps.formats, plan)))
      (λ plan. Ok (with_command p plan))

  insert_plain_compiled : (text : List ℕ) (p : Parsed) (columns : List (List ℕ)) (rows : Rows) → first text ≡ Ok p → p.statement ≡ written.Insert conflict.Abort name columns rows [] []
      → compiled s text ≡ insert_plain_given p columns rows
  unfolding compiled planned meaning timed returning shows
  insert_plain_compiled text p columns rows is states = rw (is, states, formats_at, inserts_plain_at) refl

  pub insert_plain_made : (text : List ℕ) (p : Parsed) (columns : List (List ℕ)) (rows : Rows) (src : Source) → first text ≡ Ok p → p.statement ≡ written.Insert conflict.Abort name columns rows [] []
      → new_rows s t (small p.names + small (p.formats ++ t.stamps.formats)) columns rows ≡ Ok src → compiled s text ≡ Ok (with_command p (p.formats ++ t.stamps.formats, (Insert place src, None)))
  insert_plain_made text p columns rows src is states made = insert_plain_compiled text p columns rows is states ∙ rw made refl

  updates_at : (formats : List (List ℕ)) (base : ℕ) (sets : List (List ℕ × Expr)) (test : Option Expr) (d : Draft) (q : Program) → updated s place t sets test ≡ Ok d → program s [] d ≡ Ok q
      → command s formats base (written.Update name sets test []) ≡ Ok (Update place q)
  unfolding command update
  updates_at formats base sets test d q draws means = on_table_at _ ∙ rw (draws, means) refl

  pub update_compiled : (text : List ℕ) (p : Parsed) (sets : List (List ℕ × Expr)) (test : Option Expr) (d : Draft) (q : Program) → first text ≡ Ok p → p.statement ≡ written.Update name sets test []
      → updated s place t sets test ≡ Ok d → program s [] d ≡ Ok q → compiled s text ≡ Ok (with_command p (p.formats, (Update place q, None)))
  unfolding compiled planned meaning timed returning shows
  update_compiled text p sets test d q is states draws means = rw (is, states, updates_at p.formats (small p.names + small p.formats) sets test d q draws means) refl

  deletes_at : (formats : List (List ℕ)) (base : ℕ) (test : Option Expr) (d : Draft) (q : Program) → deleted s place t test ≡ Ok d → program s [] d ≡ Ok q
      → command s formats base (written.Delete name test []) ≡ Ok (Delete place q)
  unfolding command delete
  deletes_at formats base test d q draws means = on_table_at _ ∙ rw (draws, means) refl

  pub delete_compiled : (text : List ℕ) (p : Parsed) (test : Option Expr) (d : Draft) (q : Program) → first text ≡ Ok p → p.statement ≡ written.Delete name test []
      → deleted s place t test ≡ Ok d → program s [] d ≡ Ok q → compiled s text ≡ Ok (with_command p (p.formats, (Delete place q, None)))
  unfolding compiled planned meaning timed returning shows
  delete_compiled text p test d q is states draws means = rw (is, states, deletes_at p.formats (small p.names + small p.formats) test d q draws means) refl

  selects_at : (formats : List (List ℕ)) (base : ℕ) (q : Asked) (d : Draft) (names : List (List ℕ)) (how : List (Option Collation)) (means : Program)
      → query s q ≡ Ok ((d, names, how), []) → program s [] d ≡ Ok means → command s formats base (written.Select q) ≡ Ok (Select means names)
  unfolding command read
  selects_at formats base q d names how means draws is = rw (draws, is) refl

  pub select_compiled : (text : List ℕ) (p : Parsed) (q : Asked) (d : Draft) (names : List (List ℕ)) (how : List (Option Collation)) (means : Program) → first text ≡ Ok p → p.statement ≡ written.Select q
      → query s q ≡ Ok ((d, names, how), []) → program s [] d ≡ Ok means → compiled s text ≡ Ok (with_command p (p.formats, (Select means names, None)))
  unfolding compiled planned meaning timed returning shows
  select_compiled text p q d names how means is states draws so = rw (is, states, selects_at p.formats (small p.names + small p.formats) q d names how means draws so) refl

-- no table, index or view has the name
pub record IsFree (s : Schema) (name : List ℕ) : Type 0 where
  pub tables : table_named s name ≡ None
  pub views : view_named s name ≡ None
  pub indexes : index_named s name ≡ None

module _ (s : Schema) (def : CreateTable) (free : IsFree s def.name) where
  abbrev made_by : List (List ℕ) → Checked Command
  made_by formats = and_then (define.table formats def) (λ t. if length t.computed == length t.stamps.places && not def.resolves then Ok MakeTable else Err Unsupported)

  makes_at : (formats : List (List ℕ)) (base : ℕ) → is_reserved def.name ≡ false → def.if_missing ≡ false → command s formats base (written.CreateTable def) ≡ made_by formats
  unfolding command create_table is_attached creates
  makes_at formats base own first = let a = free.tables in let b = free.views in let c = free.indexes in rw (b, a, c, own, first) refl

  pub create_compiled : (text : List ℕ) (p : Parsed) → first text ≡ Ok p → p.statement ≡ written.CreateTable def → is_reserved def.name ≡ false → def.if_missing ≡ false → made_by p.formats ≡ Ok MakeTable
      → compiled s text ≡ Ok (with_command p ([], (MakeTable, None)))
  unfolding compiled planned meaning timed returning
  create_compiled text p is states own new made = rw (is, states, makes_at p.formats (small p.names + 0) own new, made) refl

-- the schema has this table at this place, in this tree, and no other in that tree
pub record Finds (s : Schema) (t : Table) (place tree : ℕ) : Type 0 where
  pub named : table_named s t.name ≡ Some place
  pub found : slice_get s.tables place ≡ Some (at tree t)
  pub only : find (λ u. eqb u.tree tree) s.tables ≡ Some (at tree t)
  pub low : nat_le (2 ^ 31) tree ≡ false

-- what a text means that deletes the rows that pass, under any schema that has the table
abbrev pub MeansRemoval : List ℕ → Table → List Term → Type 0
MeansRemoval sql t filters = (s : Schema) (place tree : ℕ) → Finds s t place tree → (command_of (understood s sql) ≡ Delete place (record { lets = []; body = ids_where tree filters })) × IsPlain (understood s sql)

-- what a text means that puts one row of these terms, under any schema that has the table
abbrev pub MeansPut : List ℕ → Table → List Term → ℕ → Type 0
MeansPut sql t terms width = (s : Schema) (place tree : ℕ) → table_named s t.name ≡ Some place → slice_get s.tables place ≡ Some (at tree t) → (command_of (understood s sql) ≡ puts place terms width) × IsPlain (understood s sql)

-- what a text means that makes a table, under any schema that has not its name
abbrev pub MeansMaking : List ℕ → Table → Type 0
MeansMaking text t = (s : Schema) → is_used s t.name ≡ false → (command_of (understood s text) ≡ MakeTable) × IsPlain (understood s text) × (statement_of text (understood s text) ≡ text)

-- a name that is not used is no table's, view's or index's
pub is_free : (s : Schema) (name : List ℕ) → is_used s name ≡ false → IsFree s name
is_free s name free = record { tables = no_table s name free; views = no_view s name free; indexes = no_index s name free }
