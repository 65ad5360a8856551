-- What a text means that reads one table, under a schema that is not written out, but has the table.
use Rattle.std.proofs.Common.{◌≡◌, ℕ, suc, List, [], ◌∷◌, ◌++◌, Some, None, Option, Ok, map, pos, negsuc, false, true, refl}
use Rattle.sqlite_ast.specs.declared.Binary.TheVariants as binary
use Rattle.sqlite_ast.specs.declared.Core.{Core, roll-Core, out-Core}
use Rattle.sqlite_ast.specs.declared.Expr.{Expr}
use Rattle.sqlite_ast.specs.declared.Expr.TheVariants.{Binary, Column, Parameter}
use Rattle.sqlite_ast.specs.declared.Origin.TheVariants as origin
use Rattle.sqlite_ast.specs.declared.Select.{Select as Asked, roll-Select, out-Select}
use Rattle.sqlite_ast.specs.declared.Shown.{Shown}
use Rattle.sqlite_ast.specs.declared.Shown.TheVariants.{One}
use Rattle.sqlite_ast.specs.declared.Sort.{Sort, roll-Sort}
use Rattle.sqlite_ast.specs.declared.Source.{Source as From, roll-Source, out-Source}
use Rattle.sqlite_ast.specs.declared.Statement.TheVariants as written
use Rattle.sqlite_syntax.specs.declared.statement.Parsed.{Parsed}
use Rattle.sqlite_schema.specs.declared.command.Command.TheVariants.{Select}
use Rattle.sqlite_schema.specs.declared.schema.Schema.{Schema}
use Rattle.sqlite_schema.specs.declared.schema.Table.{Table}
use Rattle.sqlite_draft.specs.Join.{chain}
use Rattle.sqlite_draft.specs.declared.join.Step.TheVariants.{Inner}
use Rattle.sqlite_draft.specs.declared.query.Draft.{Draft}
use Rattle.sqlite_resolve.specs.Compile.{compiled, first, with_command}
use Rattle.sqlite_resolve.specs.Lowering.{fresh, max_budget}
use Rattle.sqlite_resolve.specs.Program.{Building, Shown as Answer, program, query, query_to, level, with, whole, alone, single, sources, source, viewing}
use Rattle.sqlite_resolve.specs.Select.{parts, paging, constant_or, ungrouped, named, assembled}
use Rattle.sqlite_resolve.specs.Terms.{number}
use Rattle.sqlite_resolve.specs.declared.scope.Output.{Output}
use Rattle.sqlite_resolve.specs.declared.select.Clauses.{Clauses}
use Rattle.sqlite_resolve.specs.declared.state.Carried.{Carried}
use Rattle.sqlite_resolve.specs.declared.state.State.{State}
use Rattle.sqlite_sql.specs.Query.{Query}
use Rattle.sqlite_sql.specs.Term.{col, lit}
use Rattle.sqlite_value.specs.Keys.{ascending}
use Rattle.sqlite_value.specs.declared.keys.Collation.TheVariants.{Binary as ByBytes}
use Rattle.sqlite_value.specs.declared.value.Value.TheVariants.{Int}
use Rattle.sqlite.specs.Listing.{understood, reads_listing}
use Rattle.sqlite.proofs.Callers.{IsPlain, command_of}
use Rattle.office_sql.specs.Reads.{in_order}
use Rattle.office_sql.specs.Schema.{at}
use Rattle.office_sql.proofs.Understood.{Finds, select_compiled}

-- a text that is a query, of the tables alone
abbrev pub IsQuery : Schema → List ℕ → Query → List (List ℕ) → Type 0
IsQuery s sql body names = (command_of (understood s sql) ≡ Select (record { lets = []; body = body }) names) × IsPlain (understood s sql) × (reads_listing s sql ≡ false)

abbrev pub equals_param : List ℕ → ℕ → Expr
equals_param name n = Binary binary.Eq (Column None name) (Parameter n)

abbrev pub from_table : List ℕ → From
from_table name = roll-Source (record { is_left = false; origin = origin.Table name; alias = None; on = None; using = [] })

abbrev pub core_of : List ℕ → List (List ℕ) → Core
core_of name columns = roll-Core (record { distinct = false; shown = map (λ c. One (Column None c) None c) columns; from = from_table name ∷ []; filter = None; group = []; having = None })

abbrev pub core_where : List ℕ → List (List ℕ) → Expr → Core
core_where name columns test = roll-Core (record { distinct = false; shown = map (λ c. One (Column None c) None c) columns; from = from_table name ∷ []; filter = Some test; group = []; having = None })

abbrev pub sorts_of : List (List ℕ) → List Sort
sorts_of = map (λ c. roll-Sort (record { key = Column None c; descending = false; nulls_first = None }))

abbrev pub asked_of : List ℕ → List (List ℕ) → List (List ℕ) → Asked
asked_of name columns keys = roll-Select (record { with = []; first = core_of name columns; others = []; order = sorts_of keys; limit = None; offset = None })

abbrev pub draft_of : ℕ → List ℕ → List ℕ → Draft
draft_of tree places keys = record {
  from = chain (Inner tree ∷ []);
  filter = [];
  group = None;
  project = map (col 1) places;
  distinct = false;
  collations = [];
  order = map (λ k. (col 1 k, ascending ByBytes)) keys;
  limit = lit (Int (negsuc 0));
  offset = lit (Int (pos 0));
}

abbrev pub draft_for : Clauses → State → Draft
draft_for c st = ungrouped (c.body.steps ++ st.steps) c.body.filter c.body.level.shown false c.order (lit (Int (negsuc 0))) (number 0)

abbrev pub answer_for : Clauses → State → Answer
answer_for c st = (draft_for c st, map (λ o. o.name) c.body.level.shown, map (λ o. o.carried.collation) c.body.level.shown)

-- what the parts of a SELECT over one table give is its query
module _ (s : Schema) (name : List ℕ) (q : Asked) (core : Core) (from : From) (shown : List Shown) (test : Option Expr) (sorts : List Sort) (c : Clauses) (st : State)
    (asks : out-Select q ≡ record { with = []; first = core; others = []; order = sorts; limit = None; offset = None })
    (reads : out-Core core ≡ record { distinct = false; shown = shown; from = from ∷ []; filter = test; group = []; having = None })
    (takes : out-Source from ≡ record { is_left = false; origin = origin.Table name; alias = None; on = None; using = [] })
    (is : parts s core sorts (fresh 1 max_budget) ≡ Ok (c, st)) (plain : c.is_grouped ≡ false) where
  abbrev answer : Answer
  answer = answer_for c st

  named_at : named s core sorts (lit (Int (negsuc 0)), number 0) ≡ Ok answer
  unfolding named assembled
  named_at = rw (reads, is, plain) refl

  paging_at : paging s q ≡ Ok (lit (Int (negsuc 0)), number 0)
  unfolding paging constant_or
  paging_at = rw asks refl

  module _ (again : Schema → Asked → Building Answer) where
    viewing_at : (n : ℕ) → viewing again s core sorts (lit (Int (negsuc 0)), number 0) (suc n) s [] ≡ Ok ((answer, s), [])
    unfolding viewing
    viewing_at n = rw named_at refl

    sources_at : sources again s (out-Core core).from [] ≡ Ok (s, [])
    unfolding sources source
    sources_at = rw (reads, takes) refl

    alone_at : alone again s core sorts (lit (Int (negsuc 0)), number 0) [] ≡ Ok (answer, [])
    unfolding alone single
    alone_at = rw (sources_at, viewing_at 63) refl

    whole_at : whole again s q [] ≡ Ok (answer, [])
    unfolding whole
    whole_at = rw (paging_at, asks, alone_at) refl

    level_at : level again s q [] ≡ Ok (answer, [])
    unfolding level with
    level_at = rw (asks, whole_at) refl

  pub query_at : query s q ≡ Ok (answer, [])
  unfolding query query_to
  query_at = level_at (query_to 15)

abbrev pub shown_as : List ℕ → ℕ → Carried → Output
shown_as name place carried = record { name = name; is_alias = false; is_column = true; term = col 1 place; carried = carried }

abbrev pub by_bytes : Carried
by_bytes = record { collation = Some ByBytes; is_written = false }

abbrev pub clauses_of : List ℕ → ℕ → ℕ → List Output → List ℕ → Clauses
clauses_of name place tree shown keys = record {
  body = record { level = record { tables = record { name = name; table = place; slot = 1; shared = [] } ∷ []; shown = shown }; steps = Inner tree ∷ []; filter = [] };
  is_grouped = false;
  keys = [];
  collations = [];
  having = [];
  order = map (λ k. (col 1 k, ascending ByBytes)) keys;
}

abbrev pub after : ℕ → Carried → State
after budget last = record { next = 2; steps = []; aggregates = []; budget = budget; written = None; last = last }

-- a text that reads a table whole, by its key, under a schema that has the table
module _ (s : Schema) (place tree : ℕ) (t : Table) (it : Finds s t place tree) (text : List ℕ) (p : Parsed) (columns keys : List (List ℕ)) (out : List Output) (places by : List ℕ) (st : State) where
  abbrev reads_asked : Asked
  reads_asked = asked_of t.name columns keys

  abbrev reads_core : Core
  reads_core = core_of t.name columns

  abbrev reads_from : From
  reads_from = from_table t.name

  pub reads_compiled : first text ≡ Ok p → p.statement ≡ written.Select reads_asked
      → out-Select reads_asked ≡ record { with = []; first = reads_core; others = []; order = sorts_of keys; limit = None; offset = None }
      → out-Core reads_core ≡ record { distinct = false; shown = map (λ c. One (Column None c) None c) columns; from = reads_from ∷ []; filter = None; group = []; having = None }
      → out-Source reads_from ≡ record { is_left = false; origin = origin.Table t.name; alias = None; on = None; using = [] }
      → parts s reads_core (sorts_of keys) (fresh 1 max_budget) ≡ Ok (clauses_of t.name place tree out by, st)
      → program s [] (draft_for (clauses_of t.name place tree out by) st) ≡ Ok (record { lets = []; body = in_order tree places by })
      → compiled s text ≡ Ok (with_command p (p.formats, (Select (record { lets = []; body = in_order tree places by }) (map (λ o. o.name) out), None)))
  reads_compiled parses asks opens cores froms draws types =
      select_compiled s t.name place (at tree t) it.named it.found text p reads_asked _ _ _ _ parses asks
      (query_at s t.name reads_asked reads_core reads_from _ None (sorts_of keys) (clauses_of t.name place tree out by) st opens cores froms draws refl) types
