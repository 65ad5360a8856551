-- What the texts do that empty a table and report another version.
use Rattle.std.proofs.Common.{◌≡◌, ◌≢◌, Option, ℕ, ℤ, pos, List, None, [], ◌∷◌, map, cond, not, is_eq, Ok, refl, sym, ap, subst, ◌∙◌, IsPermutation}
use Rattle.std.specs.List.{AllByRecursion}
use Rattle.sqlite_value.specs.declared.value.Value.TheVariants.{Null, Int}
use Rattle.std.proofs.lemmas.Cmp.{tied_itself}
use Rattle.sqlite_value.proofs.OrderLemmas.{value_cmp_total}
use Rattle.sqlite_value.specs.Order.{Row, column, value_cmp}
use Rattle.sqlite_schema.specs.declared.schema.Table.{Table}
use Rattle.sqlite_trees.specs.Tree.{Trees}
use Rattle.sqlite_trees.specs.View.{IsShaped}
use Rattle.sqlite_trees.specs.declared.store.Shape.TheVariants as shape
use Rattle.sqlite_schema.specs.declared.schema.Keys.TheVariants.{Enforced}
use Rattle.sqlite_schema.specs.declared.command.Command.TheVariants.{Update}
use Rattle.sqlite_rules.specs.Calls.{ids_of}
use Rattle.sqlite_rules.specs.Cast.{cast_row}
use Rattle.sqlite_rules.specs.Edit.{IsNoIndex, taken_by, edit_of, edited, put_all, without_all}
use Rattle.sqlite_rules.specs.declared.error.Rowids.TheVariants.{Given}
use Rattle.sqlite.specs.Effect.{Database}
use Rattle.sqlite.specs.Rows.{Written}
use Rattle.sqlite.specs.Does.{AtPlace, OnRows, Tally}
use Rattle.sqlite.specs.Listing.{understood}
use Rattle.sqlite.specs.State.{State, mode_of, Executes}
use Rattle.sqlite.proofs.Callers.{one_permutation, one_step, runs_as, statement_of}
use Rattle.office_sql.specs.Bags.{rows_of, shown, tree_in}
use Rattle.office_sql.specs.SchemaVersions.{version_2}
use Rattle.office_sql.specs.Migrated.{Raised}
use Rattle.office_sql.specs.Office.{HasTables, SparesOthers, tree_of}
use Rattle.office_sql.specs.Schema.{at, office, schedules}
use Rattle.office_sql.specs.Shown.{office_row}
use Rattle.office_sql.specs.Texts.{clear_schedules, raise_version, raised_terms, selects}
use Rattle.office_sql.proofs.Kept.{finds_in, found_in, left_others, left_tables, represents_in, spares_rest}
use Rattle.office_sql.proofs.MoveLemmas.{all_found}
use Rattle.office_sql.proofs.OfTwo.{has_office, has_schedules}
use Rattle.office_sql.proofs.TableThere.{idle, low}
use Rattle.office_sql.proofs.MoveTexts.{raise_version_is}
use Rattle.office_sql.proofs.RemoveTexts.{clear_schedules_is}
use Rattle.office_sql.proofs.PutLemmas.{cast_int, cast_null}
use Rattle.office_sql.proofs.RemoveLemmas.{removes, Takes}
use Rattle.office_sql.proofs.Replace.{went, same_value}

-- each row goes
pub clears : Takes clear_schedules schedules ([] ∷ []) [] []
clears = removes schedules clear_schedules [] clear_schedules_is ([] ∷ []) [] [] (λ r. refl)

-- a table with one row shows one
one_shown : (rows : List Row) (day : ℤ) → map (shown office) rows ≡ office_row (pos 1) (pos 1) day ∷ [] → (r : Row) × (rows ≡ r ∷ []) × (shown office r ≡ office_row (pos 1) (pos 1) day)
one_shown [] day is = absurd cc
one_shown (r ∷ []) day is = (r, refl, cc)
one_shown (r ∷ q ∷ rows) day is = absurd cc

-- the columns of a row of `office`
columns_of : (r : Row) (day : ℤ) → shown office r ≡ office_row (pos 1) (pos 1) day → (column r 0 ≡ Int (pos 1)) × (column r 3 ≡ Int day)
columns_of r day is = (ap (λ s. column s 0) is, ap (λ s. column s 2) is)

cast_still : (day : ℤ) → cast_row office (Int (pos 1) ∷ Null ∷ Int (pos 2) ∷ Int day ∷ []) ≡ (Int (pos 1) ∷ Null ∷ Int (pos 2) ∷ Int day ∷ [])
cast_still day = simp (cast_int, cast_null)

none_left : (r : Row) → column r 0 ≡ Int (pos 1) → without_all (r ∷ []) (pos 1 ∷ []) ≡ []
none_left r key = ap (λ v. cond (not (is_eq (value_cmp v (Int (pos 1))))) (r ∷ []) []) key ∙ ap (λ o. cond (not (is_eq o)) (r ∷ []) []) (tied_itself value_cmp_total (Int (pos 1)))

left_none : (db : Trees) (n : ℕ) (day : ℤ) (r : Row) → db n ≡ r ∷ [] → column r 0 ≡ Int (pos 1)
    → edited db (edit_of db (at n office) (ids_of ((Int (pos 1) ∷ Int (pos 1) ∷ Null ∷ Int (pos 2) ∷ Int day ∷ []) ∷ [])) Given 1 ((Int (pos 1) ∷ Int (pos 1) ∷ Null ∷ Int (pos 2) ∷ Int day ∷ []) ∷ [])) ≡ (Int (pos 1) ∷ Null ∷ Int (pos 2) ∷ Int day ∷ []) ∷ []
left_none db n day r rows key =
    ap (λ l. put_all l (cast_row office (Int (pos 1) ∷ Null ∷ Int (pos 2) ∷ Int day ∷ []) ∷ [])) (ap (λ l. without_all l (pos 1 ∷ [])) rows ∙ none_left r key)
    ∙ ap (λ row. row ∷ []) (cast_still day)

pub raises : (day : ℤ) (old new : State) (count : ℕ) → HasTables version_2 old.now → rows_of office old.now.trees ≡ office_row (pos 1) (pos 1) day ∷ [] → Executes raise_version [] old new (Ok count) → Raised day old.now new.now
raises day old new count is has h =
    let s = old.now.schema in
    let db = old.now.trees in
    let it = represents_in version_2 office has_office old.now is in
    let n = tree_of s office.name in
    let table = at n office in
    let command = Update it.place (record { lets = []; body = selects n raised_terms [] }) in
    let means = raise_version_is s it.place n (finds_in version_2 office has_office old.now is) in
    let w = runs_as raise_version [] old new s refl command means.0 means.1 count h in
    let text = statement_of raise_version (understood s raise_version) in
    let on = subst (λ (o : Option Table). AtPlace (λ t. OnRows (record { limit = old.step_limit; keys = Enforced; schema = s; table = t; params = [] }) (mode_of old) None command db) o (Ok (w.tally, new.now))) it.found w.changed in
    let done = went on in
    let shows = went (went done.2).2 in
    let after_is : new.now ≡ record { schema = s; trees = done.0.trees } = ap (λ (p : Tally × Database). p.1) (same_value shows.2) in
    let read = went done.1 in
    let written = went read.2 in
    let trees : done.0.trees ≡ written.0 = ap (λ (it : Written). it.trees) (same_value written.2) in
    let to : written.0 ≡ new.now.trees = sym trees ∙ ap (λ (d : Database). d.trees) (sym after_is) in
    let had : map (shown office) (db n) ≡ office_row (pos 1) (pos 1) day ∷ [] = subst (λ k. map (shown office) (db k) ≡ office_row (pos 1) (pos 1) day ∷ []) (found_in version_2 office has_office old.now is) has in
    let one = one_shown (db n) day had in
    let columns = columns_of one.0 day one.2 in
    let next : Row = Int (pos 1) ∷ Int (pos 1) ∷ Null ∷ Int (pos 2) ∷ Int day ∷ [] in
    let made : map (λ r. column r 0 ∷ column r 0 ∷ Null ∷ Int (pos 2) ∷ column r 3 ∷ []) (db n) ≡ next ∷ [] =
    ap (map (λ r. column r 0 ∷ column r 0 ∷ Null ∷ Int (pos 2) ∷ column r 3 ∷ [])) one.1 ∙ ap (λ (p : _ × _). (p.0 ∷ p.0 ∷ Null ∷ Int (pos 2) ∷ p.1 ∷ []) ∷ []) (λ i. (columns.0 i, columns.1 i)) in
    let small = low s office is.apart it db is.database in
    let found : read.0 ≡ next ∷ [] = one_permutation next read.0 (subst (λ l. IsPermutation l read.0) made (all_found n raised_terms [] small [] db read.0 (read.1.answer Null))) in
    let edit = edit_of db table (ids_of read.0) Given 1 read.0 in
    let did = one_step s Enforced db written.0 edit (idle s office is.apart it (taken_by db edit) edit.news) written.1 in
    let whole : edited db edit ≡ (Int (pos 1) ∷ Null ∷ Int (pos 2) ∷ Int day ∷ []) ∷ [] =
    ap (λ rows. edited db (edit_of db table (ids_of rows) Given 1 rows)) found ∙ left_none db n day one.0 one.1 columns.0 in
    let left : written.0 n ≡ (Int (pos 1) ∷ Null ∷ Int (pos 2) ∷ Int day ∷ []) ∷ [] = did.rows ∙ whole in
    let left_now : new.now.trees n ≡ (Int (pos 1) ∷ Null ∷ Int (pos 2) ∷ Int day ∷ []) ∷ [] = ap (λ (d : Trees). d n) (sym to) ∙ left in
    let order : IsShaped shape.Table (new.now.trees n) = subst (IsShaped shape.Table) (sym left_now) ((tt, tt), (refl, tt)) in
    let schema : new.now.schema ≡ s = ap (λ (d : Database). d.schema) after_is in
    let spares : SparesOthers office old.now new.now = record {
      schema = schema;
      tables = subst (λ (d : Trees). AllByRecursion (λ (u : Table). u.tree ≢ n → d u.tree ≡ db u.tree) s.tables) to did.tables;
      others = subst (λ (d : Trees). (tree : ℕ) → tree ≢ n → IsNoIndex s tree → d tree ≡ db tree) to did.others;
    } in
    let now = left_tables version_2 office has_office old.now new.now is w.sound spares order in
    let there : tree_in new.now.trees office.name ≡ n = found_in version_2 office has_office new.now now ∙ ap (λ x. tree_of x office.name) schema in
    record {
      is_office = record { has = now; room = tt };
      row = ap (λ k. map (shown office) (new.now.trees k)) there ∙ ap (map (shown office)) left_now;
      others = left_others version_2 office has_office old.now new.now is w.sound spares order;
      rest = spares_rest office has_office old.now new.now is spares;
    }
