-- What the texts of a migration do to the tables.
use Rattle.std.proofs.Common.{◌≡◌, ◌≢◌, ℕ, Option, List, [], ◌∷◌, ◌++◌, drop, map, nat_le, ◌^◌, Bool, true, false, not, cond, None, Ok, refl, sym, ap, ap₂, subst, ◌∙◌, IsPermutation}
use Rattle.std.specs.List.{AllByRecursion}
use Rattle.std.proofs.lemmas.Bool.{and_parts}
use Rattle.std.proofs.lemmas.List.{append-nil}
use Rattle.std.proofs.lemmas.List.Concat.{flat_map_single}
use Rattle.std.proofs.lemmas.List.Sorted.{IsPermutation-append_right, IsPermutation-map, IsPermutation-middle, IsPermutation-refl, IsPermutation-sym, IsPermutation-trans}
use Rattle.sqlite_value.specs.declared.value.Value.TheVariants.{Null, Int}
use Rattle.sqlite_value.specs.declared.keys.Collation.{Collation}
use Rattle.sqlite_value.specs.Order.{Row}
use Rattle.sqlite_trees.specs.Tree.{Trees, put_row, rowid}
use Rattle.sqlite_trees.specs.View.{is_int, IsShaped}
use Rattle.sqlite_trees.specs.declared.store.Shape.TheVariants as shape
use Rattle.sqlite_trees.proofs.TreeLemmas.{IsShaped-put_row}
use Rattle.sqlite_sql.specs.Term.{Term, Env, eval_all}
use Rattle.sqlite_sql.specs.Query.{IsAnswer, Output, output}
use Rattle.sqlite_sql.specs.Program.{overlay}
use Rattle.sqlite_schema.specs.declared.schema.Table.{Table}
use Rattle.sqlite_schema.specs.declared.schema.Keys.TheVariants.{Enforced}
use Rattle.sqlite_schema.specs.declared.command.Command.TheVariants.{Insert}
use Rattle.sqlite_schema.specs.declared.command.Source.TheVariants.{Query}
use Rattle.sqlite_rules.specs.Cast.{cast_row}
use Rattle.sqlite_rules.specs.Edit.{IsNoIndex, taken_by, are_fresh, at_least, edit_of, have_rowids, is_chosen, is_taken, next_rowid, numbered, put_all, with_rowid}
use Rattle.sqlite_rules.specs.declared.error.Rowids.{Rowids}
use Rattle.sqlite_rules.specs.declared.error.Rowids.TheVariants.{Chosen}
use Rattle.sqlite_keyed.proofs.ListLemmas.{map-map}
use Rattle.sqlite.specs.Effect.{Database}
use Rattle.sqlite.specs.Rows.{Written}
use Rattle.sqlite.specs.Does.{AtPlace, OnRows, Tally}
use Rattle.sqlite.specs.Listing.{understood}
use Rattle.sqlite.specs.State.{State, mode_of, Executes}
use Rattle.sqlite.proofs.Callers.{one_step, runs_as, statement_of}
use Rattle.office_sql.specs.Bags.{rows_of, shown, tree_in}
use Rattle.office_sql.specs.SchemaVersions.{version_2}
use Rattle.office_sql.specs.Migrated.{IsScheduleRow, Moved}
use Rattle.office_sql.specs.Office.{HasTables, SparesOthers, tree_of}
use Rattle.office_sql.specs.Schema.{at, schedules, schedules2}
use Rattle.office_sql.specs.Texts.{move_schedules, moved_collations, moved_terms, selects}
use Rattle.office_sql.proofs.BagLemmas.{put_shuffles}
use Rattle.office_sql.proofs.MoveTexts.{move_schedules_is}
use Rattle.office_sql.proofs.PutLemmas.{cast_int, cast_null}
use Rattle.office_sql.proofs.Kept.{finds_in, found_in, left_others, left_tables, represents_in, spares_rest}
use Rattle.office_sql.proofs.OfTwo.{has_schedules, has_schedules2}
use Rattle.office_sql.proofs.TableThere.{idle, low}
use Rattle.office_sql.proofs.Replace.{went, same_value}

-- ---- a query of all rows

module _ (tree : ℕ) (project : List Term) (collations : List Collation) (low : nat_le (2 ^ 31) tree ≡ false) (params : Row) (db : Trees) where
  -- the terms of each row, in any order
  pub all_found : (rows : List Row) → IsAnswer (selects tree project collations) (overlay db []) params rows → IsPermutation (map (λ r. eval_all project (params ∷ r ∷ [])) (db tree)) rows
  all_found rows a =
      let q = selects tree project collations in
      let staged : a.staged ≡ map (λ r. params ∷ r ∷ []) (db tree) =
      a.grouped ∙ flat_map_single (λ r. params ∷ r ∷ []) (overlay db [] tree) ∙ ap (map (λ r. params ∷ r ∷ [])) (in_tree) in
      let kept : a.kept ≡ map (output q) (map (λ r. params ∷ r ∷ []) (db tree)) = a.distinct ∙ ap (map (output q)) staged in
      let same = subst (λ l. IsPermutation l a.ordered) kept a.same in
      let reported : rows ≡ map (λ (o : Output). o.1) a.ordered = a.shown in
      let outputs : map (λ (o : Output). o.1) (map (output q) (map (λ r. params ∷ r ∷ []) (db tree))) ≡ map (λ r. eval_all project (params ∷ r ∷ [])) (db tree) =
      map-map (λ (o : Output). o.1) (output q) (map (λ r. params ∷ r ∷ []) (db tree)) ∙ map-map (λ (e : Env). (output q e).1) (λ r. params ∷ r ∷ []) (db tree) in
      subst (IsPermutation (map (λ r. eval_all project (params ∷ r ∷ [])) (db tree))) (sym reported)
      (subst (λ l. IsPermutation l (map (λ (o : Output). o.1) a.ordered)) outputs (IsPermutation-map (λ (o : Output). o.1) _ _ same))
    where
      in_tree : overlay db [] tree ≡ db tree
      in_tree = rw low

-- ---- rows that are put in one after another

put_all_shuffles : (news rows : List Row) → are_fresh rows news ≡ true → IsPermutation (news ++ rows) (put_all rows news)
put_all_shuffles [] rows fresh = IsPermutation-refl rows
put_all_shuffles (r ∷ rs) rows fresh =
    let parts = and_parts (not (is_taken rows r)) (are_fresh (put_row r rows) rs) fresh in
    let first : IsPermutation (r ∷ rows) (put_row r rows) = put_shuffles r rows (free (is_taken rows r) parts.0) in
    IsPermutation-trans _ _ _ (IsPermutation-sym _ _ (IsPermutation-middle rs r rows)) (IsPermutation-trans _ _ _ (IsPermutation-append_right rs _ _ first) (put_all_shuffles rs (put_row r rows) parts.1))
  where
    free : (b : Bool) → not b ≡ true → b ≡ false
    free true h = absurd cc
    free false h = refl

pub put_all_shaped : (news rows : List Row) → have_rowids news ≡ true → IsShaped shape.Table rows → IsShaped shape.Table (put_all rows news)
put_all_shaped [] rows keyed shaped = shaped
put_all_shaped (r ∷ rs) rows keyed shaped =
    let parts = and_parts (is_int (rowid r)) (have_rowids rs) keyed in put_all_shaped rs (put_row r rows) parts.1 (IsShaped-put_row r rows parts.0 shaped)

-- a rowid that is chosen shows in no column
module _ (table : Table) (blind : (v : _) (r : Row) → shown table (v ∷ drop 1 r) ≡ shown table r) where
  shown_with : (rowids : Rowids) (rows : List Row) (r : Row) → shown table (with_rowid rowids rows r) ≡ shown table r
  shown_with rowids rows r = go (is_chosen rowids (rowid r)) (Int (at_least rowids (next_rowid rows)))
    where
      go : (b : Bool) (v : _) → shown table (cond b (v ∷ drop 1 r) r) ≡ shown table r
      go true v = blind v r
      go false v = refl

  shown_numbered : (rowids : Rowids) (rows xs : List Row) → map (shown table) (numbered rowids rows xs) ≡ map (shown table) xs
  shown_numbered rowids rows [] = refl
  shown_numbered rowids rows (x ∷ xs) = ap₂ (λ y ys. y ∷ ys) (shown_with rowids rows x) (shown_numbered rowids (put_row (with_rowid rowids rows x) rows) xs)

map_on : {X Y : Type 0} (f g : X → Y) (xs : List X) → AllByRecursion (λ x. f x ≡ g x) xs → map f xs ≡ map g xs
map_on f g [] all = refl
map_on f g (x ∷ xs) all = ap₂ (λ y ys. y ∷ ys) all.0 (map_on f g xs all.1)

all_of_map : {X Y : Type 0} (P : Y → Type 0) (Q : X → Type 0) (f : X → Y) → ((x : X) → P (f x) → Q x) → (xs : List X) → AllByRecursion P (map f xs) → AllByRecursion Q xs
all_of_map P Q f each [] all = tt
all_of_map P Q f each (x ∷ xs) all = (each x all.0, all_of_map P Q f each xs all.1)

blind_schedules2 : (v : _) (r : Row) → shown schedules2 (v ∷ drop 1 r) ≡ shown schedules2 r
blind_schedules2 v [] = refl
blind_schedules2 v (x ∷ r) = refl

-- the row that is put in shows what the other shows
same_schedule : (r : Row) → IsScheduleRow (shown schedules r) → shown schedules r ≡ shown schedules2 (cast_row schedules2 (Null ∷ shown schedules r))
same_schedule r (code, start_at, unit, span, roll, disposal, is) = subst (λ (row : Row). row ≡ shown schedules2 (cast_row schedules2 (Null ∷ row))) (sym is) (simp (cast_null, cast_int))

none_mapped : {X Y : Type 0} (f : X → Y) (xs : List X) → map f xs ≡ [] → xs ≡ []
none_mapped f [] none = refl
none_mapped f (x ∷ xs) none = absurd (cc)

pub moves : (old new : State) (count : ℕ) → HasTables version_2 old.now → rows_of schedules2 old.now.trees ≡ [] → AllByRecursion IsScheduleRow (rows_of schedules old.now.trees) → Executes move_schedules [] old new (Ok count) → Moved old.now new.now
moves old new count is no_row all_rows h =
    let s = old.now.schema in
    let db = old.now.trees in
    let its = represents_in version_2 schedules2 has_schedules2 old.now is in
    let from = represents_in version_2 schedules has_schedules old.now is in
    let n = tree_of s schedules2.name in
    let m = tree_of s schedules.name in
    let table = at n schedules2 in
    let none : db n ≡ [] = none_mapped (shown schedules2) (db n) (subst (λ k. map (shown schedules2) (db k) ≡ []) (found_in version_2 schedules2 has_schedules2 old.now is) no_row) in
    let rows : AllByRecursion IsScheduleRow (map (shown schedules) (db m)) = subst (λ k. AllByRecursion IsScheduleRow (map (shown schedules) (db k))) (found_in version_2 schedules has_schedules old.now is) all_rows in
    let command = Insert its.place (Query (record { lets = []; body = selects m moved_terms moved_collations })) in
    let means = move_schedules_is s its.place n from.place m its.named its.found (finds_in version_2 schedules has_schedules old.now is) in
    let w = runs_as move_schedules [] old new s refl command means.0 means.1 count h in
    let text = statement_of move_schedules (understood s move_schedules) in
    let on = subst (λ (o : Option Table). AtPlace (λ t. OnRows (record { limit = old.step_limit; keys = Enforced; schema = s; table = t; params = [] }) (mode_of old) None command db) o (Ok (w.tally, new.now))) its.found w.changed in
    let done = went on in
    let shows = went (went done.2).2 in
    let after_is : new.now ≡ record { schema = s; trees = done.0.trees } = ap (λ (p : Tally × Database). p.1) (same_value shows.2) in
    let given = went done.1 in
    let written = went (went given.2).2 in
    let counted = went written.2 in
    let trees : done.0.trees ≡ written.0 = ap (λ (it : Written). it.trees) (same_value counted.2) ∙ same_value counted.1 in
    let edit = edit_of db table [] Chosen 0 given.0 in
    let did = one_step s Enforced db written.0 edit (idle s schedules2 is.apart its (taken_by db edit) edit.news) written.1 in
    let to : written.0 ≡ new.now.trees = sym trees ∙ ap (λ (d : Database). d.trees) (sym after_is) in
    let left : written.0 n ≡ put_all [] edit.news = did.rows ∙ ap (λ l. put_all l edit.news) none in
    let fresh : are_fresh [] edit.news ≡ true = subst (λ l. are_fresh l edit.news ≡ true) none did.fresh in
    let in_turn : IsPermutation edit.news (written.0 n) = subst (IsPermutation edit.news) (sym left) (subst (λ l. IsPermutation l (put_all [] edit.news)) (append-nil edit.news) (put_all_shuffles edit.news [] fresh)) in
    let casts = map (λ s. cast_row table (drop 0 s)) in
    let reported : map (shown schedules2) edit.news ≡ map (shown schedules2) (casts given.0) = shown_numbered schedules2 blind_schedules2 Chosen (db n) (casts given.0) in
    let small = low s schedules is.apart from db is.database in
    let found : IsPermutation (map (λ r. Null ∷ shown schedules r) (db m)) given.0 = all_found m moved_terms moved_collations small [] db given.0 (given.1.answer Null) in
    let same : map (shown schedules) (db m) ≡ map (λ r. shown schedules2 (cast_row table (Null ∷ shown schedules r))) (db m) =
    map_on _ _ (db m) (all_of_map IsScheduleRow _ (shown schedules) same_schedule (db m) rows) in
    let sources : IsPermutation (map (shown schedules) (db m)) (map (λ s. shown schedules2 (cast_row table (drop 0 s))) given.0) =
    subst (λ l. IsPermutation l (map (λ s. shown schedules2 (cast_row table (drop 0 s))) given.0)) (map-map (λ s. shown schedules2 (cast_row table (drop 0 s))) (λ r. Null ∷ shown schedules r) (db m) ∙ sym same) (IsPermutation-map (λ s. shown schedules2 (cast_row table (drop 0 s))) _ _ found) in
    let bag : IsPermutation (map (shown schedules) (db m)) (map (shown schedules2) edit.news) =
    subst (IsPermutation (map (shown schedules) (db m))) (sym (map-map (shown schedules2) (λ s. cast_row table (drop 0 s)) given.0) ∙ sym reported) sources in
    let moved : IsPermutation (map (shown schedules) (db m)) (map (shown schedules2) (written.0 n)) = IsPermutation-trans _ _ _ bag (IsPermutation-map (shown schedules2) _ _ in_turn) in
    let order : IsShaped shape.Table (new.now.trees n) = subst (λ (d : Trees). IsShaped shape.Table (d n)) to (subst (IsShaped shape.Table) (sym left) (put_all_shaped edit.news [] did.keyed (tt, tt))) in
    let schema : new.now.schema ≡ s = ap (λ (d : Database). d.schema) after_is in
    let spares : SparesOthers schedules2 old.now new.now = record {
      schema = schema;
      tables = subst (λ (d : Trees). AllByRecursion (λ (u : Table). u.tree ≢ n → d u.tree ≡ db u.tree) s.tables) to did.tables;
      others = subst (λ (d : Trees). (tree : ℕ) → tree ≢ n → IsNoIndex s tree → d tree ≡ db tree) to did.others;
    } in
    let now = left_tables version_2 schedules2 has_schedules2 old.now new.now is w.sound spares order in
    let there : tree_in new.now.trees schedules2.name ≡ n = found_in version_2 schedules2 has_schedules2 new.now now ∙ ap (λ x. tree_of x schedules2.name) schema in
    record {
      is_office = record { has = now; room = tt };
      rows = subst (λ k. IsPermutation (rows_of schedules db) (map (shown schedules2) (new.now.trees k))) (sym there)
          (subst (λ k. IsPermutation (map (shown schedules) (db k)) (map (shown schedules2) (new.now.trees n))) (sym (found_in version_2 schedules has_schedules old.now is))
          (subst (λ (d : Trees). IsPermutation (map (shown schedules) (db m)) (map (shown schedules2) (d n))) to moved));
      others = left_others version_2 schedules2 has_schedules2 old.now new.now is w.sound spares order;
      rest = spares_rest schedules2 has_schedules2 old.now new.now is spares;
    }
