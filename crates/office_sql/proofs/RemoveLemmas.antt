-- DELETE by a key, wherever the table is.
use Rattle.std.proofs.Common.{◌≡◌, ◌≢◌, ◌⊎◌, inl, inr, ℕ, ℤ, List, [], ◌∷◌, ◌++◌, map, filter, nat_le, ◌^◌, Bool, true, false, not, ◌||◌, cond, Option, None, Some, Ok, refl, sym, ap, subst, ◌∙◌, IsTrue, is_eq, IsPermutation, All}
use Rattle.std.specs.List.{AllByRecursion, list_all, flat_map}
use Rattle.std.proofs.lemmas.Cmp.{tied_itself}
use Rattle.std.proofs.lemmas.List.Sorted.{IsPermutation-map, IsPermutation-sym, All-permutation}
use Rattle.std.proofs.lemmas.List.Elements.{All-from_recursion, recursion_from_All}
use Rattle.sqlite_value.specs.declared.value.Value.TheVariants.{Null, Int}
use Rattle.sqlite_value.specs.Order.{Row, value_cmp}
use Rattle.sqlite_value.proofs.OrderLemmas.{value_cmp_total}
use Rattle.sqlite_trees.specs.Tree.{Trees, rowid, has_rowid}
use Rattle.sqlite_trees.specs.View.{is_int, IsShaped}
use Rattle.sqlite_trees.specs.declared.store.Shape.TheVariants as shape
use Rattle.sqlite_sql.specs.Term.{Term, Env, holds}
use Rattle.sqlite_sql.specs.Query.{IsAnswer, Output, output}
use Rattle.sqlite_sql.specs.Program.{overlay}
use Rattle.sqlite_rules.specs.Lists.{Has}
use Rattle.sqlite_rules.specs.Calls.{ids_of}
use Rattle.sqlite_rules.specs.Edit.{id_in, without_all}
use Rattle.sqlite_rules.proofs.ListLemmas.{all_has, all_from, some_has, some_from, has_filtered}
use Rattle.sqlite_rules.proofs.TableLemmas.{int_is}
use Rattle.sqlite_rules.proofs.PlaceLemmas.{tied_same}
use Rattle.sqlite_keyed.proofs.ListLemmas.{map-map, filter-map}
use Rattle.std.proofs.lemmas.Bool.Decides.{eqb_tells}
use Rattle.sqlite_trees.proofs.TreeLemmas.{IsShaped-filter}
use Rattle.sqlite_schema.specs.declared.schema.Table.{Table}
use Rattle.sqlite_schema.specs.declared.schema.Keys.TheVariants.{Enforced}
use Rattle.sqlite_schema.specs.declared.command.Command.TheVariants.{Delete}
use Rattle.sqlite_rules.specs.Edit.{edit_of, taken_by, IsNoIndex}
use Rattle.sqlite_rules.specs.declared.error.Rowids.TheVariants.{Given}
use Rattle.sqlite.specs.Effect.{Database}
use Rattle.sqlite.specs.Rows.{Written}
use Rattle.sqlite.specs.Does.{Tally, OnRows, AtPlace}
use Rattle.sqlite.specs.Listing.{understood}
use Rattle.sqlite.specs.State.{State, mode_of, Executes}
use Rattle.sqlite.proofs.Callers.{IsPlain, command_of, statement_of, runs_as, one_step}
use Rattle.sqlite_schema.specs.declared.schema.Schema.{Schema}
use Rattle.office_sql.specs.Bags.{shown, share}
use Rattle.office_sql.specs.Office.{HasTables, Removed, SparesOthers, tree_of}
use Rattle.office_sql.proofs.Kept.{as_listed, finds_in, left_others, left_tables, shape_in, represents_in}
use Rattle.office_sql.proofs.TableThere.{idle, low}
use Rattle.office_sql.proofs.Understood.{MeansRemoval}
use Rattle.office_sql.proofs.Replace.{went, same_value}
use Rattle.sqlite_value.specs.Keys.{first_key, later}
use Rattle.office_sql.specs.Schema.{contents, targets, at}
use Rattle.office_sql.specs.Shown.{content_row, target_row}
use Rattle.office_sql.proofs.RemoveTexts.{remove_contents_is, remove_targets_is}
use Rattle.office_sql.specs.Texts.{ids_where, is_param, remove_contents, remove_targets}
use Rattle.office_sql.proofs.BagLemmas.{named, without_named, same_tests, is_equal, filter_same_on}

pub flat_map_test : {X Y : Type 0} (p : X → Bool) (f : X → Y) (xs : List X) → flat_map (λ x. cond (p x) (f x ∷ []) []) xs ≡ map f (filter p xs)
flat_map_test p f [] = refl
flat_map_test p f (x ∷ xs) =
    elim (p x) as (λ b. (cond b (f x ∷ []) [] ++ flat_map (λ x. cond (p x) (f x ∷ []) []) xs) ≡ map f (cond b (x ∷ filter p xs) (filter p xs))) [ true ↦ ap (λ l. f x ∷ l) (flat_map_test p f xs) | false ↦ flat_map_test p f xs ]

permuted_has : {X : Type 0} (xs ys : List X) (x : X) → IsPermutation xs ys → Has xs x → Has ys x
permuted_has xs ys x same h =
    let each : All (Has ys) ys = All-from_recursion (Has ys) ys (all_from (Has ys) ys (λ y k. k)) in
    all_has (Has ys) xs x (recursion_from_All (Has ys) xs (All-permutation (Has ys) ys xs (IsPermutation-sym xs ys same) each)) h

filtered_has : {X : Type 0} (p : X → Bool) (xs : List X) (x : X) → Has xs x → p x ≡ true → Has (filter p xs) x
filtered_has p [] x h is = absurd h
filtered_has p (y ∷ xs) x (inl same) is = rw (ap p (sym same) ∙ is) (inl same)
filtered_has p (y ∷ xs) x (inr later) is = elim (p y) as (λ b. Has (cond b (y ∷ filter p xs) (filter p xs)) x) [ true ↦ inr (filtered_has p xs x later is) | false ↦ filtered_has p xs x later is ]

mapped : {X Y : Type 0} (f : X → Y) (xs : List X) (x : X) → Has xs x → Has (map f xs) (f x)
mapped f [] x h = absurd h
mapped f (y ∷ xs) x (inl same) = inl (ap f same)
mapped f (y ∷ xs) x (inr later) = inr (mapped f xs x later)

unmapped : {X Y : Type 0} (f : X → Y) (xs : List X) (y : Y) → Has (map f xs) y → (x : X) × Has xs x × (y ≡ f x)
unmapped f [] y h = absurd h
unmapped f (x ∷ xs) y (inl same) = (x, inl refl, same)
unmapped f (x ∷ xs) y (inr later) = let it = unmapped f xs y later in (it.0, inr it.1, it.2)

module _ (tree : ℕ) (filters : List Term) (low : nat_le (2 ^ 31) tree ≡ false) (params : Row) (db : Trees) (rows : List Row) (a : IsAnswer (ids_where tree filters) (overlay db []) params rows) where
  abbrev passes : Row → Bool
  passes r = list_all (holds (params ∷ r ∷ [])) filters

  found : IsPermutation (map (λ r. rowid r ∷ []) (filter passes (db tree))) rows
  found =
      let staged : a.staged ≡ map (λ r. params ∷ r ∷ []) (filter passes (db tree)) =
      a.grouped ∙ ap (flat_map (λ r. cond (passes r) ((params ∷ r ∷ []) ∷ []) [])) (in_tree) ∙ flat_map_test passes (λ r. params ∷ r ∷ []) (db tree) in
      let kept : a.kept ≡ map (output (ids_where tree filters)) (map (λ r. params ∷ r ∷ []) (filter passes (db tree))) = a.distinct ∙ ap (map (output (ids_where tree filters))) staged in
      let same = subst (λ l. IsPermutation l a.ordered) kept a.same in
      let shown : rows ≡ map (λ (o : Output). o.1) a.ordered = a.shown in
      let outputs : map (λ (o : Output). o.1) (map (output (ids_where tree filters)) (map (λ r. params ∷ r ∷ []) (filter passes (db tree)))) ≡ map (λ r. rowid r ∷ []) (filter passes (db tree)) =
      map-map (λ (o : Output). o.1) (output (ids_where tree filters)) (map (λ r. params ∷ r ∷ []) (filter passes (db tree))) ∙ map-map (λ (e : Env). (output (ids_where tree filters) e).1) (λ r. params ∷ r ∷ []) (filter passes (db tree)) in
      subst (IsPermutation (map (λ r. rowid r ∷ []) (filter passes (db tree)))) (sym shown)
      (subst (λ l. IsPermutation l (map (λ (o : Output). o.1) a.ordered)) outputs (IsPermutation-map (λ (o : Output). o.1) _ _ same))
    where
      in_tree : overlay db [] tree ≡ db tree
      in_tree = rw low

  module _ (shaped : IsShaped shape.Table (db tree)) where
    named_passes : (r : Row) → Has (db tree) r → named (ids_of rows) r ≡ true → passes r ≡ true
    named_passes r here h =
        let id = some_has (λ id. has_rowid id r) (ids_of rows) h in
        let x = unmapped (λ (x : Row). id_in (rowid x)) rows id.0 id.1 in
        let from = unmapped (λ (r : Row). rowid r ∷ []) (filter passes (db tree)) x.0 (permuted_has rows _ x.0 (IsPermutation-sym _ rows found) x.1) in
        let in_db = has_filtered passes (db tree) from.0 from.1 in
        let is : rowid from.0 ≡ Int id.0 =
        int_is (rowid from.0) (all_has (λ r. IsTrue (is_int (rowid r))) (db tree) from.0 shaped.1 in_db.0) ∙ ap (λ (y : Row). Int (id_in (rowid y))) (sym from.2) ∙ ap Int (sym x.2) in
        let same : r ≡ from.0 = tied_same (db tree) r from.0 shaped.0 here in_db.0 (ap (value_cmp (rowid r)) is ∙ is_equal _ id.2) in
        subst (λ y. passes y ≡ true) (sym same) in_db.1

    passes_named : (r : Row) → Has (db tree) r → passes r ≡ true → named (ids_of rows) r ≡ true
    passes_named r here h =
        let is : rowid r ≡ Int (id_in (rowid r)) = int_is (rowid r) (all_has (λ r. IsTrue (is_int (rowid r))) (db tree) r shaped.1 here) in
        let in_rows = permuted_has _ rows (rowid r ∷ []) found (mapped (λ (r : Row). rowid r ∷ []) (filter passes (db tree)) r (filtered_has passes (db tree) r here h)) in
        some_from (λ id. has_rowid id r) (ids_of rows) (id_in (rowid r)) (mapped (λ (x : Row). id_in (rowid x)) rows (rowid r ∷ []) in_rows) (ap (λ v. is_eq (value_cmp (rowid r) v)) (sym is) ∙ ap is_eq (tied_itself value_cmp_total (rowid r)))

    pub left_is : without_all (db tree) (ids_of rows) ≡ filter (λ r. not (passes r)) (db tree)
    left_is = without_named (ids_of rows) (db tree) ∙ filter_same_on _ _ (db tree) (λ r h. ap not (same_tests _ _ (named_passes r h) (passes_named r h)))

pub same_or_not : (a b : ℕ) → (a ≡ b) ⊎ (a ≢ b)
same_or_not a b = elim (eqb_tells a b) [ inl same ↦ inl same.1 | inr apart ↦ inr apart.1 ]

-- what a text does that takes the rows that share a key with this one out of a table that is there, on these parameters
abbrev pub Takes : List ℕ → Table → List (List ℕ) → Row → Row → Type 1
Takes sql t keys params key = (tables : List Table) → Has tables t → (old new : State) (count : ℕ) → HasTables tables old.now → Executes sql params old new (Ok count) → Removed tables t keys key old.now new.now

-- a statement that removes the rows that have a key, wherever the table is
module _ (t : Table) (sql : List ℕ) (filters : List Term) (known : MeansRemoval sql t filters) where
  pub removes : (keys : List (List ℕ)) (params key : Row) → ((r : Row) → list_all (holds (params ∷ r ∷ [])) filters ≡ share keys (shown t r) key) → Takes sql t keys params key
  removes keys params key tests version mine old after count is h =
      let s = old.now.schema in
      let trees = old.now.trees in
      let it = represents_in version t mine old.now is in
      let n = tree_of s t.name in
      let small = low s t is.apart it trees is.database in
      let means = known s it.place n (finds_in version t mine old.now is) in
      let command = Delete it.place (record { lets = []; body = ids_where n filters }) in
      let w = runs_as sql params old after s refl command means.0 means.1 count h in
      let text = statement_of sql (understood s sql) in
      let on = subst (λ (o : Option Table). AtPlace (λ t. OnRows (record { limit = old.step_limit; keys = Enforced; schema = s; table = t; params = params }) (mode_of old) None command trees) o (Ok (w.tally, after.now))) it.found w.changed in
      let wrote = went on in
      let tested = went wrote.2 in
      let shows = went tested.2 in
      let after_is : after.now ≡ record { schema = s; trees = wrote.0.trees } = ap (λ (p : Tally × Database). p.1) (same_value shows.2) in
      let read = went wrote.1 in
      let step = went read.2 in
      let edit = edit_of trees (at n t) (ids_of read.0) Given 0 [] in
      let did = one_step s Enforced trees step.0 edit (idle s t is.apart it (taken_by trees edit) []) step.1 in
      let next : step.0 ≡ after.now.trees = sym (ap (λ (it : Written). it.trees) (same_value step.2)) ∙ ap (λ (d : Database). d.trees) (sym after_is) in
      let here = shape_in version t mine old.now is in
      let left : step.0 n ≡ filter (λ r. not (list_all (holds (params ∷ r ∷ [])) filters)) (trees n) = did.rows ∙ left_is n filters small params trees read.0 (read.1.answer Null) here in
      let left_now : after.now.trees n ≡ filter (λ r. not (list_all (holds (params ∷ r ∷ [])) filters)) (trees n) = ap (λ (d : Trees). d n) (sym next) ∙ left in
      let schema : after.now.schema ≡ s = ap (λ (d : Database). d.schema) after_is in
      let spares : SparesOthers t old.now after.now = record {
        schema = schema;
        tables = subst (λ (d : Trees). AllByRecursion (λ (u : Table). u.tree ≢ n → d u.tree ≡ trees u.tree) s.tables) next did.tables;
        others = subst (λ (d : Trees). (tree : ℕ) → tree ≢ n → IsNoIndex s tree → d tree ≡ trees tree) next did.others;
      } in
      let order = subst (IsShaped shape.Table) (sym left_now) (IsShaped-filter shape.Table (λ r. not (list_all (holds (params ∷ r ∷ [])) filters)) (trees n) here) in
      let now = left_tables version t mine old.now after.now is w.sound spares order in
      record {
        has = now;
        removed = as_listed version t mine old.now after.now is now schema (λ a b. b ≡ filter (λ r. not (share keys r key)) a)
            (ap (map (shown t)) (left_now ∙ filter_same_on _ _ (trees n) (λ r h. ap not (tests r))) ∙ sym (filter-map (λ r. not (share keys r key)) (shown t) (trees n)));
        others = left_others version t mine old.now after.now is w.sound spares order;
        spares = spares;
      }

pub or_false : (b : Bool) → b ≡ (b || false)
or_false true = refl
or_false false = refl

-- the content of that number, whatever its bytes
pub removes_content : (num : ℤ) → Takes remove_contents contents ((0 ∷ []) ∷ []) (Int num ∷ []) (content_row num [])
unfolding first_key
removes_content num = removes contents remove_contents (is_param 0 0 ∷ []) remove_contents_is ((0 ∷ []) ∷ []) (Int num ∷ []) (content_row num []) (λ r. or_false _)

pub removes_target : (hold kind target : List ℕ) → Takes remove_targets targets ((0 ∷ 1 ∷ 2 ∷ []) ∷ []) (target_row hold kind target) (target_row hold kind target)
unfolding first_key
removes_target hold kind target =
    removes targets remove_targets (is_param 1 0 ∷ is_param 2 1 ∷ is_param 3 2 ∷ []) remove_targets_is ((0 ∷ 1 ∷ 2 ∷ []) ∷ []) (target_row hold kind target) (target_row hold kind target) (λ r. or_false _)
