-- One more table beside those of an office: they are there still with their rows, the new one has none, and there is room for the rest.
use Rattle.std.proofs.Common.{◌≡◌, inl, inr, ℕ, List, [], ◌∷◌, ◌++◌, map, Bool, true, false, ◌||◌, ◌+◌, is_some, Some, cond, refl, sym, ap, subst, ◌∙◌, append_assoc}
use Rattle.std.specs.List.{AllByRecursion, list_any, position_from, slice_index_or}
use Rattle.std.proofs.lemmas.Bool.{or_parts}
use Rattle.sqlite_value.specs.Keys.{plain}
use Rattle.sqlite_trees.specs.Tree.{IsAscending}
use Rattle.sqlite_trees.specs.View.{IsShaped}
use Rattle.sqlite_trees.specs.declared.store.Shape.TheVariants as shape
use Rattle.sqlite_schema.specs.declared.schema.Index.{Index}
use Rattle.sqlite_schema.specs.declared.schema.Schema.{Schema}
use Rattle.sqlite_schema.specs.declared.schema.Table.{Table}
use Rattle.sqlite_schema.specs.Names.{same_name, table_named, index_named, view_named}
use Rattle.sqlite_rules.specs.Lists.{Has}
use Rattle.sqlite_rules.proofs.ListLemmas.{all_from, all_has, has_either, has_left, has_right}
use Rattle.sqlite.specs.Change.{created, is_used, next_tree}
use Rattle.sqlite.specs.Effect.{Database}
use Rattle.sqlite_catalog.specs.Change.{automatics}
use Rattle.sqlite_catalog.specs.Listing.{automatic}
use Rattle.office_sql.specs.Bags.{rows_of, shown, tree_in}
use Rattle.office_sql.specs.Made.{Grown, IsMade}
use Rattle.office_sql.specs.Office.{HasRoom, HasTable, HasTables, KeepsObjects, KeepsRest, tree_of}
use Rattle.office_sql.specs.Schema.{at}
use Rattle.office_sql.proofs.Asides.{aside_kept}
use Rattle.office_sql.proofs.Growing.{all_either, is_there, new_tree, same_tree, still_there, trees_apart, uncounted_still}
use Rattle.office_sql.proofs.Kept.{found_in, represents_in}
use Rattle.office_sql.proofs.Rest.{asides_then, objects_then}
use Rattle.office_sql.proofs.TableThere.{from_representing, itself}

-- fewer tables, in whatever order
pub narrowed : (tables fewer : List Table) (db : Database) → HasTables tables db → ((t : Table) → Has fewer t → Has tables t) → HasTables fewer db
narrowed tables fewer db is within = record {
  database = is.database;
  apart = is.apart;
  tables = all_from _ fewer (λ t h. all_has _ tables t is.tables (within t h));
  shaped = all_from _ fewer (λ t h. all_has _ tables t is.shaped (within t h));
}

-- ---- names that stay free

module _ {X : Type 0} (p : X → Bool) where
  nowhere : (xs : List X) (from : ℕ) → list_any p xs ≡ false → is_some (position_from p from xs) ≡ false
  nowhere [] from h = refl
  nowhere (x ∷ xs) from h =
      let parts = or_parts (p x) (list_any p xs) h in
      subst (λ b. is_some (cond b (Some from) (position_from p (from + 1) xs)) ≡ false) (sym parts.0) (nowhere xs (from + 1) parts.1)

  not_any : (xs : List X) (from : ℕ) → is_some (position_from p from xs) ≡ false → list_any p xs ≡ false
  not_any [] from h = refl
  not_any (x ∷ xs) from h = go (p x) h (not_any xs (from + 1))
    where
      go : (b : Bool) → is_some (cond b (Some from) (position_from p (from + 1) xs)) ≡ false → (is_some (position_from p (from + 1) xs) ≡ false → list_any p xs ≡ false) → (b || list_any p xs) ≡ false
      go true h more = absurd (cc)
      go false h more = more h

  any_both : (xs ys : List X) → list_any p xs ≡ false → list_any p ys ≡ false → list_any p (xs ++ ys) ≡ false
  any_both [] ys h k = k
  any_both (x ∷ xs) ys h k = let parts = or_parts (p x) (list_any p xs) h in rw parts.0 (any_both xs ys parts.1 k)

  placed_nowhere : (xs ys : List X) → is_some (position_from p 0 xs) ≡ false → list_any p ys ≡ false → is_some (position_from p 0 (xs ++ ys)) ≡ false
  placed_nowhere xs ys h k = nowhere (xs ++ ys) 0 (any_both xs ys (not_any xs 0 h) k)

-- the names of a table's own indexes, in whatever trees they are
same_names : (t : Table) (name : List ℕ) (n place a b : ℕ) (keys : List (List ℕ)) → list_any (λ (i : Index). same_name i.name name) (automatics t place a keys) ≡ false → list_any (λ (i : Index). same_name i.name name) (automatics (at n t) place b keys) ≡ false
same_names t name n place a b [] h = refl
same_names t name n place a b (key ∷ keys) h =
    let first = same_name (automatic t place key a).name name in
    let parts = or_parts first (list_any (λ (i : Index). same_name i.name name) (automatics t (place + 1) (a + 1) keys)) h in
    subst (λ (x : Bool). (x || list_any (λ (i : Index). same_name i.name name) (automatics (at n t) (place + 1) (b + 1) keys)) ≡ false) (sym parts.0) (same_names t name n (place + 1) (a + 1) (b + 1) keys parts.1)

-- whether the table or an index that it makes has the name of the other
abbrev pub clashes : Table → Table → Bool
clashes t u = same_name t.name u.name || list_any (λ (i : Index). same_name i.name u.name) (automatics t 0 1 t.uniques)

still_free : (s : Schema) (t u : Table) → is_used s u.name ≡ false → clashes t u ≡ false → is_used (created s t) u.name ≡ false
still_free s t u free apart =
    let new = at (next_tree s) t in
    let was = or_parts (is_some (table_named s u.name) || is_some (index_named s u.name)) (is_some (view_named s u.name)) free in
    let were = or_parts (is_some (table_named s u.name)) (is_some (index_named s u.name)) was.0 in
    let own = or_parts (same_name t.name u.name) (list_any (λ (i : Index). same_name i.name u.name) (automatics t 0 1 t.uniques)) apart in
    let one : list_any (λ (x : Table). same_name x.name u.name) (new ∷ []) ≡ false = ap (λ b. b || false) own.0 in
    let tables : is_some (table_named (created s t) u.name) ≡ false = placed_nowhere (λ (x : Table). same_name x.name u.name) s.tables (new ∷ []) were.0 one in
    let indexes : is_some (index_named (created s t) u.name) ≡ false =
    placed_nowhere (λ (x : Index). same_name x.name u.name) s.indexes (automatics new 0 (new.tree + 1) new.uniques) were.1 (same_names t u.name (next_tree s) 0 1 (new.tree + 1) t.uniques own.1) in
    let views : is_some (view_named (created s t) u.name) ≡ false = was.1 in
    rw (tables, indexes, views) refl

module _ (made : List Table) (t : Table) (rest : List Table) (old new : Database) (has : HasTables made old) (room : HasRoom (t ∷ rest) old.schema) (alone : t.references ≡ []) (orders : (i : ℕ) → slice_index_or t.orders i plain ≡ plain) (bare : t.is_counted ≡ false)
    (apart : AllByRecursion (λ u. clashes t u ≡ false) rest) (did : IsMade t old new) where
  mine : HasTable (created old.schema t) t
  mine = from_representing _ t (is_there old.schema t room.free.0 alone orders old.trees has.database room.unreferred.0)

  theirs : AllByRecursion (HasTable (created old.schema t)) made
  theirs = all_from _ made (λ u h. from_representing _ u (still_there old.schema t room.free.0 alone orders u (represents_in made u h old has)))

  stays : (u : Table) → Has made u → tree_of (created old.schema t) u.name ≡ tree_of old.schema u.name
  stays u h = same_tree old.schema t room.free.0 alone orders u (represents_in made u h old has)

  same_rows : (u : Table) → Has made u → new.trees (tree_of old.schema u.name) ≡ old.trees (tree_of old.schema u.name)
  same_rows u h = all_has _ old.schema.tables (at (tree_of old.schema u.name) u) did.others (itself old.schema u has.apart (represents_in made u h old has))

  here : tree_of (created old.schema t) t.name ≡ next_tree old.schema
  here = new_tree old.schema t room.free.0 alone orders old.trees has.database room.unreferred.0

  shaped : AllByRecursion (λ u. IsShaped shape.Table (new.trees (tree_of (created old.schema t) u.name))) (t ∷ made)
  shaped = (
    subst (λ n. IsShaped shape.Table (new.trees n)) (sym here) (subst (IsShaped shape.Table) (sym did.empty) (tt, tt)),
    all_from _ made (λ u h. subst (λ n. IsShaped shape.Table (new.trees n)) (sym (stays u h)) (subst (IsShaped shape.Table) (sym (same_rows u h)) (all_has _ made u has.shaped h))),
  )

  first : HasTables (t ∷ made) new
  first = record {
    database = did.sound;
    apart = subst (λ (x : Schema). IsAscending (λ (a b : Table). a.tree ≡ b.tree → ⊥) x.tables) (sym did.schema) (trees_apart old.schema t room.free.0 alone orders has.apart);
    tables = subst (λ x. AllByRecursion (HasTable x) (t ∷ made)) (sym did.schema) (mine, theirs);
    shaped = subst (λ x. AllByRecursion (λ u. IsShaped shape.Table (new.trees (tree_of x u.name))) (t ∷ made)) (sym did.schema) shaped;
  }

  still_room : HasRoom rest (created old.schema t)
  still_room = record {
    free = all_from _ rest (λ u h. still_free old.schema t u (all_has _ rest u room.free.1 h) (all_has _ rest u apart h));
    unreferred = all_from _ rest (λ u h. all_either _ old.schema.tables (at (next_tree old.schema) t ∷ []) (λ x k. all_has _ old.schema.tables x (all_has _ rest u room.unreferred.1 h) k) (λ x k. elim k [ inl e ↦ rw (e, alone) refl | inr none ↦ absurd none ]));
    uncounted = uncounted_still old.schema t bare room.uncounted;
  }

  new_rows : rows_of t new.trees ≡ []
  new_rows =
      let n : tree_in new.trees t.name ≡ next_tree old.schema = found_in (t ∷ made) t (inl refl) new first ∙ ap (λ s. tree_of s t.name) did.schema ∙ here in
      ap (λ k. map (shown t) (new.trees k)) n ∙ ap (map (shown t)) did.empty

  kept_rows : (u : Table) → Has made u → rows_of u new.trees ≡ rows_of u old.trees
  kept_rows u h =
      let n : tree_in new.trees u.name ≡ tree_of old.schema u.name = found_in (t ∷ made) u (inr h) new first ∙ ap (λ s. tree_of s u.name) did.schema ∙ stays u h in
      ap (λ k. map (shown u) (new.trees k)) n ∙ ap (map (shown u)) (same_rows u h) ∙ sym (ap (λ k. map (shown u) (old.trees k)) (found_in made u h old has))

  pub grown_one : Grown made (t ∷ []) rest old new
  grown_one = record {
    has = narrowed (t ∷ made) (made ++ t ∷ []) new first (λ u h. elim (has_either made (t ∷ []) u h) [ inl k ↦ inr k | inr (inl e) ↦ inl e | inr (inr none) ↦ absurd none ]);
    room = subst (HasRoom rest) (sym did.schema) still_room;
    fresh = (new_rows, tt);
    kept = all_from _ made kept_rows;
    others = did.others;
    objects = subst (KeepsObjects old.schema) (sym did.schema) (record {
      tables = λ u h. has_left old.schema.tables (at (next_tree old.schema) t ∷ []) u h;
      indexes = λ i h. has_left old.schema.indexes _ i h;
      views = λ v h. h;
    });
    asides = aside_kept old new t has.database did;
  }

-- tables that are made after others
pub grown_then : (made xs ys rest : List Table) (a b c : Database) → Grown made xs (ys ++ rest) a b → Grown (made ++ xs) ys rest b c → Grown made (xs ++ ys) rest a c
grown_then made xs ys rest a b c first second = record {
  has = narrowed ((made ++ xs) ++ ys) (made ++ (xs ++ ys)) c second.has (λ u h. subst (λ l. Has l u) (sym (append_assoc made xs ys)) h);
  room = second.room;
  fresh = all_either _ xs ys (λ u h. all_has _ (made ++ xs) u second.kept (has_right made xs u h) ∙ all_has _ xs u first.fresh h) (λ u h. all_has _ ys u second.fresh h);
  kept = all_from _ made (λ u h. all_has _ (made ++ xs) u second.kept (has_left made xs u h) ∙ all_has _ made u first.kept h);
  others = all_from _ a.schema.tables (λ u h. all_has _ b.schema.tables u second.others (first.objects.tables u h) ∙ all_has _ a.schema.tables u first.others h);
  objects = objects_then a.schema b.schema c.schema first.objects second.objects;
  asides = asides_then a b c first.objects first.asides second.asides;
}

-- whatever else was there is kept
pub kept_made : (made news rest : List Table) (a b : Database) → Grown made news rest a b → KeepsRest a b
kept_made made news rest a b grown = record { objects = grown.objects; rows = λ u here other. all_has _ a.schema.tables u grown.others here; asides = grown.asides }
