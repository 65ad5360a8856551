-- A table that is made beside whatever a schema has: it is there, and the tables that were there are there still.
use Rattle.std.proofs.Common.{◌≡◌, ◌⊎◌, inl, inr, ℕ, zero, suc, ◌+◌, ◌<◌, List, [], ◌∷◌, ◌++◌, length, slice_get, Bool, true, false, ◌&&◌, Some, None, Option, option_map, option_and_then, unwrap_or, eqb, ◌||◌, not, is_some, codes, refl, sym, ap, subst, ◌∙◌, arith, cond}
use Rattle.std.specs.List.{AllByRecursion, list_any, position_from, slice_index_or}
use Rattle.std.proofs.lemmas.Bool.{and_parts}
use Rattle.std.proofs.lemmas.Bool.Decides.{nat_tests}
use Rattle.sqlite_value.specs.Keys.{plain}
use Rattle.sqlite_trees.specs.Tree.{Trees, IsAscending}
use Rattle.sqlite_schema.specs.declared.schema.Index.{Index}
use Rattle.sqlite_schema.specs.declared.schema.Schema.{Schema}
use Rattle.sqlite_schema.specs.declared.schema.Table.{Table}
use Rattle.sqlite_schema.specs.Names.{same_name, table_named}
use Rattle.sqlite_schema.specs.Rules.{guards}
use Rattle.sqlite_rules.specs.Lists.{Has}
use Rattle.sqlite_rules.proofs.ListLemmas.{all_has, all_from, has_either, has_got}
use Rattle.sqlite_catalog.specs.Change.{automatics, created, is_used, next_tree}
use Rattle.sqlite_catalog.specs.Listing.{automatic, IsIndexRow, is_index_row}
use Rattle.sqlite_catalog.proofs.LayoutLemmas.{index_owner, zipped_left}
use Rattle.sqlite_catalog.proofs.ListFacts.{ascending_push}
use Rattle.sqlite_catalog.proofs.StepLemmas.{no_table, same_itself, table_below}
use Rattle.sqlite.specs.Does.{lacks_sequence}
use Rattle.sqlite.specs.Rows.{sequence}
use Rattle.sqlite.specs.Effect.{Database, IsDatabase}
use Rattle.office_sql.specs.Office.{tree_of}
use Rattle.office_sql.specs.Schema.{at}
use Rattle.office_sql.proofs.TableThere.{IsKeyOf, Representing}

module _ {X : Type 0} where
  pub placed_prefix : (p : X → Bool) (xs ys : List X) (from place : ℕ) → position_from p from xs ≡ Some place → position_from p from (xs ++ ys) ≡ Some place
  placed_prefix p [] ys from place h = absurd (cc)
  placed_prefix p (x ∷ xs) ys from place h = go (p x) (placed_prefix p xs ys (from + 1) place) h
    where
      go : (b : Bool) → (position_from p (from + 1) xs ≡ Some place → position_from p (from + 1) (xs ++ ys) ≡ Some place)
          → cond b (Some from) (position_from p (from + 1) xs) ≡ Some place → cond b (Some from) (position_from p (from + 1) (xs ++ ys)) ≡ Some place
      go true more h = h
      go false more h = more h

  placed_last : (p : X → Bool) (xs : List X) (x : X) (from : ℕ) → position_from p from xs ≡ None → p x ≡ true → position_from p from (xs ++ x ∷ []) ≡ Some (from + length xs)
  placed_last p [] x from none is = rw is (let same : from ≡ from + 0 = omega arith in ap Some same)
  placed_last p (y ∷ xs) x from none is = go (p y) none (λ later. placed_last p xs x (from + 1) later is ∙ (let same : (from + 1) + length xs ≡ from + suc (length xs) = omega arith in ap Some same))
    where
      go : (b : Bool) → cond b (Some from) (position_from p (from + 1) xs) ≡ None → (position_from p (from + 1) xs ≡ None → position_from p (from + 1) (xs ++ x ∷ []) ≡ Some (from + suc (length xs)))
          → cond b (Some from) (position_from p (from + 1) (xs ++ x ∷ [])) ≡ Some (from + suc (length xs))
      go true none more = absurd (cc)
      go false none more = more none

  pub got_prefix : (xs ys : List X) (i : ℕ) (x : X) → slice_get xs i ≡ Some x → slice_get (xs ++ ys) i ≡ Some x
  got_prefix [] ys i x h = absurd (cc)
  got_prefix (y ∷ xs) ys zero x h = h
  got_prefix (y ∷ xs) ys (suc i) x h = got_prefix xs ys i x h

  got_last : (xs : List X) (x : X) → slice_get (xs ++ x ∷ []) (length xs) ≡ Some x
  got_last [] x = refl
  got_last (y ∷ xs) x = got_last xs x

  pub all_either : (P : X → Type 0) (xs ys : List X) → ((x : X) → Has xs x → P x) → ((x : X) → Has ys x → P x) → AllByRecursion P (xs ++ ys)
  all_either P xs ys left right = all_from P (xs ++ ys) (λ x h. elim (has_either xs ys x h) [ inl a ↦ left x a | inr b ↦ right x b ])

-- the indexes of a new table are those of its keys
own_indexes : (t : Table) → ((i : ℕ) → slice_index_or t.orders i plain ≡ plain) → (place tree : ℕ) (keys : List (List ℕ)) (index : Index) → Has (automatics t place tree keys) index
    → Has keys index.columns × (index.order ≡ plain) × (index.table ≡ t.tree)
own_indexes t orders place tree [] index h = absurd h
own_indexes t orders place tree (key ∷ keys) index (inl e) = (inl (ap (λ (i : Index). i.columns) e), ap (λ (i : Index). i.order) e ∙ orders place, ap (λ (i : Index). i.table) e)
own_indexes t orders place tree (key ∷ keys) index (inr h) = let more = own_indexes t orders (place + 1) (tree + 1) keys index h in (inr more.0, more.1, more.2)

module _ (s : Schema) (t : Table) (free : is_used s t.name ≡ false) (alone : t.references ≡ []) (orders : (i : ℕ) → slice_index_or t.orders i plain ≡ plain) where
  abbrev new : Table
  new = at (next_tree s) t

  pub trees_apart : IsAscending (λ a b. a.tree ≡ b.tree → ⊥) s.tables → IsAscending (λ a b. a.tree ≡ b.tree → ⊥) (created s t).tables
  trees_apart rise = ascending_push (λ (a b : Table). a.tree ≡ b.tree → ⊥) s.tables new rise (λ u here same. let low = table_below s u here in omega (arith, low, same))

  -- a table that was there
  module _ (u : Table) (it : Representing s u) where
    same_place : table_named (created s t) u.name ≡ Some it.place
    same_place = placed_prefix (λ (x : Table). same_name x.name u.name) s.tables (new ∷ []) 0 it.place it.named

    same_found : slice_get (created s t).tables it.place ≡ Some (at (tree_of s u.name) u)
    same_found = got_prefix s.tables (new ∷ []) it.place _ it.found

    pub same_tree : tree_of (created s t) u.name ≡ tree_of s u.name
    unfolding tree_of
    same_tree = rw (same_place, same_found) refl

    low_tree : tree_of s u.name < next_tree s
    low_tree = table_below s (at (tree_of s u.name) u) (has_got s.tables it.place _ it.found)

    pub still_there : Representing (created s t) u
    still_there = record {
      place = it.place;
      named = same_place;
      found = subst (λ n. slice_get (created s t).tables it.place ≡ Some (at n u)) (sym same_tree) same_found;
      unreferred = all_either _ s.tables (new ∷ []) (λ x h. all_has _ s.tables x it.unreferred h) (λ x h. elim h [ inl e ↦ rw (e, alone) refl | inr none ↦ absurd none ]);
      keyed = subst (λ n. AllByRecursion (λ i. guards i (at n u) ≡ true → IsKeyOf u i) (created s t).indexes) (sym same_tree)
          (all_either _ s.indexes (automatics new 0 (new.tree + 1) new.uniques) (λ i h. all_has _ s.indexes i it.keyed h) (λ i h guard.
          let own = own_indexes new orders 0 (new.tree + 1) new.uniques i h in
          let on = (and_parts i.is_unique (eqb i.table (tree_of s u.name)) guard).1 in
          let low = low_tree in
          let same = own.2 in
          absurd (grind (arith, nat_tests))));
    }

  -- the table that is made
  module _ (db : Trees) (sound : IsDatabase (record { schema = s; trees = db })) (unreferred : AllByRecursion (λ u. list_any (λ ref. same_name t.name ref.parent) u.references ≡ false) s.tables) where
    new_place : table_named (created s t) t.name ≡ Some (length s.tables)
    new_place = placed_last (λ (x : Table). same_name x.name t.name) s.tables new 0 (no_table s t.name free) (same_itself t.name) ∙ (let same : 0 + length s.tables ≡ length s.tables = omega arith in ap Some same)

    new_found : slice_get (created s t).tables (length s.tables) ≡ Some new
    new_found = got_last s.tables new

    pub new_tree : tree_of (created s t) t.name ≡ next_tree s
    unfolding tree_of
    new_tree = rw (new_place, new_found) refl

    old_index : (i : Index) → Has s.indexes i → i.table < next_tree s
    old_index i h =
        let r = zipped_left (IsIndexRow s.tables) _ s.indexes i sound.lists.listed.indexes h in
        let low = table_below s r.2.table r.2.listed in
        let owner = index_owner r.2.table i _ r.2.defined in
        omega (arith, low, owner)

    pub is_there : Representing (created s t) t
    is_there = record {
      place = length s.tables;
      named = new_place;
      found = subst (λ n. slice_get (created s t).tables (length s.tables) ≡ Some (at n t)) (sym new_tree) new_found;
      unreferred = all_either _ s.tables (new ∷ []) (λ x h. all_has _ s.tables x unreferred h) (λ x h. elim h [ inl e ↦ rw (e, alone) refl | inr none ↦ absurd none ]);
      keyed = subst (λ n. AllByRecursion (λ i. guards i (at n t) ≡ true → IsKeyOf t i) (created s t).indexes) (sym new_tree)
          (all_either _ s.indexes (automatics new 0 (new.tree + 1) new.uniques) (λ i h guard.
          let low = old_index i h in
          let on = (and_parts i.is_unique (eqb i.table (next_tree s)) guard).1 in
          absurd (grind (arith, nat_tests))) (λ i h guard. let own = own_indexes new orders 0 (new.tree + 1) new.uniques i h in (own.0, own.1)));
    }

-- ---- the table that counts

any_more : {X : Type 0} (p : X → Bool) (xs : List X) (x : X) → p x ≡ false → list_any p (xs ++ x ∷ []) ≡ list_any p xs
any_more p [] x plain = rw plain refl
any_more p (y ∷ xs) x plain = ap (λ b. p y || b) (any_more p xs x plain)

abbrev counters : List ℕ
counters = codes "sqlite_sequence"

-- the table that counts is there still
still_counted : (s : Schema) (t : Table) → is_some (sequence s) ≡ true → is_some (sequence (created s t)) ≡ true
still_counted s t h = go (table_named s counters) refl h
  where
    got : (place : ℕ) (o : Option Table) → slice_get s.tables place ≡ o → is_some o ≡ true → is_some (slice_get (created s t).tables place) ≡ true
    got place None is some = absurd (cc)
    got place (Some u) is some = ap is_some (got_prefix s.tables _ place u is)

    go : (o : Option ℕ) → table_named s counters ≡ o → is_some (option_and_then (slice_get s.tables) o) ≡ true → is_some (sequence (created s t)) ≡ true
    go None is some = absurd (cc)
    go (Some place) is some = rw (placed_prefix (λ (x : Table). same_name x.name counters) s.tables _ 0 place is) (got place (slice_get s.tables place) refl some)

-- a table that is not counted needs no table that counts
pub uncounted_still : (s : Schema) (t : Table) → t.is_counted ≡ false → lacks_sequence s ≡ false → lacks_sequence (created s t) ≡ false
uncounted_still s t bare lacks = go (list_any (λ (u : Table). u.is_counted) s.tables) (is_some (sequence s)) refl refl lacks
  where
    go : (a b : Bool) → list_any (λ (u : Table). u.is_counted) s.tables ≡ a → is_some (sequence s) ≡ b → (a && not b) ≡ false → lacks_sequence (created s t) ≡ false
    go false b any some h = rw (any_more (λ (u : Table). u.is_counted) s.tables (at (next_tree s) t) bare, any) refl
    go true true any some h = rw (still_counted s t some) (either (list_any (λ (u : Table). u.is_counted) (created s t).tables))
      where
        either : (c : Bool) → (c && false) ≡ false
        either true = refl
        either false = refl
    go true false any some h = absurd (cc)
