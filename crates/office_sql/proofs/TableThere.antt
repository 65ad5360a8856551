-- A table that a schema has, wherever it is: no foreign key acts on it, no other table is in its tree, and the rows that conflict share one of its keys.
use Rattle.std.proofs.Common.{◌≡◌, ◌≢◌, ◌⊎◌, inl, inr, ℕ, zero, suc, ◌+◌, ◌<◌, ◌^◌, List, [], ◌∷◌, ◌++◌, slice_get, bytes_eq, Bool, true, false, ◌&&◌, ◌||◌, ◌==◌, Some, None, Option, option_map, option_and_then, find, eqb, nat_le, refl, sym, ap, subst, ◌∙◌, IsTrue, arith, true≢false, cond}
use Rattle.std.specs.List.{AllByRecursion, list_any, flat_map, filter_map, slice_index_or}
use Rattle.std.proofs.lemmas.Bool.{and_parts, or_parts}
use Rattle.std.proofs.lemmas.Bool.Decides.{nat_tests}
use Rattle.std.proofs.lemmas.Slice.Eq.{bytes_eq-Decides}
use Rattle.sqlite_value.specs.Order.{Row}
use Rattle.sqlite_value.specs.Keys.{plain}
use Rattle.sqlite_trees.specs.Tree.{Trees, IsAscending}
use Rattle.sqlite_schema.specs.declared.schema.Index.{Index}
use Rattle.sqlite_schema.specs.declared.schema.Reference.{Reference}
use Rattle.sqlite_schema.specs.declared.schema.Schema.{Schema}
use Rattle.sqlite_schema.specs.declared.schema.Table.{Table}
use Rattle.sqlite_schema.specs.declared.schema.Keys.TheVariants.{Enforced}
use Rattle.sqlite_schema.specs.Names.{same_name, table_named}
use Rattle.sqlite_schema.specs.Rules.{agree, guards, key_in, key_places, parent_key, ParentKey}
use Rattle.sqlite_rules.specs.Action.{pairs, work_by, work_for, works}
use Rattle.sqlite_rules.specs.Keys.{conflicts, shares}
use Rattle.sqlite_rules.specs.Lists.{Has}
use Rattle.sqlite_rules.specs.declared.action.Deed.{Deed}
use Rattle.sqlite_rules.proofs.ListLemmas.{all_from, all_has, has_found, has_got, has_filtered, some_has, some_from}
use Rattle.sqlite_rules.proofs.RuleLemmas.{key_tree, same_table}
use Rattle.sqlite_catalog.specs.Listing.{IsGuarded, IsTableRow, automatic, is_table_row}
use Rattle.sqlite_catalog.proofs.LayoutLemmas.{zipped_left}
use Rattle.sqlite_keyed.proofs.ListLemmas.{none_from_any, flat_map_none}
use Rattle.sqlite.specs.Effect.{Database, IsDatabase}
use Rattle.office_sql.specs.Schema.{at}
use Rattle.office_sql.specs.Office.{HasTable, tree_of}
use Rattle.office_sql.proofs.BagLemmas.{same_tests}
use Rattle.office_sql.proofs.Understood.{Finds}

-- an index that the table's own UNIQUE makes
abbrev pub IsKeyOf : Table → Index → Type 0
IsKeyOf t i = Has t.uniques i.columns × (i.order ≡ plain)

-- the table is there, with its place named
pub record Representing (s : Schema) (t : Table) : Type 0 where
  pub place : ℕ
  pub named : table_named s t.name ≡ Some place
  pub found : slice_get s.tables place ≡ Some (at (tree_of s t.name) t)
  pub unreferred : AllByRecursion (λ u. list_any (λ ref. same_name t.name ref.parent) u.references ≡ false) s.tables
  pub keyed : AllByRecursion (λ i. guards i (at (tree_of s t.name) t) ≡ true → IsKeyOf t i) s.indexes

pub representing : (s : Schema) (t : Table) → HasTable s t → Representing s t
representing s t it = go (table_named s t.name) refl it.found
  where
    keyed : AllByRecursion (λ i. guards i (at (tree_of s t.name) t) ≡ true → IsKeyOf t i) s.indexes
    keyed = all_from _ s.indexes (λ i h guard.
        let key = all_has _ s.indexes i it.keyed h guard in
        let one = some_has (bytes_eq i.columns) t.uniques key.0 in
        (subst (Has t.uniques) (sym ((bytes_eq-Decides i.columns one.0).0 one.2)) one.1, key.1))

    go : (o : Option ℕ) → table_named s t.name ≡ o → option_and_then (slice_get s.tables) o ≡ Some (at (tree_of s t.name) t) → Representing s t
    go None is none = absurd (cc)
    go (Some place) is found = record { place = place; named = is; found = found; unreferred = it.unreferred; keyed = keyed }

pub from_representing : (s : Schema) (t : Table) → Representing s t → HasTable s t
from_representing s t it = record {
  found = ap (option_and_then (slice_get s.tables)) it.named ∙ it.found;
  unreferred = it.unreferred;
  keyed = all_from _ s.indexes (λ i h guard.
      let key = all_has _ s.indexes i it.keyed h guard in (some_from (bytes_eq i.columns) t.uniques i.columns key.0 ((bytes_eq-Decides i.columns i.columns).1 refl), key.1));
}

-- ---- no foreign key acts

found_name : (tables : List Table) (ref : Reference) (key : ParentKey) → parent_key tables ref ≡ Some key → (u : Table) × Has tables u × (u.tree ≡ key.0) × (same_name u.name ref.parent ≡ true)
found_name tables ref key h = go (find (λ u. same_name u.name ref.parent) tables) refl h
  where
    mapped : (u : Table) (o : Option (List ℕ)) → option_and_then (key_in u) o ≡ Some key → u.tree ≡ key.0
    mapped u None k = cc
    mapped u (Some ps) k = key_tree u ps key k

    go : (o : Option Table) → find (λ u. same_name u.name ref.parent) tables ≡ o
        → option_and_then (λ u. option_and_then (key_in u) (key_places u ref.parent_columns)) o ≡ Some key → (u : Table) × Has tables u × (u.tree ≡ key.0) × (same_name u.name ref.parent ≡ true)
    go None found k = cc
    go (Some u) found k = let is = has_found _ tables u found in (u, is.0, mapped u (key_places u ref.parent_columns) k, is.1)

none_mapped : {X Y : Type 0} (f : X → Option Y) (xs : List X) → ((x : X) → Has xs x → f x ≡ None) → filter_map f xs ≡ []
none_mapped f [] none = refl
none_mapped f (x ∷ xs) none = rw (none x (inl refl)) (none_mapped f xs (λ y h. none y (inr h)))

none_collected : {X Y : Type 0} (f : X → List Y) (xs : List X) → ((x : X) → Has xs x → f x ≡ []) → flat_map f xs ≡ []
none_collected f [] none = refl
none_collected f (x ∷ xs) none = rw (none x (inl refl)) (none_collected f xs (λ y h. none y (inr h)))

module _ (s : Schema) (t : Table) (apart : IsAscending (λ a b. a.tree ≡ b.tree → ⊥) s.tables) (it : Representing s t) where
  abbrev tree : ℕ
  tree = tree_of s t.name

  pub itself : Has s.tables (at tree t)
  itself = has_got s.tables it.place (at tree t) it.found

  not_parent : (child : Table) (ref : Reference) (key : ParentKey) → Has s.tables child → Has child.references ref → parent_key s.tables ref ≡ Some key → key.0 ≢ tree
  not_parent child ref key here its is same =
      let u = found_name s.tables ref key is in
      let one : u.0 ≡ at tree t = same_table s.tables u.0 (at tree t) apart u.1 itself (u.2 ∙ same) in
      let none = all_has _ child.references ref (none_from_any _ child.references (all_has _ s.tables child it.unreferred here)) its in
      absurd (true≢false (sym u.3 ∙ ap (λ (x : Table). same_name x.name ref.parent) one ∙ none))

  pub idle : (olds news : List Row) → works s Enforced 0 tree olds news ≡ []
  idle olds news = none_collected _ s.tables (λ child here. none_mapped _ child.references (λ ref its. go child ref here its _ (parent_key s.tables ref) refl))
    where
      go : (child : Table) (ref : Reference) → Has s.tables child → Has child.references ref → (deed : Option Deed) (key : Option ParentKey) → parent_key s.tables ref ≡ key
          → work_by 0 tree (pairs olds news) child ref deed key ≡ None
      go child ref here its None key is = refl
      go child ref here its (Some deed) None is = refl
      go child ref here its (Some deed) (Some key) is =
          let apart : eqb key.0 tree ≡ false = let other = not_parent child ref key here its is in grind (arith, nat_tests) in rw apart refl

  -- ---- no other table is in its tree

  pub only : find (λ u. eqb u.tree tree) s.tables ≡ Some (at tree t)
  only = go s.tables apart itself
    where
      go : (tables : List Table) → IsAscending (λ a b. a.tree ≡ b.tree → ⊥) tables → Has tables (at tree t) → find (λ u. eqb u.tree tree) tables ≡ Some (at tree t)
      go [] rise h = absurd h
      go (u ∷ tables) rise (inl e) = let same : eqb u.tree tree ≡ true = let is = ap (λ (x : Table). x.tree) e in grind (arith, nat_tests) in rw (same, ← e) refl
      go (u ∷ tables) rise (inr h) =
          let other : eqb u.tree tree ≡ false = let no = all_has _ tables (at tree t) rise.0 h in grind (arith, nat_tests) in rw other (go tables rise.1 h)

  pub low : (db : Trees) → IsDatabase (record { schema = s; trees = db }) → nat_le (2 ^ 31) tree ≡ false
  low db sound =
      let r = zipped_left IsTableRow _ s.tables (at tree t) sound.lists.listed.tables itself in let small = r.2.described.low in grind (arith, nat_tests)

  pub finds_it : (db : Trees) → IsDatabase (record { schema = s; trees = db }) → Finds s t it.place tree
  finds_it db sound = record { named = it.named; found = it.found; only = only; low = low db sound }

-- ---- the rows that conflict are those that share a key

at_place : {X : Type 0} (xs : List X) (x : X) → Has xs x → (i : ℕ) × (slice_get xs i ≡ Some x)
at_place [] x h = absurd h
at_place (y ∷ xs) x (inl e) = (0, ap Some (sym e))
at_place (y ∷ xs) x (inr h) = let more = at_place xs x h in (suc more.0, more.1)

module _ (s : Schema) (t : Table) (it : Representing s t) (orders : (i : ℕ) → slice_index_or t.orders i plain ≡ plain) (guarded : IsGuarded s.indexes (at (tree_of s t.name) t)) where
  abbrev here : Table
  here = at (tree_of s t.name) t

  abbrev by_key : Row → Row → List ℕ → Bool
  by_key new r k = agree plain k r k new

  to_key : (new r : Row) → list_any (shares None here new r) s.indexes ≡ true → list_any (by_key new r) t.uniques ≡ true
  to_key new r h =
      let x = some_has (shares None here new r) s.indexes h in
      let guard = and_parts (guards x.0 here && true) (agree x.0.order x.0.columns r x.0.columns new) x.2 in
      let key = all_has _ s.indexes x.0 it.keyed x.1 (and_parts (guards x.0 here) true guard.0).0 in
      some_from (by_key new r) t.uniques x.0.columns key.0 (subst (λ o. agree o x.0.columns r x.0.columns new ≡ true) key.1 guard.1)

  from_key : (new r : Row) → list_any (by_key new r) t.uniques ≡ true → list_any (shares None here new r) s.indexes ≡ true
  from_key new r h =
      let k = some_has (by_key new r) t.uniques h in
      let i = at_place t.uniques k.0 k.1 in
      let index = guarded i.0 k.0 i.1 in
      let same : eqb here.tree here.tree ≡ true = grind (arith, nat_tests) in
      some_from (shares None here new r) s.indexes (automatic here i.0 k.0 index.0) index.1 (rw (same, orders i.0) k.2)

  pub conflicts_are : (new r : Row) → conflicts None s.indexes here new r ≡ (agree plain (0 ∷ []) r (0 ∷ []) new || list_any (by_key new r) t.uniques)
  conflicts_are new r = ap (λ b. agree plain (0 ∷ []) r (0 ∷ []) new || b) (same_tests _ _ (to_key new r) (from_key new r))
