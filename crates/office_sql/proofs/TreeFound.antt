-- The tree of a table, as the trees themselves list it.
use Rattle.std.proofs.Common.{◌≡◌, inl, inr, ℕ, zero, suc, ◌+◌, ◌-◌, ◌≤◌, pos, List, [], ◌∷◌, filter, find, slice_get, Bool, true, false, Some, None, Option, option_map, unwrap_or, refl, sym, ap, subst, ◌∙◌, arith, cond}
use Rattle.std.specs.List.{AllZip, position_from}
use Rattle.sqlite_value.specs.declared.value.Value.{Value}
use Rattle.sqlite_value.specs.declared.value.Value.TheVariants.{Int, Text}
use Rattle.sqlite_value.specs.Order.{Row, bytes, column}
use Rattle.sqlite_trees.specs.Tree.{Trees, rowid}
use Rattle.sqlite_trees.specs.Objects.{catalog_tree, number_in}
use Rattle.sqlite_schema.specs.declared.schema.Schema.{Schema}
use Rattle.sqlite_schema.specs.declared.schema.Table.{Table}
use Rattle.sqlite_schema.specs.Names.{same_name}
use Rattle.sqlite_catalog.specs.Listing.{IsTableRow, is_table_row}
use Rattle.sqlite.specs.Effect.{Database, IsDatabase}
use Rattle.office_sql.specs.Schema.{at}
use Rattle.office_sql.specs.Bags.{tree_in}
use Rattle.office_sql.specs.Office.{tree_of}
use Rattle.office_sql.proofs.TableThere.{Representing}

module _ {X : Type 0} (p : X → Bool) where
  least : (xs : List X) (from place : ℕ) → position_from p from xs ≡ Some place → from ≤ place
  least [] from place h = absurd (cc)
  least (y ∷ xs) from place h = go (p y) h (λ later. let over = least xs (from + 1) place later in omega (arith, over))
    where
      go : (b : Bool) → cond b (Some from) (position_from p (from + 1) xs) ≡ Some place → (position_from p (from + 1) xs ≡ Some place → from ≤ place) → from ≤ place
      go true h more = let same : from ≡ place = cc in omega (arith, same)
      go false h more = more h

  found_at : (xs : List X) (from place : ℕ) (x : X) → position_from p from xs ≡ Some (from + place) → slice_get xs place ≡ Some x → find p xs ≡ Some x
  found_at [] from place x h got = absurd (cc)
  found_at (y ∷ xs) from zero x h got = go (p y) h (λ later. let over = least xs (from + 1) (from + zero) later in absurd (omega (arith, over)))
    where
      go : (b : Bool) → cond b (Some from) (position_from p (from + 1) xs) ≡ Some (from + zero) → (position_from p (from + 1) xs ≡ Some (from + zero) → ⊥) → cond b (Some y) (find p xs) ≡ Some x
      go true h none = got
      go false h none = absurd (none h)
  found_at (y ∷ xs) from (suc place) x h got = go (p y) h (λ later. found_at xs (from + 1) place x (later ∙ (let same : from + suc place ≡ (from + 1) + place = omega arith in ap Some same)) got)
    where
      go : (b : Bool) → cond b (Some from) (position_from p (from + 1) xs) ≡ Some (from + suc place) → (position_from p (from + 1) xs ≡ Some (from + suc place) → find p xs ≡ Some x) → cond b (Some y) (find p xs) ≡ Some x
      go true h more = let same : from ≡ from + suc place = cc in absurd (omega (arith, same))
      go false h more = more h

zipped_find : {A B : Type 0} (R : A → B → Type 0) (q : A → Bool) (p : B → Bool) → ((a : A) (b : B) → R a b → q a ≡ p b) → (xs : List A) (ys : List B) (y : B) → AllZip R xs ys → find p ys ≡ Some y → (x : A) × (find q xs ≡ Some x) × R x y
zipped_find R q p agree [] [] y all h = absurd (cc)
zipped_find R q p agree [] (b ∷ ys) y all h = absurd all
zipped_find R q p agree (a ∷ xs) [] y all h = absurd all
zipped_find R q p agree (a ∷ xs) (b ∷ ys) y all h = go (q a) (p b) (agree a b all.0) h (λ later. zipped_find R q p agree xs ys y all.1 later)
  where
    go : (m n : Bool) → m ≡ n → cond n (Some b) (find p ys) ≡ Some y → (find p ys ≡ Some y → (x : _) × (find q xs ≡ Some x) × R x y) → (x : _) × (cond m (Some a) (find q xs) ≡ Some x) × R x y
    go true true same h more = let is : b ≡ y = cc in (a, refl, subst (R a) is all.0)
    go false false same h more = more h
    go true false same h more = absurd (cc)
    go false true same h more = absurd (cc)

-- in a database it is the tree of the schema's table
pub tree_is : (s : Schema) (db : Trees) (t : Table) → IsDatabase (record { schema = s; trees = db }) → Representing s t → tree_in db t.name ≡ tree_of s t.name
unfolding tree_in
tree_is s db t sound it =
    let p = λ (u : Table). same_name u.name t.name in
    let q = λ (row : Row). same_name (bytes (column row 2)) t.name in
    let found = found_at p s.tables 0 it.place (at (tree_of s t.name) t) (it.named ∙ (let same : it.place ≡ 0 + it.place = omega arith in ap Some same)) it.found in
    let row = zipped_find IsTableRow q p (λ r u is. ap (λ v. same_name (bytes v) t.name) is.described.name_is) (filter is_table_row (db catalog_tree)) s.tables (at (tree_of s t.name) t) sound.lists.listed.tables found in
    let number : number_in (rowid row.0) ≡ tree_of s t.name + 1 = ap number_in row.2.described.id in
    ap (λ o. unwrap_or (option_map (λ row. number_in (rowid row) - 1) o) 0) row.1 ∙ omega (arith, number)
