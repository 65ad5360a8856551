-- A table that the database keeps as it is has its rows still where another table is made.
use Rattle.std.proofs.Common.{◌≡◌, ◌⊎◌, inl, inr, ℕ, ◌+◌, ◌<◌, ◌≤◌, ◌%◌, cond, pos, Bool, unwrap_or, List, [], ◌∷◌, find, false, true, Some, None, Option, IsSome, refl, sym, ap, subst, ◌∙◌, arith}
use Rattle.sqlite_value.specs.Order.{Row, column}
use Rattle.sqlite_trees.specs.Tree.{has_rowid}
use Rattle.sqlite_trees.specs.Objects.{catalog_tree, number_in, row_for}
use Rattle.sqlite_schema.specs.declared.schema.Index.{Index}
use Rattle.sqlite_schema.specs.declared.schema.Schema.{Schema}
use Rattle.sqlite_schema.specs.declared.schema.Table.{Table}
use Rattle.sqlite_schema.specs.declared.schema.View.{View}
use Rattle.sqlite_rules.specs.Lists.{Has}
use Rattle.sqlite_rules.proofs.ListLemmas.{all_has, has_filtered, has_found, has_kept}
use Rattle.sqlite_catalog.specs.Change.{automatics, created, next_tree}
use Rattle.sqlite_catalog.specs.Listing.{IsAside, IsIndexRow, IsTableRow, IsViewRow, is_index_row, is_table_row, is_view_row}
use Rattle.sqlite_catalog.proofs.LayoutLemmas.{has_own_rowid, row_kind, same_rowid, zipped_left, zipped_right}
use Rattle.sqlite_catalog.proofs.StepLemmas.{view_below}
use Rattle.sqlite.specs.Effect.{Database, IsDatabase}
use Rattle.office_sql.specs.Made.{IsMade}
use Rattle.office_sql.specs.Office.{IsAlone, IsKeptAside, KeepsAsides}
use Rattle.office_sql.specs.Schema.{at}
use Rattle.office_sql.proofs.Growing.{all_either}

-- the indexes of a new table have the trees from its own on
above : (t : Table) (place tree : ℕ) (keys : List (List ℕ)) (i : Index) → Has (automatics t place tree keys) i → tree ≤ i.tree
above t place tree [] i h = absurd h
above t place tree (key ∷ keys) i (inl e) = let same = ap (λ (i : Index). i.tree) e in omega (arith, same)
above t place tree (key ∷ keys) i (inr h) = let more = above t (place + 1) (tree + 1) keys i h in omega (arith, more)

-- so what was alone is alone still
still_alone : (s : Schema) (t : Table) (v : View) → Has s.views v → IsAlone s v → IsAlone (created s t) v
still_alone s t v here alone = record {
  unlisted = (
    all_either _ s.tables (at (next_tree s) t ∷ []) (λ x h. all_has _ s.tables x alone.unlisted.0 h) (λ x h same. elim h [
      | inl e ↦ let own = ap (λ (x : Table). x.tree) e in let low = view_below s v here in omega (arith, own, low, same)
      | inr none ↦ absurd none
    ]),
    all_either _ s.indexes (automatics (at (next_tree s) t) 0 (next_tree s + 1) t.uniques) (λ i h. all_has _ s.indexes i alone.unlisted.1 h)
        (λ i h same. let high = above (at (next_tree s) t) 0 (next_tree s + 1) t.uniques i h in let low = view_below s v here in omega (arith, high, low, same)),
  );
  views = alone.views;
}

-- a row that lists a table kept as it is says so
kept_code : (row : Row) (v : View) (kind owner : List ℕ) (code : ℕ) → v.binds ≡ false → (o : Option (List ℕ)) → IsSome o → IsAside row v kind owner code o → (code ≡ 4) ⊎ (code ≡ 5)
kept_code row v kind owner code free None some aside = absurd cc
kept_code row v kind owner code free (Some name) some aside = elim aside.2 [
  | inl table ↦ table.1
  | inr (inl index) ↦ inr index.1
  | inr (inr trigger) ↦ absurd (let no : true ≡ false = sym trigger.2 ∙ free in cc)
]

found_none : {X : Type 0} (p : X → Bool) (xs : List X) (x : X) → find p xs ≡ None → Has xs x → p x ≡ true → ⊥
found_none p [] x e h is = absurd h
found_none {X} p (y ∷ xs) x e h is = go (p y) refl e h (λ none more. found_none p xs x none more is)
  where
    go : (b : Bool) → p y ≡ b → cond b (Some y) (find p xs) ≡ None → Has (y ∷ xs) x → (find p xs ≡ None → Has xs x → ⊥) → ⊥
    go true same e h later = absurd cc
    go false other e (inl same) later = let wrong : true ≡ false = sym is ∙ ap p same ∙ other in cc
    go false other e (inr more) later = later e more

module _ (d : Database) (sound : IsDatabase d) (v : View) (here : Has d.schema.views v) where
  abbrev objects : List Row
  objects = d.trees catalog_tree

  -- the row that lists it
  own_row : (row : Row) × Has objects row × IsViewRow row v
  own_row = let r = zipped_left IsViewRow _ d.schema.views v sound.lists.listed.views here in (r.0, (has_filtered is_view_row objects r.0 r.1).0, r.2)

  low : v.tree < 65536
  low = own_row.2.described.low

  -- and it is found for its tree, or another that says the same
  found_code : IsKeptAside v → IsAlone d.schema v → let code = number_in (column (row_for objects v.tree) 5) in (code ≡ 4) ⊎ (code ≡ 5)
  found_code aside alone = go (find p objects) refl
    where
      p : Row → Bool
      p = has_rowid (pos (v.tree + 1))

      go : (o : Option Row) → find p objects ≡ o → let code = number_in (column (unwrap_or o []) 5) in (code ≡ 4) ⊎ (code ≡ 5)
      go None e = absurd (found_none p objects own_row.0 e own_row.1 (has_own_rowid own_row.0 (v.tree + 1) own_row.2.described.id))
      go (Some row) e =
          let found = has_found p objects row e in
          elim (row_kind row) [
            | inl table ↦
                let r = zipped_right IsTableRow _ d.schema.tables row sound.lists.listed.tables (has_kept is_table_row objects row found.0 table) in
                let same = same_rowid row _ _ r.2.described.id found.1 in
                absurd (all_has _ d.schema.tables r.0 alone.unlisted.0 r.1 (omega (arith, same)))
            | inr (inl index) ↦
                let r = zipped_right (IsIndexRow d.schema.tables) _ d.schema.indexes row sound.lists.listed.indexes (has_kept is_index_row objects row found.0 index) in
                let same = same_rowid row _ _ r.2.described.id found.1 in
                absurd (all_has _ d.schema.indexes r.0 alone.unlisted.1 r.1 (omega (arith, same)))
            | inr (inr view) ↦
                let r = zipped_right IsViewRow _ d.schema.views row sound.lists.listed.views (has_kept is_view_row objects row found.0 view) in
                let same = same_rowid row _ _ r.2.described.id found.1 in
                let it : IsViewRow row v = subst (IsViewRow row) (all_has _ d.schema.views r.0 alone.views r.1 (omega (arith, same))) r.2 in
                elim (kept_code row v it.kind it.owner it.code aside.1 v.foreign aside.0 it.aside) [ inl four ↦ inl (it.described.shape_is ∙ four) | inr five ↦ inr (it.described.shape_is ∙ five) ]
          ]

pub aside_kept : (old new : Database) (t : Table) → IsDatabase old → IsMade t old new → KeepsAsides old new
aside_kept old new t sound did v here aside alone =
    let small = low old sound v here in
    let kept : 4 ≤ number_in (column (row_for (old.trees catalog_tree) v.tree) 5) % 8 =
    elim (found_code old sound v here aside alone) [ inl four ↦ subst (λ n. 4 ≤ n % 8) (sym four) (omega arith) | inr five ↦ subst (λ n. 4 ≤ n % 8) (sym five) (omega arith) ] in (
      subst (λ (s : Schema). IsAlone s v) (sym did.schema) (still_alone old.schema t v here alone),
      did.frozen.rows v.tree (λ same. omega (arith, small, same)) (λ same. omega (arith, small, same)) kept,
    )
