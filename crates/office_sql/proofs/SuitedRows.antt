-- A row that suits a table is kept as it is given.
use Rattle.std.proofs.Common.{◌≡◌, inl, inr, ℕ, suc, ◌+◌, ◌&&◌, if◌then◌else◌, not, Bool, true, false, List, [], ◌∷◌, map, length, Option, refl, sym, ap, subst, ◌∙◌}
use Rattle.std.specs.List.{range_with_len}
use Rattle.std.proofs.lemmas.List.FromFn.{fill_by_all}
use Rattle.sqlite_value.specs.declared.value.Value.{Value}
use Rattle.sqlite_value.specs.declared.value.Value.TheVariants.{Null, Int, Text, Blob}
use Rattle.sqlite_value.specs.Order.{Row, column, value_cmp}
use Rattle.sqlite_sql.specs.Ops.{is_null, unary}
use Rattle.sqlite_schema.specs.declared.schema.Column.{Column}
use Rattle.sqlite_schema.specs.declared.schema.Kind.{Kind}
use Rattle.sqlite_schema.specs.declared.schema.Kind.TheVariants as kind
use Rattle.sqlite_schema.specs.declared.schema.Table.{Table}
use Rattle.sqlite_schema.specs.declared.command.Conflict.TheVariants.{Replace}
use Rattle.sqlite_schema.specs.Names.{is_key}
use Rattle.sqlite_rules.specs.Cast.{cast, cast_all, cast_row}
use Rattle.sqlite.specs.Rows.{mended, mended_from}
use Rattle.office_sql.specs.Suited.{IsOfKind, SuitsColumn, SuitColumns}
use Rattle.office_sql.proofs.PutLemmas.{cast_int, cast_null}

kept_kind : (k : Kind) (v : Value) → IsOfKind k v → cast k v ≡ v
kept_kind kind.Integer v is = subst (λ x. cast kind.Integer x ≡ x) (sym is.1) (cast_int is.0)
kept_kind kind.Text v is = subst (λ x. cast kind.Text x ≡ x) (sym is.1) refl
kept_kind kind.Blob v is = refl
kept_kind kind.Real v is = absurd is
kept_kind kind.Any v is = absurd is

kept_null : (k : Kind) → cast k Null ≡ Null
unfolding unary value_cmp
kept_null kind.Integer = cast_null
kept_null kind.Text = refl
kept_null kind.Blob = refl
kept_null kind.Real = refl
kept_null kind.Any = refl

kept_column : (c : Column) (v : Value) → SuitsColumn c v → cast c.kind v ≡ v
kept_column c v (inl is) = kept_kind c.kind v is
kept_column c v (inr none) = subst (λ x. cast c.kind x ≡ x) (sym none.1) (kept_null c.kind)

kept_columns : (cs : List Column) (vs : Row) → SuitColumns cs vs → cast_all cs vs ≡ vs
kept_columns [] vs suits = refl
kept_columns (c ∷ cs) [] suits = refl
kept_columns (c ∷ cs) (v ∷ vs) suits = let first = kept_column c v suits.0 in let more = kept_columns cs vs suits.1 in cc

no_null : (k : Kind) (v : Value) → IsOfKind k v → is_null v ≡ false
no_null kind.Integer v is = ap is_null is.1
no_null kind.Text v is = ap is_null is.1
no_null kind.Blob v is = ap is_null is.1
no_null kind.Real v is = absurd is
no_null kind.Any v is = absurd is

either_way : (must key : Bool) (default v : Value) → (if must && false && key then default else v) ≡ v
either_way true key default v = refl
either_way false key default v = refl

-- NOT NULL finds no NULL, so REPLACE puts no default
stays : (c : Column) (v : Value) (key : Bool) → SuitsColumn c v → (if c.not_null && is_null v && key then c.default else v) ≡ v
stays c v key (inl is) = ap (λ b. if c.not_null && b && key then c.default else v) (no_null c.kind v is) ∙ either_way c.not_null key c.default v
stays c v key (inr none) = ap (λ b. if b && is_null v && key then c.default else v) none.0

stay : (key : Option ℕ) (at : ℕ) (cs : List Column) (vs : Row) → SuitColumns cs vs → mended_from key at cs vs ≡ vs
stay key at [] vs suits = refl
stay key at (c ∷ cs) [] suits = refl
stay key at (c ∷ cs) (v ∷ vs) suits = let first = stays c v (not (is_key key at)) suits.0 in let more = stay key (at + 1) cs vs suits.1 in cc

-- the row, under a rowid that is kept
module _ (t : Table) (id : Value) (row : Row) (kept : cast kind.Integer id ≡ id) (suits : SuitColumns t.columns row) where
  pub row_kept : cast_row t (id ∷ row) ≡ id ∷ row
  row_kept = let more = kept_columns t.columns row suits in cc

  pub row_mended : mended Replace t (id ∷ row) ≡ id ∷ row
  row_mended = ap (λ r. id ∷ r) (stay t.key 0 t.columns row suits)

as_many : (cs : List Column) (vs : Row) → SuitColumns cs vs → length vs ≡ length cs
as_many [] [] suits = refl
as_many [] (v ∷ vs) suits = absurd suits
as_many (c ∷ cs) [] suits = absurd suits
as_many (c ∷ cs) (v ∷ vs) suits = ap suc (as_many cs vs suits.1)

-- the row is the list of what its columns have
pub row_listed : (cs : List Column) (row : Row) → SuitColumns cs row → row ≡ map (column row) (range_with_len 0 (length cs))
row_listed cs row suits = fill_by_all (column row) row (length cs) Null (as_many cs row suits) (λ k low. refl)
