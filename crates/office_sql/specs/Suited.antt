-- When a row is one that a table keeps as it is given. Source: own.
use Rattle.std.specs.Prelude.{◌≡◌, ◌⊎◌, ℕ, false, List, [], ◌∷◌, Some}
use Rattle.sqlite_value.specs.declared.value.Value.{Value}
use Rattle.sqlite_value.specs.declared.value.Value.TheVariants.{Null, Text, Blob}
use Rattle.sqlite_value.specs.Order.{Row, column}
use Rattle.sqlite_schema.specs.declared.schema.Column.{Column}
use Rattle.sqlite_schema.specs.declared.schema.Kind.{Kind}
use Rattle.sqlite_schema.specs.declared.schema.Kind.TheVariants as kind
use Rattle.sqlite_schema.specs.declared.schema.Table.{Table}
use Rattle.sqlite.specs.Values.{IsInt}

-- the value is of this kind; the office has columns of three kinds
abbrev pub IsOfKind : Kind → Value → Type 0
IsOfKind kind.Integer value = IsInt value
IsOfKind kind.Text value = (text : List ℕ) × (value ≡ Text text)
IsOfKind kind.Blob value = (bytes : List ℕ) × (value ≡ Blob bytes)
IsOfKind kind.Real value = ⊥
IsOfKind kind.Any value = ⊥

-- the value is of the column's kind, or is NULL where that may be
abbrev pub SuitsColumn : Column → Value → Type 0
SuitsColumn column value = IsOfKind column.kind value ⊎ ((column.not_null ≡ false) × (value ≡ Null))

-- each column has a value that suits it, and there are no others
abbrev pub SuitColumns : List Column → Row → Type 0
SuitColumns [] [] = Unit {0}
SuitColumns [] (value ∷ values) = ⊥
SuitColumns (column ∷ columns) [] = ⊥
SuitColumns (column ∷ columns) (value ∷ values) = SuitsColumn column value × SuitColumns columns values

-- the row is one of the table's, and where a number is its key, it has one
pub record IsRowFor (table : Table) (row : Row) : Type 0 where
  pub columns : SuitColumns table.columns row
  pub key : table.key ≡ Some 0 → IsInt (column row 0)
