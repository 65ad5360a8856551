-- The rows of an import as a text of CSV has them. Source: RFC 4180, as the kit's csv reads it; the columns are own.
use Rattle.std.specs.Prelude.{◌≡◌, ◌≢◌, ◌⊎◌, ⊤, ℕ, List, [], ◌∷◌, map, length, IsTrue, true, false, Option, Some, None}
use Rattle.csv.specs.Machine.{Read, next_record}
use Rattle.csv.specs.Reading.{Ready, default_config, has_failed, is_flexible, reader_config, reader_trim, Reached}
use Rattle.csv.specs.Records.{AllText}
use Rattle.csv.specs.declared.parser.State.{State}
use Rattle.csv.specs.declared.reader.Reader.{Reader}
use Rattle.csv.specs.declared.reader.Trim.TheVariants as trim
use Rattle.office_csv.specs.ImportRows.{Fields, fields_in, is_header}

-- a reader that reads rows of any length as they are
pub record IsPlain {R : Type 0} (rdr : Reader R) : Type 0 where
  pub config : reader_config rdr ≡ default_config
  pub trim : reader_trim rdr ≡ trim.None
  pub ready : Ready rdr
  pub flexible : is_flexible rdr ≡ true
  pub goes : has_failed rdr ≡ false

-- ---- the header

-- a row that names the columns
abbrev pub HeadsRow : List (List ℕ) → Type 0
HeadsRow row = (fields : Fields) × (row ≡ fields_in fields) × IsTrue (is_header fields)

-- the first row of a text names the columns, and what is left after it, where the text is known
abbrev pub HeadsText : State → Option (List ℕ) → State → Option (List ℕ) → Type 0
HeadsText s None s2 rest = ⊤
HeadsText s (Some text) s2 None = ⊥
HeadsText s (Some text) s2 (Some rest) =
    (p : Read) × (next_record default_config s [] [] text ≡ Some p) × HeadsRow p.0 × (s2 ≡ p.1) × (rest ≡ p.2)

-- there is no first row, or one that does not name them
abbrev pub HasNoHeader : Option Read → Type 0
HasNoHeader None = ⊤
HasNoHeader (Some p) = (AllText p.0 → ⊥) ⊎ (HeadsRow p.0 → ⊥)

abbrev pub LacksHeader : State → Option (List ℕ) → Type 0
LacksHeader s None = ⊤
LacksHeader s (Some text) = HasNoHeader (next_record default_config s [] [] text)

-- ---- the rows after it

-- the next row is not UTF-8
abbrev pub TakesNoText : State → Option (List ℕ) → Type 0
TakesNoText s None = ⊤
TakesNoText s (Some text) = (p : Read) × (next_record default_config s [] [] text ≡ Some p) × (AllText p.0 → ⊥)

-- each is UTF-8
abbrev pub AreTexts : List Fields → Type 0
AreTexts [] = ⊤
AreTexts (row ∷ rows) = AllText (fields_in row) × AreTexts rows

-- rows of seven fields at the head of a text, and what is left after them, where the text is known
abbrev pub AreAtPrefix : State → Option (List ℕ) → List Fields → State → Option (List ℕ) → Type 0
AreAtPrefix s None rows s2 rest = ⊤
AreAtPrefix s (Some text) rows s2 None = ⊥
AreAtPrefix s (Some text) rows s2 (Some rest) =
    Reached default_config s text (map fields_in rows) s2 rest × AreTexts rows

-- no row is left
abbrev pub IsEnded : State → Option (List ℕ) → Type 0
IsEnded s None = ⊤
IsEnded s (Some rest) = next_record default_config s [] [] rest ≡ None

-- the next row has another number of fields, or is not UTF-8
abbrev pub IsBadNext : State → Option (List ℕ) → Type 0
IsBadNext s None = ⊤
IsBadNext s (Some rest) =
    (p : Read) × (next_record default_config s [] [] rest ≡ Some p) × ((length p.0 ≢ 7) ⊎ (AllText p.0 → ⊥))
