-- A row of an import as the act that adds its record. Source: RFC 4180, its fields; the columns are own.
use Rattle.std.specs.Prelude.{◌≡◌, ◌==◌, ◌⊎◌, ◌&&◌, ◌||◌, Bool, if◌then◌else◌, ℕ, ℤ, List, [], ◌∷◌, length, codes, Option, Some, None, Result, Ok, MatchResult, ok_or}
use Rattle.std.specs.Str.{bytes_eq}
use Rattle.office_days.specs.Texts.{day_named}
use Rattle.office_base.specs.EntityNumbers.{entity_number}
use Rattle.office_base.specs.declared.refusal.Refusal.{Refusal}
use Rattle.office_base.specs.declared.refusal.Refusal.TheVariants.{BadText}
use Rattle.office_records.specs.Codes.{code_named}
use Rattle.office_records.specs.TextForms.{text_named}
use Rattle.office_rules.specs.declared.act.Act.{Act}
use Rattle.office_rules.specs.declared.act.Act.TheVariants.{AddRecord}
use Rattle.office_rules.specs.ContentTexts.{content_named, content_of}
use Rattle.office_rules.specs.Parts.{both, fault_of, made}
use Rattle.office_rules.specs.declared.read_fault.ReadFault.{ReadFault}
use Rattle.office_rules.specs.declared.read_fault.ReadFault.TheVariants.{Memory}
use Rattle.office_csv.specs.declared.import_row.ImportRow.{ImportRow}

-- the fields of a row, by the names of their columns
pub record Fields : Type 0 where
  pub ref_text : List ℕ
  pub title : List ℕ
  pub originated : List ℕ
  pub aggregation : List ℕ
  pub class : List ℕ
  pub schedule : List ℕ
  pub content : List ℕ

-- and in the order of the columns
abbrev pub fields_in : Fields → List (List ℕ)
fields_in row =
    row.ref_text ∷ row.title ∷ row.originated ∷ row.aggregation ∷ row.class ∷ row.schedule ∷ row.content ∷ []

-- the first column's name, also behind a byte order mark (U+FEFF in UTF-8)
abbrev pub is_first_column : List ℕ → Bool
is_first_column field = bytes_eq field (codes "ref") || bytes_eq field (0xEF ∷ 0xBB ∷ 0xBF ∷ codes "ref")

-- the row of the columns' names
abbrev pub is_header : Fields → Bool
is_header row =
    is_first_column row.ref_text && bytes_eq row.title (codes "title") && bytes_eq row.originated (codes "originated")
    && bytes_eq row.aggregation (codes "aggregation")
    && bytes_eq row.class (codes "class") && bytes_eq row.schedule (codes "schedule")
    && bytes_eq row.content (codes "content")

-- the fields that were read, as lists of bytes
abbrev pub named : ImportRow → Fields
named row = record {
  ref_text = row.ref_text.now;
  title = row.title.now;
  originated = row.originated.now;
  aggregation = row.aggregation.now;
  class = row.class.now;
  schedule = row.schedule.now;
  content = row.content.now;
}

-- words, or why they are none
abbrev pub words_field : List ℕ → Result (List ℕ) Refusal
words_field field = ok_or (text_named field) BadText

abbrev pub day_field : List ℕ → Result ℤ Refusal
day_field field = ok_or (day_named field) BadText

-- a code, and an empty field is none
abbrev pub code_field : List ℕ → Result (Option (List ℕ)) Refusal
code_field field = if length field == 0 then Ok None else made (λ code. Some code) (ok_or (code_named field) BadText)

-- the act that adds a record of these parts, in pairs, on a day
abbrev pub addition : ℤ → ((List ℕ × List ℕ) × (ℤ × ℕ)) × ((Option (List ℕ) × Option (List ℕ)) × List ℕ) → Act
addition day p = AddRecord day p.0.0.0 p.0.0.1 p.0.1.0 p.0.1.1 p.1.0.0 p.1.0.1 p.1.1

-- the act that adds the record of a row on a day; else 2 where a field is not of its form, before 3 where one is out of
-- its range
unfoldable pub parsed_row : ℤ → Fields → Result Act Refusal
parsed_row day row =
    made (addition day)
    (both
    (both (both (words_field row.ref_text) (words_field row.title))
    (both (day_field row.originated) (entity_number row.aggregation)))
    (both (both (code_field row.class) (code_field row.schedule)) (content_of (content_named row.content))))

-- why no act was read of a row: it is refused, or memory ran out
abbrev pub IsRowFault : ℤ → Fields → ReadFault → Type 0
IsRowFault day row fault = (fault ≡ Memory) ⊎ (fault ≡ fault_of (parsed_row day row))

-- what was read of a row is the act that adds its record on a day, or why nothing was
abbrev pub IsRowRead : ℤ → Fields → Result Act ReadFault → Type 0
IsRowRead day row read = MatchResult read (λ act. parsed_row day row ≡ Ok act) (λ fault. IsRowFault day row fault)
