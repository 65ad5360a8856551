-- A certificate as its text gives it, and the text that it has: these lines, and a last one with the digest of all
-- bytes before it. Source: own.
use Rattle.std.specs.Prelude.{◌≡◌, ◌<◌, ◌↔◌, ◌^◌, ℕ, ℤ, Bool, List, [], ◌∷◌, ◌++◌, filter, length, map, Option, IfSome, IsSome, codes}
use Rattle.std.specs.Fmt.{decimal}
use Rattle.std.specs.List.{All}
use Rattle.std.specs.Option.{unwrap_or}
use Rattle.hex.specs.Hex.{encode_lower}
use Rattle.sha2.specs.Sha256.{sha256}
use Rattle.office_days.specs.Limits.{IsDayNumber, IsDueNumber}
use Rattle.office_records.specs.Forms.{IsCode, IsDigest, IsText}
use Rattle.office_rules.specs.Certificates.{date_text, lines_text, sealed, tabbed}
use Rattle.office_rules.specs.Outcomes.{is_ending, is_sending, is_skipping, outcome_word}
use Rattle.office_rules.specs.declared.outcome.Outcome.{Outcome}
use Rattle.office_rules.specs.declared.outcome.Outcome.TheVariants.{Skipped}
use Rattle.office_evidence.specs.declared.parsed.EntryLine.{EntryLine}
use Rattle.office_evidence.specs.declared.parsed.ParsedCertificate.{ParsedCertificate}
use Rattle.office_evidence.specs.declared.parsed.SpentLine.{SpentLine}

-- the run, its day and who opened it, the lines of its entries and those of the spent aggregations
pub record Certificate : Type 0 where
  pub run : ℕ
  pub day : ℤ
  pub by : List ℕ
  pub entries : List EntryLine
  pub spent : List SpentLine

-- what was read
abbrev pub parsed : ParsedCertificate → Certificate
parsed it = record { run = it.run; day = it.day; by = it.by; entries = it.entries.items; spent = it.spent.items }

-- ---- its text

-- the eleven words of an entry's line
abbrev pub columns_of : EntryLine → List (List ℕ)
columns_of line =
    codes "ENTRY" ∷ decimal line.record_no ∷ outcome_word line.outcome ∷ line.ref_text ∷ line.class ∷ line.schedule
    ∷ date_text line.due
    ∷ unwrap_or line.hold (codes "-") ∷ line.confirmed_by ∷ decimal line.length ∷ encode_lower line.digest ∷ []

-- the three words of a spent aggregation's line
abbrev pub spent_columns : SpentLine → List (List ℕ)
spent_columns it = codes "AGGREGATION" ∷ decimal it.number ∷ it.ref_text ∷ []

-- how many entries have such an outcome
abbrev pub count_in : (Outcome → Bool) → List EntryLine → List ℕ
count_in test entries = decimal (length (filter (λ line. test line.outcome) entries))

-- the lines above the last one
unfoldable pub lines_of : Certificate → List (List ℕ)
lines_of c =
    (codes "CERTIFICATE " ++ decimal c.run)
    ∷ (codes "DAY " ++ date_text c.day)
    ∷ (codes "BY " ++ c.by)
    ∷ (codes "ENDED " ++ count_in is_ending c.entries)
    ∷ (codes "SENT " ++ count_in is_sending c.entries)
    ∷ (codes "SKIPPED " ++ count_in is_skipping c.entries)
    ∷ map (λ line. tabbed (columns_of line)) c.entries
    ++ (codes "SPENT " ++ decimal (length c.spent))
    ∷ map (λ it. tabbed (spent_columns it)) c.spent

-- the last line
abbrev pub seal_of : Certificate → List ℕ
seal_of c = codes "SHA256 " ++ encode_lower (sha256 (lines_text (lines_of c)))

unfoldable pub text_of : Certificate → List ℕ
text_of c = sealed (lines_text (lines_of c))

-- ---- its form

-- a hold is named exactly of a skipped record
pub record IsHoldOf (outcome : Outcome) (hold : Option (List ℕ)) : Type 0 where
  pub form : IfSome hold IsCode
  pub skipped : IsSome hold ↔ (outcome ≡ Skipped)

-- every number, text, code, day and digest is of its form, and so is the hold
pub record IsWellFormedLine (line : EntryLine) : Type 0 where
  pub record_few : line.record_no < 2 ^ 32
  pub ref_text : IsText line.ref_text
  pub class : IsCode line.class
  pub schedule : IsCode line.schedule
  pub due : IsDueNumber line.due
  pub hold : IsHoldOf line.outcome line.hold
  pub confirmed_by : IsText line.confirmed_by
  pub length_few : line.length < 2 ^ 32
  pub digest : IsDigest line.digest

pub record IsWellFormedSpent (it : SpentLine) : Type 0 where
  pub few : it.number < 2 ^ 32
  pub ref_text : IsText it.ref_text

pub record IsWellFormedCertificate (c : Certificate) : Type 0 where
  pub run_few : c.run < 2 ^ 32
  pub day : IsDayNumber c.day
  pub by : IsText c.by
  pub entries : All IsWellFormedLine c.entries
  pub spent : All IsWellFormedSpent c.spent

-- the text is that of the certificate, and the certificate is of its form
pub record IsTextOf (c : Certificate) (text : List ℕ) : Type 0 where
  pub formed : IsWellFormedCertificate c
  pub same : text ≡ text_of c
