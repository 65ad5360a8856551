-- What a line and a column of a certificate are, how they are parted again, and which words are in the line of an
-- entry: the laws of `src/laws.rt` say that no title, ref or name breaks them. Source: own.
use Rattle.std.specs.Prelude.{◌≢◌, ◌==◌, ℕ, List, [], ◌∷◌, codes, if◌then◌else◌}
use Rattle.std.specs.Fmt.{decimal}
use Rattle.std.specs.List.{All}
use Rattle.std.specs.Option.{unwrap_or}
use Rattle.hex.specs.Hex.{encode_lower}
use Rattle.office_records.specs.declared.head.Record.{Record}
use Rattle.office_rules.specs.Certificates.{date_text}
use Rattle.office_rules.specs.Outcomes.{outcome_word}
use Rattle.office_rules.specs.declared.entry.Entry.{Entry}

-- no byte of it is a line feed
abbrev pub IsOneLine : List ℕ → Type 0
IsOneLine line = All (λ b. b ≢ 10) line

-- no byte of it is a tab or a line feed
abbrev pub IsOneColumn : List ℕ → Type 0
IsOneColumn word = All (λ b. (b ≢ 9) × (b ≢ 10)) word

-- the byte before the first of the words
abbrev pub before_first : ℕ → List (List ℕ) → List (List ℕ)
before_first b [] = []
before_first b (word ∷ words) = (b ∷ word) ∷ words

-- the words between the bytes of that value
abbrev pub split_at : ℕ → List ℕ → List (List ℕ)
split_at value [] = [] ∷ []
split_at value (b ∷ bs) = if b == value then [] ∷ split_at value bs else before_first b (split_at value bs)

-- the eleven words of the line of an entry and its record
abbrev pub entry_columns : Entry → Record → List (List ℕ)
entry_columns e head =
    codes "ENTRY" ∷ decimal e.record_no ∷ outcome_word e.outcome ∷ head.ref_text ∷ e.class ∷ e.schedule
    ∷ date_text e.due
    ∷ unwrap_or e.hold (codes "-") ∷ e.confirmed_by ∷ decimal head.length ∷ encode_lower head.digest ∷ []
