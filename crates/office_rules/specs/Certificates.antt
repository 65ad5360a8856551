-- The text of a certificate: lines that end with a line feed, the last with the digest of all bytes before it. Source:
-- own; the digest is SHA-256 (FIPS 180-4).
use Rattle.std.specs.Prelude.{ℕ, Bool, List, [], ◌∷◌, ◌++◌, filter, length, Option, Some, None, ℤ, codes}
use Rattle.std.specs.List.{flat_map}
use Rattle.std.specs.Option.{unwrap_or}
use Rattle.std.specs.Fmt.{decimal}
use Rattle.hex.specs.Hex.{encode_lower}
use Rattle.sha2.specs.Sha256.{sha256}
use Rattle.office_days.specs.Calendar.{civil}
use Rattle.office_days.specs.Texts.{day_text}
use Rattle.office_records.specs.Lists.{numbered}
use Rattle.office_records.specs.Tree.{TreeState}
use Rattle.office_records.specs.declared.aggregation.Aggregation.{Aggregation}
use Rattle.office_records.specs.declared.head.Record.{Record}
use Rattle.office_rules.specs.Outcomes.{is_ending, is_sending, is_skipping, outcome_word}
use Rattle.office_rules.specs.declared.entry.Entry.{Entry}
use Rattle.office_rules.specs.declared.outcome.Outcome.{Outcome}

-- words with a tab between each two
abbrev pub tabbed : List (List ℕ) → List ℕ
tabbed [] = []
tabbed (x ∷ []) = x
tabbed (x ∷ y ∷ xs) = x ++ 9 ∷ tabbed (y ∷ xs)

-- the text of lines, each ended by a line feed
abbrev pub lines_text : List (List ℕ) → List ℕ
lines_text lines = flat_map (λ line. line ++ 10 ∷ []) lines

abbrev pub date_text : ℤ → List ℕ
date_text day = day_text (civil day)

-- how many entries have such an outcome
abbrev pub counted : (Outcome → Bool) → List Entry → List ℕ
counted test entries = decimal (length (filter (λ e. test e.outcome) entries))

-- the line of an entry and its record: number, outcome, ref, class, schedule, due day, hold or a hyphen, who confirmed,
-- length and digest of the content
unfoldable pub entry_words : Entry → Record → List ℕ
entry_words e head = tabbed (
    codes "ENTRY" ∷ decimal e.record_no ∷ outcome_word e.outcome ∷ head.ref_text ∷ e.class ∷ e.schedule
    ∷ date_text e.due
    ∷ unwrap_or e.hold (codes "-") ∷ e.confirmed_by ∷ decimal head.length ∷ encode_lower head.digest ∷ [])

-- the line of an entry, ended by a line feed
abbrev pub entry_line : Entry → Record → List ℕ
entry_line e head = entry_words e head ++ 10 ∷ []

-- the line of a spent aggregation: number and ref
abbrev pub aggregation_words : ℕ → Aggregation → List ℕ
aggregation_words a it = tabbed (codes "AGGREGATION" ∷ decimal a ∷ it.ref_text ∷ [])

-- what is made of a thing, if it is there
abbrev pub made_of : {A : Type 0} → (A → List ℕ) → Option A → List (List ℕ)
made_of make None = []
made_of make (Some x) = make x ∷ []

-- the lines above the last one, from the run's number, day, opener, entries by record number, and spent aggregations by
-- number
unfoldable pub certificate_lines : TreeState → ℕ → ℤ → List ℕ → List Entry → List ℕ → List (List ℕ)
certificate_lines tree run day by entries spent =
    (codes "CERTIFICATE " ++ decimal run)
    ∷ (codes "DAY " ++ date_text day)
    ∷ (codes "BY " ++ by)
    ∷ (codes "ENDED " ++ counted is_ending entries)
    ∷ (codes "SENT " ++ counted is_sending entries)
    ∷ (codes "SKIPPED " ++ counted is_skipping entries)
    ∷ flat_map (λ e. made_of (entry_words e) (numbered tree.records e.record_no)) entries
    ++ (codes "SPENT " ++ decimal (length spent))
    ∷ flat_map (λ a. made_of (aggregation_words a) (numbered tree.aggregations a)) spent

-- these lines, and a last one with the digest of all bytes before it
abbrev pub sealed : List ℕ → List ℕ
sealed body = body ++ lines_text ((codes "SHA256 " ++ encode_lower (sha256 body)) ∷ [])

unfoldable pub certificate_text : TreeState → ℕ → ℤ → List ℕ → List Entry → List ℕ → List ℕ
certificate_text tree run day by entries spent = sealed (lines_text (certificate_lines tree run day by entries spent))
