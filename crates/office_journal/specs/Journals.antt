-- The check of a journal given as bytes. Source: docs/ACCESS.md, "Check it"; the form is own.
use Rattle.std.specs.Prelude.{◌≡◌, ◌≢◌, ℕ, ◌+◌, ◌-◌, ◌^◌, ◌==◌, not, ◌&&◌, Bool, true, false, List, [], ◌∷◌, ◌++◌, length, codes, Option, Some, None, Result, Ok, Err, if◌then◌else◌}
use Rattle.std.specs.Fmt.{decimal}
use Rattle.std.specs.List.{All, flat_map}
use Rattle.hex.specs.Hex.{encode_lower}
use Rattle.office_journal.specs.declared.head.Head.{Head}
use Rattle.office_journal.specs.declared.check.Checked.{Checked}
use Rattle.office_journal.specs.declared.nesting.Nesting.{Nesting}
use Rattle.office_journal.specs.declared.wrong.Wrong.{Wrong}
use Rattle.office_journal.specs.declared.wrong.Wrong.TheVariants.{NoLine, OtherBefore, OtherNumber}
use Rattle.office_journal.specs.declared.wrong.WrongLine.{WrongLine}
use Rattle.office_journal.specs.Chain.{LeadTo}
use Rattle.office_journal.specs.Lines.{head_after}

-- ---- one line

-- what follows a part at the front of a text
abbrev pub rest_after : List ℕ → List ℕ → Option (List ℕ)
rest_after [] text = Some text
rest_after (b ∷ part) [] = None
rest_after (b ∷ part) (c ∷ text) = if b == c then rest_after part text else None

-- how braces and quotes stand after a byte: a quote begins and ends a text, in which a backslash takes the meaning of the
-- byte after it, and braces count outside of texts
abbrev pub after_byte : Nesting → ℕ → Nesting
after_byte n b =
    if n.escaped then record n { escaped = false }
    else if n.quoted then record n { quoted = not (b == 34); escaped = b == 92 }
    else if b == 34 then record n { quoted = true }
    else if b == 123 then record n { depth = n.depth + 1 }
    else if b == 125 then record n { depth = n.depth - 1 }
    else n

-- the last of the bytes, and none before it, closes the brace that is open alone
abbrev pub closes : Nesting → List ℕ → Bool
closes n [] = false
closes n (b ∷ rest) = if (after_byte n b).depth == 0 then length rest == 0 else closes (after_byte n b) rest

-- one brace is open
abbrev pub open_once : Nesting
open_once = record { depth = 1; quoted = false; escaped = false }

-- a whole object of JSON, as far as braces and quotes say so: the last byte closes the brace that the first one opens.
-- No beginning of a line is one, so a torn line is none
abbrev pub is_whole : List ℕ → Bool
is_whole [] = false
is_whole (b ∷ rest) = (b == 123) && closes open_once rest

-- the head after a line, by what follows its number, if anything does
abbrev pub numbered : Head → List ℕ → Option (List ℕ) → Result Head Wrong
numbered head line None = Err OtherNumber
numbered head line (Some rest) = Ok (head_after head line)

-- the head after a line, by what follows the digest of the line before, if anything does. A number has 64 bits
abbrev pub linked : Head → List ℕ → Option (List ℕ) → Result Head Wrong
linked head line None = Err OtherBefore
linked head line (Some rest) =
    if head.line == 2 ^ 64 - 1 then Err OtherNumber
    else numbered head line (rest_after (decimal (head.line + 1) ++ codes ",") rest)

-- the head after a line, by what follows its first quote
abbrev pub opened : Head → List ℕ → List ℕ → Result Head Wrong
opened head line rest = linked head line (rest_after (encode_lower head.digest ++ codes "\",\"line\":") rest)

abbrev pub begun : Head → List ℕ → Option (List ℕ) → Result Head Wrong
begun head line None = Err NoLine
begun head line (Some rest) = opened head line rest

-- the head after a line of these bytes, or why it is not the line after that of a head: the first reason from the left
unfoldable pub follow : Head → List ℕ → Result Head Wrong
follow head line = if is_whole line then begun head line (rest_after (codes "{\"before\":\"") line) else Err NoLine

-- ---- a journal

-- what comes before a first byte
abbrev pub with_first : ℕ → List (List ℕ) → List (List ℕ)
with_first b [] = (b ∷ []) ∷ []
with_first b (piece ∷ pieces) = (b ∷ piece) ∷ pieces

-- the pieces of a text between its line feeds; what follows the last line feed is the last piece
abbrev pub pieces : List ℕ → List (List ℕ)
pieces [] = [] ∷ []
pieces (b ∷ rest) = if b == 10 then [] ∷ pieces rest else with_first b (pieces rest)

-- the lines are checked one after another, from that place on; what follows the last line feed is torn
abbrev pub checked_step : ℕ → Result Head Wrong → (Head → Result Checked WrongLine) → Result Checked WrongLine
checked_step place (Err wrong) next = Err (record { place = place; wrong = wrong })
checked_step place (Ok head) next = next head

abbrev pub checked_from : Head → ℕ → List (List ℕ) → Result Checked WrongLine
checked_from head place [] = Ok (record { head = head; torn = 0 })
checked_from head place (piece ∷ []) = Ok (record { head = head; torn = length piece })
checked_from head place (piece ∷ next ∷ rest) =
    checked_step place (follow head piece) (λ after. checked_from after (place + 1) (next ∷ rest))

-- the check of a journal that goes on from a head
unfoldable pub checked : Head → List ℕ → Result Checked WrongLine
checked head text = checked_from head 1 (pieces text)

-- the same as a relation: the text is lines that lead from one head to the other, each with its line feed, and then
-- bytes of a torn line
pub record IsJournal (head : Head) (text : List ℕ) (read : Checked) : Type 0 where
  pub lines : List (List ℕ)
  pub torn : List ℕ
  pub whole : text ≡ flat_map (λ line. line ++ 10 ∷ []) lines ++ torn
  pub linked : LeadTo head lines read.head
  pub rest : All (λ b. b ≢ 10) torn
  pub count : length torn ≡ read.torn
