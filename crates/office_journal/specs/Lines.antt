-- A line of the journal, and the head after it. Source: docs/ACCESS.md, "The journal".
use Rattle.std.specs.Prelude.{ℕ, ◌+◌, ◌-◌, ◌^◌, ◌==◌, ◌&&◌, nat_lt, Bool, List, [], ◌∷◌, ◌++◌, codes, Option, Some, None, if◌then◌else◌}
use Rattle.std.specs.Fmt.{decimal}
use Rattle.std.specs.Str.{bytes_eq}
use Rattle.hex.specs.Hex.{encode_lower}
use Rattle.sha2.specs.Sha256.{sha256}
use Rattle.office_journal.specs.declared.head.Head.{Head}
use Rattle.office_journal.specs.declared.line.Line.{Line}

-- how a line begins, with the digest of the line before and its number: {"before":"76..","line":811,
abbrev pub opening : List ℕ → ℕ → List ℕ
opening before number =
    codes "{\"before\":\"" ++ encode_lower before ++ codes "\",\"line\":" ++ decimal number ++ codes ","

-- all bytes of a line, without its line feed
abbrev pub line_bytes : Line → List ℕ
line_bytes line = opening line.before line.number ++ line.text.items

-- 32 bytes 0, which the first line contains for the line before
abbrev pub zeros : List ℕ
zeros =
    0 ∷ 0 ∷ 0 ∷ 0 ∷ 0 ∷ 0 ∷ 0 ∷ 0 ∷ 0 ∷ 0 ∷ 0 ∷ 0 ∷ 0 ∷ 0 ∷ 0 ∷ 0 ∷ 0 ∷ 0 ∷ 0 ∷ 0 ∷ 0 ∷ 0 ∷ 0 ∷ 0 ∷ 0 ∷ 0 ∷ 0 ∷ 0 ∷ 0 ∷ 0
    ∷ 0 ∷ 0 ∷ []

-- the head of a journal without a line
abbrev pub start : Head
start = record { line = 0; digest = zeros }

-- the head after a line of these bytes: one line more, and their SHA-256
abbrev pub head_after : Head → List ℕ → Head
head_after head bytes = record { line = head.line + 1; digest = sha256 bytes }

-- a line comes right after that of a head: it has the next number, and the digest of the line before
abbrev pub is_after : Head → Line → Bool
is_after head line =
    nat_lt head.line (2 ^ 64 - 1) && (line.number == head.line + 1) && bytes_eq line.before head.digest

-- the head after lines, each right after the one before; none if one is not
abbrev pub head_from : Head → List Line → Option Head
head_from head [] = Some head
head_from head (line ∷ rest) = if is_after head line then head_from (head_after head (line_bytes line)) rest else None

abbrev pub head_of : List Line → Option Head
head_of lines = head_from start lines
