-- Texts that should be JSON, by what came of the line that contains them.
use Rattle.std.specs.Prelude.{ℕ, Result, Ok, Err, ⊤}
use Rattle.json.specs.declared.error.Error.{Error}
use Rattle.json.specs.declared.error.Error.TheVariants.{Invalid, OutOfMemory, TooLong, DuplicateKey}
use Rattle.office_journal.specs.declared.text_error.TextError.{TextError}
use Rattle.office_journal.specs.declared.text_error.TextError.TheVariants as text_error
use Rattle.office_journal.specs.declared.unwritten.Unwritten.{Unwritten}
use Rattle.office_journal.specs.declared.unwritten.Unwritten.TheVariants.{Memory, NoJson, Full, Io, Poisoned}

abbrev pub text_error_of : Error → TextError
text_error_of OutOfMemory = text_error.Memory
text_error_of Invalid = text_error.NoJson
text_error_of TooLong = text_error.NoJson
text_error_of DuplicateKey = text_error.NoJson

abbrev pub unwritten_of : TextError → Unwritten
unwritten_of text_error.Memory = Memory
unwritten_of text_error.NoJson = NoJson

-- A line is refused for its texts exactly if one of them cannot be read. Only lack of memory leaves that open, since it
-- may come first.
abbrev pub IsJudged : Type 0 → Result ℕ Unwritten → Type 0
IsJudged read (Ok line) = read
IsJudged read (Err Memory) = ⊤
IsJudged read (Err NoJson) = ¬ read
IsJudged read (Err Full) = read
IsJudged read (Err Io) = read
IsJudged read (Err Poisoned) = read
