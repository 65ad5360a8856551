-- The lines that a writer appends, one after another. Source: docs/ACCESS.md, "The journal".
use Rattle.std.specs.Prelude.{◌≡◌, ℕ, ◌+◌, ◌-◌, ◌^◌, ◌<◌, ◌≤◌, Bool, true, false, List, [], ◌∷◌, ◌++◌, take, Option, Result, Ok, Err, ⊤}
use Rattle.std.specs.Io.KnownBytes.{Appends}
use Rattle.office_base.specs.Output.{AppendsSome}
use Rattle.office_journal.specs.declared.head.Head.{Head}
use Rattle.office_journal.specs.declared.journal.Journal.{Journal}
use Rattle.office_journal.specs.declared.unwritten.Unwritten.{Unwritten}
use Rattle.office_journal.specs.declared.unwritten.Unwritten.TheVariants.{Memory, NoJson, Full, Io, Poisoned}
use Rattle.office_journal.specs.Journals.{checked}
use Rattle.office_journal.specs.Lines.{head_after, opening}
use Rattle.office_journal.specs.Members.{AreShallow, AreWritable, Field, members_text}

-- the line with these members after a head, without its line feed
abbrev pub line_of : Head → List Field → List ℕ
line_of head fields = opening head.digest (head.line + 1) ++ members_text fields

abbrev pub with_feed : List ℕ → List ℕ
with_feed line = line ++ 10 ∷ []

-- bytes after a head are whole lines that lead to another head
abbrev pub GoOn : Head → List ℕ → Head → Type 0
GoOn head text last = checked head text ≡ Ok (record { head = last; torn = 0 })

-- ---- lines one after another

abbrev pub written : Head → List (List Field) → List ℕ
written head [] = []
written head (fields ∷ rest) = with_feed (line_of head fields) ++ written (head_after head (line_of head fields)) rest

abbrev pub last_of : Head → List (List Field) → Head
last_of head [] = head
last_of head (fields ∷ rest) = last_of (head_after head (line_of head fields)) rest

abbrev pub AllWritable : List (List Field) → Type 0
AllWritable [] = ⊤
AllWritable (fields ∷ rest) = AreWritable fields × AllWritable rest

-- what a stop at any moment leaves of lines that were written after a head, and of the next: all bytes of the lines, and
-- the first bytes of the next
abbrev pub left_by_stop : Head → List (List Field) → List Field → ℕ → List ℕ
left_by_stop head lines next count = written head lines ++ take count (line_of (last_of head lines) next)

-- ---- what other crates see of a journal that is open: its writer, its head, and whether it must be opened again

abbrev pub writer_of : {W : Type 0} → Journal W → W
writer_of journal = journal.out

abbrev pub end_of : {W : Type 0} → Journal W → Head
end_of journal = journal.head

abbrev pub must_reopen : {W : Type 0} → Journal W → Bool
must_reopen journal = journal.is_poisoned

-- ---- one line

-- a line is written behind what was there, and the next one follows it
pub record IsWritten {W : Type 0} (contents : W → Option (List ℕ)) (old new : Journal W) (line : List ℕ) : Type 0 where
  pub room : old.head.line < 2 ^ 64 - 1
  pub written : Appends (contents old.out) (contents new.out) (with_feed line)
  pub head : new.head ≡ head_after old.head line
  pub before : old.is_poisoned ≡ false
  pub after : new.is_poisoned ≡ false

-- A line is not written. If the writer failed, the first bytes of the line may be there, and no line is written any more.
-- For another reason all is as it was.
abbrev pub IsUnwritten : {W : Type 0} → (W → Option (List ℕ)) → Journal W → Journal W → List ℕ → Unwritten → Type 0
IsUnwritten contents old new line Memory = new ≡ old
IsUnwritten contents old new line NoJson = new ≡ old
IsUnwritten contents old new line Full = (new ≡ old) × (2 ^ 64 - 1 ≤ old.head.line)
IsUnwritten contents old new line Io =
    AppendsSome (contents old.out) (contents new.out) (with_feed line) × (new.head ≡ old.head) × (new.is_poisoned ≡ true)
IsUnwritten contents old new line Poisoned = (new ≡ old) × (old.is_poisoned ≡ true)

-- what came of the line with these members: it is the next line, in UTF-8, and can be read back; or it is not written
abbrev pub IsNoted : {W : Type 0} → (W → Option (List ℕ)) → Journal W → Journal W → List Field → Result ℕ Unwritten → Type 0
IsNoted contents old new fields (Ok line) =
    (line ≡ old.head.line + 1) × AreWritable fields × AreShallow fields × IsWritten contents old new (line_of old.head fields)
IsNoted contents old new fields (Err why) = IsUnwritten contents old new (line_of old.head fields) why
