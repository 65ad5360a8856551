-- The statements of a file, or the first line that is wrong. Source: docs/ACCESS.md, "The settings".
use Rattle.std.specs.Prelude.{ℕ, ◌+◌, ◌==◌, ◌&&◌, ◌||◌, not, Bool, false, true, List, [], ◌∷◌, ◌++◌, length, Option, Some, None, Result, Ok, Err, if◌then◌else◌}
use Rattle.std.specs.List.{find, join_with_byte, list_all, list_any, slice_split}
use Rattle.std.specs.Option.{is_some}
use Rattle.std.specs.Str.{bytes_eq}
use Rattle.office_settings.specs.declared.wrong.Fault.{Fault}
use Rattle.office_settings.specs.declared.wrong.Wrong.{Wrong}
use Rattle.office_settings.specs.declared.wrong.Wrong.TheVariants.{AfterEnd, Alike, BeginBelow, CutOff, EndAlone, NoRole, NoSite, NoZone, NotUtf8, SetTwice, SignedText, UnknownRole}
use Rattle.office_settings.specs.Looks.{is_signable, look_in, text_in}
use Rattle.office_settings.specs.Statements.{Line, statement_of}
use Rattle.office_settings.specs.Statements as line
use Rattle.office_settings.specs.Tokens.{tokens_in}

-- a statement, with the number of its line; the first line of a file is 1
pub record Entry : Type 0 where
  pub number : ℕ
  pub line : Line

-- ---- what a statement is about

-- the settings that a file makes once, each with a number
abbrev pub setting_of : Line → Option ℕ
setting_of (line.site address) = Some 0
setting_of (line.zone name) = Some 1
setting_of (line.requests count) = Some 2
setting_of (line.lists count) = Some 3
setting_of (line.journal_bytes count) = Some 4
setting_of (line.content_days days) = Some 5
setting_of (line.free_megabytes count) = Some 6
setting_of (line.journals_readings is) = Some 7
setting_of _ = None

-- the name that signs
abbrev pub signer_of : Line → Option (List ℕ)
signer_of (line.signs name text) = Some name
signer_of _ = None

-- the name that has roles
abbrev pub holder_of : Line → Option (List ℕ)
holder_of (line.has name roles classes) = Some name
holder_of _ = None

-- the role that may do or read something
abbrev pub role_of : Line → Option (List ℕ)
role_of (line.may role acts classes) = Some role
role_of (line.reads role things classes sent) = Some role
role_of _ = None

-- the roles that a name has
abbrev pub roles_of : Line → List (List ℕ)
roles_of (line.has name roles classes) = roles
roles_of (line.others_have roles classes) = roles
roles_of _ = []

-- the name whose acts are known by the name or by a text
abbrev pub owner_of : Line → Option (List ℕ)
owner_of (line.has name roles classes) = Some name
owner_of (line.signs name text) = Some name
owner_of _ = None

-- that name, or that text
abbrev pub shown_by : Line → List ℕ
shown_by (line.has name roles classes) = name
shown_by (line.signs name text) = join_with_byte 32 text
shown_by _ = []

-- the marks around a file
abbrev pub is_begin : Line → Bool
is_begin line.begins = true
is_begin _ = false

abbrev pub is_end : Line → Bool
is_end line.ends = true
is_end _ = false

-- ---- a statement below others

abbrev pub has_begin : List Entry → Bool
has_begin entries = list_any (λ entry. is_begin entry.line) entries

abbrev pub has_end : List Entry → Bool
has_end entries = list_any (λ entry. is_end entry.line) entries

abbrev pub same_setting : Option ℕ → Option ℕ → Bool
same_setting (Some one) (Some other) = one == other
same_setting (Some one) None = false
same_setting None other = false

-- the two are one text
abbrev pub same_text : Option (List ℕ) → Option (List ℕ) → Bool
same_text (Some one) (Some other) = bytes_eq one other
same_text (Some one) None = false
same_text None other = false

-- the two are texts that differ
abbrev pub differ : Option (List ℕ) → Option (List ℕ) → Bool
differ (Some one) (Some other) = not (bytes_eq one other)
differ (Some one) None = false
differ None other = false

-- both make one setting, or say what one name signs
abbrev pub sets_again : Line → Entry → Bool
sets_again line entry =
    same_setting (setting_of line) (setting_of entry.line) || same_text (signer_of line) (signer_of entry.line)

-- they are about two names that look alike, or whose texts do
abbrev pub is_alike : Line → Entry → Bool
is_alike line entry =
    differ (owner_of line) (owner_of entry.line) && bytes_eq (look_in (shown_by line)) (look_in (shown_by entry.line))

abbrev pub fault_at : ℕ → Wrong → Fault
fault_at number wrong = record { line = Some number; wrong = wrong }

-- a mark in a wrong place: `begin` has no statement above it, and `end` has `begin` above it
abbrev pub misplaced : List Entry → Line → Option Wrong
misplaced above line =
    if is_begin line && not (length above == 0) then Some BeginBelow
    else if is_end line && not (has_begin above) then Some EndAlone
    else None

-- the statements above a line and that of the line, which sets nothing again, and is about no name that looks like another
abbrev pub with_placed : List Entry → ℕ → Line → Result (List Entry) Fault
with_placed above number line =
    if list_any (sets_again line) above then Err (fault_at number SetTwice)
    else if not (is_signable (shown_by line)) then Err (fault_at number SignedText)
    else if list_any (is_alike line) above then Err (fault_at number Alike)
    else Ok (above ++ record { number = number; line = line } ∷ [])

abbrev pub unless_wrong : ℕ → Option Wrong → Result (List Entry) Fault → Result (List Entry) Fault
unless_wrong number None next = next
unless_wrong number (Some wrong) next = Err (fault_at number wrong)

-- the same, of a line that is no mark in a wrong place
abbrev pub with_statement : List Entry → ℕ → Line → Result (List Entry) Fault
with_statement above number line = unless_wrong number (misplaced above line) (with_placed above number line)

abbrev pub with_read : List Entry → ℕ → Result Line Wrong → Result (List Entry) Fault
with_read above number (Err wrong) = Err (fault_at number wrong)
with_read above number (Ok line) = with_statement above number line

-- a line with nothing but a remark has no statement; below `end` there is no other
abbrev pub with_line : List Entry → ℕ → List ℕ → Result (List Entry) Fault
with_line above number text =
    if not (is_some (text_in text)) then Err (fault_at number NotUtf8)
    else if length (tokens_in text) == 0 then Ok above
    else if has_end above then Err (fault_at number AfterEnd)
    else with_read above number (statement_of (tokens_in text))

-- ---- the lines of a file

abbrev pub then_entries : Result (List Entry) Fault → (List Entry → Result (List Entry) Fault) → Result (List Entry) Fault
then_entries (Err fault) next = Err fault
then_entries (Ok entries) next = next entries

-- the statements of lines from that number on, below others; or the first line that is wrong
abbrev pub entries_from : List Entry → ℕ → List (List ℕ) → Result (List Entry) Fault
entries_from above number [] = Ok above
entries_from above number (text ∷ rest) =
    then_entries (with_line above number text) (λ entries. entries_from entries (number + 1) rest)

-- ---- the whole

abbrev pub has_setting : List Entry → ℕ → Bool
has_setting entries n = list_any (λ entry. same_setting (setting_of entry.line) (Some n)) entries

-- a line says what the role may do or read
abbrev pub is_described : List Entry → List ℕ → Bool
is_described entries role = list_any (λ entry. same_text (role_of entry.line) (Some role)) entries

-- a line says which roles the name has
abbrev pub is_holder : List Entry → List ℕ → Bool
is_holder entries name = list_any (λ entry. same_text (holder_of entry.line) (Some name)) entries

abbrev pub has_unknown_role : List Entry → Entry → Bool
has_unknown_role entries entry = not (list_all (is_described entries) (roles_of entry.line))

abbrev pub is_without_role : List Entry → Option (List ℕ) → Bool
is_without_role entries None = false
is_without_role entries (Some name) = not (is_holder entries name)

abbrev pub signs_without_role : List Entry → Entry → Bool
signs_without_role entries entry = is_without_role entries (signer_of entry.line)

-- the entry is wrong, if there is one
abbrev pub unless : Option Entry → Wrong → Result (List Entry) Fault → Result (List Entry) Fault
unless None wrong next = next
unless (Some entry) wrong next = Err (fault_at entry.number wrong)

-- what begins also ends; there is a site and a time zone; each role that a name has is described; and each name that signs has roles
unfoldable pub whole : List Entry → Result (List Entry) Fault
whole entries =
    if has_begin entries && not (has_end entries) then Err (record { line = None; wrong = CutOff })
    else if not (has_setting entries 0) then Err (record { line = None; wrong = NoSite })
    else if not (has_setting entries 1) then Err (record { line = None; wrong = NoZone })
    else unless (find (has_unknown_role entries) entries) UnknownRole
    (unless (find (signs_without_role entries) entries) NoRole (Ok entries))

-- the lines of a file, each without its line feed
abbrev pub lines_in : List ℕ → List (List ℕ)
lines_in text = slice_split (λ b. b == 10) text

-- the statements of lines, or why they are no settings: the first line that is wrong, or else what the whole lacks
unfoldable pub entries_of : List (List ℕ) → Result (List Entry) Fault
entries_of lines = then_entries (entries_from [] 1 lines) whole
