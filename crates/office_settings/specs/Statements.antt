-- The grammar of the settings: which statement the words of a line are. Source: docs/ACCESS.md, "The settings".
use Rattle.std.specs.Prelude.{ℕ, ◌+◌, ◌==◌, ◌&&◌, ◌||◌, not, nat_lt, Bool, true, false, List, [], ◌∷◌, length, take, drop, position, codes, Option, Some, None, Result, Ok, Err, if◌then◌else◌}
use Rattle.std.specs.List.{list_all}
use Rattle.std.specs.Str.{bytes_eq}
use Rattle.office_settings.specs.declared.wrong.Wrong.{Wrong}
use Rattle.office_settings.specs.declared.wrong.Wrong.TheVariants.{Act, Beginning, Class, Condition, Journal, Keep, Limit, Mark, Name, NameLine, NothingFollows, Number, Role, RoleLine, Rule, SentActs, Site, Thing, Zone}
use Rattle.office_settings.specs.Addresses.{is_site, is_zone}
use Rattle.office_settings.specs.Forms.{is_class, is_name, is_role}
use Rattle.office_settings.specs.Keywords.{is_act, is_on_or_off, is_thing}
use Rattle.office_settings.specs.Numbers.{only_number}

-- a statement
pub data Line : Type 0 where
  -- the role may do these acts, for these classes, or without a limit if there are none
  may : List ℕ → List (List ℕ) → List (List ℕ) → Line
  -- the role reads these things, for these classes, and only what was sent, or not only
  reads : List ℕ → List (List ℕ) → List (List ℕ) → Bool → Line
  -- the name has these roles, for these classes
  has : List ℕ → List (List ℕ) → List (List ℕ) → Line
  -- every other name has these roles, for these classes
  others_have : List (List ℕ) → List (List ℕ) → Line
  -- the name signs the text of these words, each parted from the next by a space
  signs : List ℕ → List (List ℕ) → Line
  -- a rule that is on
  rule : List ℕ → Line
  -- whoever changed a due day within that number of days does not open
  changer : ℕ → Line
  -- these acts need a reason
  reason_for : List (List ℕ) → Line
  -- what a name may have at once, and what the journal may take of it on a day
  requests : ℕ → Line
  lists : ℕ → Line
  journal_bytes : ℕ → Line
  -- how long contents stay, and what filings leave free
  content_days : ℕ → Line
  free_megabytes : ℕ → Line
  -- whether the journal has each reading
  journals_readings : Bool → Line
  site : List ℕ → Line
  zone : List ℕ → Line
  -- the marks around a file, by which a part of it is known
  begins : Line
  ends : Line

-- the words before a mark and those after it; without the mark all come before it
pub record Parts : Type 0 where
  pub before : List (List ℕ)
  pub after : List (List ℕ)

abbrev pub parted_at : List (List ℕ) → Option ℕ → Result Parts Wrong
parted_at tokens None = Ok (record { before = tokens; after = [] })
parted_at tokens (Some n) =
    if nat_lt (n + 1) (length tokens) then Ok (record { before = take n tokens; after = drop (n + 1) tokens })
    else Err NothingFollows

unfoldable pub parted : List ℕ → List (List ℕ) → Result Parts Wrong
parted mark tokens = parted_at tokens (position (λ token. bytes_eq token mark) tokens)

-- ---- roles

-- whether the words after `if` are the one that is known, or there are none
unfoldable pub is_condition : List (List ℕ) → Bool
is_condition [] = true
is_condition (token ∷ []) = bytes_eq token (codes "sent")
is_condition (first ∷ second ∷ rest) = false

abbrev pub acts_line : List ℕ → Parts → Result Line Wrong
acts_line role parts =
    if length parts.before == 0 then Err Act
    else if not (list_all is_act parts.before) then Err Act
    else if not (list_all is_class parts.after) then Err Class
    else Ok (may role parts.before parts.after)

abbrev pub things_line : List ℕ → Bool → Parts → Result Line Wrong
things_line role sent parts =
    if length parts.before == 0 then Err Thing
    else if not (list_all is_thing parts.before) then Err Thing
    else if not (list_all is_class parts.after) then Err Class
    else Ok (reads role parts.before parts.after sent)

abbrev pub then_line : Result Parts Wrong → (Parts → Result Line Wrong) → Result Line Wrong
then_line (Err wrong) next = Err wrong
then_line (Ok parts) next = next parts

-- what follows `may` and `reads`
unfoldable pub may_line : List ℕ → List (List ℕ) → Result Line Wrong
may_line role rest =
    then_line (parted (codes "if") rest)
    (λ condition. if not (is_condition condition.after) then Err Condition
    else then_line (parted (codes "in") condition.before)
    (λ parts. if length condition.after == 0 then acts_line role parts else Err SentActs))

unfoldable pub reads_line : List ℕ → List (List ℕ) → Result Line Wrong
reads_line role rest =
    then_line (parted (codes "if") rest)
    (λ condition. if not (is_condition condition.after) then Err Condition
    else then_line (parted (codes "in") condition.before)
    (things_line role (nat_lt 0 (length condition.after))))

unfoldable pub role_line : List (List ℕ) → Result Line Wrong
role_line [] = Err RoleLine
role_line (role ∷ []) = Err RoleLine
role_line (role ∷ verb ∷ rest) =
    if (length rest == 0) || not (bytes_eq verb (codes "may") || bytes_eq verb (codes "reads")) then Err RoleLine
    else if not (is_role role) then Err Role
    else if bytes_eq verb (codes "may") then may_line role rest else reads_line role rest

-- ---- names

unfoldable pub is_line : List ℕ → Parts → Result Line Wrong
is_line name parts =
    if not (list_all is_class parts.after) then Err Class
    else if bytes_eq name (codes "*") then Ok (others_have parts.before parts.after)
    else Ok (has name parts.before parts.after)

unfoldable pub name_line : List (List ℕ) → Result Line Wrong
name_line [] = Err NameLine
name_line (name ∷ []) = Err NameLine
name_line (name ∷ verb ∷ rest) =
    if length rest == 0 then Err NameLine
    else if bytes_eq verb (codes "is") then
    (if not (is_name name) && not (bytes_eq name (codes "*")) then Err Name
    else then_line (parted (codes "in") rest) (is_line name))
    else if not (bytes_eq verb (codes "signs")) then Err NameLine
    else if not (is_name name) then Err Name
    else Ok (signs name rest)

-- ---- rules, limits and the site

abbrev pub numbered : (ℕ → Line) → Option ℕ → Result Line Wrong
numbered line None = Err Number
numbered line (Some n) = Ok (line n)

abbrev pub reason_line : List (List ℕ) → Result Line Wrong
reason_line acts =
    if length acts == 0 then Err Act else if list_all is_act acts then Ok (reason_for acts) else Err Act

unfoldable pub rule_line : List (List ℕ) → Result Line Wrong
rule_line [] = Err Rule
rule_line (token ∷ rest) =
    if bytes_eq token (codes "changer-does-not-open") then numbered changer (only_number 1 3_650 rest)
    else if bytes_eq token (codes "reason-for") then reason_line rest
    else if is_on_or_off token && (length rest == 0) then Ok (rule token)
    else Err Rule

unfoldable pub limit_line : List (List ℕ) → Result Line Wrong
limit_line [] = Err Limit
limit_line (token ∷ rest) =
    if bytes_eq token (codes "requests") then numbered requests (only_number 1 1_000 rest)
    else if bytes_eq token (codes "lists") then numbered lists (only_number 1 100 rest)
    else if bytes_eq token (codes "journal-bytes") then numbered journal_bytes (only_number 10_000 1_000_000_000_000 rest)
    else Err Limit

unfoldable pub keep_line : List (List ℕ) → Result Line Wrong
keep_line [] = Err Keep
keep_line (token ∷ rest) =
    if bytes_eq token (codes "contents") then numbered content_days (only_number 0 366 rest)
    else if bytes_eq token (codes "free") then numbered free_megabytes (only_number 0 1_000_000 rest)
    else Err Keep

unfoldable pub journal_line : List (List ℕ) → Result Line Wrong
journal_line [] = Err Journal
journal_line (token ∷ []) =
    if bytes_eq token (codes "readings") then Ok (journals_readings true)
    else if bytes_eq token (codes "acts") then Ok (journals_readings false)
    else Err Journal
journal_line (first ∷ second ∷ rest) = Err Journal

unfoldable pub zone_line : List (List ℕ) → Result Line Wrong
zone_line [] = Err Zone
zone_line (token ∷ []) = if is_zone token then Ok (zone token) else Err Zone
zone_line (first ∷ second ∷ rest) = Err Zone

unfoldable pub site_line : List (List ℕ) → Result Line Wrong
site_line [] = Err Site
site_line (token ∷ []) = if is_site token then Ok (site token) else Err Site
site_line (first ∷ second ∷ rest) = Err Site

abbrev pub mark_line : Line → List (List ℕ) → Result Line Wrong
mark_line mark rest = if length rest == 0 then Ok mark else Err Mark

-- ---- the whole

-- the statement that words are, or the first reason why they are none
unfoldable pub statement_of : List (List ℕ) → Result Line Wrong
statement_of [] = Err Beginning
statement_of (token ∷ rest) =
    if bytes_eq token (codes "role") then role_line rest
    else if bytes_eq token (codes "name") then name_line rest
    else if bytes_eq token (codes "rule") then rule_line rest
    else if bytes_eq token (codes "limit") then limit_line rest
    else if bytes_eq token (codes "keep") then keep_line rest
    else if bytes_eq token (codes "journal") then journal_line rest
    else if bytes_eq token (codes "site") then site_line rest
    else if bytes_eq token (codes "zone") then zone_line rest
    else if bytes_eq token (codes "begin") then mark_line begins rest
    else if bytes_eq token (codes "end") then mark_line ends rest
    else Err Beginning
