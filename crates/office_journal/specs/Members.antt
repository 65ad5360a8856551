-- The members of a line behind its number. Source: docs/ACCESS.md, "The journal", and the lines of companions/gate.
use Rattle.std.specs.Prelude.{◌≡◌, ◌<◌, ◌-◌, ℕ, List, [], ◌∷◌, ◌++◌, Bool, true, false, codes, decimal, Option, Some, None, IsSome, ⊤}
use Rattle.std.specs.List.{flat_map}
use Rattle.std.specs.Borrow.{Bor}
use Rattle.std.specs.Str.{IsUtf8}
use Rattle.hex.specs.Hex.{encode_lower}
use Rattle.json.specs.Json as json
use Rattle.json.specs.Json.{Json, document, max_depth, skip_value}
use Rattle.json.specs.Lex.{tokens}
use Rattle.json.specs.Print.{print}
use Rattle.json.specs.Strict.{HasUniqueKeys}
use Rattle.json.specs.Token.{Token, key, end_object}
use Rattle.json.specs.Tree.{depth, json_tokens, HasNumbers}
use Rattle.json.specs.Written.{Written}
use Rattle.office_journal.specs.declared.answered.Answered.{Answered}
use Rattle.office_journal.specs.declared.asked.Asked.{Asked}
use Rattle.office_journal.specs.declared.body.Body.{Body}
use Rattle.office_journal.specs.declared.contents.ContentsPlace.{ContentsPlace}
use Rattle.office_journal.specs.declared.preceding.FileBefore.{FileBefore}
use Rattle.office_journal.specs.declared.preceding.Preceding.{Preceding}
use Rattle.office_journal.specs.Shown.{shown}

-- ---- one member

-- a member: its name and its value
abbrev pub Field : Type 0
Field = List ℕ × Json

abbrev pub text_field : List ℕ → List ℕ → Field
text_field name text = (name, json.string text)

abbrev pub number_field : List ℕ → ℕ → Field
number_field name number = (name, json.number (decimal number))

abbrev pub digest_field : List ℕ → List ℕ → Field
digest_field name digest = (name, json.string (encode_lower digest))

-- members that are there only if they have a value

abbrev pub text_fields : List ℕ → Option (Bor (List ℕ)) → List Field
text_fields name None = []
text_fields name (Some text) = text_field name text.now ∷ []

abbrev pub number_fields : List ℕ → Option ℕ → List Field
number_fields name None = []
number_fields name (Some number) = number_field name number ∷ []

abbrev pub digest_fields : List ℕ → Option (List ℕ) → List Field
digest_fields name None = []
digest_fields name (Some digest) = digest_field name digest ∷ []

abbrev pub json_fields : List ℕ → Option Json → List Field
json_fields name None = []
json_fields name (Some j) = (name, j) ∷ []

abbrev pub json_fields_if_any : List ℕ → Option (Bor (List ℕ)) → List Field
json_fields_if_any name None = []
json_fields_if_any name (Some text) = json_fields name (document text.now)

-- the length of some bytes and their SHA-256
abbrev pub sum_field : List ℕ → Body → Field
sum_field name sum = (
  name,
  json.object (json.member (codes "bytes") (json.number (decimal sum.bytes))
      (json.member (codes "sha256") (json.string (encode_lower sum.sha256)) json.no_members)),
)

abbrev pub sum_fields : List ℕ → Option Body → List Field
sum_fields name None = []
sum_fields name (Some sum) = sum_field name sum ∷ []

abbrev pub flag_field : List ℕ → Bool → Field
flag_field name flag = (name, json.boolean flag)

-- a member that is there only with this value, since the other goes without saying
abbrev pub flag_fields : List ℕ → Bool → Bool → List Field
flag_fields name true true = flag_field name true ∷ []
flag_fields name true false = []
flag_fields name false true = []
flag_fields name false false = flag_field name false ∷ []

-- the file of a day that has the contents of the acts, and the place of the first one there

abbrev pub contents_field : ContentsPlace → Field
contents_field place = (
  codes "contents",
  json.object (json.member (codes "day") (json.string place.day.now)
      (json.member (codes "from") (json.number (decimal place.from)) json.no_members)),
)

abbrev pub contents_fields : Option ContentsPlace → List Field
contents_fields None = []
contents_fields (Some place) = contents_field place ∷ []

-- what precedes a line: a torn line, and the file before

abbrev pub file_field : FileBefore → Field
file_field before = (
  codes "after",
  json.object (json.member (codes "file") (json.string before.file.now)
      (json.member (codes "bytes") (json.number (decimal before.bytes)) json.no_members)),
)

abbrev pub file_fields : Option FileBefore → List Field
file_fields None = []
file_fields (Some before) = file_field before ∷ []

abbrev pub preceding_fields : Preceding → List Field
preceding_fields preceding = sum_fields (codes "torn") preceding.torn ++ file_fields preceding.after

-- a text is JSON, no object in it has a member twice, and a line that contains it can be read, which nests one level more
abbrev pub IsRead : List ℕ → Type 0
IsRead text = (j : Json) × (document text ≡ Some j) × HasUniqueKeys j × (depth j < max_depth)

-- a text can be read with one level more around it
abbrev pub HasRoom : List ℕ → Type 0
HasRoom text = IsSome (skip_value (max_depth - 1) (tokens text))

abbrev pub AreRead : Option (Bor (List ℕ)) → Type 0
AreRead None = ⊤
AreRead (Some text) = IsRead text.now

-- ---- the members of a line

-- the members that each line of a request begins with: when, what, who, where from, and the request
abbrev pub who_fields : List ℕ → List ℕ → List ℕ → List ℕ → List ℕ → List Field
who_fields at what name from request =
    text_field (codes "at") at ∷ text_field (codes "what") what ∷ text_field (codes "name") name
    ∷ text_field (codes "from") from ∷ text_field (codes "request") request ∷ []

abbrev pub asked_fields : Asked → List Field
asked_fields asked =
    who_fields asked.at.now (codes "asked") asked.name.now asked.from.now asked.request.now
    ++ text_fields (codes "reason") asked.reason ++ text_fields (codes "key") asked.key
    ++ sum_fields (codes "body") asked.body ++ json_fields_if_any (codes "acts") asked.acts
    ++ digest_field (codes "settings") asked.settings ∷ [] ++ json_fields_if_any (codes "earlier") asked.earlier
    ++ json_fields_if_any (codes "files") asked.files ++ contents_fields asked.contents
    ++ preceding_fields asked.preceding

abbrev pub IsAskedRead : Asked → Type 0
IsAskedRead asked = AreRead asked.acts × AreRead asked.earlier × AreRead asked.files

abbrev pub answered_fields : Answered → List Field
answered_fields answered =
    text_field (codes "at") answered.at.now ∷ text_field (codes "what") (codes "answered")
    ∷ number_field (codes "of") answered.of ∷ number_field (codes "status") answered.status
    ∷ (json_fields_if_any (codes "answers") answered.answers ++ json_fields_if_any (codes "fault") answered.fault
    ++ json_fields_if_any (codes "answer") answered.answer ++ text_fields (codes "position") answered.position
    ++ flag_fields (codes "repeated") answered.is_repeated true ++ flag_fields (codes "known") answered.is_known false
    ++ preceding_fields answered.preceding)

abbrev pub IsAnsweredRead : Answered → Type 0
IsAnsweredRead answered = AreRead answered.answers × AreRead answered.fault × AreRead answered.answer

-- ---- their text

abbrev pub field_tokens : Field → List Token
field_tokens field = key field.0 ∷ json_tokens field.1

abbrev pub fields_tokens : List Field → List Token
fields_tokens fields = flat_map field_tokens fields

-- what follows the number of a line: the members, and the brace that ends the object
unfoldable pub members_text : List Field → List ℕ
members_text fields = shown (print (fields_tokens fields ++ end_object ∷ []))

-- each number in the members is one of JSON
abbrev pub HaveNumbers : List Field → Type 0
HaveNumbers [] = ⊤
HaveNumbers (field ∷ fields) = HasNumbers field.1 × HaveNumbers fields

-- each value nests less deep than a reader goes, since the line is one level more
abbrev pub AreShallow : List Field → Type 0
AreShallow [] = ⊤
AreShallow (field ∷ fields) = (depth field.1 < max_depth) × AreShallow fields

-- the text of the members is JSON in UTF-8
pub record AreWritable (fields : List Field) : Type 0 where
  pub numbers : HaveNumbers fields
  pub utf8 : IsUtf8 (print (fields_tokens fields ++ end_object ∷ []))

-- members are written behind those before
pub record Puts (old new : Written) (fields : List Field) : Type 0 where
  pub before : new.before ≡ old.before
  pub tokens : new.tokens ≡ old.tokens ++ fields_tokens fields
  pub numbers : HaveNumbers fields
  pub shallow : AreShallow fields
