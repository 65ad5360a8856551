-- A request that may change an office, and the two lines that the journal has for it. Source: docs/ACCESS.md, "The
-- journal".
use Rattle.std.specs.Prelude.{◌≡◌, ℕ, Bool, true, false, List, codes, length, Option, Some, None, Ok, ⊤}
use Rattle.std.specs.Borrow.{Bor}
use Rattle.std.specs.Option.{option_map}
use Rattle.serde_json.specs.Read.{read}
use Rattle.sha2.specs.Sha256.{sha256}
use Rattle.office_http.specs.Receiving.{OfficeRequest, acts, requested}
use Rattle.office_http.specs.Replies.{Response, status_number}
use Rattle.office_http.specs.declared.path_request.PathRequest.TheVariants as path
use Rattle.office_http.specs.declared.status.Status.{Status}
use Rattle.office_http.specs.declared.status.Status.TheVariants as status
use Rattle.office_journal.specs.declared.answered.Answered.{Answered}
use Rattle.office_journal.specs.declared.asked.Asked.{Asked}
use Rattle.office_journal.specs.declared.body.Body.{Body}
use Rattle.office_json.specs.Lists.{acts_in}
use Rattle.office_noting.specs.declared.visit.Visit.{Visit}
use Rattle.office_noting.specs.declared.visit.Wanted.{Wanted}
use Rattle.office_noting.specs.declared.visit.Wanted.TheVariants as wanted
use Rattle.office_notes.specs.Acts.{notes}
use Rattle.office_rules.specs.declared.act.Act.{Act}
use Rattle.office_settings.specs.Looks.{text_in}

-- ---- what is wanted

abbrev pub request_of : Wanted → OfficeRequest
request_of (wanted.Acts body all) = acts body.now
request_of wanted.Resumption = requested path.Resume

abbrev pub acts_of : Wanted → Option (List Act)
acts_of (wanted.Acts body all) = Some all.now
acts_of wanted.Resumption = None

-- the acts are those that are read of the body
abbrev pub IsListed : Wanted → Type 0
IsListed (wanted.Acts body all) = acts_in body.now ≡ Ok all.now
IsListed wanted.Resumption = ⊤

-- ---- the line of the request

abbrev pub request_name : OfficeRequest → List ℕ
request_name (acts body) = codes "POST /acts"
request_name _ = codes "POST /run/resume"

abbrev pub sum_of : List ℕ → Body
sum_of bytes = record { bytes = length bytes; sha256 = sha256 bytes }

abbrev pub body_sum : OfficeRequest → Option Body
body_sum (acts body) = Some (sum_of body)
body_sum _ = None

-- a text of JSON has these acts, each content by its length and SHA-256; or there are none
abbrev pub HasNotes : Option (List Act) → Option (Bor (List ℕ)) → Type 0
HasNotes None None = ⊤
HasNotes None (Some text) = ⊥
HasNotes (Some all) None = ⊥
HasNotes (Some all) (Some text) = read text.now ≡ Some (notes all)

-- the line has who asks, from where, and under which settings
pub record IsSentBy (visit : Visit) (asked : Asked) : Type 0 where
  pub name : asked.name.now ≡ visit.keeper.name.name
  pub from : asked.from.now ≡ visit.from.now
  pub settings : asked.settings ≡ visit.settings

-- and for what
pub record IsAsked (visit : Visit) (request : OfficeRequest) (all : Option (List Act)) (asked : Asked) : Type 0 where
  pub sender : IsSentBy visit asked
  pub asks : asked.request.now ≡ request_name request
  pub body : asked.body ≡ body_sum request
  pub notes : HasNotes all asked.acts

-- ---- the line of the answer

-- a list of acts is answered by a list, unless it is denied or a fault stops it
abbrev pub is_list_status : Status → Bool
is_list_status status.Ok = true
is_list_status status.Conflict = true
is_list_status _ = false

abbrev pub has_answers : OfficeRequest → Status → Bool
has_answers (acts body) it = is_list_status it
has_answers _ it = false

-- of a fault it is not known how much was done
abbrev pub is_known : Status → Bool
is_known status.ServiceUnavailable = false
is_known _ = true

-- a text of the line is what these bytes are, if they are a text
abbrev pub IsTextOf : List ℕ → Option (Bor (List ℕ)) → Type 0
IsTextOf bytes text = option_map (λ t. t.now) text ≡ text_in bytes

abbrev pub HasBody : Bool → List ℕ → Answered → Type 0
HasBody true body answered = IsTextOf body answered.answers × (answered.answer ≡ None)
HasBody false body answered = IsTextOf body answered.answer × (answered.answers ≡ None)

-- the line has an answer to what a line asks for
pub record HasAnswer (is_list : Bool) (line : ℕ) (r : Response) (answered : Answered) : Type 0 where
  pub asks : answered.of ≡ line
  pub status : answered.status ≡ status_number r.status
  pub body : HasBody is_list r.body answered
  pub known : answered.is_known ≡ is_known r.status

-- the line has the answer to a request
abbrev pub IsAnswered : OfficeRequest → ℕ → Response → Answered → Type 0
IsAnswered request line r answered = HasAnswer (has_answers request r.status) line r answered
