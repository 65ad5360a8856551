-- The bytes of an answer. Source: the message of RFC 9112 section 2.1; field lines, their order and the bodies are own.
use Rattle.std.specs.Prelude.{ℕ, List, [], ◌∷◌, ◌++◌, codes, decimal, length, Bool, if◌then◌else◌, string_bytes}
use Rattle.office_http.specs.declared.rejection.Rejection.{Rejection}
use Rattle.office_http.specs.declared.rejection.Rejection.TheVariants as rejections
use Rattle.office_http.specs.declared.request_error.RequestError.{RequestError}
use Rattle.office_http.specs.declared.request_error.RequestError.TheVariants as errors
use Rattle.office_http.specs.declared.status.Status.{Status}
use Rattle.office_http.specs.declared.status.Status.TheVariants as statuses
use Rattle.office_http.specs.declared.reply.Allow.{Allow}
use Rattle.office_http.specs.declared.reply.Allow.TheVariants as allows
use Rattle.office_http.specs.declared.reply.Body.{Body}
use Rattle.office_http.specs.declared.reply.Body.TheVariants as bodies
use Rattle.office_http.specs.declared.reply.MediaType.{MediaType}
use Rattle.office_http.specs.declared.reply.MediaType.TheVariants as media_types
use Rattle.office_http.specs.declared.reply.Reply.{Reply}

abbrev pub line_end : List ℕ
line_end = 13 ∷ 10 ∷ []

abbrev pub status_number : Status → ℕ
status_number statuses.Ok = 200
status_number statuses.BadRequest = 400
status_number statuses.Forbidden = 403
status_number statuses.NotFound = 404
status_number statuses.MethodNotAllowed = 405
status_number statuses.Conflict = 409
status_number statuses.LengthRequired = 411
status_number statuses.PayloadTooLarge = 413
status_number statuses.NotImplemented = 501
status_number statuses.ServiceUnavailable = 503

-- the reason phrases of RFC 9110 section 15; that of 413 is the one of RFC 7231
abbrev pub reason_phrase : Status → List ℕ
reason_phrase statuses.Ok = codes "OK"
reason_phrase statuses.BadRequest = codes "Bad Request"
reason_phrase statuses.Forbidden = codes "Forbidden"
reason_phrase statuses.NotFound = codes "Not Found"
reason_phrase statuses.MethodNotAllowed = codes "Method Not Allowed"
reason_phrase statuses.Conflict = codes "Conflict"
reason_phrase statuses.LengthRequired = codes "Length Required"
reason_phrase statuses.PayloadTooLarge = codes "Payload Too Large"
reason_phrase statuses.NotImplemented = codes "Not Implemented"
reason_phrase statuses.ServiceUnavailable = codes "Service Unavailable"

-- the status code and its phrase
unfoldable pub status_words : Status → List ℕ
status_words status = decimal (status_number status) ++ codes " " ++ reason_phrase status

-- the media type of the body
abbrev pub media_type_text : MediaType → List ℕ
media_type_text media_types.Json = codes "application/json"
media_type_text media_types.Octets = codes "application/octet-stream"
media_type_text media_types.Plain = codes "text/plain; charset=utf-8"

unfoldable pub media_type_line : MediaType → List ℕ
media_type_line media_type = codes "Content-Type: " ++ media_type_text media_type ++ line_end

-- which method the path takes, where another came
unfoldable pub allow_line : Allow → List ℕ
allow_line allows.Absent = []
allow_line allows.Get = codes "Allow: GET" ++ line_end
allow_line allows.Post = codes "Allow: POST" ++ line_end

-- the last field line, and the empty line
abbrev pub close_lines : List ℕ
close_lines = codes "Connection: close" ++ line_end ++ line_end

-- the first lines of a head: the status, and the media type of the body
abbrev pub head_start : Status → MediaType → List ℕ
head_start status media_type = codes "HTTP/1.1 " ++ (status_words status ++ (line_end ++ media_type_line media_type))

-- the other lines: the length of the body, the method that is taken, and the end
abbrev pub head_end : ℕ → Allow → List ℕ
head_end size allow =
    codes "Content-Length: " ++ (decimal size ++ (line_end ++ (allow_line allow ++ close_lines)))

-- the head of an answer
abbrev pub head_text : Status → MediaType → ℕ → Allow → List ℕ
head_text status media_type size allow = head_start status media_type ++ head_end size allow

-- an answer, wherever its body lies
pub record Response : Type 0 where
  pub status : Status
  pub media_type : MediaType
  pub allow : Allow
  pub body : List ℕ

abbrev pub body_bytes : Body → List ℕ
body_bytes (bodies.Fixed bytes) = bytes.now
body_bytes (bodies.Text text) = string_bytes text
body_bytes (bodies.Bytes bytes) = bytes.items

abbrev pub response : Reply → Response
response reply = record { status = reply.status; media_type = reply.media_type; allow = reply.allow; body = body_bytes reply.body }

abbrev pub response_head : Response → List ℕ
response_head r = head_text r.status r.media_type (length r.body) r.allow

-- the bytes of an answer; to HEAD those of its head alone
abbrev pub response_text : Bool → Response → List ℕ
response_text is_head r = if is_head then response_head r else response_head r ++ r.body

-- an answer that names an error by a word
abbrev pub error_word_response : Status → Allow → List ℕ → Response
error_word_response status allow word =
    record { status = status; media_type = media_types.Json; allow = allow; body = codes "{\"error\":\"" ++ word ++ codes "\"}" }

-- the answer where a check of the head fails
unfoldable pub check_response : Rejection → Response
check_response rejections.Host = error_word_response statuses.BadRequest allows.Absent (codes "host")
check_response rejections.Path = error_word_response statuses.NotFound allows.Absent (codes "path")
check_response rejections.NotGet = error_word_response statuses.MethodNotAllowed allows.Get (codes "method")
check_response rejections.NotPost = error_word_response statuses.MethodNotAllowed allows.Post (codes "method")
check_response rejections.TransferCoding = error_word_response statuses.NotImplemented allows.Absent (codes "coding")
check_response rejections.LengthMissing = error_word_response statuses.LengthRequired allows.Absent (codes "length")
check_response rejections.LengthInvalid = error_word_response statuses.BadRequest allows.Absent (codes "length")
check_response rejections.ContentTooLarge = error_word_response statuses.PayloadTooLarge allows.Absent (codes "size")

-- the answer where anything else fails that needs no number reported
unfoldable pub error_response : RequestError → Response
error_response errors.Head = error_word_response statuses.BadRequest allows.Absent (codes "head")
error_response errors.Body = error_word_response statuses.BadRequest allows.Absent (codes "body")
error_response errors.Json = error_word_response statuses.BadRequest allows.Absent (codes "json")
error_response errors.Memory = error_word_response statuses.ServiceUnavailable allows.Absent (codes "memory")
error_response errors.Record = error_word_response statuses.NotFound allows.Absent (codes "record")
error_response errors.Content = error_word_response statuses.NotFound allows.Absent (codes "content")
error_response errors.Certificate = error_word_response statuses.NotFound allows.Absent (codes "certificate")
error_response errors.Day = error_word_response statuses.BadRequest allows.Absent (codes "day")
error_response errors.Count = error_word_response statuses.BadRequest allows.Absent (codes "count")
