-- An answer, part by part, as a message of HTTP that `httparse` reads. Source: RFC 9112 sections 2.1, 4 and 5.
use Rattle.std.specs.Prelude.{ℕ, List, [], ◌∷◌, codes, decimal, length, Some}
use Rattle.httparse.specs.Grammar.{Field, ResponseHead, crlf}
use Rattle.office_http.specs.Replies.{Response, media_type_text, reason_phrase, status_number}
use Rattle.office_http.specs.declared.reply.Allow.{Allow}
use Rattle.office_http.specs.declared.reply.Allow.TheVariants as allows

-- a field line: one space before the value
abbrev pub field_of : List ℕ → List ℕ → Field
field_of name value = record { name = name; raw = 32 ∷ value; end = crlf }

-- the last field line
abbrev pub close_fields : List Field
close_fields = field_of (codes "Connection") (codes "close") ∷ []

-- with the field line of the method that is allowed, where one is reported
abbrev pub allow_fields : Allow → List Field
allow_fields allows.Absent = close_fields
allow_fields allows.Get = field_of (codes "Allow") (codes "GET") ∷ close_fields
allow_fields allows.Post = field_of (codes "Allow") (codes "POST") ∷ close_fields

-- the field lines: what the body is, how long it is, what is allowed, and that the connection is closed
abbrev pub message_fields : Response → List Field
message_fields r =
    field_of (codes "Content-Type") (media_type_text r.media_type)
    ∷ field_of (codes "Content-Length") (decimal (length r.body))
    ∷ allow_fields r.allow

-- the head: HTTP/1.1, the status code and its phrase, and the field lines
abbrev pub message_head : Response → ResponseHead
message_head r = record {
  blank = [];
  minor = 1;
  digits = decimal (status_number r.status);
  reason = Some (reason_phrase r.status);
  line_end = crlf;
  fields = message_fields r;
  last = crlf;
}
