-- What is written is a message of HTTP.
use Rattle.std.proofs.Common.{◌≡◌, ◌∙◌, sym, ap, refl, ℕ, ◌^◌, ◌<◌, List, [], ◌∷◌, ◌++◌, length, codes, decimal, arith, Bool, true, false, ◌&&◌, All, append_assoc, lit<}
use Rattle.std.proofs.lemmas.Bool.Decides.{nat_tests}
use Rattle.std.proofs.lemmas.Fmt.{digits_decimal}
use Rattle.std.proofs.lemmas.List.{append-nil}
use Rattle.std.proofs.lemmas.List.Elements.{All-cons, All-nil}
use Rattle.std.proofs.lemmas.List.Sums.{AllPass-from_list_all}
use Rattle.std.specs.Char.{is_ascii_digit}
use Rattle.std.specs.Fmt.{digits}
use Rattle.std.specs.List.{flat_map, list_all}
use Rattle.httparse.specs.Ascii.{crlf_bytes, space}
use Rattle.httparse.specs.Grammar.{AllPass, Field, IsField, IsResponseHead, ReadsResponse, crlf, is_token_byte, is_value_byte, print_field, print_response, print_section, print_version}
use Rattle.office_http.proofs.NumberLemmas.{both_true, digits_model}
use Rattle.office_http.specs.Messages.{allow_fields, close_fields, field_of, message_fields, message_head}
use Rattle.office_http.specs.Replies.{Response, allow_line, close_lines, head_end, head_start, media_type_line, line_end, media_type_text, reason_phrase, response_head, response_text, status_number, status_words}
use Rattle.office_http.specs.declared.reply.Allow.{Allow}
use Rattle.office_http.specs.declared.reply.Allow.TheVariants as allows
use Rattle.office_http.specs.declared.reply.MediaType.{MediaType}
use Rattle.office_http.specs.declared.reply.MediaType.TheVariants as media_types
use Rattle.office_http.specs.declared.status.Status.{Status}
use Rattle.office_http.specs.declared.status.Status.TheVariants as statuses

-- the first lines and what follows them
start : (s : Status) (k : MediaType) (rest : List ℕ) → head_start s k ++ rest ≡ print_version 1 ++ space ∷ decimal (status_number s) ++ (space ∷ reason_phrase s) ++ crlf_bytes ++ (media_type_line k ++ rest)
unfolding status_words digits
start statuses.Ok k rest = refl
start statuses.BadRequest k rest = refl
start statuses.Forbidden k rest = refl
start statuses.NotFound k rest = refl
start statuses.MethodNotAllowed k rest = refl
start statuses.Conflict k rest = refl
start statuses.LengthRequired k rest = refl
start statuses.PayloadTooLarge k rest = refl
start statuses.NotImplemented k rest = refl
start statuses.ServiceUnavailable k rest = refl

allowed : (a : Allow) → allow_line a ++ close_lines ≡ print_section (allow_fields a) crlf
unfolding allow_line
allowed allows.Absent = refl
allowed allows.Get = refl
allowed allows.Post = refl

-- the line of the length, and what follows it
sized : (value : List ℕ) (fields : List Field) → codes "Content-Length: " ++ (value ++ (line_end ++ print_section fields crlf)) ≡ print_section (field_of (codes "Content-Length") value ∷ fields) crlf
sized value fields =
    let rest : List ℕ = print_section fields crlf in
    ap (λ (t : List ℕ). codes "Content-Length: " ++ t)
    (sym (append_assoc (value ++ crlf_bytes) (flat_map print_field fields) crlf_bytes ∙ append_assoc value crlf_bytes rest))

-- the line of the media type, and what follows it
media_type_lines : (k : MediaType) (fields : List Field) → media_type_line k ++ print_section fields crlf ≡ print_section (field_of (codes "Content-Type") (media_type_text k) ∷ fields) crlf
unfolding media_type_line
media_type_lines media_types.Json fields = refl
media_type_lines media_types.Octets fields = refl
media_type_lines media_types.Plain fields = refl

section_is : (r : Response) → media_type_line r.media_type ++ head_end (length r.body) r.allow ≡ print_section (message_fields r) crlf
section_is r =
    ap (λ (t : List ℕ). media_type_line r.media_type ++ (codes "Content-Length: " ++ (decimal (length r.body) ++ (line_end ++ t)))) (allowed r.allow)
    ∙ ap (λ (t : List ℕ). media_type_line r.media_type ++ t) (sized (decimal (length r.body)) (allow_fields r.allow))
    ∙ media_type_lines r.media_type (field_of (codes "Content-Length") (decimal (length r.body)) ∷ allow_fields r.allow)

pub head_is : (r : Response) → response_head r ≡ print_response (message_head r)
unfolding print_response
head_is r =
    start r.status r.media_type (head_end (length r.body) r.allow)
    ∙ ap (λ (t : List ℕ). print_version 1 ++ space ∷ decimal (status_number r.status) ++ (space ∷ reason_phrase r.status) ++ crlf_bytes ++ t) (section_is r)

three_digits : (s : Status) → (length (decimal (status_number s)) ≡ 3) × AllPass is_ascii_digit (decimal (status_number s))
unfolding digits
three_digits statuses.Ok = (refl, AllPass-from_list_all is_ascii_digit (decimal (status_number statuses.Ok)) refl)
three_digits statuses.BadRequest = (refl, AllPass-from_list_all is_ascii_digit (decimal (status_number statuses.BadRequest)) refl)
three_digits statuses.Forbidden = (refl, AllPass-from_list_all is_ascii_digit (decimal (status_number statuses.Forbidden)) refl)
three_digits statuses.NotFound = (refl, AllPass-from_list_all is_ascii_digit (decimal (status_number statuses.NotFound)) refl)
three_digits statuses.MethodNotAllowed = (refl, AllPass-from_list_all is_ascii_digit (decimal (status_number statuses.MethodNotAllowed)) refl)
three_digits statuses.Conflict = (refl, AllPass-from_list_all is_ascii_digit (decimal (status_number statuses.Conflict)) refl)
three_digits statuses.LengthRequired = (refl, AllPass-from_list_all is_ascii_digit (decimal (status_number statuses.LengthRequired)) refl)
three_digits statuses.PayloadTooLarge = (refl, AllPass-from_list_all is_ascii_digit (decimal (status_number statuses.PayloadTooLarge)) refl)
three_digits statuses.NotImplemented = (refl, AllPass-from_list_all is_ascii_digit (decimal (status_number statuses.NotImplemented)) refl)
three_digits statuses.ServiceUnavailable = (refl, AllPass-from_list_all is_ascii_digit (decimal (status_number statuses.ServiceUnavailable)) refl)

phrase_bytes : (s : Status) → AllPass is_value_byte (reason_phrase s)
phrase_bytes statuses.Ok = AllPass-from_list_all is_value_byte (reason_phrase statuses.Ok) refl
phrase_bytes statuses.BadRequest = AllPass-from_list_all is_value_byte (reason_phrase statuses.BadRequest) refl
phrase_bytes statuses.Forbidden = AllPass-from_list_all is_value_byte (reason_phrase statuses.Forbidden) refl
phrase_bytes statuses.NotFound = AllPass-from_list_all is_value_byte (reason_phrase statuses.NotFound) refl
phrase_bytes statuses.MethodNotAllowed = AllPass-from_list_all is_value_byte (reason_phrase statuses.MethodNotAllowed) refl
phrase_bytes statuses.Conflict = AllPass-from_list_all is_value_byte (reason_phrase statuses.Conflict) refl
phrase_bytes statuses.LengthRequired = AllPass-from_list_all is_value_byte (reason_phrase statuses.LengthRequired) refl
phrase_bytes statuses.PayloadTooLarge = AllPass-from_list_all is_value_byte (reason_phrase statuses.PayloadTooLarge) refl
phrase_bytes statuses.NotImplemented = AllPass-from_list_all is_value_byte (reason_phrase statuses.NotImplemented) refl
phrase_bytes statuses.ServiceUnavailable = AllPass-from_list_all is_value_byte (reason_phrase statuses.ServiceUnavailable) refl

digit-value : (b : ℕ) → is_ascii_digit b ≡ true → is_value_byte b ≡ true
digit-value b h = grind (arith, nat_tests)

all_true : (a b : Bool) → a ≡ true → b ≡ true → (a && b) ≡ true
all_true true b e f = f
all_true false b e f = absurd (cc)

digits-value : (bs : List ℕ) → list_all is_ascii_digit bs ≡ true → list_all is_value_byte bs ≡ true
digits-value [] h = refl
digits-value (b ∷ bs) h =
    let both = both_true (is_ascii_digit b) (list_all is_ascii_digit bs) h in
    all_true (is_value_byte b) (list_all is_value_byte bs) (digit-value b both.0) (digits-value bs both.1)

is_field : (name value : List ℕ) → 0 < length name → list_all is_token_byte name ≡ true → list_all is_value_byte value ≡ true → IsField (field_of name value)
is_field name value some token bytes = record {
  name = (some, AllPass-from_list_all is_token_byte name token);
  raw = AllPass-from_list_all is_value_byte (32 ∷ value) bytes;
}

media_type_field : (k : MediaType) → IsField (field_of (codes "Content-Type") (media_type_text k))
unfolding is_token_byte
media_type_field media_types.Json = is_field (codes "Content-Type") (media_type_text media_types.Json) (lit< tt) refl refl
media_type_field media_types.Octets = is_field (codes "Content-Type") (media_type_text media_types.Octets) (lit< tt) refl refl
media_type_field media_types.Plain = is_field (codes "Content-Type") (media_type_text media_types.Plain) (lit< tt) refl refl

length_field : (n : ℕ) → n < 2 ^ 64 → IsField (field_of (codes "Content-Length") (decimal n))
unfolding is_token_byte
length_field n fits = is_field (codes "Content-Length") (decimal n) (lit< tt) refl (digits-value (decimal n) (digits_decimal digits_model n fits))

are_close : All IsField close_fields
unfolding is_token_byte
are_close = All-cons IsField _ [] (is_field (codes "Connection") (codes "close") (lit< tt) refl refl) (All-nil IsField)

are_allow : (a : Allow) → All IsField (allow_fields a)
unfolding is_token_byte
are_allow allows.Absent = are_close
are_allow allows.Get = All-cons IsField _ close_fields (is_field (codes "Allow") (codes "GET") (lit< tt) refl refl) are_close
are_allow allows.Post = All-cons IsField _ close_fields (is_field (codes "Allow") (codes "POST") (lit< tt) refl refl) are_close

is_head : (r : Response) → length r.body < 2 ^ 64 → IsResponseHead (message_head r)
is_head r fits = record {
  minor = omega arith;
  digits = three_digits r.status;
  reason = phrase_bytes r.status;
  fields = All-cons IsField _ (field_of (codes "Content-Length") (decimal (length r.body)) ∷ allow_fields r.allow) (media_type_field r.media_type) (All-cons IsField _ (allow_fields r.allow) (length_field (length r.body) fits) (are_allow r.allow));
}

pub is_message : (r : Response) → length r.body < 2 ^ 64 → ReadsResponse (response_text false r) (message_head r) r.body
is_message r fits = (is_head r fits, ap (λ (t : List ℕ). t ++ r.body) (head_is r))

pub is_message_head : (r : Response) → length r.body < 2 ^ 64 → ReadsResponse (response_text true r) (message_head r) []
is_message_head r fits = (is_head r fits, head_is r ∙ sym (append-nil (print_response (message_head r))))
