-- What is done for a head: the first check that fails, or else what is asked for. Source: own; methods, fields and
-- targets are those of RFC 9110.
use Rattle.std.specs.Prelude.{◌≡◌, ℕ, ◌≤◌, List, codes, map, take, Bool, true, false, ◌==◌, nat_lt, if◌then◌else◌, bytes_eq, Option, Some, None}
use Rattle.std.specs.Result.{result_ok}
use Rattle.httparse.specs.Grammar.{RequestHead}
use Rattle.httparse.specs.Spans.{name_and_value, span_bytes, header_bytes, IsRequestAt}
use Rattle.httparse.specs.declared.spans.HeaderSpan.{HeaderSpan}
use Rattle.httparse.specs.declared.spans.RequestSpans.{RequestSpans}
use Rattle.office_days.specs.ConfirmCounts.{confirm_days_named}
use Rattle.office_days.specs.Texts.{day_named}
use Rattle.office_http.specs.Fields.{Values, missing, one, many, found_named}
use Rattle.office_http.specs.Numbers.{content_length, segment_number}
use Rattle.office_http.specs.Paths.{is_path, path_segment, route_at}
use Rattle.office_http.specs.declared.rejection.Rejection.TheVariants as rejections
use Rattle.office_http.specs.declared.paths.Route.{Route}
use Rattle.office_http.specs.declared.paths.Route.TheVariants as named_routes
use Rattle.office_http.specs.declared.request_plan.RequestPlan.{RequestPlan}
use Rattle.office_http.specs.declared.request_plan.RequestPlan.TheVariants.{Acts, Refuse, Serve}
use Rattle.office_http.specs.declared.path_request.PathRequest.TheVariants as requests

-- the body's length is within the limit of 1,048,576 bytes
abbrev pub sized_plan : Option ℕ → RequestPlan
sized_plan None = Refuse rejections.LengthInvalid
sized_plan (Some size) = if nat_lt 1_048_576 size then Refuse rejections.ContentTooLarge else Acts size

-- the body's length is said, by one field line
abbrev pub length_plan : Values → RequestPlan
length_plan missing = Refuse rejections.LengthMissing
length_plan (one value) = sized_plan (content_length value)
length_plan many = Refuse rejections.LengthInvalid

-- the body has no transfer coding
abbrev pub coding_plan : Values → Values → RequestPlan
coding_plan missing lengths = length_plan lengths
coding_plan (one value) lengths = Refuse rejections.TransferCoding
coding_plan many lengths = Refuse rejections.TransferCoding

abbrev pub acts_plan : List (List ℕ × List ℕ) → RequestPlan
acts_plan fields =
    coding_plan (found_named (codes "transfer-encoding") fields) (found_named (codes "content-length") fields)

-- the method is GET
abbrev pub get_plan : List ℕ → RequestPlan → RequestPlan
get_plan method plan = if bytes_eq method (codes "GET") then plan else Refuse rejections.NotGet

-- the method is POST
abbrev pub post_plan : List ℕ → RequestPlan → RequestPlan
post_plan method plan = if bytes_eq method (codes "POST") then plan else Refuse rejections.NotPost

-- what is done for a method at a path that names this
abbrev pub route_plan : Route → List ℕ → List ℕ → List (List ℕ × List ℕ) → RequestPlan
route_plan named_routes.Acts path method fields = post_plan method (acts_plan fields)
route_plan named_routes.Resume path method fields = post_plan method (Serve requests.Resume)
route_plan named_routes.Record path method fields =
    get_plan method (Serve (requests.Record (segment_number (path_segment 2 path))))
route_plan named_routes.Content path method fields =
    get_plan method (Serve (requests.Content (segment_number (path_segment 2 path))))
route_plan named_routes.Due path method fields = get_plan method (Serve (requests.Due (day_named (path_segment 2 path))))
route_plan named_routes.Overdue path method fields =
    get_plan method
    (Serve (requests.Overdue (day_named (path_segment 2 path)) (result_ok (confirm_days_named (path_segment 3 path)))))
route_plan named_routes.Certificate path method fields =
    get_plan method (Serve (requests.Certificate (segment_number (path_segment 2 path))))

-- the path names something
abbrev pub path_plan : Option Route → List ℕ → List ℕ → List (List ℕ × List ℕ) → RequestPlan
path_plan None path method fields = Refuse rejections.Path
path_plan (Some route) path method fields = route_plan route path method fields

-- the target is a path without a query
abbrev pub target_plan : List ℕ → List ℕ → List (List ℕ × List ℕ) → RequestPlan
target_plan target method fields =
    if is_path target then path_plan (route_at target) target method fields else Refuse rejections.Path

abbrev pub is_one : Values → Bool
is_one missing = false
is_one (one value) = true
is_one many = false

-- a head of HTTP/1.1 has exactly one Host line; one of HTTP/1.0 may have any number
abbrev pub has_host : ℕ → Values → Bool
has_host minor hosts = if minor == 1 then is_one hosts else true

-- what is done for a method, a target, a minor version and the fields: Host first, then target, method, transfer coding
-- and length
abbrev pub plan_of : List ℕ → List ℕ → ℕ → List (List ℕ × List ℕ) → RequestPlan
plan_of method target minor fields =
    if has_host minor (found_named (codes "host") fields) then target_plan target method fields else Refuse rejections.Host

-- the same, for a head
abbrev pub plan_at : RequestHead → RequestPlan
plan_at h = plan_of h.method h.target h.minor (map name_and_value h.fields)

-- the same, for a head in a buffer
abbrev pub plan_in : List ℕ → RequestSpans → List HeaderSpan → RequestPlan
plan_in buf head headers =
    plan_of (span_bytes buf head.method) (span_bytes buf head.path) head.version
    (map (header_bytes buf) (take head.headers headers))

-- the method is HEAD, so the head of the answer alone is written
abbrev pub is_head_method : List ℕ → Bool
is_head_method method = bytes_eq method (codes "HEAD")

-- a body that is asked for is within the limit
abbrev pub IsSized : RequestPlan → Type 0
IsSized (Refuse check) = Unit {0}
IsSized (Acts size) = size ≤ 1_048_576
IsSized (Serve request) = Unit {0}

-- what is done for a head that lies in a buffer: what its parts say there, and so what is done for any head that they
-- are
pub record IsPlanned (buf : List ℕ) (spans : RequestSpans) (headers : List HeaderSpan) (it : RequestPlan) : Type 0 where
  pub plan : it ≡ plan_in buf spans headers
  pub head : (h : RequestHead) → IsRequestAt buf headers spans h → it ≡ plan_at h
  pub sized : IsSized it
