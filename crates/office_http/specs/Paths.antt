-- What a request target names. Source: own; the origin form without a query of RFC 9112 section 3.2.1, and routes as
-- `matchit` reads them.
use Rattle.std.specs.Prelude.{ℕ, ◌==◌, ◌&&◌, Bool, List, [], codes, Option, option_map, Result, Ok, Err, unwrap_or, slice_get, not}
use Rattle.std.specs.List.{list_any, slice_split}
use Rattle.std.specs.Str.{is_utf8}
use Rattle.matchit.specs.Rows.{RowsOf}
use Rattle.matchit.specs.Order.{placed}
use Rattle.matchit.specs.Router.{RouteOf, route_from}
use Rattle.matchit.specs.Route.{Scan, parse_route}
use Rattle.matchit.specs.Seek.{first}
use Rattle.matchit.specs.declared.error.InsertError.{InsertError}
use Rattle.office_http.specs.declared.paths.Route.{Route}
use Rattle.office_http.specs.declared.paths.Route.TheVariants.{Acts, Resume, Record, Content, Due, Overdue, Certificate}

abbrev pub RouteList : Type 0
RouteList = RowsOf (RouteOf Route)

abbrev pub with_scanned : Result Scan InsertError → Route → RouteList → RouteList
with_scanned (Ok s) route routes = placed ((route_from s route).pattern, route_from s route) routes
with_scanned (Err e) route routes = routes

-- the routes with one more, as it is written down
abbrev pub with_route : List ℕ → Route → RouteList → RouteList
with_route text route routes = with_scanned (parse_route text) route routes

-- the paths that there are; `{n}`, `{day}` and `{count}` are one segment of at least one byte
unfoldable pub office_routes : RouteList
office_routes =
    with_route (codes "/certificates/{n}") Certificate
    (with_route (codes "/overdue/{day}/{count}") Overdue
    (with_route (codes "/due/{day}") Due
    (with_route (codes "/records/{n}/content") Content
    (with_route (codes "/records/{n}") Record
    (with_route (codes "/run/resume") Resume
    (with_route (codes "/acts") Acts []))))))

-- a target may be a path: it has no query, and is UTF-8
abbrev pub is_path : List ℕ → Bool
is_path target = not (list_any (λ byte. byte == 63) target) && is_utf8 target

-- what a path names
abbrev pub route_at : List ℕ → Option Route
route_at path = option_map (λ route. route.value) (first office_routes path)

-- the segment of a path at that place, where 1 is its first word, as `records` of `/records/8`: the second reports
-- which record, day or certificate is meant, and the third of `/overdue/{day}/{count}` how many days
abbrev pub path_segment : ℕ → List ℕ → List ℕ
path_segment place path = unwrap_or (slice_get (slice_split (λ byte. byte == 47) path) place) []
