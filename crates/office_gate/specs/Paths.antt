-- Why a visitor may not have what a path asks for, in the office as it stands. Source: own.
use Rattle.std.specs.Prelude.{ℕ, Bool, false, ◌&&◌, if◌then◌else◌, Option, Some, None}
use Rattle.office_access.specs.Permits.{reading_denial_of, resumption_denial_of}
use Rattle.office_access.specs.Rights.{may_at_all}
use Rattle.office_access.specs.Settings.{grants_of}
use Rattle.office_access.specs.declared.denial.Denial.{Denial}
use Rattle.office_access.specs.declared.denial.Denial.TheVariants as denial
use Rattle.office_access.specs.declared.grants.Grants.{Grants}
use Rattle.office_access.specs.declared.power.Power.TheVariants as power
use Rattle.office_access.specs.declared.reading.Reading.{Reading}
use Rattle.office_access.specs.declared.reading.Reading.TheVariants as reading
use Rattle.office_gate.specs.Visitors.{Visitor}
use Rattle.office_http.specs.Receiving.{OfficeRequest, requested}
use Rattle.office_http.specs.declared.path_request.PathRequest.{PathRequest}
use Rattle.office_http.specs.declared.path_request.PathRequest.TheVariants as path
use Rattle.office_records.specs.Conditions.{is_under_way}
use Rattle.office_records.specs.Tree.{TreeState, class_of, has_record}
use Rattle.office_rules.specs.State.{Office}

-- a run sent the record to an archive, and none ended it
abbrev pub is_in_transit : TreeState → ℕ → Bool
is_in_transit tree r = has_record tree r && is_under_way tree r

-- of a record by its class, and by whether a run sent it to an archive and none ended it; what is not there lies in no
-- class
abbrev pub record_denial : Visitor → Office → Reading → Option ℕ → Option Denial
record_denial v s what None = reading_denial_of v.settings v.name what None false
record_denial v s what (Some r) =
    reading_denial_of v.settings v.name what (class_of s.tree r) (is_in_transit s.tree r)

-- of what lies in no class
abbrev pub whole_denial : Visitor → Reading → Option Denial
whole_denial v what = reading_denial_of v.settings v.name what None false

abbrev pub lists_denial_by : Option Grants → Option Denial
lists_denial_by None = Some denial.Name
lists_denial_by (Some grants) = if may_at_all grants (power.Read reading.Lists) then None else Some denial.Right

-- of lists: whoever has a right to lists of some class gets the rows of these classes
abbrev pub lists_denial : Visitor → Option Denial
lists_denial v = lists_denial_by (grants_of v.settings v.name)

-- why a visitor may not have it, if the visitor may not
abbrev pub path_denial : Visitor → Office → PathRequest → Option Denial
path_denial v s path.Resume = resumption_denial_of v.settings s v.name
path_denial v s (path.Record r) = record_denial v s reading.Records r
path_denial v s (path.Content r) = record_denial v s reading.Contents r
path_denial v s (path.Due day) = lists_denial v
path_denial v s (path.Overdue day count) = lists_denial v
path_denial v s (path.Certificate run) = whole_denial v reading.Certificates

-- of what is requested; acts are asked one by one, and what is no request of the office needs no right
abbrev pub request_denial : Visitor → Office → OfficeRequest → Option Denial
request_denial v s (requested request) = path_denial v s request
request_denial v s _ = None
