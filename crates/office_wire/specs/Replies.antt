-- The replies of HTTP to the requests at the office. Source: own; statuses are those of RFC 9110 section 15.
use Rattle.std.specs.Prelude.{ℕ, Bool, List, Option, Some, None, if◌then◌else◌}
use Rattle.std.specs.List.{list_any}
use Rattle.serde_json.specs.Data.{Data}
use Rattle.serde_json.specs.Written.{compact_text}
use Rattle.office_base.specs.declared.refusal.Refusal.{Refusal}
use Rattle.office_rules.specs.declared.entry.Entry.{Entry}
use Rattle.office_rules.specs.declared.answer.Answer.{Answer}
use Rattle.office_rules.specs.Answers.{is_refusal}
use Rattle.office_rules.specs.Registers.{DueRowView}
use Rattle.office_rules.specs.declared.record_view.RecordView.{RecordView}
use Rattle.office_store.specs.Faults.{fault_number}
use Rattle.office_store.specs.declared.fault.Fault.{Fault}
use Rattle.office_json.specs.Answers.{answer_data}
use Rattle.office_json.specs.DueJson.{due_data}
use Rattle.office_json.specs.OverdueJson.{overdue_data}
use Rattle.office_json.specs.RecordJson.{record_data}
use Rattle.office_json.specs.Replies.{answers_data, bad_act_data, fault_data, stopped_data}
use Rattle.office_http.specs.Replies.{Response, error_response}
use Rattle.office_http.specs.declared.request_error.RequestError.TheVariants as error
use Rattle.office_http.specs.declared.reply.Allow.TheVariants as allow
use Rattle.office_http.specs.declared.reply.MediaType.TheVariants as media_type
use Rattle.office_http.specs.declared.status.Status.{Status}
use Rattle.office_http.specs.declared.status.Status.TheVariants as status

-- an answer whose body is the text of a value in JSON
unfoldable pub json_response : Status → Data → Response
json_response code value = record { status = code; media_type = media_type.Json; allow = allow.Absent; body = compact_text value }

-- the status of what was answered: 409 where it is refused, else 200
abbrev pub answered_status : Bool → Status
answered_status is_refused = if is_refused then status.Conflict else status.Ok

-- the answers to acts
abbrev pub acts_response : List Answer → Response
acts_response answers = json_response (answered_status (list_any is_refusal answers)) (answers_data answers)

-- the answers to the acts before a fault, and the fault
abbrev pub stopped_response : List Answer → Fault → Response
stopped_response answers f = json_response status.ServiceUnavailable (stopped_data answers (fault_number f))

-- a fault
abbrev pub fault_response : Fault → Response
fault_response f = json_response status.ServiceUnavailable (fault_data (fault_number f))

-- the place of the first value that asks for no act, and its refusal
abbrev pub bad_act_response : ℕ → Refusal → Response
bad_act_response place refusal = json_response status.BadRequest (bad_act_data place refusal)

-- the answer to one act
abbrev pub answer_response : Answer → Response
answer_response it = json_response (answered_status (is_refusal it)) (answer_data it)

-- a record with the entry that ended it; 404 where there is none
abbrev pub record_response : Option RecordView → Option Entry → Response
record_response None ending = error_response error.Record
record_response (Some reported) ending = json_response status.Ok (record_data reported ending)

-- what is due
abbrev pub due_response : List DueRowView → Response
due_response rows = json_response status.Ok (due_data rows)

-- what is overdue, so many days after the due day
abbrev pub overdue_response : ℕ → List DueRowView → Response
overdue_response n rows = json_response status.Ok (overdue_data n rows)

-- a content; 404 where there is none
abbrev pub content_response : Option (List ℕ) → Response
content_response None = error_response error.Content
content_response (Some bytes) = record { status = status.Ok; media_type = media_type.Octets; allow = allow.Absent; body = bytes }

-- a certificate; 404 where there is none
abbrev pub certificate_response : Option (List ℕ) → Response
certificate_response None = error_response error.Certificate
certificate_response (Some text) = record { status = status.Ok; media_type = media_type.Plain; allow = allow.Absent; body = text }
