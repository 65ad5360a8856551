-- Requests in memory, as a source of connections. Source: own.
use Rattle.std.specs.Prelude.{List, drop, map}
use Rattle.office_wire.specs.Sources.{Sent, Traffic}
use Rattle.office_wire.specs.declared.request_list.RequestList.{RequestList}
use Rattle.office_wire.specs.declared.request_list.SentAnswer.{SentAnswer}

-- what went out to each request
abbrev pub sent_of : List SentAnswer → List Sent
sent_of answers = map (λ it. record { bytes = it.bytes.items; status = it.status }) answers

-- what a list reports: the requests that are to come, and what went out to those that came
abbrev pub traffic_of : RequestList → Traffic
traffic_of it =
    record { coming = map (λ bytes. bytes.now) (drop it.next it.requests.now); sent = sent_of it.answers.items }
