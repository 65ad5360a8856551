-- What is reported of a record, in JSON. Source: own.
use Rattle.std.specs.Prelude.{ℤ, Option, Some, None, codes}
use Rattle.serde_json.specs.Data.{Data, null, number, unsigned, string, object, Members, member, no_members, put}
use Rattle.office_days.specs.Calendar.{civil}
use Rattle.office_days.specs.Texts.{day_text}
use Rattle.office_records.specs.Words.{action_word, status_word}
use Rattle.office_records.specs.declared.head.Confirmation.{Confirmation}
use Rattle.office_rules.specs.Outcomes.{outcome_word}
use Rattle.office_rules.specs.declared.entry.Entry.{Entry}
use Rattle.office_rules.specs.declared.record_view.RecordView.{RecordView}
use Rattle.hex.specs.Hex.{encode_lower}

-- a day in its ten bytes
abbrev pub day_data : ℤ → Data
day_data day = string (day_text (civil day))

-- what is there, or null
abbrev pub or_null : {A : Type 0} → (A → Data) → Option A → Data
or_null reported None = null
or_null reported (Some x) = reported x

-- a confirmation
unfoldable pub confirmed_data : Confirmation → Data
confirmed_data c = object
    (member (codes "action") (string (action_word c.action))
    (member (codes "by") (string c.by)
    (member (codes "day") (day_data c.day)
    (member (codes "due") (day_data c.due) no_members))))

-- how and in which run a record was ended
unfoldable pub ended_data : Entry → Data
ended_data e =
    object (member (codes "outcome") (string (outcome_word e.outcome))
    (member (codes "run") (number (unsigned e.run)) no_members))

-- a record and the entry that ended it, if one did; the members are in the order of their names
unfoldable pub record_data : RecordView → Option Entry → Data
record_data r ending = object
    (member (codes "added") (day_data r.added)
    (member (codes "aggregation") (number (unsigned r.aggregation))
    (member (codes "class") (string r.class)
    (member (codes "confirmed") (or_null confirmed_data r.confirmed)
    (member (codes "digest") (string (encode_lower r.digest))
    (member (codes "due") (or_null day_data r.due)
    (member (codes "ended") (or_null ended_data ending)
    (member (codes "event") (or_null day_data r.event)
    (member (codes "held") (or_null string r.held)
    (member (codes "length") (number (unsigned r.length))
    (member (codes "number") (number (unsigned r.number))
    (member (codes "originated") (day_data r.originated)
    (member (codes "ref") (string r.ref_text)
    (member (codes "schedule") (string r.schedule)
    (member (codes "status") (string (status_word r.status))
    (member (codes "title") (string r.title) no_members))))))))))))))))

-- ---- what the code puts, a few members at a time

unfoldable pub put_first : RecordView → Members → Members
put_first r ms = put (codes "confirmed") (or_null confirmed_data r.confirmed) (put (codes "class") (string r.class)
    (put (codes "aggregation") (number (unsigned r.aggregation)) (put (codes "added") (day_data r.added) ms)))

unfoldable pub put_second : RecordView → Option Entry → Members → Members
put_second r ending ms = put (codes "held") (or_null string r.held) (put (codes "event") (or_null day_data r.event) (put (codes "ended") (or_null ended_data ending)
    (put (codes "due") (or_null day_data r.due) (put (codes "digest") (string (encode_lower r.digest)) ms))))

unfoldable pub put_third : RecordView → Members → Members
put_third r ms = put (codes "ref") (string r.ref_text) (put (codes "originated") (day_data r.originated)
    (put (codes "number") (number (unsigned r.number)) (put (codes "length") (number (unsigned r.length)) ms)))

unfoldable pub put_last : RecordView → Members → Members
put_last r ms =
    put (codes "title") (string r.title)
    (put (codes "status") (string (status_word r.status)) (put (codes "schedule") (string r.schedule) ms))
