-- What is overdue in JSON. Source: own.
use Rattle.std.specs.Prelude.{ℕ, List, map, codes}
use Rattle.serde_json.specs.Data.{Data, number, unsigned, string, array, object, Members, member, no_members, put}
use Rattle.serde_json.specs.View.{items_of}
use Rattle.office_days.specs.Due.{deadline_from}
use Rattle.office_records.specs.Words.{action_word}
use Rattle.office_rules.specs.Registers.{DueRowView}
use Rattle.office_json.specs.RecordJson.{day_data, or_null}

-- a row of what is overdue, so many days after the due day; the members are in the order of their names
unfoldable pub overdue_row_data : ℕ → DueRowView → Data
overdue_row_data n r = object
    (member (codes "action") (string (action_word r.action))
    (member (codes "class") (string r.class)
    (member (codes "deadline") (day_data (deadline_from r.due n))
    (member (codes "due") (day_data r.due)
    (member (codes "held") (or_null string r.held)
    (member (codes "record") (number (unsigned r.number))
    (member (codes "ref") (string r.ref_text)
    (member (codes "schedule") (string r.schedule) no_members))))))))

-- the rows, in their order
abbrev pub overdue_data : ℕ → List DueRowView → Data
overdue_data n rows = array (items_of (map (overdue_row_data n) rows))

-- ---- what the code puts first; then come the members of a row of what is due, from `held` on

unfoldable pub put_overdue : ℕ → DueRowView → Members → Members
put_overdue n r ms = put (codes "due") (day_data r.due) (put (codes "deadline") (day_data (deadline_from r.due n))
    (put (codes "class") (string r.class) (put (codes "action") (string (action_word r.action)) ms)))
