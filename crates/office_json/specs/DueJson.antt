-- A due list in JSON. Source: own.
use Rattle.std.specs.Prelude.{List, map, codes}
use Rattle.serde_json.specs.Data.{Data, boolean, number, unsigned, string, array, object, Members, member, no_members, put}
use Rattle.serde_json.specs.View.{items_of}
use Rattle.office_records.specs.Words.{action_word}
use Rattle.office_rules.specs.Registers.{DueRowView}
use Rattle.office_json.specs.RecordJson.{day_data, or_null}

-- a row of what is due; the members are in the order of their names
unfoldable pub due_row_data : DueRowView → Data
due_row_data r = object
    (member (codes "action") (string (action_word r.action))
    (member (codes "class") (string r.class)
    (member (codes "confirmed") (boolean r.counts)
    (member (codes "due") (day_data r.due)
    (member (codes "held") (or_null string r.held)
    (member (codes "record") (number (unsigned r.number))
    (member (codes "ref") (string r.ref_text)
    (member (codes "schedule") (string r.schedule) no_members))))))))

-- the rows, in their order
abbrev pub due_data : List DueRowView → Data
due_data rows = array (items_of (map due_row_data rows))

-- ---- what the code puts, a few members at a time

unfoldable pub put_plan : DueRowView → Members → Members
put_plan r ms = put (codes "due") (day_data r.due) (put (codes "confirmed") (boolean r.counts)
    (put (codes "class") (string r.class) (put (codes "action") (string (action_word r.action)) ms)))

unfoldable pub put_rest : DueRowView → Members → Members
put_rest r ms = put (codes "schedule") (string r.schedule) (put (codes "ref") (string r.ref_text)
    (put (codes "record") (number (unsigned r.number)) (put (codes "held") (or_null string r.held) ms)))
