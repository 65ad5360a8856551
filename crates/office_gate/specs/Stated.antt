-- Who asks, by what a proxy states: one line has the secret of the proxy, one the name that signed in, and one the day.
-- Source: own.
use Rattle.std.specs.Prelude.{ℕ, ℤ, Bool, false, List, bytes_eq, codes, if◌then◌else◌, Option, Some, None}
use Rattle.std.specs.Option.{option_and_then}
use Rattle.office_access.specs.Settings.{Settings}
use Rattle.office_access.specs.declared.person.SignIn.{SignIn}
use Rattle.office_days.specs.Texts.{day_named}
use Rattle.office_gate.specs.Visitors.{Visitor}
use Rattle.office_gate.specs.declared.gate.Gate.{Gate}
use Rattle.office_http.specs.Fields.{Values, found_named, many, missing, one}
use Rattle.office_policy.specs.SignIns.{sign_in_as}
use Rattle.office_records.specs.TextForms.{text_named}
use Rattle.office_settings.specs.Looks.{text_in}

-- one line has this value
abbrev pub has_value : List ℕ → Values → Bool
has_value text missing = false
has_value text (one value) = bytes_eq value text
has_value text many = false

-- the text of the one line
abbrev pub stated_text : Values → Option (List ℕ)
stated_text missing = None
stated_text (one value) = text_in value
stated_text many = None

abbrev pub stated_name : Values → Option SignIn
stated_name name = option_and_then sign_in_as (option_and_then text_named (stated_text name))

abbrev pub stated_day : Values → Option ℤ
stated_day day = option_and_then day_named (stated_text day)

abbrev pub visitor_by : Settings → Option ℤ → Option SignIn → Option Visitor
visitor_by settings None name = None
visitor_by settings (Some today) None = None
visitor_by settings (Some today) (Some name) = Some (record { settings = settings; name = name; today = today })

-- by the lines for the secret, the name and the day
abbrev pub visitor_stated : Gate → Values → Values → Values → Option Visitor
visitor_stated gate token name day =
    if has_value gate.token token then visitor_by gate.policy (stated_day day) (stated_name name) else None

-- by all fields of a head
abbrev pub visitor_among : Gate → List (List ℕ × List ℕ) → Option Visitor
visitor_among gate fields =
    visitor_stated gate (found_named (codes "office-token") fields) (found_named (codes "office-name") fields)
    (found_named (codes "office-day") fields)
