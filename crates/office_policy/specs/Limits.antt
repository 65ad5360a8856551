-- What the settings say beside the rights. Source: docs/ACCESS.md, "The settings".
use Rattle.std.specs.Prelude.{ℕ, Bool, true, List, [], Option, Some, None}
use Rattle.std.specs.List.{find, flat_map}
use Rattle.std.specs.Option.{option_to_list}
use Rattle.office_access.specs.declared.power.Power.{Power}
use Rattle.office_settings.specs.Files.{Entry, same_setting, setting_of}
use Rattle.office_settings.specs.Statements.{Line}
use Rattle.office_settings.specs.Statements as line
use Rattle.office_policy.specs.declared.limits.Limits.{Limits}
use Rattle.office_policy.specs.Powers.{act_power}

-- the line that makes a setting, by the number of the setting
abbrev pub setting_line : ℕ → List Entry → Option Entry
setting_line number entries = find (λ entry. same_setting (setting_of entry.line) (Some number)) entries

-- the number of a line, or another
abbrev pub number_or : ℕ → Line → ℕ
number_or other (line.requests count) = count
number_or other (line.lists count) = count
number_or other (line.journal_bytes count) = count
number_or other (line.content_days days) = days
number_or other (line.free_megabytes count) = count
number_or other _ = other

abbrev pub number_by : ℕ → Option Entry → ℕ
number_by other None = other
number_by other (Some entry) = number_or other entry.line

abbrev pub is_reading : Line → Bool
is_reading (line.journals_readings is) = is
is_reading _ = true

abbrev pub is_reading_by : Option Entry → Bool
is_reading_by None = true
is_reading_by (Some entry) = is_reading entry.line

-- the limits of the lines, or without a line those of docs/ACCESS.md
unfoldable pub limits_of : List Entry → Limits
limits_of entries = record {
  requests = number_by 8 (setting_line 2 entries);
  lists = number_by 2 (setting_line 3 entries);
  journal_bytes = number_by 10_000_000 (setting_line 4 entries);
  content_days = number_by 3 (setting_line 5 entries);
  free_megabytes = number_by 256 (setting_line 6 entries);
  journals_readings = is_reading_by (setting_line 7 entries);
}

abbrev pub address_of : Line → List ℕ
address_of (line.site address) = address
address_of (line.zone name) = name
address_of _ = []

abbrev pub address_by : Option Entry → List ℕ
address_by None = []
address_by (Some entry) = address_of entry.line

-- the address of the site, and the name of the time zone
abbrev pub site_of : List Entry → List ℕ
site_of entries = address_by (setting_line 0 entries)

abbrev pub zone_of : List Entry → List ℕ
zone_of entries = address_by (setting_line 1 entries)

abbrev pub reasons_by : Line → List Power
reasons_by (line.reason_for acts) = flat_map (λ act. option_to_list (act_power act)) acts
reasons_by _ = []

-- the acts that need a reason
abbrev pub reasons_of : List Entry → List Power
reasons_of entries = flat_map (λ entry. reasons_by entry.line) entries
