-- The policy that settings are. Source: docs/ACCESS.md, "The settings".
use Rattle.std.specs.Prelude.{◌≡◌, ℕ, false, List, [], map, Option, Some, None, if◌then◌else◌}
use Rattle.std.specs.List.{flat_map}
use Rattle.std.specs.Option.{is_some, option_map, option_to_list}
use Rattle.office_access.specs.Settings.{Settings}
use Rattle.office_settings.specs.Files.{Entry, owner_of, shown_by}
use Rattle.office_settings.specs.Looks.{look_in}
use Rattle.office_policy.specs.Granted.{held_by, text_of}
use Rattle.office_policy.specs.People.{are_apart, named_by, others_of, people_of}
use Rattle.office_policy.specs.Rules.{rules_of}

-- how a name, or a text that it signs, looks; no name signs in that looks longer than a text
abbrev pub looks_of : Entry → List (List ℕ)
looks_of entry = if is_some (owner_of entry.line) then option_to_list (text_of (look_in (shown_by entry.line))) else []

-- a policy has the names of the settings with exactly the rights that the lines give them; what names and texts look
-- like; the rights of every other name; and the rules
pub record IsPolicyOf (entries : List Entry) (policy : Settings) : Type 0 where
  pub people : map named_by policy.people ≡ people_of entries
  pub taken : policy.taken ≡ flat_map looks_of entries
  pub others : option_map held_by policy.others ≡ others_of entries
  pub rules : policy.rules ≡ rules_of entries

-- there is none if a name or a text is that of another
abbrev pub HasPolicy : List Entry → Option Settings → Type 0
HasPolicy entries None = are_apart (people_of entries) ≡ false
HasPolicy entries (Some policy) = IsPolicyOf entries policy
