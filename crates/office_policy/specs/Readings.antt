-- What a file of settings says. Source: docs/ACCESS.md, "The settings".
use Rattle.std.specs.Prelude.{◌≡◌, false, List, Option, Some, None, Result, Ok, Err}
use Rattle.office_settings.specs.declared.wrong.Fault.{Fault}
use Rattle.office_settings.specs.declared.wrong.Wrong.TheVariants.{Alike}
use Rattle.office_settings.specs.Files.{Entry}
use Rattle.office_policy.specs.declared.settings.Settings.{Settings}
use Rattle.office_policy.specs.Limits.{limits_of, reasons_of, site_of, zone_of}
use Rattle.office_policy.specs.People.{are_apart, people_of}
use Rattle.office_policy.specs.Policies.{IsPolicyOf}

-- settings have the policy of the statements, and what these say beside the rights
pub record AreSettingsOf (entries : List Entry) (settings : Settings) : Type 0 where
  pub policy : IsPolicyOf entries settings.policy
  pub site : settings.site.items ≡ site_of entries
  pub zone : settings.zone.items ≡ zone_of entries
  pub limits : settings.limits ≡ limits_of entries
  pub reasons : settings.reasons.items ≡ reasons_of entries

-- there are none if a name or a text is that of another
abbrev pub HasSettings : List Entry → Option Settings → Type 0
HasSettings entries None = are_apart (people_of entries) ≡ false
HasSettings entries (Some settings) = AreSettingsOf entries settings

-- the settings are those of the statements, if a file has statements that nothing is wrong with; or the fault is that of
-- the file, or that two names are one
abbrev pub IsReading : Result Settings Fault → Result (List Entry) Fault → Type 0
IsReading (Ok settings) (Ok entries) = AreSettingsOf entries settings
IsReading (Ok settings) (Err fault) = ⊥
IsReading (Err fault) (Ok entries) = (are_apart (people_of entries) ≡ false) × (fault ≡ record { line = None; wrong = Alike })
IsReading (Err fault) (Err other) = other ≡ fault
