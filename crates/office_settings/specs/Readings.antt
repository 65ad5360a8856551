-- What a reading of settings returned, beside what the definition says. Source: own.
use Rattle.std.specs.Prelude.{◌≡◌, List, Result, Ok, Err}
use Rattle.office_settings.specs.declared.wrong.Fault.{Fault}
use Rattle.office_settings.specs.declared.error.SettingsError.{SettingsError}
use Rattle.office_settings.specs.declared.error.SettingsError.TheVariants.{OutOfMemory, Refused}
use Rattle.office_settings.specs.Files.{Entry}

-- after an error: the definition has the same fault; nothing is known if memory ran out
abbrev pub IsRefused : SettingsError → Result (List Entry) Fault → Type 0
IsRefused OutOfMemory expected = Unit {0}
IsRefused (Refused fault) expected = expected ≡ Err fault

-- what was read has the entries of the definition, or the error is that of the definition
abbrev pub IsRead : {A : Type 0} → Result A SettingsError → (A → List Entry) → Result (List Entry) Fault → Type 0
IsRead (Ok done) entries expected = expected ≡ Ok (entries done)
IsRead (Err error) entries expected = IsRefused error expected

-- the same of entries that were appended
abbrev pub IsAppended : {A : Type 0} → Result A SettingsError → List Entry → Result (List Entry) Fault → Type 0
IsAppended result entries expected = IsRead result (λ _. entries) expected
