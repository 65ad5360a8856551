use Rattle.std.proofs.Common.{IfOk, List, Ok, Err, Result, subst}
use Rattle.office_policy.specs.Readings.{AreSettingsOf, IsReading}
use Rattle.office_policy.specs.declared.settings.Settings.{Settings}
use Rattle.office_settings.specs.Beginnings.{HasAllOrFault}
use Rattle.office_settings.specs.Files.{Entry}
use Rattle.office_settings.specs.declared.wrong.Fault.{Fault}
use Rattle.office_settings.proofs.Beginnings.{beginning}
use Rattle.office_policy.proofs.laws.law_of_cut_settings.Goals as goal

by_reading : (entries : List Entry) (read : Result Settings Fault) (cut : Result (List Entry) Fault) → HasAllOrFault entries cut → IsReading read cut
    → IfOk read (λ settings. AreSettingsOf entries settings)
by_reading entries (Ok settings) (Ok some) h r = subst (λ (es : List Entry). AreSettingsOf es settings) h r
by_reading entries (Ok settings) (Err fault) h r = absurd r
by_reading entries (Err fault) cut h r = tt

pub returns : goal.returns
returns c = λ text n entries read h b r. by_reading entries read _ (beginning text n entries h b) r
