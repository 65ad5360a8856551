-- How the members of an act are read, and why they are refused: 2 (BadText) where one is missing, of another type or
-- not of its form, else 3 (BadNumber) where a number is out of its range. Source: own.
use Rattle.std.specs.Prelude.{ℕ, ℤ, ◌&&◌, Bool, List, nat_le, Option, Some, None, Result, Ok, Err, ok_or, option_and_then, if◌then◌else◌}
use Rattle.serde_json.specs.Data.{Data, Num}
use Rattle.serde_json.specs.Find.{as_number, as_str, as_u64}
use Rattle.office_days.specs.declared.offset.Offset.{Offset}
use Rattle.office_base.specs.declared.refusal.Refusal.{Refusal}
use Rattle.office_base.specs.declared.refusal.Refusal.TheVariants.{BadText, BadNumber}
use Rattle.office_days.specs.declared.unit.Unit.{Unit}
use Rattle.office_days.specs.Limits.{longest}
use Rattle.office_days.specs.Periods.{RetentionPeriod}
use Rattle.office_days.specs.Texts.{day_named}
use Rattle.office_days.specs.Words.{offset_named, unit_named}
use Rattle.office_records.specs.declared.action.Action.{Action}
use Rattle.office_records.specs.declared.trigger.Trigger.{Trigger}
use Rattle.office_records.specs.Codes.{code_named}
use Rattle.office_records.specs.TextForms.{text_named}
use Rattle.office_records.specs.Words.{action_named, trigger_named}
use Rattle.office_rules.specs.Digits.{digest_named}
use Rattle.office_rules.specs.Parts.{made}
use Rattle.office_json.specs.Members.{is_given}

-- ---- texts

-- a member that is a text which names something
abbrev pub named_part : {A : Type 0} → (List ℕ → Option A) → Option Data → Result A Refusal
named_part named member = ok_or (option_and_then named (option_and_then as_str member)) BadText

unfoldable pub day_part : Option Data → Result ℤ Refusal
day_part member = named_part day_named member

unfoldable pub code_part : Option Data → Result (List ℕ) Refusal
code_part member = named_part code_named member

unfoldable pub text_part : Option Data → Result (List ℕ) Refusal
text_part member = named_part text_named member

unfoldable pub trigger_part : Option Data → Result Trigger Refusal
trigger_part member = named_part trigger_named member

unfoldable pub offset_part : Option Data → Result Offset Refusal
offset_part member = named_part offset_named member

unfoldable pub action_part : Option Data → Result Action Refusal
action_part member = named_part action_named member

-- a digest, in 64 lower-case hexadecimal digits
unfoldable pub digest_part : Option Data → Result (List ℕ) Refusal
digest_part member = named_part digest_named member

-- ---- numbers

-- a thing has a number from 1 to 4,294,967,295
abbrev pub is_thing_number : ℕ → Bool
is_thing_number n = nat_le 1 n && nat_le n 4_294_967_295

-- the number of a thing
abbrev pub thing_numbered : ℕ → Result ℕ Refusal
thing_numbered n = if is_thing_number n then Ok n else Err BadNumber

abbrev pub thing_whole : Option ℕ → Result ℕ Refusal
thing_whole None = Err BadNumber
thing_whole (Some n) = thing_numbered n

abbrev pub thing_of : Option Num → Result ℕ Refusal
thing_of None = Err BadText
thing_of (Some number) = thing_whole (as_u64 number)

-- a member that is the number of a thing: a number that is negative or no whole one is out of range
unfoldable pub number_part : Option Data → Result ℕ Refusal
number_part member = thing_of (option_and_then as_number member)

abbrev pub count_of : Option Num → Result ℕ Refusal
count_of None = Err BadText
count_of (Some number) = ok_or (as_u64 number) BadNumber

-- a member that is a count
unfoldable pub count_part : Option Data → Result ℕ Refusal
count_part member = count_of (option_and_then as_number member)

abbrev pub period_of : Option Unit → Result ℕ Refusal → Result RetentionPeriod Refusal
period_of None count = Err BadText
period_of (Some unit) (Err e) = Err e
period_of (Some unit) (Ok count) =
    if nat_le count (longest unit) then Ok (record { unit = unit; count = count }) else Err BadNumber

-- a period, by the members for its unit and its count; a count over the unit's limit is out of range
unfoldable pub period_part : Option Data → Option Data → Result RetentionPeriod Refusal
period_part unit count = period_of (option_and_then unit_named (option_and_then as_str unit)) (count_part count)

-- ---- members that may be null

-- a part that may be null or missing, and then there is none
abbrev pub optional : {A : Type 0} → (Option Data → Result A Refusal) → Option Data → Result (Option A) Refusal
optional part member = if is_given member then made (λ a. Some a) (part member) else Ok None
