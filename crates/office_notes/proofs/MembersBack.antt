-- What is written for a member is read back.
use Rattle.std.proofs.Common.{◌≡◌, ◌∙◌, ap, sym, refl, eqb, ◌==◌, is_none, ok_or, ℕ, ℤ, ◌<◌, ◌≤◌, ◌^◌, List, [], ◌∷◌, codes, cond, decimal, length, nat_le, Bool, true, false, Option, Some, None, inl, inr, Ok, IfSome, arith, rules}
use Rattle.std.specs.Char.{is_ascii_digit}
use Rattle.std.specs.List.{All, list_all, starts_with}
use Rattle.std.specs.Str.Parse.{digits_value}
use Rattle.std.proofs.lemmas.Bool.{cases_lt, or_right}
use Rattle.std.proofs.lemmas.Bool.Decides.{nat_tests}
use Rattle.std.proofs.lemmas.Fmt.{decimal_nonempty, digits_decimal, digits_value-decimal, first_decimal}
use Rattle.std.proofs.lemmas.Str.Parse.{IsDigitsTest, IsNumeralModel, numerals_by_value}
use Rattle.std.proofs.Math.ListN.{get_or, get_or-eq_default}
use Rattle.base64.specs.Engines.{standard}
use Rattle.base64.specs.GeneralPurpose.{IsBytes, decoded_of}
use Rattle.base64.proofs.EngineFacts.{decode_of-encode_of}
use Rattle.hex.specs.Hex.{encode_lower}
use Rattle.serde_json.specs.Data.{string}
use Rattle.office_base.specs.Numerals.{number_named}
use Rattle.office_base.specs.declared.refusal.Refusal.TheVariants.{BadText}
use Rattle.office_base.proofs.Numerals.{number_named-digits}
use Rattle.office_days.specs.Calendar.{civil}
use Rattle.office_days.specs.Limits.{IsDayNumber, longest}
use Rattle.office_days.specs.Periods.{RetentionPeriod}
use Rattle.office_days.specs.Texts.{day_text}
use Rattle.office_days.specs.Words.{offset_word, unit_word}
use Rattle.office_days.specs.declared.month.Month.TheVariants.{January, February, March, April, May, June, July, August, September, October, November, December}
use Rattle.office_days.specs.declared.offset.Offset.{Offset}
use Rattle.office_days.specs.declared.offset.Offset.TheVariants.{AnyDay, FirstOfMonth, FirstOfQuarter, FirstOf}
use Rattle.office_days.specs.declared.unit.Unit.{Unit}
use Rattle.office_days.specs.declared.unit.Unit.TheVariants.{Days, Weeks, Months, Years}
use Rattle.office_days.proofs.Naming.{day_named-some}
use Rattle.office_json.specs.Contents.{content_part}
use Rattle.office_json.specs.Parts.{action_part, code_part, count_part, day_part, digest_part, is_thing_number, number_part, offset_part, optional, period_part, text_part, trigger_part}
use Rattle.office_json.specs.RecordJson.{day_data, or_null}
use Rattle.office_json.specs.Targets.{after, classified_named, classified_part, is_plain, target_named, target_part, thing_named}
use Rattle.office_notes.specs.Acts.{classified_text, content_data, count_data, target_text}
use Rattle.office_notes.specs.Laws.{AreThingNumbers, classified_numbers, parent_numbers, target_numbers}
use Rattle.office_records.specs.Codes.{is_code}
use Rattle.office_records.specs.Forms.{IsCode, IsDigest, IsText}
use Rattle.office_records.specs.TextForms.{is_text}
use Rattle.office_records.specs.Words.{action_word, trigger_word}
use Rattle.office_records.specs.declared.action.Action.{Action}
use Rattle.office_records.specs.declared.action.Action.TheVariants as action
use Rattle.office_records.specs.declared.classified.Classified.{Classified}
use Rattle.office_records.specs.declared.classified.Classified.TheVariants as classified
use Rattle.office_records.specs.declared.target.Target.{Target}
use Rattle.office_records.specs.declared.target.Target.TheVariants as target
use Rattle.office_records.specs.declared.trigger.Trigger.{Trigger}
use Rattle.office_records.specs.declared.trigger.Trigger.TheVariants.{Origin, Added, Closed, LastAddition, Review, Event}
use Rattle.office_rules.proofs.ReadDigests.{named_some}
use Rattle.office_rules.specs.HoldForms.{IsWellFormedTarget}

-- ---- texts

if_true : {A : Type 0} (b : Bool) (x y : A) → b ≡ true → cond b x y ≡ x
if_true b x y h = rw h refl

pub day_back : (day : ℤ) → IsDayNumber day → day_part (Some (day_data day)) ≡ Ok day
unfolding day_part
day_back day h = ap (λ (o : Option ℤ). ok_or o BadText) (day_named-some (day_text (civil day)) day h refl)

pub code_back : (code : List ℕ) → IsCode code → code_part (Some (string code)) ≡ Ok code
unfolding code_part
code_back code h = ap (λ (o : Option (List ℕ)). ok_or o BadText) (if_true (is_code code) (Some code) None h)

pub text_back : (text : List ℕ) → IsText text → text_part (Some (string text)) ≡ Ok text
unfolding text_part
text_back text h = ap (λ (o : Option (List ℕ)). ok_or o BadText) (if_true (is_text text) (Some text) None h)

pub digest_back : (digest : List ℕ) → IsDigest digest → digest_part (Some (string (encode_lower digest))) ≡ Ok digest
unfolding digest_part
digest_back digest h = ap (λ (o : Option (List ℕ)). ok_or o BadText) (sym (named_some (encode_lower digest) digest h refl))

pub trigger_back : (trigger : Trigger) → trigger_part (Some (string (trigger_word trigger))) ≡ Ok trigger
unfolding trigger_part
trigger_back Origin = refl
trigger_back Added = refl
trigger_back Closed = refl
trigger_back LastAddition = refl
trigger_back Review = refl
trigger_back Event = refl

pub action_back : (a : Action) → action_part (Some (string (action_word a))) ≡ Ok a
unfolding action_part
action_back action.Keep = refl
action_back action.Review = refl
action_back action.Transfer = refl
action_back action.Destroy = refl

pub offset_back : (offset : Offset) → offset_part (Some (string (offset_word offset))) ≡ Ok offset
unfolding offset_part
offset_back AnyDay = refl
offset_back FirstOfMonth = refl
offset_back FirstOfQuarter = refl
offset_back (FirstOf January) = refl
offset_back (FirstOf February) = refl
offset_back (FirstOf March) = refl
offset_back (FirstOf April) = refl
offset_back (FirstOf May) = refl
offset_back (FirstOf June) = refl
offset_back (FirstOf July) = refl
offset_back (FirstOf August) = refl
offset_back (FirstOf September) = refl
offset_back (FirstOf October) = refl
offset_back (FirstOf November) = refl
offset_back (FirstOf December) = refl

-- ---- numbers

pub number_back : (n : ℕ) → is_thing_number n ≡ true → number_part (Some (count_data n)) ≡ Ok n
unfolding number_part
number_back n h = rw h refl

within : (n most : ℕ) → n ≤ most → nat_le n most ≡ true
within n most h = grind (arith, nat_tests)

pub period_back : (period : RetentionPeriod) → period.count ≤ longest period.unit
    → period_part (Some (string (unit_word period.unit))) (Some (count_data period.count)) ≡ Ok period
unfolding period_part count_part
period_back period h = by_unit period.unit period.count h
  where
    by_unit : (unit : Unit) (count : ℕ) → count ≤ longest unit
        → period_part (Some (string (unit_word unit))) (Some (count_data count)) ≡ Ok (record { unit = unit; count = count })
    by_unit Days count h = rw (within count 182_500 h) refl
    by_unit Weeks count h = rw (within count 26_000 h) refl
    by_unit Months count h = rw (within count 6_000 h) refl
    by_unit Years count h = rw (within count 500 h) refl

-- ---- members that may be null

pub code_or_null_back : (code : Option (List ℕ)) → IfSome code IsCode → optional code_part (Some (or_null string code)) ≡ Ok code
code_or_null_back None h = refl
code_or_null_back (Some code) h = rw (code_back code h) refl

pub number_or_null_back : (n : Option ℕ) → AreThingNumbers (parent_numbers n)
    → optional number_part (Some (or_null count_data n)) ≡ Ok n
number_or_null_back None h = refl
number_or_null_back (Some n) h = rw (number_back n h.0) refl

-- ---- targets

reports_digits : IsDigitsTest (λ ds. list_all is_ascii_digit ds ≡ true)
reports_digits = search rules

model : IsNumeralModel (λ ds. list_all is_ascii_digit ds ≡ true) (digits_value 10)
model = numerals_by_value _ reports_digits

in_range : (n : ℕ) → is_thing_number n ≡ true → (1 ≤ n) × (n ≤ 4_294_967_295)
in_range n h = grind (arith, nat_tests)

named_back : (n : ℕ) → n < 2 ^ 64 → number_named (decimal n) ≡ Some n
named_back n h =
    number_named-digits (decimal n) (decimal_nonempty n h) (digits_decimal model n h)
    ∙ ap (λ (v : ℕ). Some v) (digits_value-decimal model n h)

other_start : (d : ℕ) (digits : List ℕ) → 48 < d → starts_with eqb (d ∷ digits) (codes "0") ≡ false
other_start d digits h = grind (arith, nat_tests)

-- a numeral that does not begin with a zero
plain_back : (digits : List ℕ) → 48 < get_or digits 0 0 → is_plain digits ≡ true
unfolding after
plain_back [] h = absurd (omega arith)
plain_back (d ∷ digits) h = or_right (length (d ∷ digits) == 1) (is_none (after (codes "0") (d ∷ digits))) (rw (other_start d digits h) refl)

thing_back : (n : ℕ) → is_thing_number n ≡ true → thing_named (decimal n) ≡ Ok n
unfolding thing_named
thing_back n h =
    let range = in_range n h in
    let low : n < 2 ^ 64 = omega (arith, range) in
    let plain : is_plain (decimal n) ≡ true = plain_back (decimal n) (first_decimal n (omega (arith, range)) low) in
    rw (plain, named_back n low, h) refl

pub classified_back : (what : Classified) → AreThingNumbers (classified_numbers what)
    → classified_part (Some (string (classified_text what))) ≡ Ok what
unfolding classified_part classified_named after
classified_back (classified.Aggregation n) h = rw (thing_back n h.0) refl
classified_back (classified.Record n) h = rw (thing_back n h.0) refl

pub target_back : (what : Target) → IsWellFormedTarget what → AreThingNumbers (target_numbers what)
    → target_part (Some (string (target_text what))) ≡ Ok what
unfolding target_part target_named classified_named after
target_back (target.Class code) formed h = rw formed refl
target_back (target.Aggregation n) formed h = rw (thing_back n h.0) refl
target_back (target.Record n) formed h = rw (thing_back n h.0) refl

-- ---- contents

all_bytes : (xs : List ℕ) → All (λ b. b < 256) xs → IsBytes xs
all_bytes xs small k =
    elim (cases_lt k (length xs)) [
      | inl within ↦ small k 0 within
      | inr past ↦ let zero : get_or xs k 0 ≡ 0 = get_or-eq_default xs 0 past in omega (arith, zero)
    ]

pub content_back : (content : List ℕ) → All (λ b. b < 256) content → length content ≤ 262_144 → content_part (Some (content_data content)) ≡ Ok content
unfolding content_part decoded_of
content_back content bytes few = rw (decode_of-encode_of standard content refl (all_bytes content bytes), within (length content) 262_144 few) refl
