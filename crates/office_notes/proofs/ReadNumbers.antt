-- The numbers of an act that was read are from 1 to 4,294,967,295.
use Rattle.std.proofs.Common.{◌≡◌, refl, ℕ, List, [], ◌∷◌, codes, cond, Bool, true, false, Option, Some, None, Result, Ok, Err, IfOk, option_and_then, option_map, unwrap_or, ok_or}
use Rattle.std.specs.List.{list_any}
use Rattle.std.specs.Str.{bytes_eq}
use Rattle.serde_json.specs.Data.{Data, Num}
use Rattle.serde_json.specs.Find.{as_number, as_str, as_u64, get}
use Rattle.office_base.specs.Numerals.{number_named}
use Rattle.office_base.specs.declared.refusal.Refusal.{Refusal}
use Rattle.office_base.specs.declared.refusal.Refusal.TheVariants.{BadText, BadNumber}
use Rattle.office_json.specs.Acts.{add_aggregation_parsed, add_class_parsed, add_record_parsed, add_schedule_parsed, added, close_aggregation_parsed, confirm_parsed, event_parsed, fields_part, hold_off_parsed, hold_on_parsed, hold_target_part, lift_hold_parsed, open_run_parsed, parsed_act, place_hold_parsed, plain_parsed, receipt_parsed, reclassify_parsed, record_fields, review_parsed, run_step_parsed, set_class_schedule_parsed, set_record_schedule_parsed, word_parsed}
use Rattle.office_json.specs.Members.{has_only, is_given}
use Rattle.office_json.specs.Parts.{is_thing_number, number_part, optional, thing_numbered, thing_of, thing_whole}
use Rattle.office_json.specs.Targets.{after, classified_named, classified_part, is_plain, read_text, target_named, target_part, targeted, thing_named, thing_read}
use Rattle.office_notes.specs.Laws.{AreThingNumbers, classified_numbers, numbers_of, parent_numbers, target_numbers}
use Rattle.office_records.specs.Codes.{code_named}
use Rattle.office_records.specs.declared.classified.Classified.{Classified}
use Rattle.office_records.specs.declared.classified.Classified.TheVariants as classified
use Rattle.office_records.specs.declared.target.Target.{Target}
use Rattle.office_records.specs.declared.target.Target.TheVariants as target
use Rattle.office_rules.specs.Parts.{both, made}
use Rattle.office_rules.specs.declared.act.Act.{Act}
use Rattle.office_rules.specs.declared.act.Act.TheVariants as act

-- ---- what is so of each thing that was read

record Is {A : Type 0} (P : A → Type 0) (part : Result A Refusal) : Type 0 where
  holds : IfOk part P

by_test : {A : Type 0} (P : A → Type 0) (b : Bool) (x y : Result A Refusal) → Is P x → Is P y → Is P (cond b x y)
by_test P true x y h k = h
by_test P false x y h k = k

always : {A : Type 0} (P : A → Type 0) (x : Result A Refusal) → ((a : A) → P a) → Is P x
always P (Ok a) h = record { holds = h a }
always P (Err e) h = record { holds = tt }

of_made : {A B : Type 0} (P : B → Type 0) (f : A → B) (x : Result A Refusal) → Is (λ a. P (f a)) x → Is P (made f x)
of_made P f (Ok a) h = record { holds = h.holds }
of_made P f (Err e) h = record { holds = tt }

-- what is so of the first of two parts, and of the second
of_first : {A B : Type 0} (P : A → Type 0) (x : Result A Refusal) (y : Result B Refusal) → Is P x → Is (λ p. P p.0) (both x y)
of_first P (Ok a) (Ok b) h = record { holds = h.holds }
of_first P (Ok a) (Err f) h = record { holds = tt }
of_first P (Err e) (Ok b) h = record { holds = tt }
of_first P (Err e) (Err f) h = record { holds = tt }

of_second : {A B : Type 0} (P : B → Type 0) (x : Result A Refusal) (y : Result B Refusal) → Is P y → Is (λ p. P p.1) (both x y)
of_second P (Ok a) (Ok b) h = record { holds = h.holds }
of_second P (Ok a) (Err f) h = record { holds = tt }
of_second P (Err e) (Ok b) h = record { holds = tt }
of_second P (Err e) (Err f) h = record { holds = tt }

-- ---- numbers

abbrev IsOne : ℕ → Type 0
IsOne n = AreThingNumbers (n ∷ [])

numbered : (n : ℕ) → Is IsOne (thing_numbered n)
numbered n = by_case (is_thing_number n) refl
  where
    by_case : (b : Bool) → is_thing_number n ≡ b → Is IsOne (cond b (Ok n) (Err BadNumber))
    by_case true h = record { holds = (h, tt) }
    by_case false h = record { holds = tt }

whole_number : (o : Option ℕ) → Is IsOne (thing_whole o)
whole_number None = record { holds = tt }
whole_number (Some n) = numbered n

of_number : (o : Option Num) → Is IsOne (thing_of o)
of_number None = record { holds = tt }
of_number (Some n) = whole_number (as_u64 n)

number_read : (member : Option Data) → Is IsOne (number_part member)
unfolding number_part
number_read member = of_number (option_and_then as_number member)

parent_read : (member : Option Data) → Is (λ parent. AreThingNumbers (parent_numbers parent)) (optional number_part member)
parent_read member =
    by_test _ (is_given member) (made (λ a. Some a) (number_part member)) (Ok None)
    (of_made _ (λ a. Some a) (number_part member) (number_read member)) (record { holds = tt })

-- ---- targets

digits_read : (o : Option ℕ) → Is IsOne (thing_read o)
digits_read None = record { holds = tt }
digits_read (Some n) = numbered n

thing_is : (digits : List ℕ) → Is IsOne (thing_named digits)
unfolding thing_named
thing_is digits = by_test IsOne (is_plain digits) (thing_read (number_named digits)) (Err BadText) (digits_read (number_named digits)) (record { holds = tt })

rest_is : {A : Type 0} (P : A → Type 0) (named : List ℕ → Result A Refusal) (rest : Option (List ℕ)) (other : Result A Refusal)
    → ((text : List ℕ) → Is P (named text)) → Is P other → Is P (unwrap_or (option_map named rest) other)
rest_is P named None other h k = k
rest_is P named (Some text) other h k = h text

abbrev HasNumber : Classified → Type 0
HasNumber what = AreThingNumbers (classified_numbers what)

classified_is : (text : List ℕ) → Is HasNumber (classified_named text)
unfolding classified_named
classified_is text =
    rest_is HasNumber (λ n. made (λ number. classified.Aggregation number) (thing_named n)) (after (codes "aggregation:") text) _
    (λ n. of_made HasNumber (λ number. classified.Aggregation number) (thing_named n) (thing_is n))
    (rest_is HasNumber (λ n. made (λ number. classified.Record number) (thing_named n)) (after (codes "record:") text) (Err BadText)
    (λ n. of_made HasNumber (λ number. classified.Record number) (thing_named n) (thing_is n)) (record { holds = tt }))

abbrev HasNumbers : Target → Type 0
HasNumbers what = AreThingNumbers (target_numbers what)

targeted_is : (what : Classified) → HasNumber what → HasNumbers (targeted what)
targeted_is (classified.Aggregation n) h = h
targeted_is (classified.Record n) h = h

weaker : {A : Type 0} (P Q : A → Type 0) (x : Result A Refusal) → ((a : A) → P a → Q a) → Is P x → Is Q x
weaker P Q (Ok a) f h = record { holds = f a h.holds }
weaker P Q (Err e) f h = record { holds = tt }

target_is : (text : List ℕ) → Is HasNumbers (target_named text)
unfolding target_named
target_is text =
    rest_is HasNumbers (λ code. made (λ class. target.Class class) (ok_or (code_named code) BadText)) (after (codes "class:") text) _
    (λ code. of_made HasNumbers (λ class. target.Class class) (ok_or (code_named code) BadText) (always _ (ok_or (code_named code) BadText) (λ class. tt)))
    (of_made HasNumbers targeted (classified_named text)
    (weaker HasNumber (λ what. HasNumbers (targeted what)) (classified_named text) targeted_is (classified_is text)))

text_is : {A : Type 0} (P : A → Type 0) (named : List ℕ → Result A Refusal) (text : Option (List ℕ)) → ((t : List ℕ) → Is P (named t)) → Is P (read_text named text)
text_is P named None h = record { holds = tt }
text_is P named (Some text) h = h text

classified_read : (member : Option Data) → Is HasNumber (classified_part member)
unfolding classified_part
classified_read member = text_is HasNumber classified_named (option_and_then as_str member) classified_is

target_read : (member : Option Data) → Is HasNumbers (target_part member)
unfolding target_part
target_read member = text_is HasNumbers target_named (option_and_then as_str member) target_is

-- ---- the kinds

abbrev Good : Act → Type 0
Good a = AreThingNumbers (numbers_of a)

-- an object without a strange member
only_is : (b : Bool) (x : Result Act Refusal) → Is Good x → Is Good (cond b x (Err BadText))
only_is b x h = by_test Good b x (Err BadText) h (record { holds = tt })

schedule_is : (d : Data) → Is Good (add_schedule_parsed d)
unfolding add_schedule_parsed
schedule_is d = only_is _ _ (of_made Good _ _ (always _ _ (λ p. tt)))

class_is : (d : Data) → Is Good (add_class_parsed d)
unfolding add_class_parsed
class_is d = only_is _ _ (of_made Good _ _ (always _ _ (λ p. tt)))

class_schedule_is : (d : Data) → Is Good (set_class_schedule_parsed d)
unfolding set_class_schedule_parsed
class_schedule_is d = only_is _ _ (of_made Good _ _ (always _ _ (λ p. tt)))

aggregation_is : (d : Data) → Is Good (add_aggregation_parsed d)
unfolding add_aggregation_parsed
aggregation_is d =
    only_is _ _ (of_made Good _ _
    (of_second (λ p. AreThingNumbers (parent_numbers p.1.0)) _ _
    (of_second (λ p. AreThingNumbers (parent_numbers p.0)) _ _
    (of_first (λ parent. AreThingNumbers (parent_numbers parent)) _ _ (parent_read (get (codes "parent") d))))))

closing_is : (d : Data) → Is Good (close_aggregation_parsed d)
unfolding close_aggregation_parsed
closing_is d = only_is _ _ (of_made Good _ _ (of_second IsOne _ _ (number_read (get (codes "aggregation") d))))

record_is : (d : Data) → Is Good (add_record_parsed d)
unfolding add_record_parsed fields_part
record_is d =
    only_is _ _ (of_made Good added _
    (of_first (λ fields. IsOne fields.aggregation) _ _
    (of_made (λ fields. IsOne fields.aggregation) record_fields _
    (of_first (λ p. IsOne p.1) _ _ (of_second IsOne _ _ (number_read (get (codes "aggregation") d)))))))

record_schedule_is : (d : Data) → Is Good (set_record_schedule_parsed d)
unfolding set_record_schedule_parsed
record_schedule_is d =
    only_is _ _ (of_made Good _ _ (of_second (λ p. IsOne p.0) _ _ (of_first IsOne _ _ (number_read (get (codes "record") d)))))

reclassify_is : (d : Data) → Is Good (reclassify_parsed d)
unfolding reclassify_parsed
reclassify_is d =
    only_is _ _ (of_made Good _ _ (of_second (λ p. HasNumber p.0) _ _ (of_first HasNumber _ _ (classified_read (get (codes "target") d)))))

hold_is : (d : Data) → Is Good (place_hold_parsed d)
unfolding place_hold_parsed
hold_is d = only_is _ _ (of_made Good _ _ (always _ _ (λ p. tt)))

hold_target_is : (d : Data) → Is (λ p. HasNumbers p.1.1) (hold_target_part d)
unfolding hold_target_part
hold_target_is d =
    by_test _ _ _ (Err BadText)
    (of_second (λ p. HasNumbers p.1) _ _ (of_second HasNumbers _ _ (target_read (get (codes "target") d)))) (record { holds = tt })

hold_on_is : (d : Data) → Is Good (hold_on_parsed d)
unfolding hold_on_parsed
hold_on_is d = of_made Good _ _ (hold_target_is d)

hold_off_is : (d : Data) → Is Good (hold_off_parsed d)
unfolding hold_off_parsed
hold_off_is d = of_made Good _ _ (hold_target_is d)

lifting_is : (d : Data) → Is Good (lift_hold_parsed d)
unfolding lift_hold_parsed
lifting_is d = only_is _ _ (of_made Good _ _ (always _ _ (λ p. tt)))

confirm_is : (d : Data) → Is Good (confirm_parsed d)
unfolding confirm_parsed
confirm_is d = only_is _ _ (of_made Good _ _ (of_first (λ p. IsOne p.1) _ _ (of_second IsOne _ _ (number_read (get (codes "record") d)))))

review_is : (d : Data) → Is Good (review_parsed d)
unfolding review_parsed
review_is d = only_is _ _ (of_made Good _ _ (of_first (λ p. IsOne p.1) _ _ (of_second IsOne _ _ (number_read (get (codes "record") d)))))

receipt_is : (d : Data) → Is Good (receipt_parsed d)
unfolding receipt_parsed
receipt_is d = only_is _ _ (of_made Good _ _ (of_first (λ p. IsOne p.1) _ _ (of_second IsOne _ _ (number_read (get (codes "record") d)))))

event_is : (d : Data) → Is Good (event_parsed d)
unfolding event_parsed
event_is d = only_is _ _ (of_made Good _ _ (of_first (λ p. IsOne p.1) _ _ (of_second IsOne _ _ (number_read (get (codes "record") d)))))

run_is : (d : Data) → Is Good (open_run_parsed d)
unfolding open_run_parsed
run_is d = only_is _ _ (of_made Good _ _ (always _ _ (λ p. tt)))

no_numbers : Is Good (Ok act.RunStep)
no_numbers = record { holds = tt }

step_is : (d : Data) → Is Good (run_step_parsed d)
unfolding run_step_parsed
step_is d = only_is (has_only (λ name. list_any (bytes_eq name) (codes "act" ∷ [])) d) (Ok act.RunStep) no_numbers

plain_is : (word : List ℕ) (d : Data) → Is Good (plain_parsed word d)
unfolding plain_parsed
plain_is word d =
    by_test Good _ _ _ (schedule_is d)
    (by_test Good _ _ _ (class_is d)
    (by_test Good _ _ _ (class_schedule_is d)
    (by_test Good _ _ _ (aggregation_is d)
    (by_test Good _ _ _ (closing_is d)
    (by_test Good _ _ _ (record_schedule_is d)
    (by_test Good _ _ _ (reclassify_is d)
    (by_test Good _ _ _ (hold_is d)
    (by_test Good _ _ _ (hold_on_is d)
    (by_test Good _ _ _ (hold_off_is d)
    (by_test Good _ _ _ (lifting_is d)
    (by_test Good _ _ _ (confirm_is d)
    (by_test Good _ _ _ (review_is d)
    (by_test Good _ _ _ (receipt_is d)
    (by_test Good _ _ _ (event_is d)
    (by_test Good _ _ _ (run_is d)
    (by_test Good _ _ (Err BadText) (step_is d) (record { holds = tt })))))))))))))))))

word_is : (word : Option (List ℕ)) (d : Data) → Is Good (word_parsed word d)
word_is None d = record { holds = tt }
word_is (Some word) d = by_test Good (bytes_eq word (codes "add-record")) (add_record_parsed d) (plain_parsed word d) (record_is d) (plain_is word d)

act_is : (d : Data) → Is Good (parsed_act d)
unfolding parsed_act
act_is d = word_is (option_and_then as_str (get (codes "act") d)) d

pub read_numbers : (d : Data) (a : Act) → parsed_act d ≡ Ok a → AreThingNumbers (numbers_of a)
read_numbers d a e = let read : Is Good (Ok a) = rw e at (act_is d) in read.holds
