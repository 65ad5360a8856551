-- The texts that name a class, an aggregation or a record. Source: own.
use Rattle.std.specs.Prelude.{ℕ, ◌||◌, ◌==◌, Bool, eqb, is_none, List, length, drop, Option, Some, None, Result, Err, codes, ok_or, option_and_then, option_map, unwrap_or, if◌then◌else◌}
use Rattle.std.specs.List.{starts_with}
use Rattle.serde_json.specs.Data.{Data}
use Rattle.serde_json.specs.Find.{as_str}
use Rattle.office_base.specs.declared.refusal.Refusal.{Refusal}
use Rattle.office_base.specs.declared.refusal.Refusal.TheVariants.{BadText}
use Rattle.office_base.specs.Numerals.{number_named}
use Rattle.office_records.specs.declared.classified.Classified.{Classified}
use Rattle.office_records.specs.declared.classified.Classified.TheVariants as classified
use Rattle.office_records.specs.Codes.{code_named}
use Rattle.office_records.specs.declared.target.Target.{Target}
use Rattle.office_records.specs.declared.target.Target.TheVariants as target
use Rattle.office_rules.specs.Parts.{made}
use Rattle.office_json.specs.Parts.{thing_numbered}

-- what is after those bytes, in a text that begins with them
unfoldable pub after : List ℕ → List ℕ → Option (List ℕ)
after prefix text = if starts_with eqb text prefix then Some (drop (length prefix) text) else None

-- no zero is before another digit
abbrev pub is_plain : List ℕ → Bool
is_plain digits = length digits == 1 || is_none (after (codes "0") digits)

abbrev pub thing_read : Option ℕ → Result ℕ Refusal
thing_read None = Err BadText
thing_read (Some n) = thing_numbered n

-- the number of a thing in ASCII digits without leading zeros
unfoldable pub thing_named : List ℕ → Result ℕ Refusal
thing_named digits = if is_plain digits then thing_read (number_named digits) else Err BadText

-- what a text names by what is after those bytes, or else something else
abbrev pub by_rest : {A : Type 0} → List ℕ → (List ℕ → A) → List ℕ → A → A
by_rest prefix named text other = unwrap_or (option_map named (after prefix text)) other

-- what has a class: `aggregation:N` or `record:N`
unfoldable pub classified_named : List ℕ → Result Classified Refusal
classified_named text =
    by_rest (codes "aggregation:") (λ n. made (λ number. classified.Aggregation number) (thing_named n)) text
    (by_rest (codes "record:") (λ n. made (λ number. classified.Record number) (thing_named n)) text
    (Err BadText))

-- what has a class is a target
abbrev pub targeted : Classified → Target
targeted (classified.Aggregation number) = target.Aggregation number
targeted (classified.Record number) = target.Record number

-- a target: `class:CODE`, or what has a class
unfoldable pub target_named : List ℕ → Result Target Refusal
target_named text =
    by_rest (codes "class:") (λ code. made (λ class. target.Class class) (ok_or (code_named code) BadText)) text
    (made targeted (classified_named text))

-- a text, as it is read
abbrev pub read_text : {A : Type 0} → (List ℕ → Result A Refusal) → Option (List ℕ) → Result A Refusal
read_text named None = Err BadText
read_text named (Some text) = named text

unfoldable pub classified_part : Option Data → Result Classified Refusal
classified_part member = read_text classified_named (option_and_then as_str member)

unfoldable pub target_part : Option Data → Result Target Refusal
target_part member = read_text target_named (option_and_then as_str member)
