-- The acts that the bytes of a JSON array ask for, or the first value that asks for none. Source: RFC 8259 for JSON and
-- for the encoding of its texts, as `serde_json` reads them; the rest is own.
use Rattle.std.specs.Prelude.{◌≡◌, ℕ, ◌+◌, List, [], ◌∷◌, if◌then◌else◌, Option, Some, None, Result, Ok, Err}
use Rattle.std.specs.Str.{is_utf8}
use Rattle.serde_json.specs.Data.{Data, null, boolean, number, string, array, object, Items, no_items, item}
use Rattle.serde_json.specs.Read.{read}
use Rattle.office_base.specs.declared.refusal.Refusal.{Refusal}
use Rattle.office_json.specs.Acts.{parsed_act}
use Rattle.office_rules.specs.declared.act.Act.{Act}
use Rattle.office_json.specs.declared.lists.ListFault.{ListFault}
use Rattle.office_json.specs.declared.lists.ListFault.TheVariants as fault

-- the value that bytes are, where they are JSON
abbrev pub json_of : List ℕ → Option Data
json_of bytes = if is_utf8 bytes then read bytes else None

-- why bytes ask for no acts: they are no JSON array, or the value at a place, from 0, asks for no act
pub data NoActs : Type 0 where
  not_json : NoActs
  bad_act : ℕ → Refusal → NoActs

-- the act of the value at a place, and those of the values after it
abbrev pub and_act : ℕ → Result Act Refusal → Result (List Act) NoActs → Result (List Act) NoActs
and_act place (Ok act) (Ok acts) = Ok (act ∷ acts)
and_act place (Ok act) (Err why) = Err why
and_act place (Err refusal) rest = Err (bad_act place refusal)

-- the acts of values, of which the first has that place
abbrev pub acts_from : ℕ → Items → Result (List Act) NoActs
acts_from place no_items = Ok []
acts_from place (item value rest) = and_act place (parsed_act value) (acts_from (place + 1) rest)

-- the acts of an array
abbrev pub array_acts : Option Data → Result (List Act) NoActs
array_acts None = Err not_json
array_acts (Some null) = Err not_json
array_acts (Some (boolean b)) = Err not_json
array_acts (Some (number n)) = Err not_json
array_acts (Some (string s)) = Err not_json
array_acts (Some (array values)) = acts_from 0 values
array_acts (Some (object rest)) = Err not_json

-- the acts that bytes ask for
unfoldable pub acts_in : List ℕ → Result (List Act) NoActs
acts_in bytes = array_acts (json_of bytes)

-- ---- what the code answers

-- why no acts were read
abbrev pub IsListFault : Result (List Act) NoActs → ListFault → Type 0
IsListFault acts fault.NotJson = acts ≡ Err not_json
IsListFault acts (fault.BadAct place refusal) = acts ≡ Err (bad_act place refusal)
IsListFault acts fault.Memory = Unit {0}
