-- What the members of an object report. Source: own.
use Rattle.std.specs.Borrow.{Bor}
use Rattle.std.specs.Prelude.{ℕ, List, [], ◌∷◌}
use Rattle.serde_json.specs.Data.{Data, Members, null, boolean, number, unsigned, string, put}
use Rattle.hex.specs.Hex.{encode_lower}
use Rattle.office_json.specs.RecordJson.{day_data}
use Rattle.office_json.specs.declared.member_value.MemberValue.{MemberValue}
use Rattle.office_json.specs.declared.member_value.MemberValue.TheVariants.{Nothing, Flag, Number, Text, Day, Due, Deadline, Digest}

-- what is reported, in JSON
abbrev pub member_data : MemberValue → Data
member_data Nothing = null
member_data (Flag flag) = boolean flag
member_data (Number n) = number (unsigned n)
member_data (Text text) = string text.now
member_data (Day day) = day_data day
member_data (Due day) = day_data day
member_data (Deadline day) = day_data day
member_data (Digest digest) = string (encode_lower digest.now)

-- with these members, put one after another
abbrev pub with_members : List (Bor (List ℕ) × MemberValue) → Members → Members
with_members [] ms = ms
with_members (m ∷ rest) ms = with_members rest (put m.0.now (member_data m.1) ms)
