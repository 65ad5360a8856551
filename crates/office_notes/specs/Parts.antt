-- What the code puts into an object: a value for each member, with the name of the member. Source: own.
use Rattle.std.specs.Borrow.{Bor}
use Rattle.std.specs.Prelude.{ℕ, List, map}
use Rattle.hex.specs.Hex.{encode_lower}
use Rattle.serde_json.specs.Data.{Data, string}
use Rattle.office_json.specs.RecordJson.{day_data, or_null}
use Rattle.office_notes.specs.Acts.{classified_text, content_note, count_data, target_text}
use Rattle.office_notes.specs.declared.part.Part.{Part}
use Rattle.office_notes.specs.declared.part.Part.TheVariants as part

-- the value of a member
abbrev pub part_data : Part → Data
part_data (part.Word word) = string word.now
part_data (part.Day day) = day_data day
part_data (part.Code code) = string code.now
part_data (part.CodeOrNull code) = or_null string code.now
part_data (part.Text text) = string text.now
part_data (part.Number n) = count_data n
part_data (part.NumberOrNull n) = or_null count_data n
part_data (part.Digest digest) = string (encode_lower digest.now)
part_data (part.Classified what) = string (classified_text what)
part_data (part.Target what) = string (target_text what.now)
part_data (part.Content content) = content_note content.now

-- a member: its name and its value
abbrev pub member_data : Bor (List ℕ) × Part → List ℕ × Data
member_data m = (m.0.now, part_data m.1)

abbrev pub members_data : List (Bor (List ℕ) × Part) → List (List ℕ × Data)
members_data members = map member_data members
