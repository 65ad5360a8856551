-- What is noted has at most three levels, and no floats.
use Rattle.std.proofs.Common.{◌≡◌, refl, ℕ, ◌≤◌, List, [], ◌∷◌, ◌++◌, Option, Some, None, false, Ordering, Less, Equal, Greater, nat_cmp, arith}
use Rattle.std.proofs.lemmas.Bool.{or_from, or_parts}
use Rattle.std.specs.Borrow.{Bor}
use Rattle.std.specs.Cmp.Lexicographic.{slice_cmp}
use Rattle.std.specs.Ordering.{match_ordering}
use Rattle.serde_json.specs.Data.{Data, Members, no_members, member, put, string, depth, items_depth, members_depth}
use Rattle.serde_json.specs.View.{items_view, view}
use Rattle.serde_json.specs.declared.value.Value.{Value}
use Rattle.serde_json.specs.Written.{has_float, items_have_float, members_have_float}
use Rattle.office_json.specs.RecordJson.{or_null}
use Rattle.office_notes.specs.Acts.{count_data}
use Rattle.office_notes.specs.Objects.{IsFlat, with_members}
use Rattle.office_notes.specs.Parts.{members_data, part_data}
use Rattle.office_notes.specs.declared.part.Part.{Part}
use Rattle.office_notes.specs.declared.part.Part.TheVariants as part

-- ---- members

-- a value of at most one level, without a float
abbrev IsLow : Data → Type 0
IsLow d = (has_float d ≡ false) × (depth d ≤ 1)

code_low : (code : Option (List ℕ)) → IsLow (or_null string code)
code_low None = (refl, omega arith)
code_low (Some code) = (refl, omega arith)

number_low : (number : Option ℕ) → IsLow (or_null count_data number)
number_low None = (refl, omega arith)
number_low (Some number) = (refl, omega arith)

part_low : (p : Part) → IsLow (part_data p)
part_low (part.Word word) = (refl, omega arith)
part_low (part.Day day) = (refl, omega arith)
part_low (part.Code code) = (refl, omega arith)
part_low (part.CodeOrNull code) = code_low code.now
part_low (part.Text text) = (refl, omega arith)
part_low (part.Number n) = (refl, omega arith)
part_low (part.NumberOrNull n) = number_low n
part_low (part.Digest digest) = (refl, omega arith)
part_low (part.Classified what) = (refl, omega arith)
part_low (part.Target what) = (refl, omega arith)
part_low (part.Content content) = (refl, omega arith)

-- ---- objects

-- members of at most one level each, without a float
abbrev AreLow : Members → Type 0
AreLow ms = (members_have_float ms ≡ false) × (members_depth ms ≤ 1)

-- a member that is put beside others, wherever it comes
at_place : (o : Ordering) (k l : List ℕ) (d e : Data) (ms : Members) → IsLow d → AreLow (member l e ms) → AreLow (put k d ms)
    → AreLow (match_ordering o (member k d (member l e ms)) (member l d ms) (member l e (put k d ms)))
at_place Less k l d e ms one others later = (or_from _ _ one.0 others.0, omega arith)
at_place Equal k l d e ms one others later = (or_from _ _ one.0 (or_parts _ _ others.0).1, omega arith)
at_place Greater k l d e ms one others later = (or_from _ _ (or_parts _ _ others.0).0 later.0, omega arith)

put_low : (k : List ℕ) (d : Data) (ms : Members) → IsLow d → AreLow ms → AreLow (put k d ms)
put_low k d no_members one others = (or_from _ _ one.0 refl, omega arith)
put_low k d (member l e ms) one others =
    let rest : AreLow ms = ((or_parts (has_float e) (members_have_float ms) others.0).1, omega arith) in
    at_place (slice_cmp nat_cmp k l) k l d e ms one others (put_low k d ms one rest)

with_low : (members : List (Bor (List ℕ) × Part)) (ms : Members) → AreLow ms → AreLow (with_members (members_data members) ms)
with_low [] ms others = others
with_low (m ∷ rest) ms others = with_low rest (put m.0.now (part_data m.1) ms) (put_low m.0.now (part_data m.1) ms (part_low m.1) others)

-- members to which these were put
pub flat_put : (members : List (Bor (List ℕ) × Part)) (old new : Members) → old ≡ no_members → new ≡ with_members (members_data members) old
    → (members_have_float new ≡ false) × (members_depth new ≤ 1)
flat_put members old new none put_there = rw (put_there, none) (with_low members no_members (refl, omega arith))

-- ---- arrays

-- one more value of an array
pub more_flat : (vs : List Value) (v : Value) → (items_have_float (items_view vs) ≡ false) × (items_depth (items_view vs) ≤ 2) → IsFlat (view v)
    → (items_have_float (items_view (vs ++ v ∷ [])) ≡ false) × (items_depth (items_view (vs ++ v ∷ [])) ≤ 2)
more_flat [] v others one = (or_from _ _ one.0 refl, omega arith)
more_flat (e ∷ vs) v others one =
    let parts = or_parts (has_float (view e)) (items_have_float (items_view vs)) others.0 in
    let rest = more_flat vs v (parts.1, omega arith) one in
    (or_from _ _ parts.0 rest.0, omega arith)
