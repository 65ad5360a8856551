-- The first line of some bytes, by the place of their first line feed.
use Rattle.std.proofs.Common.{◌≡◌, ℕ, ◌+◌, ◌<◌, ◌≤◌, List, [], ◌∷◌, length, take, drop, get_or, Bool, true, false, not, Some, None, ◌==◌, arith, refl, ap, ◌∙◌}
use Rattle.std.specs.List.{All, position, position_or_len, slice_split}
use Rattle.std.specs.Str.Lines.{lines, lines_of_parts, strip_carriage_return}
use Rattle.std.proofs.lemmas.List.Quantifiers.{position-Some}
use Rattle.std.proofs.lemmas.List.Splits.{length-slice_split, slice_split_first, slice_split_none}
use Rattle.std.proofs.lemmas.List.Sums.{position_or_len_is, prefix_len_passes}
use Rattle.std.proofs.lemmas.Grind.{common_steps}

abbrev pub is_feed : ℕ → Bool
is_feed byte = byte == 10

lines_of_parts-cons : (part : List ℕ) (parts : List (List ℕ)) → 0 < length parts → lines_of_parts (part ∷ parts) ≡ strip_carriage_return part ∷ lines_of_parts parts
lines_of_parts-cons part [] some = absurd (omega arith)
lines_of_parts-cons part (next ∷ more) some = refl

lines_of_parts-alone : (line : List ℕ) → 0 < length line → lines_of_parts (line ∷ []) ≡ line ∷ []
lines_of_parts-alone [] some = absurd (omega arith)
lines_of_parts-alone (byte ∷ line) some = grind (arith, common_steps)

-- a line feed ends the first line
pub lines-feed : (rest : List ℕ) (end : ℕ) → position is_feed rest ≡ Some end → lines rest ≡ strip_carriage_return (take end rest) ∷ lines (drop (end + 1) rest)
lines-feed rest end found =
    let first = position-Some is_feed rest end 0 found in
    let place : position_or_len is_feed rest ≡ end = position_or_len_is is_feed rest end 0 (omega (arith, first.0)) first.2 (λ _. first.1) in
    let parts = slice_split_first is_feed rest 0 (omega (arith, first.0, place)) in
    let after = drop (end + 1) rest in
    ap lines_of_parts (rw place at parts) ∙ lines_of_parts-cons (take end rest) (slice_split is_feed after) (omega (arith, length-slice_split is_feed after))

position-None : (rest : List ℕ) → position is_feed rest ≡ None → length rest ≤ position_or_len is_feed rest
position-None rest none = grind arith

no_feed : (byte : ℕ) → not (is_feed byte) ≡ true → is_feed byte ≡ false
no_feed byte h = grind arith

-- with no line feed all bytes are one line
pub lines-alone : (rest : List ℕ) → 0 < length rest → position is_feed rest ≡ None → lines rest ≡ rest ∷ []
lines-alone rest some none =
    let long = position-None rest none in
    let clear : All (λ byte. is_feed byte ≡ false) rest = λ k d lt. no_feed (get_or rest k d) (prefix_len_passes (λ byte. not (is_feed byte)) rest k d (omega (arith, long, lt))) in
    ap lines_of_parts (slice_split_none is_feed rest clear) ∙ lines_of_parts-alone rest some
