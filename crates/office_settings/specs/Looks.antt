-- How a text looks: without the case and the forms of its letters. Whoever reads two texts that look alike takes the one
-- for the other. Source: docs/ACCESS.md, "Names that look alike".
use Rattle.std.specs.Prelude.{ℕ, ◌==◌, ◌||◌, ◌&&◌, nat_le, Bool, true, false, List, [], length, chars, encode_utf8_all, Option, Some, None, if◌then◌else◌}
use Rattle.std.specs.List.{list_all}
use Rattle.std.specs.Str.{is_utf8}
use Rattle.caseless.specs.Caseless.{default_case_fold}
use Rattle.ucd_category.specs.GeneralCategory.{general_category}
use Rattle.ucd_category.specs.declared.GeneralCategory.{GeneralCategory}
use Rattle.ucd_category.specs.declared.GeneralCategory.TheVariants.{SpaceSeparator, LineSeparator, ParagraphSeparator, Control, Format, Surrogate, PrivateUse, Unassigned}
use Rattle.unicode_normalization.specs.Forms.{nfkc}

-- compatible forms of a letter are one letter
unfoldable pub normalized : List ℕ → List ℕ
normalized text = encode_utf8_all (nfkc (chars text))

-- a letter is the same, great or small
unfoldable pub folded : List ℕ → List ℕ
folded text = encode_utf8_all (default_case_fold (chars text))

unfoldable pub look : List ℕ → List ℕ
look text = normalized (folded (normalized text))

-- bytes as a text, if they are UTF-8
unfoldable pub text_in : List ℕ → Option (List ℕ)
text_in bytes = if is_utf8 bytes then Some bytes else None

-- how bytes look; what is no text looks like nothing
abbrev pub look_by : Option (List ℕ) → List ℕ
look_by None = []
look_by (Some text) = look text

unfoldable pub look_in : List ℕ → List ℕ
look_in bytes = look_by (text_in bytes)

-- a character that a page shows: no control character, no mark of a format, nothing private or unassigned, and no space
-- but U+0020
abbrev pub is_shown : GeneralCategory → Bool
is_shown SpaceSeparator = false
is_shown LineSeparator = false
is_shown ParagraphSeparator = false
is_shown Control = false
is_shown Format = false
is_shown Surrogate = false
is_shown PrivateUse = false
is_shown Unassigned = false
is_shown _ = true

unfoldable pub is_printable : ℕ → Bool
is_printable c = (c == 32) || is_shown (general_category c)

abbrev pub are_printable : Option (List ℕ) → Bool
are_printable None = false
are_printable (Some text) = list_all is_printable (chars text)

-- what an act may have as its `by`: at most 200 bytes of characters that a page shows
unfoldable pub is_signable : List ℕ → Bool
is_signable bytes = nat_le (length bytes) 200 && are_printable (text_in bytes)
