-- The content of a record as a member of an act. Source: RFC 4648, section 4 (base64 with padding), taken only as encoding writes
-- it.
use Rattle.std.specs.Prelude.{◌≡◌, ◌↔◌, ℕ, List, Option, Some, Result, option_and_then}
use Rattle.base64.specs.Engines.{standard}
use Rattle.base64.specs.GeneralPurpose.{IsBytes, encode_of}
use Rattle.serde_json.specs.Data.{Data}
use Rattle.serde_json.specs.Find.{as_str}
use Rattle.office_base.specs.declared.refusal.Refusal.{Refusal}
use Rattle.office_rules.specs.ContentTexts.{content_named, content_of}

-- a member that is the text of a content; one that is no encoding is refused as a text, however long
unfoldable pub content_part : Option Data → Result (List ℕ) Refusal
content_part member = content_of (option_and_then content_named (option_and_then as_str member))

-- a text is taken as these bytes exactly where it is what encoding them writes
abbrev pub TakesEncodings : Type 0
TakesEncodings =
    (text bytes : List ℕ) → IsBytes text → IsBytes bytes → (content_named text ≡ Some bytes)
    ↔ (text ≡ encode_of standard bytes)
