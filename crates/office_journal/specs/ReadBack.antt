-- What a reader of JSON gets of a line. Source: docs/ACCESS.md, "The journal".
use Rattle.std.specs.Prelude.{◌+◌, List, [], ◌∷◌, codes}
use Rattle.std.specs.Fmt.{decimal}
use Rattle.hex.specs.Hex.{encode_lower}
use Rattle.json.specs.Json.{Json, Members, no_members, member, object, string, number}
use Rattle.office_journal.specs.declared.head.Head.{Head}
use Rattle.office_journal.specs.Members.{Field}

abbrev pub members_of : List Field → Members
members_of [] = no_members
members_of (field ∷ fields) = member field.0 field.1 (members_of fields)

-- the object that the line after a head is: the digest of the line before, its number, and its members, in order
abbrev pub line_object : Head → List Field → Json
line_object head fields =
    object (member (codes "before") (string (encode_lower head.digest))
    (member (codes "line") (number (decimal (head.line + 1))) (members_of fields)))
