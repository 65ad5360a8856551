-- A name that signs in. Source: docs/ACCESS.md, "Names that look alike".
use Rattle.std.specs.Prelude.{ℕ, List, Option, Some, None}
use Rattle.office_access.specs.declared.person.SignIn.{SignIn}
use Rattle.office_records.specs.TextForms.{text_named}
use Rattle.office_settings.specs.Looks.{look}

abbrev pub with_look : List ℕ → Option (List ℕ) → Option SignIn
with_look name None = None
with_look name (Some look) = Some (record { name = name; look = look })

-- the name with its look, if the look is a text of the office
abbrev pub sign_in_as : List ℕ → Option SignIn
sign_in_as name = with_look name (text_named (look name))
