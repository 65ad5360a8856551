-- The rights of a name: those of each of its roles, within the classes of the role and those of the name.
-- Source: docs/ACCESS.md, "The settings".
use Rattle.std.specs.Prelude.{ℕ, Bool, false, List, [], ◌∷◌, ◌++◌, map, Option, Some, None, if◌then◌else◌}
use Rattle.std.specs.List.{flat_map, fold, list_any}
use Rattle.std.specs.Str.{bytes_eq}
use Rattle.office_access.specs.declared.class_pattern.ClassPattern.{ClassPattern}
use Rattle.office_access.specs.declared.grants.Grants.{Grants}
use Rattle.office_access.specs.declared.power.Power.{Power}
use Rattle.office_access.specs.declared.right.Right.{Right}
use Rattle.office_records.specs.TextForms.{text_named}
use Rattle.office_settings.specs.Files.{Entry}
use Rattle.office_settings.specs.Looks.{text_in}
use Rattle.office_settings.specs.Statements.{Line}
use Rattle.office_settings.specs.Statements as line
use Rattle.office_policy.specs.Classes.{limit_of}
use Rattle.office_policy.specs.Powers.{act_power, thing_power}

-- ---- rights

-- a right: to what, within which classes, of which each limit counts, and whether only to what was sent
pub record Granted : Type 0 where
  pub power : Power
  pub limits : List (List ClassPattern)
  pub is_for_sent : Bool

-- the right to that within those limits, if a word allows something
abbrev pub granted : List (List ClassPattern) → Bool → Option Power → List Granted
granted limits sent None = []
granted limits sent (Some power) = record { power = power; limits = limits; is_for_sent = sent } ∷ []

-- the rights that a line gives to a role, for a name that is limited to classes
abbrev pub rights_by_line : List (List ℕ) → List ℕ → Line → List Granted
rights_by_line classes role (line.may other acts own) =
    if bytes_eq other role then flat_map (λ act. granted (limit_of own ++ limit_of classes) false (act_power act)) acts
    else []
rights_by_line classes role (line.reads other things own sent) =
    if bytes_eq other role then flat_map (λ thing. granted (limit_of own ++ limit_of classes) sent (thing_power thing)) things
    else []
rights_by_line classes role _ = []

-- those of all lines
abbrev pub rights_by_role : List Entry → List (List ℕ) → List ℕ → List Granted
rights_by_role entries classes role = flat_map (λ entry. rights_by_line classes role entry.line) entries

-- ---- a name

-- the roles that a line gives to a name; or, without a name, to every other name
abbrev pub roles_for : Option (List ℕ) → Line → List (List ℕ)
roles_for (Some name) (line.has other roles classes) = if bytes_eq other name then roles else []
roles_for (Some name) _ = []
roles_for None (line.others_have roles classes) = roles
roles_for None _ = []

-- the classes to which that line limits them
abbrev pub classes_for : Line → List (List ℕ)
classes_for (line.has name roles classes) = classes
classes_for (line.others_have roles classes) = classes
classes_for _ = []

-- the rights of the roles that a line gives
abbrev pub rights_from : List Entry → Option (List ℕ) → Line → List Granted
rights_from entries name line = flat_map (rights_by_role entries (classes_for line)) (roles_for name line)

-- the rights that all lines give
abbrev pub rights_of : List Entry → Option (List ℕ) → List Granted
rights_of entries name = flat_map (λ entry. rights_from entries name entry.line) entries

-- ---- its roles

abbrev pub text_by : Option (List ℕ) → Option (List ℕ)
text_by None = None
text_by (Some text) = text_named text

-- bytes as a text of the office
unfoldable pub text_of : List ℕ → Option (List ℕ)
text_of bytes = text_by (text_in bytes)

-- a text comes behind others, unless it is one of them
abbrev pub with_new : List (List ℕ) → Option (List ℕ) → List (List ℕ)
with_new texts None = texts
with_new texts (Some text) = if list_any (bytes_eq text) texts then texts else texts ++ text ∷ []

abbrev pub with_role : List (List ℕ) → List ℕ → List (List ℕ)
with_role texts role = with_new texts (text_of role)

-- the roles of a name, each once
abbrev pub roles_held : List Entry → Option (List ℕ) → List (List ℕ)
roles_held entries name = fold (λ texts entry. fold with_role texts (roles_for name entry.line)) [] entries

-- ---- both

-- the roles of a name, and its rights
pub record Held : Type 0 where
  pub roles : List (List ℕ)
  pub rights : List Granted

abbrev pub held : List Entry → Option (List ℕ) → Held
held entries name = record { roles = roles_held entries name; rights = rights_of entries name }

-- a right that the office keeps, as these have it
abbrev pub granted_by : Right → Granted
granted_by right = record { power = right.power; limits = map (λ limit. limit.patterns.items) right.limits.items; is_for_sent = right.is_for_sent }

abbrev pub held_by : Grants → Held
held_by grants = record { roles = grants.roles.items; rights = map granted_by grants.rights.items }
