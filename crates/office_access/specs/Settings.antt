-- The settings of an office as a policy holds them: its names, their rights, and the rules of four eyes. Source: own.
use Rattle.std.specs.Prelude.{ℕ, Bool, true, not, ◌&&◌, ◌||◌, List, [], ◌∷◌, Option, Some, None, if◌then◌else◌}
use Rattle.std.specs.List.{find, list_all, list_any}
use Rattle.std.specs.Str.{bytes_eq}
use Rattle.office_access.specs.declared.grants.Grants.{Grants}
use Rattle.office_access.specs.declared.person.Person.{Person}
use Rattle.office_access.specs.declared.person.SignIn.{SignIn}
use Rattle.office_access.specs.declared.rule.Rules.{Rules}

-- the names with their rights; the looks of all names and signatures; the rights of every other name; and the rules
pub record Settings : Type 0 where
  pub people : List Person
  pub taken : List (List ℕ)
  pub others : Option Grants
  pub rules : Rules

-- the text is the name, or what the name signs
abbrev pub goes_by : List ℕ → Person → Bool
goes_by text person = bytes_eq person.name text || bytes_eq person.signs text

-- neither the name nor the signature of the one is the name or the signature of the other
abbrev pub is_apart : Person → Person → Bool
is_apart one other = not (goes_by one.name other) && not (goes_by one.signs other)

-- so are each two
abbrev pub are_apart : List Person → Bool
are_apart [] = true
are_apart (person ∷ rest) = list_all (is_apart person) rest && are_apart rest

-- the person of that name
abbrev pub person_named : Settings → List ℕ → Option Person
person_named settings name = find (λ person. bytes_eq person.name name) settings.people

-- a name or a signature of the settings has the text or the look of the name
abbrev pub is_taken : Settings → SignIn → Bool
is_taken settings name = list_any (goes_by name.name) settings.people || list_any (bytes_eq name.look) settings.taken

abbrev pub grants_by : Settings → SignIn → Option Person → Option Grants
grants_by settings name (Some person) = Some person.grants
grants_by settings name None = if is_taken settings name then None else settings.others

-- the rights of a name: those that the settings give it; or those of every other name, unless it is taken
abbrev pub grants_of : Settings → SignIn → Option Grants
grants_of settings name = grants_by settings name (person_named settings name.name)

abbrev pub signature_by : List ℕ → Option Person → List ℕ
signature_by name (Some person) = person.signs
signature_by name None = name

-- what a name signs: the text of the settings, or else the name itself
abbrev pub signs : Settings → SignIn → List ℕ
signs settings name = signature_by name.name (person_named settings name.name)
