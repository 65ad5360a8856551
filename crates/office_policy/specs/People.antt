-- The names of the settings. Source: docs/ACCESS.md, "The settings".
use Rattle.std.specs.Prelude.{ℕ, Bool, true, false, not, ◌&&◌, ◌||◌, List, [], ◌∷◌, Option, Some, None, if◌then◌else◌}
use Rattle.std.specs.List.{find, flat_map, fold, list_all, list_any}
use Rattle.std.specs.Option.{option_to_list}
use Rattle.std.specs.Str.{bytes_eq}
use Rattle.office_access.specs.declared.person.Person.{Person}
use Rattle.office_settings.specs.Files.{Entry, holder_of, same_text, shown_by, signer_of}
use Rattle.office_settings.specs.Statements.{Line}
use Rattle.office_settings.specs.Statements as line
use Rattle.office_policy.specs.Granted.{Held, held, held_by, text_of, with_new}

-- a name, what it signs, and what it has
pub record Named : Type 0 where
  pub name : List ℕ
  pub signs : List ℕ
  pub held : Held

-- the names that have roles, each once, in the order of their lines
abbrev pub names_of : List Entry → List (List ℕ)
names_of entries = fold (λ names entry. with_new names (holder_of entry.line)) [] entries

abbrev pub signature_by : List ℕ → Option Entry → List ℕ
signature_by name None = name
signature_by name (Some entry) = shown_by entry.line

-- what a name signs: the text of its line, or else the name
abbrev pub signature_of : List Entry → List ℕ → List ℕ
signature_of entries name = signature_by name (find (λ entry. same_text (signer_of entry.line) (Some name)) entries)

abbrev pub named : Option (List ℕ) → Option (List ℕ) → Held → Option Named
named (Some name) (Some signs) held = Some (record { name = name; signs = signs; held = held })
named (Some name) None held = None
named None signs held = None

abbrev pub person_of : List Entry → List ℕ → Option Named
person_of entries name = named (text_of name) (text_of (signature_of entries name)) (held entries (Some name))

-- all names with what they have
abbrev pub people_of : List Entry → List Named
people_of entries = flat_map (λ name. option_to_list (person_of entries name)) (names_of entries)

abbrev pub is_for_others : Line → Bool
is_for_others (line.others_have roles classes) = true
is_for_others _ = false

-- what every other name has, if a line says so
abbrev pub others_of : List Entry → Option Held
others_of entries = if list_any (λ entry. is_for_others entry.line) entries then Some (held entries None) else None

-- a person that the office keeps, as these have it
abbrev pub named_by : Person → Named
named_by person = record { name = person.name; signs = person.signs; held = held_by person.grants }

-- ---- no name is taken for another

abbrev pub goes_by : List ℕ → Named → Bool
goes_by text named = bytes_eq named.name text || bytes_eq named.signs text

-- neither the name nor the text of the one is the name or the text of the other
abbrev pub is_apart : Named → Named → Bool
is_apart one other = not (goes_by one.name other) && not (goes_by one.signs other)

-- so are each two
abbrev pub are_apart : List Named → Bool
are_apart [] = true
are_apart (named ∷ rest) = list_all (is_apart named) rest && are_apart rest
