-- Which members an object of JSON has. Source: RFC 8259 for objects, as `serde_json` reports them; the rest is own.
use Rattle.std.specs.Prelude.{ℕ, ◌&&◌, Bool, true, false, List, Option, Some, None, Result, Err, if◌then◌else◌}
use Rattle.std.specs.List.{list_any}
use Rattle.std.specs.Str.{bytes_eq}
use Rattle.serde_json.specs.Data.{Data, null, boolean, number, string, array, object, Members, no_members, member}
use Rattle.office_base.specs.declared.refusal.Refusal.{Refusal}
use Rattle.office_base.specs.declared.refusal.Refusal.TheVariants.{BadText}

-- each member's name passes a test
abbrev pub are_named : (List ℕ → Bool) → Members → Bool
are_named test no_members = true
are_named test (member name value rest) = test name && are_named test rest

-- an object whose members' names pass a test
unfoldable pub has_only : (List ℕ → Bool) → Data → Bool
has_only test null = false
has_only test (boolean b) = false
has_only test (number n) = false
has_only test (string s) = false
has_only test (array items) = false
has_only test (object rest) = are_named test rest

-- what is read of an object without a member of another name; any other value is refused
abbrev pub only : {A : Type 0} → List (List ℕ) → Data → Result A Refusal → Result A Refusal
only names value part = if has_only (λ name. list_any (bytes_eq name) names) value then part else Err BadText

-- a member that may be null is there
abbrev pub is_given : Option Data → Bool
is_given None = false
is_given (Some null) = false
is_given (Some (boolean b)) = true
is_given (Some (number n)) = true
is_given (Some (string s)) = true
is_given (Some (array items)) = true
is_given (Some (object rest)) = true
