-- Persons that are apart, and their policy.
use Rattle.std.proofs.Common.{◌≡◌, ◌∙◌, ◌&&◌, ℕ, List, [], ◌∷◌, map, cond, Bool, true, false, Option, Some, None, refl, sym, ap, subst}
use Rattle.std.specs.List.{flat_map, list_all}
use Rattle.std.specs.Option.{option_map}
use Rattle.std.proofs.lemmas.List.Folds.{list_all-map}
use Rattle.office_access.specs.Settings as access
use Rattle.office_access.specs.Settings.{Settings}
use Rattle.office_access.specs.declared.grants.Grants.{Grants}
use Rattle.office_access.specs.declared.person.Person.{Person}
use Rattle.office_access.specs.declared.rule.Rules.{Rules}
use Rattle.office_settings.specs.Files.{Entry}
use Rattle.office_policy.specs.Granted.{held_by}
use Rattle.office_policy.specs.People.{are_apart, is_apart, named_by, others_of, people_of}
use Rattle.office_policy.specs.Policies.{HasPolicy, looks_of}
use Rattle.office_policy.specs.Rules.{rules_of}

pub apart_same : (people : List Person) → access.are_apart people ≡ are_apart (map named_by people)
apart_same [] = refl
apart_same (person ∷ rest) =
    ap (λ a. a && access.are_apart rest) (sym (list_all-map (is_apart (named_by person)) named_by rest))
    ∙ ap (λ b. list_all (is_apart (named_by person)) (map named_by rest) && b) (apart_same rest)

-- a policy is made if the persons are apart
pub has_policy : (entries : List Entry) (people : List Person) (taken : List (List ℕ)) (others : Option Grants) (rules : Rules) (policy : Option Settings) (e : Bool)
    → access.are_apart people ≡ e → policy ≡ cond e (Some (record { people = people; taken = taken; others = others; rules = rules })) None
    → map named_by people ≡ people_of entries → taken ≡ flat_map looks_of entries → option_map held_by others ≡ others_of entries → rules ≡ rules_of entries
    → HasPolicy entries policy
has_policy entries people taken others rules policy true apart is a b c d =
    subst (HasPolicy entries) (sym is) (record { people = a; taken = b; others = c; rules = d })
has_policy entries people taken others rules policy false apart is a b c d =
    subst (HasPolicy entries) (sym is) (ap are_apart (sym a) ∙ sym (apart_same people) ∙ apart)
