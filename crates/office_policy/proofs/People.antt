-- The persons of all names.
use Rattle.std.proofs.Common.{◌≡◌, ◌∙◌, ℕ, List, map, Result, Ok, Err, IfOk, sym, ap}
use Rattle.std.specs.List.{flat_map}
use Rattle.std.specs.Option.{option_to_list}
use Rattle.office_settings.specs.Files.{Entry}
use Rattle.office_policy.specs.People.{Named, names_of, people_of, person_of}
use Rattle.office_policy.proofs.Lists.{flat_map_map}

pub people_all : {A E X : Type 0} (people : A → List Named) (entries : List Entry) (f : X → List ℕ) (given names : List X) (r : Result A E)
    → given ≡ names → map f names ≡ names_of entries → IfOk r (λ a. people a ≡ flat_map (λ name. option_to_list (person_of entries (f name))) given)
    → IfOk r (λ a. people a ≡ people_of entries)
people_all people entries f given names (Ok a) same all is =
    is ∙ ap (flat_map (λ name. option_to_list (person_of entries (f name)))) same
    ∙ sym (flat_map_map (λ name. option_to_list (person_of entries name)) f names)
    ∙ ap (flat_map (λ name. option_to_list (person_of entries name))) all
people_all people entries f given names (Err e) same all is = tt
