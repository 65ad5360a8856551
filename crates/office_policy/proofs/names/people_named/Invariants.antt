use Rattle.std.proofs.Common.{◌≡◌, map, take}
use Rattle.std.specs.List.{flat_map}
use Rattle.std.specs.Option.{option_to_list}
use Rattle.office_policy.specs.People.{named_by, person_of}
use Rattle.office_policy.proofs.names.people_named.Given as goal

-- the persons of the names before a place
abbrev pub invariant-loop-name : goal.invariant-loop-name
invariant-loop-name l =
    map named_by l.people.items ≡ flat_map (λ name. option_to_list (person_of l.entries name.now)) (take l.name-index l.names)
