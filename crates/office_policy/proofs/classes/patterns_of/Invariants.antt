use Rattle.std.proofs.Common.{◌≡◌, take}
use Rattle.std.specs.List.{flat_map}
use Rattle.std.specs.Option.{option_to_list}
use Rattle.office_policy.specs.Classes.{pattern_of}
use Rattle.office_policy.proofs.classes.patterns_of.Given as goal

-- the classes before a place
abbrev pub invariant-loop-class : goal.invariant-loop-class
invariant-loop-class l =
    l.patterns.items ≡ flat_map (λ token. option_to_list (pattern_of token.now)) (take l.class-index l.classes)
