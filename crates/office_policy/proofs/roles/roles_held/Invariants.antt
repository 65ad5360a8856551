use Rattle.std.proofs.Common.{◌≡◌, [], take}
use Rattle.std.specs.List.{fold}
use Rattle.std.specs.Option.{option_copied}
use Rattle.office_policy.specs.Granted.{roles_for, with_role}
use Rattle.office_policy.proofs.roles.roles_held.Given as goal

-- the roles by the lines before a place
abbrev pub invariant-loop-entry : goal.invariant-loop-entry
invariant-loop-entry l =
    l.roles.items
    ≡ fold (λ texts entry. fold with_role texts (roles_for (option_copied l.name) entry.line)) [] (take l.entry-index l.entries)
