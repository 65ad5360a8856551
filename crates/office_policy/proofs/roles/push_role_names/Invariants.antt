use Rattle.std.proofs.Common.{◌≡◌, take}
use Rattle.std.specs.List.{fold}
use Rattle.office_policy.specs.Granted.{with_role}
use Rattle.office_policy.proofs.roles.push_role_names.Given as goal

-- the roles before a place
abbrev pub invariant-loop-role : goal.invariant-loop-role
invariant-loop-role l = l.texts.items ≡ fold (λ texts role. with_role texts role.now) l.fn.texts.items (take l.role-index l.roles)
