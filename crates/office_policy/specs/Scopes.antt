-- The classes within which a right is. Source: own.
use Rattle.std.specs.Prelude.{List, ◌++◌, map}
use Rattle.office_access.specs.declared.class_pattern.ClassPattern.{ClassPattern}
use Rattle.office_policy.specs.declared.rights.Scope.{Scope}
use Rattle.office_policy.specs.Classes.{limit_of}

-- the limit of the role, and that of the name
abbrev pub limits_in : Scope → List (List ClassPattern)
limits_in scope = limit_of (map (λ w. w.now) scope.of_role.now) ++ limit_of (map (λ w. w.now) scope.of_name.now)
