-- What is denied in whatever office is denied in each.
use Rattle.std.proofs.Common.{◌≡◌, ℤ, Bool, true, false, not, List, [], ◌∷◌, ℕ, Option, Some, None, ap, ◌∙◌}
use Rattle.std.specs.List.{list_all}
use Rattle.std.specs.Option.{option_map}
use Rattle.office_records.specs.Lists.{or_else}
use Rattle.office_rules.specs.State.{Office}
use Rattle.office_rules.specs.declared.act.Act.{Act}
use Rattle.office_access.specs.Kinds.{day_of, power_for}
use Rattle.office_access.specs.Permits.{denial_by, denial_of, first_denial, is_timely, lasting_denial_by, lasting_denial_of, rule_against}
use Rattle.office_access.specs.Rights.{may_at_all, may_in}
use Rattle.office_access.specs.Settings.{Settings, grants_of, signs}
use Rattle.office_access.specs.Signing.{is_signed, signature_of}
use Rattle.office_access.specs.Subjects.{classes_of}
use Rattle.office_access.specs.declared.denial.Denial.{Denial}
use Rattle.office_access.specs.declared.denial.Denial.TheVariants as denial
use Rattle.office_access.specs.declared.grants.Grants.{Grants}
use Rattle.office_access.specs.declared.person.SignIn.{SignIn}

-- the first of three reasons that hold is the first of four, and no rule is asked
first_of_four : (a b c e : Bool) (rules : Option Denial) (it : Denial)
    → first_denial ((denial.Right, a) ∷ (denial.By, b) ∷ (denial.Future, c) ∷ []) ≡ Some it
    → or_else (first_denial ((denial.Right, a) ∷ (denial.By, b) ∷ (denial.Future, c) ∷ (denial.Class, e) ∷ [])) rules ≡ Some it
first_of_four true b c e rules it h = h
first_of_four false true c e rules it h = h
first_of_four false false true e rules it h = h
first_of_four false false false e rules it h = absurd cc

by_grants : (settings : Settings) (s : Office) (today : ℤ) (signature : List ℕ) (act : Act) (grants : Option Grants)
    (it : Denial) → lasting_denial_by today signature act grants ≡ Some it
    → denial_by settings s today signature act grants ≡ Some it
by_grants settings s today signature act None it h = h
by_grants settings s today signature act (Some grants) it h =
    first_of_four (not (may_at_all grants (power_for act))) (not (is_signed signature (signature_of act)))
    (not (is_timely today grants (day_of act))) (not (list_all (may_in grants (power_for act)) (classes_of s.tree act)))
    (option_map denial.Eyes (rule_against settings.rules s signature grants act)) it h

pub lasts : (settings : Settings) (s : Office) (today : ℤ) (name : SignIn) (act : Act) (it : Denial)
    → lasting_denial_of settings today name act ≡ Some it → denial_of settings s today name act ≡ Some it
lasts settings s today name act it h = by_grants settings s today (signs settings name) act (grants_of settings name) it h
