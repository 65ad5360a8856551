-- The denial of a name with rights, part by part.
use Rattle.std.proofs.Common.{◌≡◌, ℤ, List, ℕ, Option, Some, None, ap, sym, ◌∙◌}
use Rattle.std.specs.Option.{option_map}
use Rattle.office_records.specs.Lists.{or_else}
use Rattle.office_rules.specs.State.{Office}
use Rattle.office_rules.specs.declared.act.Act.{Act}
use Rattle.office_access.specs.Permits.{denial_by, denial_of, first_denial, right_denials, rule_against}
use Rattle.office_access.specs.Settings.{Settings, grants_of, signs}
use Rattle.office_access.specs.declared.denial.Denial.{Denial}
use Rattle.office_access.specs.declared.denial.Denial.TheVariants as denial
use Rattle.office_access.specs.declared.grants.Grants.{Grants}
use Rattle.office_access.specs.declared.person.SignIn.{SignIn}

-- of the rights first, and of the rules else
pub denied : (settings : Settings) (s : Office) (today : ℤ) (name : SignIn) (act : Act) (grants : Grants) (signature : List ℕ) (first : Option Denial)
    → Some grants ≡ grants_of settings name → signature ≡ signs settings name → first ≡ first_denial (right_denials s today signature grants act)
    → or_else first (option_map denial.Eyes (rule_against settings.rules s signature grants act)) ≡ denial_of settings s today name act
denied settings s today name act grants signature first known signed is =
    ap (λ (o : Option Denial). or_else o (option_map denial.Eyes (rule_against settings.rules s signature grants act))) is
    ∙ ap (λ (by : List ℕ). denial_by settings s today by act (Some grants)) signed
    ∙ ap (λ (o : Option Grants). denial_by settings s today (signs settings name) act o) known
