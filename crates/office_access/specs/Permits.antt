-- Which acts are permitted to a name, in the office as it stands before the act. Source: own.
use Rattle.std.specs.Prelude.{◌≡◌, ℕ, Bool, true, false, not, ◌&&◌, ◌||◌, List, [], ◌∷◌, Option, Some, None, ℤ, int_le, IfSome, IsTrue, if◌then◌else◌}
use Rattle.std.specs.List.{All, find, list_all}
use Rattle.std.specs.Option.{option_map}
use Rattle.office_records.specs.Lists.{or_else}
use Rattle.office_rules.specs.State.{Office}
use Rattle.office_rules.specs.declared.act.Act.{Act}
use Rattle.office_access.specs.Eyes.{forbids, is_opener}
use Rattle.office_access.specs.Kinds.{day_of, power_for}
use Rattle.office_access.specs.Rights.{may_at_all, may_in, may_read}
use Rattle.office_access.specs.Settings.{Settings, grants_of, signs}
use Rattle.office_access.specs.Signing.{is_signed, signature_of}
use Rattle.office_access.specs.Subjects.{classes_of}
use Rattle.office_access.specs.declared.denial.Denial.{Denial}
use Rattle.office_access.specs.declared.denial.Denial.TheVariants as denial
use Rattle.office_access.specs.declared.grants.Grants.{Grants}
use Rattle.office_access.specs.declared.person.SignIn.{SignIn}
use Rattle.office_access.specs.declared.power.Power.TheVariants as power
use Rattle.office_access.specs.declared.reading.Reading.{Reading}
use Rattle.office_access.specs.declared.rule.Rule.{Rule}
use Rattle.office_access.specs.declared.rule.Rule.TheVariants as rule
use Rattle.office_access.specs.declared.rule.Rules.{Rules}

-- the day, if there is one, is today or earlier; or the rights allow a later day
abbrev pub is_timely : ℤ → Grants → Option ℤ → Bool
is_timely today grants None = true
is_timely today grants (Some day) = int_le day today || may_in grants power.LaterDay None

-- An act is permitted to a name that signed in, in an office, on a day, if:
pub record Permits (settings : Settings) (s : Office) (today : ℤ) (name : SignIn) (act : Act) : Type 0 where
  -- the settings give the name rights;
  pub grants : Grants
  pub known : grants_of settings name ≡ Some grants
  -- for each class that the act is about, one of these is a right to acts of that kind in that class;
  pub right : All (λ class. IsTrue (may_in grants (power_for act) class)) (classes_of s.tree act)
  -- if the act states who did it, that is what the name signs;
  pub signed : IfSome (signature_of act) (λ by. by ≡ signs settings name)
  -- the day of the act is not after today, or the name has the right to a later day;
  pub timely : IsTrue (is_timely today grants (day_of act))
  -- and no rule of four eyes forbids it.
  pub apart : (rule : Rule) → forbids settings.rules s (signs settings name) grants act rule ≡ false

-- ---- the same, as the program decides it

-- why an act is denied that the rights do not allow, in the order of the questions
abbrev pub right_denials : Office → ℤ → List ℕ → Grants → Act → List (Denial × Bool)
right_denials s today signs grants act =
    (denial.Right, not (may_at_all grants (power_for act)))
    ∷ (denial.By, not (is_signed signs (signature_of act)))
    ∷ (denial.Future, not (is_timely today grants (day_of act)))
    ∷ (denial.Class, not (list_all (may_in grants (power_for act)) (classes_of s.tree act)))
    ∷ []

-- why an act is denied in whatever office, in the order of the questions
abbrev pub lasting_denials : ℤ → List ℕ → Grants → Act → List (Denial × Bool)
lasting_denials today signs grants act =
    (denial.Right, not (may_at_all grants (power_for act)))
    ∷ (denial.By, not (is_signed signs (signature_of act)))
    ∷ (denial.Future, not (is_timely today grants (day_of act)))
    ∷ []

-- the rules, in the order of the questions
abbrev pub all_rules : List Rule
all_rules =
    rule.OpenerDoesNotCarryOut
    ∷ rule.ConfirmerDoesNotOpen
    ∷ rule.ChangerDoesNotOpen
    ∷ rule.SenderDoesNotReceive
    ∷ rule.ReceiverDoesNotOpen
    ∷ []

-- the denial of the first that holds
abbrev pub first_denial : List (Denial × Bool) → Option Denial
first_denial [] = None
first_denial (d ∷ rest) = if d.1 then Some d.0 else first_denial rest

-- the first rule that forbids the act
abbrev pub rule_against : Rules → Office → List ℕ → Grants → Act → Option Rule
rule_against rules s signs grants act = find (forbids rules s signs grants act) all_rules

abbrev pub denial_by : Settings → Office → ℤ → List ℕ → Act → Option Grants → Option Denial
denial_by settings s today signs act None = Some denial.Name
denial_by settings s today signs act (Some grants) =
    or_else (first_denial (right_denials s today signs grants act))
    (option_map denial.Eyes (rule_against settings.rules s signs grants act))

-- why the act is denied to the name, if it is
abbrev pub denial_of : Settings → Office → ℤ → SignIn → Act → Option Denial
denial_of settings s today name act =
    denial_by settings s today (signs settings name) act (grants_of settings name)

abbrev pub lasting_denial_by : ℤ → List ℕ → Act → Option Grants → Option Denial
lasting_denial_by today signs act None = Some denial.Name
lasting_denial_by today signs act (Some grants) = first_denial (lasting_denials today signs grants act)

-- why the act is denied to the name in whatever office, if it is
abbrev pub lasting_denial_of : Settings → ℤ → SignIn → Act → Option Denial
lasting_denial_of settings today name act =
    lasting_denial_by today (signs settings name) act (grants_of settings name)

-- ---- powers that are no acts

-- To carry out the open run to its end is permitted to a name, in an office, if:
pub record PermitsResumption (settings : Settings) (s : Office) (name : SignIn) : Type 0 where
  -- the settings give the name rights;
  pub grants : Grants
  pub known : grants_of settings name ≡ Some grants
  -- one of these is the right to resume, without classes;
  pub right : IsTrue (may_in grants power.Resume None)
  -- and with the rule, the name did not open the run.
  pub apart : (settings.rules.opener_does_not_carry_out && is_opener s (signs settings name)) ≡ false

abbrev pub resumption_denial_by : Settings → Office → List ℕ → Option Grants → Option Denial
resumption_denial_by settings s signs None = Some denial.Name
resumption_denial_by settings s signs (Some grants) =
    first_denial
    ((denial.Right, not (may_in grants power.Resume None))
    ∷ (denial.Eyes rule.OpenerDoesNotCarryOut, settings.rules.opener_does_not_carry_out && is_opener s signs)
    ∷ [])

-- why it is denied to the name to carry out the open run, if it is
abbrev pub resumption_denial_of : Settings → Office → SignIn → Option Denial
resumption_denial_of settings s name =
    resumption_denial_by settings s (signs settings name) (grants_of settings name)

abbrev pub file_denial_by : Option Grants → Option Denial
file_denial_by None = Some denial.Name
file_denial_by (Some grants) = if may_at_all grants power.Vault then None else Some denial.Right

-- why it is denied to the name to put a file into the vault, if it is
abbrev pub file_denial_of : Settings → SignIn → Option Denial
file_denial_of settings name = file_denial_by (grants_of settings name)

abbrev pub reading_denial_by : Reading → Option (List ℕ) → Bool → Option Grants → Option Denial
reading_denial_by reading class is_sent None = Some denial.Name
reading_denial_by reading class is_sent (Some grants) =
    first_denial
    ((denial.Right, not (may_at_all grants (power.Read reading)))
    ∷ (denial.Class, not (may_read grants reading class is_sent))
    ∷ [])

-- why it is denied to the name to read that of a thing of that class, which was sent or was not, if it is
abbrev pub reading_denial_of : Settings → SignIn → Reading → Option (List ℕ) → Bool → Option Denial
reading_denial_of settings name reading class is_sent =
    reading_denial_by reading class is_sent (grants_of settings name)
