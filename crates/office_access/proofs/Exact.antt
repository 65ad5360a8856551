-- No reason to deny an act holds exactly if the act is permitted.
use Rattle.std.proofs.Common.{◌≡◌, ◌↔◌, ℕ, ℤ, Bool, true, false, cond, not, ◌&&◌, ◌||◌, IsTrue, List, [], ◌∷◌, Option, Some, None, refl, sym, ap, ◌∙◌}
use Rattle.std.specs.Prelude.{IfSome}
use Rattle.std.specs.List.{All, AllPass, find, list_all, list_any}
use Rattle.std.specs.Option.{option_map}
use Rattle.std.specs.Str.{bytes_eq}
use Rattle.std.proofs.lemmas.Bool.{and_parts}
use Rattle.std.proofs.lemmas.List.Sums.{AllPass-from_list_all, list_all-from_AllPass}
use Rattle.std.proofs.lemmas.Slice.Eq.{bytes_eq-Decides}
use Rattle.office_records.specs.Lists.{or_else}
use Rattle.office_records.specs.Tree.{TreeState}
use Rattle.office_rules.specs.State.{Office}
use Rattle.office_rules.specs.declared.act.Act.{Act}
use Rattle.office_rules.specs.declared.act.Act.TheVariants as act
use Rattle.office_access.specs.declared.right.Right.{Right}
use Rattle.office_access.specs.Eyes.{forbids, is_opener}
use Rattle.office_access.specs.Kinds.{day_of, power_for, same_power}
use Rattle.office_access.specs.Permits.{Permits, PermitsResumption, all_rules, denial_by, denial_of, first_denial, is_timely, resumption_denial_by, resumption_denial_of, right_denials, rule_against}
use Rattle.office_access.specs.Rights.{covers, is_right, may_at_all, may_in}
use Rattle.office_access.specs.Settings.{Settings, grants_of, signs}
use Rattle.office_access.specs.Signing.{is_signed, signature_of}
use Rattle.office_access.specs.Subjects.{classes_of, put_into}
use Rattle.office_access.specs.declared.denial.Denial.{Denial}
use Rattle.office_access.specs.declared.denial.Denial.TheVariants as denial
use Rattle.office_access.specs.declared.grants.Grants.{Grants}
use Rattle.office_access.specs.declared.person.SignIn.{SignIn}
use Rattle.office_access.specs.declared.power.Power.{Power}
use Rattle.office_access.specs.declared.power.Power.TheVariants as power
use Rattle.office_access.specs.declared.rule.Rule.{Rule}
use Rattle.office_access.specs.declared.rule.Rule.TheVariants as rule
use Rattle.office_access.specs.declared.rule.Rules.{Rules}

-- ---- tests

not_off : (b : Bool) → not b ≡ false → b ≡ true
not_off true h = refl
not_off false h = absurd cc

off_not : (b : Bool) → b ≡ true → not b ≡ false
off_not b h = ap not h

-- ---- what an act says of who did it

pub signed_by : (signs : List ℕ) (signature : Option (List ℕ)) → is_signed signs signature ≡ true → IfSome signature (λ by. by ≡ signs)
signed_by signs None h = tt
signed_by signs (Some by) h = (bytes_eq-Decides by signs).0 h

pub by_signed : (signs : List ℕ) (signature : Option (List ℕ)) → IfSome signature (λ by. by ≡ signs) → is_signed signs signature ≡ true
by_signed signs None h = refl
by_signed signs (Some by) h = (bytes_eq-Decides by signs).1 h

-- ---- the table

none_of : {A : Type 0} (d : A) (b : Bool) (rest : Option A) → cond b (Some d) rest ≡ None → (b ≡ false) × (rest ≡ None)
none_of d true rest h = absurd cc
none_of d false rest h = (refl, h)

of_none : {A : Type 0} (d : A) (b : Bool) (rest : Option A) → b ≡ false → rest ≡ None → cond b (Some d) rest ≡ None
of_none d b rest off h = ap (λ v. cond v (Some d) rest) off ∙ h

none_both : {A : Type 0} (x y : Option A) → or_else x y ≡ None → (x ≡ None) × (y ≡ None)
none_both None y h = (refl, h)
none_both (Some d) y h = absurd cc

both_none : {A : Type 0} (x y : Option A) → x ≡ None → y ≡ None → or_else x y ≡ None
both_none x y none rest = ap (λ o. or_else o y) none ∙ rest

none_mapped : (o : Option Rule) → option_map denial.Eyes o ≡ None → o ≡ None
none_mapped None h = refl
none_mapped (Some r) h = absurd cc

mapped_none : (o : Option Rule) → o ≡ None → option_map denial.Eyes o ≡ None
mapped_none o h = ap (λ x. option_map denial.Eyes x) h

-- no rule forbids, where none is found that does
none_forbids : (test : Rule → Bool) → find test all_rules ≡ None → (r : Rule) → test r ≡ false
none_forbids test h =
    let a = none_of rule.OpenerDoesNotCarryOut (test rule.OpenerDoesNotCarryOut) _ h in
    let b = none_of rule.ConfirmerDoesNotOpen (test rule.ConfirmerDoesNotOpen) _ a.1 in
    let c = none_of rule.ChangerDoesNotOpen (test rule.ChangerDoesNotOpen) _ b.1 in
    let d = none_of rule.SenderDoesNotReceive (test rule.SenderDoesNotReceive) _ c.1 in
    let e = none_of rule.ReceiverDoesNotOpen (test rule.ReceiverDoesNotOpen) _ d.1 in
    each a.0 b.0 c.0 d.0 e.0
  where
    each : test rule.OpenerDoesNotCarryOut ≡ false → test rule.ConfirmerDoesNotOpen ≡ false → test rule.ChangerDoesNotOpen ≡ false → test rule.SenderDoesNotReceive ≡ false → test rule.ReceiverDoesNotOpen ≡ false
        → (r : Rule) → test r ≡ false
    each a b c d e rule.OpenerDoesNotCarryOut = a
    each a b c d e rule.ConfirmerDoesNotOpen = b
    each a b c d e rule.ChangerDoesNotOpen = c
    each a b c d e rule.SenderDoesNotReceive = d
    each a b c d e rule.ReceiverDoesNotOpen = e

forbids_none : (test : Rule → Bool) → ((r : Rule) → test r ≡ false) → find test all_rules ≡ None
forbids_none test h =
    of_none rule.OpenerDoesNotCarryOut (test rule.OpenerDoesNotCarryOut) _ (h rule.OpenerDoesNotCarryOut)
    (of_none rule.ConfirmerDoesNotOpen (test rule.ConfirmerDoesNotOpen) _ (h rule.ConfirmerDoesNotOpen)
    (of_none rule.ChangerDoesNotOpen (test rule.ChangerDoesNotOpen) _ (h rule.ChangerDoesNotOpen)
    (of_none rule.SenderDoesNotReceive (test rule.SenderDoesNotReceive) _ (h rule.SenderDoesNotReceive)
    (of_none rule.ReceiverDoesNotOpen (test rule.ReceiverDoesNotOpen) _ (h rule.ReceiverDoesNotOpen) refl))))

-- each test of the rights
record Clear (s : Office) (today : ℤ) (signs : List ℕ) (grants : Grants) (act : Act) : Type 0 where
  at_all : may_at_all grants (power_for act) ≡ true
  signed : is_signed signs (signature_of act) ≡ true
  timely : is_timely today grants (day_of act) ≡ true
  in_all : list_all (may_in grants (power_for act)) (classes_of s.tree act) ≡ true

clear_of : (s : Office) (today : ℤ) (signs : List ℕ) (grants : Grants) (act : Act) → first_denial (right_denials s today signs grants act) ≡ None → Clear s today signs grants act
clear_of s today signs grants act h =
    let a = none_of denial.Right (not (may_at_all grants (power_for act))) _ h in
    let b = none_of denial.By (not (is_signed signs (signature_of act))) _ a.1 in
    let c = none_of denial.Future (not (is_timely today grants (day_of act))) _ b.1 in
    let d = none_of denial.Class (not (list_all (may_in grants (power_for act)) (classes_of s.tree act))) _ c.1 in
    record { at_all = not_off _ a.0; signed = not_off _ b.0; timely = not_off _ c.0; in_all = not_off _ d.0 }

of_clear : (s : Office) (today : ℤ) (signs : List ℕ) (grants : Grants) (act : Act) → Clear s today signs grants act → first_denial (right_denials s today signs grants act) ≡ None
of_clear s today signs grants act h =
    of_none denial.Right (not (may_at_all grants (power_for act))) _ (off_not _ h.at_all)
    (of_none denial.By (not (is_signed signs (signature_of act))) _ (off_not _ h.signed)
    (of_none denial.Future (not (is_timely today grants (day_of act))) _ (off_not _ h.timely)
    (of_none denial.Class (not (list_all (may_in grants (power_for act)) (classes_of s.tree act))) _ (off_not _ h.in_all) refl)))

-- ---- who may in a class may at all

any_sooner : (p q : Right → Bool) (rights : List Right) → ((x : Right) → p x ≡ true → q x ≡ true) → list_any p rights ≡ true → list_any q rights ≡ true
any_sooner p q [] sooner h = h
any_sooner p q (x ∷ rest) sooner h = or_either (p x) (list_any p rest) (q x) (list_any q rest) (sooner x) (any_sooner p q rest sooner) h
  where
    or_either : (a b c d : Bool) → (a ≡ true → c ≡ true) → (b ≡ true → d ≡ true) → (a || b) ≡ true → (c || d) ≡ true
    or_either true b c d f g h = ap (λ v. v || d) (f refl)
    or_either false b true d f g h = refl
    or_either false b false d f g h = g h

at_all_of : (grants : Grants) (p : Power) (class : Option (List ℕ)) → may_in grants p class ≡ true → may_at_all grants p ≡ true
at_all_of grants p class h =
    any_sooner (is_right p class false) (λ right. same_power right.power p) grants.rights.items (λ right is. (and_parts (same_power right.power p) (covers class false right) is).0) h

-- an act is about one class at least
abbrev IsAboutSome : TreeState → Act → Type 0
IsAboutSome tree act = (class : Option (List ℕ)) × (rest : List (Option (List ℕ))) × (classes_of tree act ≡ class ∷ rest)

put_some : (tree : TreeState) (container : Option ℕ) (own : Option (List ℕ)) → (class : Option (List ℕ)) × (rest : List (Option (List ℕ))) × (put_into tree container own ≡ class ∷ rest)
put_some tree None own = (_, _, refl)
put_some tree (Some a) own = (_, _, refl)

about_some : (tree : TreeState) (it : Act) → IsAboutSome tree it
about_some tree (act.AddAggregation day ref_text title parent class) = put_some tree parent class
about_some tree _ = (_, _, refl)

at_all_by : (grants : Grants) (p : Power) (tree : TreeState) (it : Act) → list_all (may_in grants p) (classes_of tree it) ≡ true → may_at_all grants p ≡ true
at_all_by grants p tree it h =
    let some = about_some tree it in
    let all : (may_in grants p some.0 && list_all (may_in grants p) some.1) ≡ true = sym (ap (list_all (may_in grants p)) some.2) ∙ h in
    at_all_of grants p some.0 (and_parts (may_in grants p some.0) (list_all (may_in grants p) some.1) all).0

-- ---- both ways

permits_of : (settings : Settings) (s : Office) (today : ℤ) (name : SignIn) (it : Act) (o : Option Grants) → grants_of settings name ≡ o → denial_by settings s today (signs settings name) it o ≡ None → Permits settings s today name it
permits_of settings s today name it None e h = absurd cc
permits_of settings s today name it (Some grants) e h =
    let both = none_both (first_denial (right_denials s today (signs settings name) grants it)) (option_map denial.Eyes (rule_against settings.rules s (signs settings name) grants it)) h in
    let clear = clear_of s today (signs settings name) grants it both.0 in
    record {
      grants = grants;
      known = e;
      right = AllPass-from_list_all (may_in grants (power_for it)) (classes_of s.tree it) clear.in_all;
      signed = signed_by (signs settings name) (signature_of it) clear.signed;
      timely = clear.timely;
      apart = none_forbids (forbids settings.rules s (signs settings name) grants it) (none_mapped (rule_against settings.rules s (signs settings name) grants it) both.1);
    }

none_of_permits : (settings : Settings) (s : Office) (today : ℤ) (name : SignIn) (it : Act) → Permits settings s today name it → denial_of settings s today name it ≡ None
none_of_permits settings s today name it h =
    let in_all = list_all-from_AllPass (may_in h.grants (power_for it)) (classes_of s.tree it) h.right in
    let clear : Clear s today (signs settings name) h.grants it = record {
      at_all = at_all_by h.grants (power_for it) s.tree it in_all;
      signed = by_signed (signs settings name) (signature_of it) h.signed;
      timely = h.timely;
      in_all = in_all;
    } in
    ap (λ o. denial_by settings s today (signs settings name) it o) h.known
    ∙ both_none (first_denial (right_denials s today (signs settings name) h.grants it)) (option_map denial.Eyes (rule_against settings.rules s (signs settings name) h.grants it))
    (of_clear s today (signs settings name) h.grants it clear)
    (mapped_none (rule_against settings.rules s (signs settings name) h.grants it) (forbids_none (forbids settings.rules s (signs settings name) h.grants it) h.apart))

pub permits_exactly : (settings : Settings) (s : Office) (today : ℤ) (name : SignIn) (it : Act) → (denial_of settings s today name it ≡ None) ↔ Permits settings s today name it
permits_exactly settings s today name it = (permits_of settings s today name it (grants_of settings name) refl, none_of_permits settings s today name it)

-- ---- a resumption

resumes_of : (settings : Settings) (s : Office) (name : SignIn) (o : Option Grants) → grants_of settings name ≡ o → resumption_denial_by settings s (signs settings name) o ≡ None → PermitsResumption settings s name
resumes_of settings s name None e h = absurd cc
resumes_of settings s name (Some grants) e h =
    let a = none_of denial.Right (not (may_in grants power.Resume None)) _ h in
    let b = none_of (denial.Eyes rule.OpenerDoesNotCarryOut) (settings.rules.opener_does_not_carry_out && is_opener s (signs settings name)) _ a.1 in
    record { grants = grants; known = e; right = not_off _ a.0; apart = b.0 }

none_of_resumes : (settings : Settings) (s : Office) (name : SignIn) → PermitsResumption settings s name → resumption_denial_of settings s name ≡ None
none_of_resumes settings s name h =
    ap (λ o. resumption_denial_by settings s (signs settings name) o) h.known
    ∙ of_none denial.Right (not (may_in h.grants power.Resume None)) _ (off_not _ h.right)
    (of_none (denial.Eyes rule.OpenerDoesNotCarryOut) (settings.rules.opener_does_not_carry_out && is_opener s (signs settings name)) _ h.apart refl)

pub resumes_exactly : (settings : Settings) (s : Office) (name : SignIn) → (resumption_denial_of settings s name ≡ None) ↔ PermitsResumption settings s name
resumes_exactly settings s name = (resumes_of settings s name (grants_of settings name) refl, none_of_resumes settings s name)
