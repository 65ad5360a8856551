-- What comes of the records that a run takes changes no other record's status and content.
use Rattle.std.proofs.Common.{◌≡◌, ℕ, suc, List, [], ◌∷◌, refl, ◌∙◌, arith}
use Rattle.std.specs.FinMap.{get}
use Rattle.std.specs.List.{Contains}
use Rattle.office_records.specs.Lists.{numbered}
use Rattle.office_records.specs.declared.status.Status.{Status}
use Rattle.office_rules.specs.Disposing.{outcome_of}
use Rattle.office_rules.specs.Runs.{all_contents, all_statuses, contents_with, statuses_with}
use Rattle.office_rules.specs.State.{ByteMap, Office}
use Rattle.office_rules.proofs.Contents.{contents_other}
use Rattle.office_rules.proofs.OneStep.{statuses_other}

not_first : (taken : List ℕ) (x r : ℕ) → (Contains (x ∷ taken) r → ⊥) → (x ≡ r → ⊥)
not_first taken x r untaken e = untaken (0, omega arith, e)

not_rest : (taken : List ℕ) (x r : ℕ) → (Contains (x ∷ taken) r → ⊥) → (Contains taken r → ⊥)
not_rest taken x r untaken among = untaken (suc among.0, omega (arith, among.1), among.2)

pub status_untaken : (s : Office) (taken : List ℕ) (r : ℕ) (statuses : List Status) → (Contains taken r → ⊥) → numbered (all_statuses s taken statuses) r ≡ numbered statuses r
status_untaken s [] r statuses untaken = refl
status_untaken s (x ∷ taken) r statuses untaken =
    status_untaken s taken r (statuses_with statuses x (outcome_of s x)) (not_rest taken x r untaken)
    ∙ statuses_other statuses x r (outcome_of s x) (not_first taken x r untaken)

pub content_untaken : (s : Office) (taken : List ℕ) (r : ℕ) (contents : ByteMap) → (Contains taken r → ⊥) → get (all_contents s taken contents) r ≡ get contents r
content_untaken s [] r contents untaken = refl
content_untaken s (x ∷ taken) r contents untaken =
    content_untaken s taken r (contents_with contents x (outcome_of s x)) (not_rest taken x r untaken)
    ∙ contents_other contents x r (outcome_of s x) (not_first taken x r untaken)
