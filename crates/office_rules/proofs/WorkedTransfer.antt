-- What comes of a transfer: sending, the receipt, and the end under a hold or free.
use Rattle.std.proofs.Common.{◌≡◌, ◌≢◌, ℕ, List, [], ◌∷◌, Bool, true, false, not, Option, Some, refl, sym, ap}
use Rattle.std.specs.Prelude.{codes}
use Rattle.std.specs.Str.{bytes_eq}
use Rattle.std.specs.Bool.{Decides}
use Rattle.std.proofs.lemmas.Slice.Eq.{bytes_eq-Decides}
use Rattle.sha2.specs.Sha256.{sha256}
use Rattle.office_base.specs.declared.refusal.Refusal.{Refusal}
use Rattle.office_base.specs.declared.refusal.Refusal.TheVariants.{DayBack, NoSuch, Ended, NotSent, WrongDigest}
use Rattle.office_records.specs.Conditions.{first_of}
use Rattle.office_records.specs.Tree.{status_of, action_of}
use Rattle.office_records.specs.declared.action.Action.TheVariants as action
use Rattle.office_records.specs.declared.status.Status.TheVariants as status
use Rattle.office_rules.specs.Holds.{is_held}
use Rattle.office_rules.specs.declared.outcome.Outcome.TheVariants as outcome
use Rattle.office_rules.specs.Conditions.{refusals_of_receipt}
use Rattle.office_rules.specs.Disposing.{outcome_by, outcome_of}
use Rattle.office_rules.specs.Effects.{after_receipt}
use Rattle.office_rules.specs.Meanings.{IsAccepted, IsHeldIn}
use Rattle.office_rules.specs.State.{Office}
use Rattle.office_rules.specs.Worked.{filing_day, sent_office, ended_office}

pub here_is_sent : (s : Office) (r : ℕ) → status_of s.tree r ≡ Some status.Here → action_of s.tree r ≡ Some action.Transfer → outcome_of s r ≡ Some outcome.Sent
here_is_sent s r here transfer = λ i. outcome_by (here i) (transfer i) (is_held s.holds s.tree r)

pub held_is_skipped : (s : Office) (r : ℕ) → status_of s.tree r ≡ Some status.Received → IsHeldIn s r → outcome_of s r ≡ Some outcome.Skipped
held_is_skipped s r received held = λ i. outcome_by (received i) (action_of s.tree r) (held i)

pub free_is_ended : (s : Office) (r : ℕ) → status_of s.tree r ≡ Some status.Received → is_held s.holds s.tree r ≡ false → outcome_of s r ≡ Some outcome.Transferred
free_is_ended s r received free = λ i. outcome_by (received i) (action_of s.tree r) (free i)

-- a test that decides a false statement fails
pub fails : {P : Type 0} (b : Bool) → Decides b P → ¬ P → b ≡ false
fails true d n = absurd (n (d.0 refl))
fails false d n = refl

abbrev by_digest : Bool → Option Refusal
by_digest same = first_of ((DayBack, false) ∷ (NoSuch, false) ∷ (Ended, false) ∷ (NotSent, false) ∷ (WrongDigest, not same) ∷ [])

pub other_digest : (digest : List ℕ) → digest ≢ sha256 (codes "abc") → first_of (refusals_of_receipt sent_office filing_day 1 digest) ≡ Some WrongDigest
other_digest digest other = ap by_digest (fails (bytes_eq (sha256 (codes "abc")) digest) (bytes_eq-Decides _ _) (λ e. other (sym e)))

pub own_digest : IsAccepted (refusals_of_receipt sent_office filing_day 1 (sha256 (codes "abc")))
own_digest = ap by_digest ((bytes_eq-Decides (sha256 (codes "abc")) (sha256 (codes "abc"))).1 refl)

pub is_received : (by : List ℕ) → status_of (after_receipt sent_office filing_day 1 by).tree 1 ≡ Some status.Received
is_received by = refl

pub ended_has_no_receipt : (digest : List ℕ) → first_of (refusals_of_receipt ended_office filing_day 1 digest) ≡ Some Ended
ended_has_no_receipt digest = refl
