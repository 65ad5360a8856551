-- What an outcome makes of statuses and contents, read number by number.
use Rattle.std.proofs.Common.{◌≡◌, ◌≢◌, ◌↔◌, ℕ, List, length, Some, None, refl, sym, ap, ◌∙◌, subst, true, false, inl, inr}
use Rattle.std.specs.Prelude.{IsSome}
use Rattle.std.specs.Option.{is_some}
use Rattle.std.specs.Cmp.{nat_cmp_total}
use Rattle.std.specs.FinMap.{get, nat_cmp-IsAntisymmetric}
use Rattle.office_records.specs.Lists.{numbered}
use Rattle.office_records.specs.declared.status.Status.{Status}
use Rattle.office_records.specs.declared.status.Status.TheVariants as status
use Rattle.office_records.proofs.Places.{length-edited}
use Rattle.office_rules.specs.Outcomes.{is_ending}
use Rattle.office_rules.specs.declared.outcome.Outcome.{Outcome}
use Rattle.office_rules.specs.declared.outcome.Outcome.TheVariants.{Destroyed, Transferred, Sent, Skipped}
use Rattle.office_rules.specs.Runs.{statuses_with, contents_with}
use Rattle.office_rules.specs.Sound.{ContentsAgree}
use Rattle.office_rules.specs.State.{ByteMap}
use Rattle.office_rules.proofs.SoundMaps.{one_there, edited_here, edited_elsewhere, removed_here, removed_elsewhere, same_or_not}

-- the status of a record after its outcome
abbrev pub status_after : Status → Outcome → Status
status_after was Sent = status.Sent
status_after was Skipped = was
status_after was Destroyed = status.Ended
status_after was Transferred = status.Ended

pub length-statuses_with : (statuses : List Status) (r : ℕ) (o : Outcome) → length (statuses_with statuses r (Some o)) ≡ length statuses
length-statuses_with statuses r Sent = length-edited statuses r (λ _. status.Sent)
length-statuses_with statuses r Skipped = refl
length-statuses_with statuses r Destroyed = length-edited statuses r (λ _. status.Ended)
length-statuses_with statuses r Transferred = length-edited statuses r (λ _. status.Ended)

pub status_here : (statuses : List Status) (r : ℕ) (was : Status) (o : Outcome) → numbered statuses r ≡ Some was → numbered (statuses_with statuses r (Some o)) r ≡ Some (status_after was o)
status_here statuses r was Sent e = edited_here statuses r (λ _. status.Sent) was e
status_here statuses r was Skipped e = e
status_here statuses r was Destroyed e = edited_here statuses r (λ _. status.Ended) was e
status_here statuses r was Transferred e = edited_here statuses r (λ _. status.Ended) was e

pub status_elsewhere : (statuses : List Status) (r q : ℕ) (o : Outcome) → q ≢ r → numbered (statuses_with statuses r (Some o)) q ≡ numbered statuses q
status_elsewhere statuses r q Sent other = edited_elsewhere statuses r q (λ _. status.Sent) other
status_elsewhere statuses r q Skipped other = refl
status_elsewhere statuses r q Destroyed other = edited_elsewhere statuses r q (λ _. status.Ended) other
status_elsewhere statuses r q Transferred other = edited_elsewhere statuses r q (λ _. status.Ended) other

content_elsewhere : (contents : ByteMap) (r q : ℕ) (o : Outcome) → q ≢ r → get (contents_with contents r (Some o)) q ≡ get contents q
content_elsewhere contents r q Sent other = refl
content_elsewhere contents r q Skipped other = refl
content_elsewhere contents r q Destroyed other = removed_elsewhere nat_cmp_total nat_cmp-IsAntisymmetric contents r q other
content_elsewhere contents r q Transferred other = removed_elsewhere nat_cmp_total nat_cmp-IsAntisymmetric contents r q other

-- an ending outcome ends the record, and no other one does
pub ends : (was : Status) (o : Outcome) → is_ending o ≡ true → status_after was o ≡ status.Ended
ends was Sent e = absurd cc
ends was Skipped e = absurd cc
ends was Destroyed e = refl
ends was Transferred e = refl

pub ended_by_it : (was : Status) (o : Outcome) → was ≢ status.Ended → status_after was o ≡ status.Ended → is_ending o ≡ true
ended_by_it was Sent alive e = absurd cc
ended_by_it was Skipped alive e = absurd (alive e)
ended_by_it was Destroyed alive e = refl
ended_by_it was Transferred alive e = refl

-- what is received after its outcome was received before
pub still_received : (was : Status) (o : Outcome) → status_after was o ≡ status.Received → was ≡ status.Received
still_received was Sent e = absurd cc
still_received was Skipped e = e
still_received was Destroyed e = absurd cc
still_received was Transferred e = absurd cc

-- ---- contents

abbrev pub ContentAgrees : List Status → ByteMap → ℕ → Type 0
ContentAgrees statuses contents r = IsSome (get contents r) ↔ ((it : Status) × (numbered statuses r ≡ Some it) × (it ≢ status.Ended))

-- a content that stays, of a record that is not ended
stays : (statuses others : List Status) (contents : ByteMap) (r : ℕ) (was it : Status) → numbered statuses r ≡ Some was → was ≢ status.Ended → numbered others r ≡ Some it → it ≢ status.Ended → ContentAgrees statuses contents r → ContentAgrees others contents r
stays statuses others contents r was it e alive new kept old = (λ some. (it, new, kept), λ is. old.1 (was, e, alive))

-- a content that is gone, of an ended record
gone : (statuses : List Status) (contents : ByteMap) (r : ℕ) → get contents r ≡ None → numbered statuses r ≡ Some status.Ended → ContentAgrees statuses contents r
gone statuses contents r none e = (
  λ some. let no : false ≡ true = sym (ap is_some none) ∙ some in absurd cc,
  λ is. absurd (is.2 (one_there (numbered statuses r) is.0 status.Ended is.1 e)),
)

content_here : (statuses : List Status) (contents : ByteMap) (r : ℕ) (was : Status) (o : Outcome) → numbered statuses r ≡ Some was → was ≢ status.Ended → ContentAgrees statuses contents r → ContentAgrees (statuses_with statuses r (Some o)) (contents_with contents r (Some o)) r
content_here statuses contents r was Sent e alive old = stays statuses _ contents r was status.Sent e alive (status_here statuses r was Sent e) (λ same. absurd cc) old
content_here statuses contents r was Skipped e alive old = old
content_here statuses contents r was Destroyed e alive old = gone _ _ r (removed_here nat_cmp_total nat_cmp-IsAntisymmetric contents r) (status_here statuses r was Destroyed e)
content_here statuses contents r was Transferred e alive old = gone _ _ r (removed_here nat_cmp_total nat_cmp-IsAntisymmetric contents r) (status_here statuses r was Transferred e)

content_left : (statuses : List Status) (contents : ByteMap) (r q : ℕ) (o : Outcome) → q ≢ r → ContentAgrees statuses contents q → ContentAgrees (statuses_with statuses r (Some o)) (contents_with contents r (Some o)) q
content_left statuses contents r q o other old = (
  λ some. let is = old.0 (ap is_some (sym (content_elsewhere contents r q o other)) ∙ some) in (is.0, status_elsewhere statuses r q o other ∙ is.1, is.2),
  λ is. ap is_some (content_elsewhere contents r q o other) ∙ old.1 (is.0, sym (status_elsewhere statuses r q o other) ∙ is.1, is.2),
)

pub ContentsAgree-outcome : (statuses : List Status) (contents : ByteMap) (r : ℕ) (was : Status) (o : Outcome) → numbered statuses r ≡ Some was → was ≢ status.Ended → ContentsAgree statuses contents → ContentsAgree (statuses_with statuses r (Some o)) (contents_with contents r (Some o))
ContentsAgree-outcome statuses contents r was o e alive old q = elim (same_or_not q r) [
  | inl same ↦ subst (λ (n : ℕ). ContentAgrees (statuses_with statuses r (Some o)) (contents_with contents r (Some o)) n) (sym same) (content_here statuses contents r was o e alive (old r))
  | inr other ↦ content_left statuses contents r q o other (old q)
]
