-- Who a certificate names, by the deeds of its office.
use Rattle.std.proofs.Common.{◌≡◌, ◌<◌, ℕ, ℤ, zero, suc, List, [], ◌∷◌, take, Some, sym, ap, ◌∙◌, inl, inr, arith}
use Rattle.std.specs.Prelude.{slice_get}
use Rattle.std.proofs.lemmas.List.{take-map}
use Rattle.office_records.specs.Disposal.{confirmation_of}
use Rattle.office_records.specs.declared.head.Confirmation.{Confirmation}
use Rattle.office_rules.specs.Acts.{after, step}
use Rattle.office_rules.specs.State.{State, empty_state}
use Rattle.office_rules.specs.declared.act.Act.{Act}
use Rattle.office_rules.specs.declared.act.Act.TheVariants.{OpenRun}
use Rattle.office_access.specs.Deeds.{Deed, IsSignedIn, acts_of}
use Rattle.office_access.specs.Signing.{signature_of}
use Rattle.office_evidence.specs.History.{IsOpenedAt}
use Rattle.office_evidence.specs.Truth.{IsTrueLine}
use Rattle.office_evidence.specs.declared.parsed.EntryLine.{EntryLine}
use Rattle.office_guard.specs.ByRights.{AllByRights}
use Rattle.office_guard.specs.SignedLines.{IsSignedLine, IsSignedOpening}
use Rattle.office_guard.proofs.Deeds.{deed_at}
use Rattle.office_guard.proofs.SignedByRight.{confirmed_after, signed_at}

-- the first deeds were done by right
first_by_rights : (n : ℕ) (s : State) (deeds : List Deed) → AllByRights s deeds → AllByRights s (take n deeds)
first_by_rights zero s deeds all = tt
first_by_rights (suc n) s [] all = tt
first_by_rights (suc n) s (d ∷ deeds) all = (all.0, first_by_rights n (step s d.act).1 deeds all.1)

-- one of the first is one of all, before the place
among_first : (n : ℕ) (deeds : List Deed) (i : ℕ) (d : Deed) → slice_get (take n deeds) i ≡ Some d → (i < n) × (slice_get deeds i ≡ Some d)
among_first zero deeds i d is = absurd cc
among_first (suc n) [] i d is = absurd cc
among_first (suc n) (e ∷ deeds) zero d is = (omega arith, is)
among_first (suc n) (e ∷ deeds) (suc i) d is = let rest = among_first n deeds i d is in (omega (arith, rest.0), rest.1)

-- in a new office nothing is confirmed
none_before : (r : ℕ) (it : Confirmation) → confirmation_of empty_state.office.tree r ≡ Some it → ⊥
none_before zero it is = absurd cc
none_before (suc r) it is = absurd cc

module _ (deeds : List Deed) (place : ℕ) (line : EntryLine) where
  signed_by : (it : Confirmation) → it.by ≡ line.confirmed_by → IsSignedIn (take place deeds) line.record_no it → IsSignedLine deeds place line
  signed_by it by signed =
      let there = among_first place deeds signed.place signed.deed signed.done in
      record {
        earlier = signed.place;
        before = there.0;
        deed = signed.deed;
        done = there.1;
        day = it.day;
        action = it.action;
        act = rw by at signed.act;
        signed = signed.signed ∙ by;
      }

  pub signed_line : (day : ℤ) → AllByRights empty_state deeds → IsTrueLine empty_state (acts_of deeds) day place line → IsSignedLine deeds place line
  signed_line day all true_line =
      let it = true_line.confirmed.confirmation in
      let first : take place (acts_of deeds) ≡ acts_of (take place deeds) = take-map (λ (d : Deed). d.act) place deeds in
      let stored : confirmation_of (after empty_state (acts_of (take place deeds))).office.tree line.record_no ≡ Some it
      = ap (λ (acts : List Act). confirmation_of (after empty_state acts).office.tree line.record_no) (sym first) ∙ true_line.confirmed.stored in
      elim (confirmed_after empty_state (take place deeds) line.record_no it (first_by_rights place empty_state deeds all) stored) [
        | inl old ↦ absurd (none_before line.record_no it old)
        | inr signed ↦ signed_by it true_line.confirmed.by signed
      ]

pub signed_opening : (s : State) (deeds : List Deed) (place run : ℕ) (day : ℤ) (by : List ℕ) → AllByRights s deeds → IsOpenedAt s (acts_of deeds) place run day by → IsSignedOpening deeds place day by
signed_opening s deeds place run day by all opened =
    let it = deed_at deeds place (OpenRun day by) opened.asked in
    record {
      deed = it.0;
      done = it.1;
      act = it.2;
      signed = signed_at s deeds place it.0 by all it.1 (ap signature_of it.2);
    }
