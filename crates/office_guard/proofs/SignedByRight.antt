-- What is signed in an office of deeds by right is signed by who signed in.
use Rattle.std.proofs.Common.{◌≡◌, ◌⊎◌, inl, inr, ℕ, zero, suc, List, [], ◌∷◌, Some, None, refl, sym, ap, ◌∙◌}
use Rattle.std.specs.Prelude.{slice_get}
use Rattle.office_records.specs.Disposal.{confirmation_of}
use Rattle.office_records.specs.declared.head.Confirmation.{Confirmation}
use Rattle.office_rules.specs.Acts.{after, step}
use Rattle.office_rules.specs.State.{Office, State}
use Rattle.office_access.specs.Deeds.{Deed, IsSignedIn, acts_of}
use Rattle.office_access.specs.Settings.{signs}
use Rattle.office_access.specs.Signing.{signature_of}
use Rattle.office_access.proofs.Confirmed.{one_act}
use Rattle.office_access.proofs.Signed.{signed_by}
use Rattle.office_guard.specs.ByRights.{AllByRights, IsByRight}

-- an act by right that states who did it is signed by what its name signs; a step of a run states nobody
signed_by_right : (s : Office) (d : Deed) (by : List ℕ) → IsByRight s d → signature_of d.act ≡ Some by → signs d.settings d.name ≡ by
signed_by_right s d by right is = elim right [
  | inl may ↦ signed_by d s by may is
  | inr taken ↦ let none : None ≡ Some by = sym (ap signature_of taken.act) ∙ is in absurd (cc)
]

pub signed_at : (s : State) (deeds : List Deed) (i : ℕ) (d : Deed) (by : List ℕ) → AllByRights s deeds → slice_get deeds i ≡ Some d → signature_of d.act ≡ Some by → signs d.settings d.name ≡ by
signed_at s [] i d by all there is = absurd cc
signed_at s (x ∷ rest) zero d by all there is =
    let same : x ≡ d = cc in
    ap (λ (it : Deed). signs it.settings it.name) (sym same) ∙ signed_by_right s.office x by all.0 (ap (λ (it : Deed). signature_of it.act) same ∙ is)
signed_at s (x ∷ rest) (suc i) d by all there is = signed_at (step s x.act).1 rest i d by all.1 there is

pub confirmed_after : (s : State) (deeds : List Deed) (r : ℕ) (it : Confirmation) → AllByRights s deeds → confirmation_of (after s (acts_of deeds)).office.tree r ≡ Some it
    → (confirmation_of s.office.tree r ≡ Some it) ⊎ IsSignedIn deeds r it
confirmed_after s [] r it all h = inl h
confirmed_after s (d ∷ rest) r it all h =
    elim (confirmed_after (step s d.act).1 rest r it all.1 h) [
      | inl before ↦ elim (one_act s d.act r it before) [
        | inl earlier ↦ inl earlier
        | inr now ↦ inr (record { place = 0; deed = d; done = refl; act = now; signed = signed_by_right s.office d it.by all.0 (ap signature_of now) })
      ]
      | inr later ↦ inr (record { place = suc later.place; deed = later.deed; done = later.done; act = later.act; signed = later.signed })
    ]
