-- Acts that a keeper lets through, as deeds.
use Rattle.std.proofs.Common.{◌≡◌, ℕ, ℤ, zero, suc, Bool, true, false, cond, ◌&&◌, List, [], ◌∷◌, ◌++◌, Option, Some, None, refl, ap, ◌∙◌}
use Rattle.std.specs.Option.{is_none}
use Rattle.std.specs.Prelude.{slice_get}
use Rattle.office_access.specs.Deeds.{AllPermitted, Deed, acts_of}
use Rattle.office_access.specs.Permits.{Permits, denial_of}
use Rattle.office_access.specs.Settings.{Settings}
use Rattle.office_access.specs.declared.denial.Denial.{Denial}
use Rattle.office_access.specs.declared.person.SignIn.{SignIn}
use Rattle.office_access.proofs.Exact.{permits_exactly}
use Rattle.office_desk.specs.Guarded.{are_permitted}
use Rattle.office_guard.specs.Permitted.{IsDenied, deeds_of, is_permitted, permitted_to}
use Rattle.office_rules.specs.Acts.{after, step}
use Rattle.office_rules.specs.State.{Office, State}
use Rattle.office_rules.specs.declared.act.Act.{Act}

none_by : (o : Option Denial) → is_none o ≡ true → o ≡ None
none_by None h = refl
none_by (Some d) h = absurd cc

not_none : (o : Option Denial) → is_none o ≡ false → o ≡ None → ⊥
not_none None h e = absurd cc
not_none (Some d) h e = absurd cc

-- deeds behind deeds
pub joined : (s : State) (deeds more : List Deed) → AllPermitted s deeds → AllPermitted (after s (acts_of deeds)) more → AllPermitted s (deeds ++ more)
joined s [] more all rest = rest
joined s (d ∷ deeds) more all rest = (all.0, joined (step s d.act).1 deeds more all.1 rest)

-- a deed with its act
pub deed_at : (deeds : List Deed) (i : ℕ) (a : Act) → slice_get (acts_of deeds) i ≡ Some a → (d : Deed) × (slice_get deeds i ≡ Some d) × (d.act ≡ a)
deed_at [] i a is = absurd cc
deed_at (d ∷ deeds) zero a is = (d, refl, cc)
deed_at (d ∷ deeds) (suc i) a is = deed_at deeds i a is

module _ (settings : Settings) (today : ℤ) (name : SignIn) where
  may : (s : Office) (a : Act) → is_permitted settings today name s a ≡ true → Permits settings s today name a
  may s a h = (permits_exactly settings s today name a).0 (none_by (denial_of settings s today name a) h)

  may_not : (s : Office) (a : Act) → is_permitted settings today name s a ≡ false → Permits settings s today name a → ⊥
  may_not s a h permits = not_none (denial_of settings s today name a) h ((permits_exactly settings s today name a).1 permits)

  -- each act that is let through is a deed that was permitted
  deed_by : (b : Bool) (s : State) (a : Act) (rest : List Act) → is_permitted settings today name s.office a ≡ b → AllPermitted (step s a).1 (deeds_of settings today name (permitted_to settings today name (step s a).1 rest))
      → AllPermitted s (deeds_of settings today name (cond b (a ∷ permitted_to settings today name (step s a).1 rest) []))
  deed_by true s a rest is more = (may s.office a is, more)
  deed_by false s a rest is more = tt

  pub all_deeds : (s : State) (acts : List Act) → AllPermitted s (deeds_of settings today name (permitted_to settings today name s acts))
  all_deeds s [] = tt
  all_deeds s (a ∷ rest) = deed_by (is_permitted settings today name s.office a) s a rest refl (all_deeds (step s a).1 rest)

  -- if each is permitted, all are let through
  through_by : (b : Bool) (s : State) (a : Act) (rest : List Act) → (b && are_permitted (is_permitted settings today name) (step s a).1 rest) ≡ true
      → (are_permitted (is_permitted settings today name) (step s a).1 rest ≡ true → permitted_to settings today name (step s a).1 rest ≡ rest)
      → cond b (a ∷ permitted_to settings today name (step s a).1 rest) [] ≡ a ∷ rest
  through_by true s a rest all more = ap (λ xs. a ∷ xs) (more all)
  through_by false s a rest all more = absurd cc

  pub all_through : (s : State) (acts : List Act) → are_permitted (is_permitted settings today name) s acts ≡ true → permitted_to settings today name s acts ≡ acts
  all_through s [] all = refl
  all_through s (a ∷ rest) all = through_by (is_permitted settings today name s.office a) s a rest all (all_through (step s a).1 rest)

  -- if one is not, it is denied behind those that are let through
  one_more : (s : State) (a : Act) (rest : List Act) → is_permitted settings today name s.office a ≡ true → IsDenied settings today name (step s a).1 rest → IsDenied settings today name s (a ∷ rest)
  one_more s a rest is it = record {
    place = suc it.place;
    act = it.act;
    there = it.there;
    first = ap (λ b. cond b (a ∷ permitted_to settings today name (step s a).1 rest) []) is ∙ ap (λ xs. a ∷ xs) it.first;
    denied = it.denied;
  }

  denied_by : (b : Bool) (s : State) (a : Act) (rest : List Act) → is_permitted settings today name s.office a ≡ b
      → (b && are_permitted (is_permitted settings today name) (step s a).1 rest) ≡ false
      → (are_permitted (is_permitted settings today name) (step s a).1 rest ≡ false → IsDenied settings today name (step s a).1 rest)
      → IsDenied settings today name s (a ∷ rest)
  denied_by true s a rest is none more = one_more s a rest is (more none)
  denied_by false s a rest is none more = record {
    place = 0;
    act = a;
    there = refl;
    first = ap (λ b. cond b (a ∷ permitted_to settings today name (step s a).1 rest) []) is;
    denied = may_not s.office a is;
  }

  pub one_denied : (s : State) (acts : List Act) → are_permitted (is_permitted settings today name) s acts ≡ false → IsDenied settings today name s acts
  one_denied s [] none = absurd cc
  one_denied s (a ∷ rest) none = denied_by (is_permitted settings today name s.office a) s a rest refl none (one_denied (step s a).1 rest)
