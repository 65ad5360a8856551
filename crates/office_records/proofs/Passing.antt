-- Of all the things of a list what is so of each, seen one after another.
use Rattle.std.proofs.Common.{◌≡◌, List, [], ◌∷◌, ◌++◌, refl, sym, ap, ◌∙◌, subst, append_assoc, append-nil, arith}
use Rattle.std.specs.List.{All}
use Rattle.std.proofs.lemmas.List.Elements.{All-contains, All-nil, All-push, Contains-append_right}

module _ {A : Type 0} (P : A → Type 0) where
  -- it is so of those so far, and those that are left are the others
  abbrev pub HavePassed : List A → List A → Type 0
  HavePassed left all = (done : List A) × (done ++ left ≡ all) × All P done

  -- of none at first
  pub none_passed : (left all : List A) → left ≡ all → HavePassed left all
  none_passed left all same = ([], same, All-nil P)

  -- of one more
  pub passed_next : (left rest all : List A) (x : A) → HavePassed left all → left ≡ x ∷ rest → P x → HavePassed rest all
  passed_next left rest all x (done, whole, passed) first is =
      (done ++ x ∷ [], append_assoc done (x ∷ []) rest ∙ ap (λ xs. done ++ xs) (sym first) ∙ whole, All-push P done x passed is)

  -- of all at last
  pub all_passed : (left all : List A) → HavePassed left all → left ≡ [] → All P all
  all_passed left all (done, whole, passed) none = subst (All P) (sym (append-nil done) ∙ ap (λ xs. done ++ xs) (sym none) ∙ whole) passed

  -- the next one is one of all
  pub next_passes : (left rest all : List A) (x : A) → HavePassed left all → left ≡ x ∷ rest → All P all → P x
  next_passes left rest all x (done, whole, passed) first is =
      All-contains P (done ++ x ∷ rest) x (subst (All P) (sym whole ∙ ap (λ xs. done ++ xs) first) is) (Contains-append_right done (x ∷ rest) x (0, omega arith, refl))
