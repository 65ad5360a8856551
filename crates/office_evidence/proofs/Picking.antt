-- The lines of one kind, picked one after another: what is left of them, and of the things that they were written of.
use Rattle.std.proofs.Common.{◌≡◌, ℕ, ◌+◌, ◌<◌, ◌≤◌, Bool, true, false, cond, List, [], ◌∷◌, ◌++◌, drop, filter, get_or, length, map, refl, sym, ap, subst, ◌∙◌, append_assoc, append-nil, arith, Bor}
use Rattle.std.specs.List.{All, Contains}
use Rattle.std.proofs.lemmas.List.{drop_all, drop_more}
use Rattle.std.proofs.lemmas.List.Elements.{All-append, All-cons, All-contains, All-nil, Contains-append_right}

-- a text behind a reference
abbrev Line : Type 0
Line = Bor (List ℕ)

module _ {A : Type 0} (test : List ℕ → Bool) (form : A → List ℕ) (P : A → Type 0) where
  -- the lines of the kind from a place on
  abbrev pub left : List Line → ℕ → List (List ℕ)
  left lines i = filter test (map (λ (line : Line). line.now) (drop i lines))

  -- what is read so far, and what is left, by the lines that are left
  abbrev pub IsLeft : List Line → ℕ → List A → List A → Type 0
  IsLeft lines i read them = (rest : List A) × (them ≡ read ++ rest) × (left lines i ≡ map form rest)

  next_line : (lines : List Line) (i : ℕ) (d : Line) → i < length lines → left lines i ≡ cond (test (get_or lines i d).now) ((get_or lines i d).now ∷ left lines (i + 1)) (left lines (i + 1))
  next_line lines i d within = ap (λ (ls : List Line). filter test (map (λ (x : Line). x.now) ls)) (drop_more lines i d within)

  -- a line of another kind
  pub passed_over : (lines : List Line) (i : ℕ) (d : Line) (read them : List A) → i < length lines → test (get_or lines i d).now ≡ false → IsLeft lines i read them → IsLeft lines (i + 1) read them
  passed_over lines i d read them within other so_far =
      let line : List ℕ = (get_or lines i d).now in
      let next = next_line lines i d within ∙ ap (λ b. cond b (line ∷ left lines (i + 1)) (left lines (i + 1))) other in
      (so_far.0, so_far.1, sym next ∙ so_far.2)

  -- the thing that a line was written of
  pub record IsNext (lines : List Line) (i : ℕ) (line : List ℕ) (read them : List A) : Type 0 where
    pub next : A
    pub rest : List A
    pub them_are : them ≡ read ++ next ∷ rest
    pub written : line ≡ form next
    pub formed : P next
    pub left_are : left lines (i + 1) ≡ map form rest

  next_of : (rest : List A) (w : List ℕ) (ws : List (List ℕ)) → w ∷ ws ≡ map form rest → (next : A) × (more : List A) × (rest ≡ next ∷ more) × (w ≡ form next) × (ws ≡ map form more)
  next_of [] w ws same = absurd cc
  next_of (x ∷ xs) w ws same = (x, xs, refl, cc, cc)

  pub next_is : (lines : List Line) (i : ℕ) (d : Line) (read them : List A) → i < length lines → test (get_or lines i d).now ≡ true → All P them → IsLeft lines i read them → IsNext lines i (get_or lines i d).now read them
  next_is lines i d read them within of_kind formed so_far =
      let line : List ℕ = (get_or lines i d).now in
      let next = next_line lines i d within ∙ ap (λ b. cond b (line ∷ left lines (i + 1)) (left lines (i + 1))) of_kind in
      let it = next_of so_far.0 line (left lines (i + 1)) (sym next ∙ so_far.2) in
      let are : them ≡ read ++ it.0 ∷ it.1 = so_far.1 ∙ ap (λ (rest : List A). read ++ rest) it.2 in
      record {
        next = it.0;
        rest = it.1;
        them_are = are;
        written = it.3;
        formed = All-contains P them it.0 formed (subst (λ (xs : List A). Contains xs it.0) (sym are) (Contains-append_right read (it.0 ∷ it.1) it.0 (0, omega arith, refl)));
        left_are = it.4;
      }

  -- and it is read
  pub read_next : (lines : List Line) (i : ℕ) (line : List ℕ) (read them now : List A) (x : A) → (it : IsNext lines i line read them) → x ≡ it.next → now ≡ read ++ x ∷ [] → IsLeft lines (i + 1) now them
  read_next lines i line read them now x it same pushed = (
    it.rest,
    it.them_are ∙ sym (append_assoc read (it.next ∷ []) it.rest) ∙ ap (λ (xs : List A). xs ++ it.rest) (ap (λ (y : A). read ++ y ∷ []) (sym same) ∙ sym pushed),
    it.left_are,
  )

  -- before the first line and after the last
  pub at_first : (lines : List Line) (them : List A) → filter test (map (λ (line : Line). line.now) lines) ≡ map form them → IsLeft lines 0 [] them
  at_first lines them same = (them, refl, same)

  none_left : (rest : List A) → [] ≡ map form rest → rest ≡ []
  none_left [] same = refl
  none_left (x ∷ xs) same = absurd cc

  pub at_last : (lines : List Line) (i : ℕ) (read them : List A) → length lines ≤ i → IsLeft lines i read them → read ≡ them
  at_last lines i read them low it =
      let gone : left lines i ≡ [] = ap (λ (ls : List Line). filter test (map (λ (x : Line). x.now) ls)) (drop_all i lines low) in
      sym (it.1 ∙ ap (λ (rest : List A). read ++ rest) (none_left it.0 (sym gone ∙ it.2)) ∙ append-nil read)

-- what was read, and one more
pub one_more_so : {A : Type 0} (P : A → Type 0) (read now : List A) (x : A) → All P read → P x → now ≡ read ++ x ∷ [] → All P now
one_more_so P read now x so is pushed = subst (λ xs. All P xs) (sym pushed) (All-append P read (x ∷ []) so (All-cons P x [] is (All-nil P)))
