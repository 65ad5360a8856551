-- The acts before the first that is not permitted, by what is known of the first of them.
use Rattle.std.proofs.Common.{◌≡◌, ℕ, ◌+◌, ◌<◌, ◌≤◌, arith, Bool, true, false, cond, ◌&&◌, length, take, drop, get_or, List, [], ◌∷◌, ◌++◌, refl, sym, ap, subst, ◌∙◌, append_assoc, append-nil}
use Rattle.std.proofs.lemmas.List.{drop_more, length-append, length-take-le, length_push, take-append-drop, take_at, take_more}
use Rattle.office_rules.specs.Acts.{after, step}
use Rattle.office_rules.specs.Forms.{AreWellFormed}
use Rattle.office_rules.specs.State.{State, Office}
use Rattle.office_rules.specs.declared.act.Act.{Act}
use Rattle.office_desk.specs.Guarded.{are_permitted, permitted_acts}
use Rattle.office_desk.proofs.Prefixes.{Begins}

both_true : (x y : Bool) → (x && y) ≡ true → (x ≡ true) × (y ≡ true)
both_true true y is = (refl, is)
both_true false y is = absurd cc

module _ (permits : Office → Act → Bool) where
  formed_by : (b : Bool) (a : Act) (rest : List Act) → AreWellFormed (a ∷ rest) → AreWellFormed (cond b (a ∷ rest) [])
  formed_by true a rest formed = formed
  formed_by false a rest formed = tt

  -- each is of its form
  pub permitted_formed : (s : State) (acts : List Act) → AreWellFormed acts → AreWellFormed (permitted_acts permits s acts)
  permitted_formed s [] formed = tt
  permitted_formed s (a ∷ rest) formed =
      formed_by (permits s.office a) a (permitted_acts permits (step s a).1 rest) (formed.0, permitted_formed (step s a).1 rest formed.1)

  -- acts that are permitted are the first of them
  permitted_past : (s : State) (first rest : List Act) → are_permitted permits s first ≡ true → permitted_acts permits s (first ++ rest) ≡ first ++ permitted_acts permits (after s first) rest
  permitted_past s [] rest all = refl
  permitted_past s (a ∷ first) rest all =
      let both = both_true (permits s.office a) (are_permitted permits (step s a).1 first) all in
      ap (λ b. cond b (a ∷ permitted_acts permits (step s a).1 (first ++ rest)) []) both.0
      ∙ ap (λ xs. a ∷ xs) (permitted_past (step s a).1 first rest both.1)

  are_past : (s : State) (first rest : List Act) → are_permitted permits s first ≡ true → are_permitted permits s (first ++ rest) ≡ are_permitted permits (after s first) rest
  are_past s [] rest all = refl
  are_past s (a ∷ first) rest all =
      let both = both_true (permits s.office a) (are_permitted permits (step s a).1 first) all in
      ap (λ b. b && are_permitted permits (step s a).1 (first ++ rest)) both.0
      ∙ are_past (step s a).1 first rest both.1

  -- all of them are permitted, so they are all
  pub permitted_all : (s : State) (acts : List Act) → are_permitted permits s acts ≡ true → permitted_acts permits s acts ≡ acts
  permitted_all s acts all = ap (permitted_acts permits s) (sym (append-nil acts)) ∙ permitted_past s acts [] all ∙ append-nil acts

  module _ (acts : List Act) (i : ℕ) (a : Act) (within : i < length acts) (is : a ≡ get_or acts i a) (s : State) (so_far : are_permitted permits s (take i acts) ≡ true) where
    parts : acts ≡ take i acts ++ a ∷ drop (i + 1) acts
    parts = sym (take-append-drop i acts) ∙ ap (λ rest. take i acts ++ rest) (drop_more acts i a within ∙ ap (λ b. b ∷ drop (i + 1) acts) (sym is))

    next_act : take (i + 1) acts ≡ take i acts ++ a ∷ []
    next_act = take_more acts i a within ∙ ap (λ b. take i acts ++ b ∷ []) (sym is)

    -- the next one is not permitted
    pub denied_acts : permits (after s (take i acts)).office a ≡ false → permitted_acts permits s acts ≡ take i acts
    denied_acts denied =
        ap (permitted_acts permits s) parts ∙ permitted_past s (take i acts) (a ∷ drop (i + 1) acts) so_far
        ∙ ap (λ b. take i acts ++ cond b (a ∷ permitted_acts permits (step (after s (take i acts)) a).1 (drop (i + 1) acts)) []) denied
        ∙ append-nil (take i acts)

    pub denied_all : permits (after s (take i acts)).office a ≡ false → false ≡ are_permitted permits s acts
    denied_all denied =
        sym (ap (are_permitted permits s) parts ∙ are_past s (take i acts) (a ∷ drop (i + 1) acts) so_far
        ∙ ap (λ b. b && are_permitted permits (step (after s (take i acts)) a).1 (drop (i + 1) acts)) denied)

    -- it is
    pub permitted_next : permits (after s (take i acts)).office a ≡ true → are_permitted permits s (take (i + 1) acts) ≡ true
    permitted_next may =
        ap (are_permitted permits s) next_act ∙ are_past s (take i acts) (a ∷ []) so_far ∙ ap (λ b. b && true) may

    pub begins_here : permits (after s (take i acts)).office a ≡ true → AreWellFormed acts → Begins acts i (permitted_acts permits s acts)
    begins_here may formed =
        let more = permitted_acts permits (step (after s (take i acts)) a).1 (drop (i + 1) acts) in
        let whole : permitted_acts permits s acts ≡ take i acts ++ a ∷ more
        = ap (permitted_acts permits s) parts ∙ permitted_past s (take i acts) (a ∷ drop (i + 1) acts) so_far
        ∙ ap (λ b. take i acts ++ cond b (a ∷ more) []) may in
        let low : i ≤ length acts = omega (arith, within) in
        let long : length (take i acts) ≡ i = length-take-le i acts low in
        let one_more : length (take i acts ++ a ∷ []) ≡ i + 1 = length_push (take i acts) a ∙ ap (λ n. n + 1) long in
        record {
          formed = permitted_formed s acts formed;
          within = subst (λ (n : ℕ). i < n) (sym (ap length whole ∙ length-append (take i acts) (a ∷ more))) (omega (arith, long));
          first = ap (take i) whole ∙ take_at (take i acts) (a ∷ more) i long;
          next = ap (take (i + 1)) (whole ∙ sym (append_assoc (take i acts) (a ∷ []) more)) ∙ take_at (take i acts ++ a ∷ []) more (i + 1) one_more ∙ sym next_act;
        }

-- a guard that permits all lets all through
pub all_let_through : (s : State) (acts : List Act) → permitted_acts (λ o a. true) s acts ≡ acts
all_let_through s [] = refl
all_let_through s (a ∷ rest) = ap (λ xs. a ∷ xs) (all_let_through (step s a).1 rest)
