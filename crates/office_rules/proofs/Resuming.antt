-- A run that is stopped and resumed ends as the run that never stopped.
use Rattle.std.proofs.Common.{◌≡◌, ℕ, zero, suc, ◌≤◌, List, [], ◌∷◌, length, take, Some, None, refl, sym, ap, ◌∙◌, arith, inl, inr}
use Rattle.std.proofs.lemmas.Bool.{cases_lt}
use Rattle.office_rules.specs.Runs.{open_run, candidates, with_outcomes, closed, whole, IsMidway, step_of, after_steps}
use Rattle.office_rules.specs.State.{State}
use Rattle.office_rules.proofs.OneStep.{candidates_rest, outcomes_join, outcomes_none, step_some, step_none}
use Rattle.office_rules.proofs.OpenRun.{opened, open_after, closed_is_closed, length-runs}
use Rattle.office_rules.proofs.Rising.{AllAfter-take}

-- ---- so many steps

-- as many steps as there are candidates, or fewer, give the outcomes of so many of them
steps_are : (n : ℕ) (cs : List ℕ) (s : State) (run : ℕ) → open_run s.office ≡ Some run → candidates s.office run ≡ cs → n ≤ length cs → after_steps s n ≡ with_outcomes s run (take n cs)
steps_are zero cs s run is_open e h = sym (outcomes_none s run)
steps_are (suc n) [] s run is_open e h = absurd (omega arith)
steps_are (suc n) (c ∷ cs) s run is_open e h =
    let rest = candidates_rest s run c cs is_open e in
    ap (λ o. after_steps (step_of s o) n) is_open
    ∙ ap (λ t. after_steps t n) (step_some s run c cs e)
    ∙ steps_are n cs (with_outcomes s run (c ∷ [])) run (open_after s run c is_open) rest.0 (omega arith)
    ∙ outcomes_join s run c (take n cs) (AllAfter-take c n cs rest.1)

steps_to_whole : (cs : List ℕ) (s : State) (run : ℕ) → open_run s.office ≡ Some run → candidates s.office run ≡ cs → after_steps s (suc (length cs)) ≡ closed (with_outcomes s run cs) run
steps_to_whole [] s run is_open e =
    ap (λ o. step_of s o) is_open ∙ step_none s run e ∙ ap (λ t. closed t run) (sym (outcomes_none s run))
steps_to_whole (c ∷ cs) s run is_open e =
    let rest = candidates_rest s run c cs is_open e in
    ap (λ o. after_steps (step_of s o) (suc (length cs))) is_open
    ∙ ap (λ t. after_steps t (suc (length cs))) (step_some s run c cs e)
    ∙ steps_to_whole cs (with_outcomes s run (c ∷ [])) run (open_after s run c is_open) rest.0
    ∙ ap (λ t. closed t run) (outcomes_join s run c cs rest.1)

-- one step more than there are candidates gives the whole
pub run_is_whole : (s : State) (run : ℕ) → open_run s.office ≡ Some run → after_steps s (suc (length (candidates s.office run))) ≡ whole s run
run_is_whole s run is_open = steps_to_whole (candidates s.office run) s run is_open refl

after_steps_more : (n : ℕ) (s : State) → after_steps s (suc n) ≡ step_of (after_steps s n) (open_run (after_steps s n).office)
after_steps_more zero s = refl
after_steps_more (suc n) s = after_steps_more n (step_of s (open_run s.office))

-- ---- states midway

whole_is_closed : (s : State) (run : ℕ) → open_run s.office ≡ Some run → open_run (whole s run).office ≡ None
whole_is_closed s run is_open = closed_is_closed (with_outcomes s run (candidates s.office run)) run ((opened s run is_open).last ∙ sym (length-runs s run (candidates s.office run)))

-- a step from a state midway leads to one
pub midway_step : (s t : State) (run : ℕ) → open_run s.office ≡ Some run → IsMidway s run t → IsMidway s run (step_of t (open_run t.office))
midway_step s t run is_open (inl (n, h, e)) =
    let reached : after_steps s n ≡ t = steps_are n (candidates s.office run) s run is_open refl h ∙ sym e in
    let next : after_steps s (suc n) ≡ step_of t (open_run t.office) = after_steps_more n s ∙ ap (λ u. step_of u (open_run u.office)) reached in
    elim (cases_lt n (length (candidates s.office run))) [
      | inl below ↦ inl (suc n, omega arith, sym next ∙ steps_are (suc n) (candidates s.office run) s run is_open refl (omega arith))
      | inr past ↦
          let all : n ≡ length (candidates s.office run) = omega arith in
          inr (sym next ∙ ap (λ k. after_steps s (suc k)) all ∙ run_is_whole s run is_open)
    ]
midway_step s t run is_open (inr e) =
    let stays : step_of (whole s run) (open_run (whole s run).office) ≡ whole s run = ap (step_of (whole s run)) (whole_is_closed s run is_open) in
    inr (ap (λ u. step_of u (open_run u.office)) e ∙ stays)

midway_on : (n : ℕ) (s t : State) (run : ℕ) → open_run s.office ≡ Some run → IsMidway s run t → IsMidway s run (after_steps t n)
midway_on zero s t run is_open m = m
midway_on (suc n) s t run is_open m = midway_on n s (step_of t (open_run t.office)) run is_open (midway_step s t run is_open m)

-- each state that steps lead to is midway
pub steps_midway : (s : State) (run n : ℕ) → open_run s.office ≡ Some run → IsMidway s run (after_steps s n)
steps_midway s run n is_open = midway_on n s s run is_open (inl (0, omega arith, sym (outcomes_none s run)))

whole_from : (n : ℕ) (cs : List ℕ) (s : State) (run : ℕ) → open_run s.office ≡ Some run → candidates s.office run ≡ cs → n ≤ length cs → whole (with_outcomes s run (take n cs)) run ≡ closed (with_outcomes s run cs) run
whole_from zero cs s run is_open e h = ap (λ t. whole t run) (outcomes_none s run) ∙ ap (λ xs. closed (with_outcomes s run xs) run) e
whole_from (suc n) [] s run is_open e h = absurd (omega arith)
whole_from (suc n) (c ∷ cs) s run is_open e h =
    let rest = candidates_rest s run c cs is_open e in
    ap (λ t. whole t run) (sym (outcomes_join s run c (take n cs) (AllAfter-take c n cs rest.1)))
    ∙ whole_from n cs (with_outcomes s run (c ∷ [])) run (open_after s run c is_open) rest.0 (omega arith)
    ∙ ap (λ t. closed t run) (outcomes_join s run c cs rest.1)

-- the whole of a state midway, in which the run is open, is the whole
pub midway_whole : (s t : State) (run : ℕ) → open_run s.office ≡ Some run → open_run t.office ≡ Some run → IsMidway s run t → whole t run ≡ whole s run
midway_whole s t run is_open t_open (inl (n, h, e)) = ap (λ u. whole u run) e ∙ whole_from n (candidates s.office run) s run is_open refl h
midway_whole s t run is_open t_open (inr e) = absurd (let none : None ≡ Some run = sym (whole_is_closed s run is_open) ∙ ap (λ u. open_run u.office) (sym e) ∙ t_open in cc)

-- the steps that are left end in the whole
pub resumed_is_whole : (s t : State) (run : ℕ) → open_run s.office ≡ Some run → open_run t.office ≡ Some run → IsMidway s run t → after_steps t (suc (length (candidates t.office run))) ≡ whole s run
resumed_is_whole s t run is_open t_open m = run_is_whole t run t_open ∙ midway_whole s t run is_open t_open m

-- a state midway, short of the whole, has the run open
open_midway : (n : ℕ) (cs : List ℕ) (s : State) (run : ℕ) → open_run s.office ≡ Some run → candidates s.office run ≡ cs → n ≤ length cs → open_run (with_outcomes s run (take n cs)).office ≡ Some run
open_midway zero cs s run is_open e h = ap (λ t. open_run t.office) (outcomes_none s run) ∙ is_open
open_midway (suc n) [] s run is_open e h = absurd (omega arith)
open_midway (suc n) (c ∷ cs) s run is_open e h =
    let rest = candidates_rest s run c cs is_open e in
    ap (λ t. open_run t.office) (sym (outcomes_join s run c (take n cs) (AllAfter-take c n cs rest.1)))
    ∙ open_midway n cs (with_outcomes s run (c ∷ [])) run (open_after s run c is_open) rest.0 (omega arith)

-- a state midway in which no run is open is the whole
pub midway_closed : (s t : State) (run : ℕ) → open_run s.office ≡ Some run → IsMidway s run t → open_run t.office ≡ None → t ≡ whole s run
midway_closed s t run is_open (inl (n, h, e)) none =
    absurd (let both : None ≡ Some run = sym none ∙ ap (λ u. open_run u.office) e ∙ open_midway n (candidates s.office run) s run is_open refl h in cc)
midway_closed s t run is_open (inr e) none = e
