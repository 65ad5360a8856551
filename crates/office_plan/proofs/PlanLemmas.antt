-- A plan file, line by line, and what is printed of it, record by record.
use Rattle.std.proofs.Common.{◌≡◌, ℕ, suc, ◌+◌, List, [], ◌∷◌, ◌++◌, Option, Some, None, Result, Ok, Err, refl, sym, ap, subst, ◌∙◌, arith}
use Rattle.office_base.specs.declared.refusal.Refusal.{Refusal}
use Rattle.office_records.specs.Tree.{TreeState}
use Rattle.office_plan.specs.PlanFile.{done_or_refused, due_line, due_lines, followed, line_taken, plan_from}

pub plan_from-end : (number : ℕ) (rest : List (List ℕ)) (tree : TreeState) → rest ≡ [] → plan_from number rest tree ≡ Ok tree
unfolding plan_from
plan_from-end number rest tree e = rw e refl

plan_from-line : (number : ℕ) (all : List (List ℕ)) (line : List ℕ) (rest : List (List ℕ)) (tree : TreeState) → all ≡ line ∷ rest → plan_from number all tree ≡ followed number (line_taken tree line) (plan_from (number + 1) rest)
unfolding plan_from
plan_from-line number all line rest tree e = ap (λ (ls : List (List ℕ)). plan_from number ls tree) e

-- a line that is done
pub plan_from-done : (number : ℕ) (all : List (List ℕ)) (line : List ℕ) (rest : List (List ℕ)) (tree done : TreeState) (refusal : Option Refusal) → all ≡ line ∷ rest → line_taken tree line ≡ done_or_refused refusal done → refusal ≡ None → plan_from number all tree ≡ plan_from (number + 1) rest done
plan_from-done number all line rest tree done refusal e taken none =
    plan_from-line number all line rest tree e
    ∙ ap (λ (r : Result TreeState Refusal). followed number r (plan_from (number + 1) rest)) (taken ∙ ap (λ (o : Option Refusal). done_or_refused o done) none)

-- a line that is refused
pub plan_from-refused : (number : ℕ) (all : List (List ℕ)) (line : List ℕ) (rest : List (List ℕ)) (tree done : TreeState) (taken : Option Refusal) (why : Refusal) → all ≡ line ∷ rest → line_taken tree line ≡ done_or_refused taken done → taken ≡ Some why → plan_from number all tree ≡ Err (number, why)
plan_from-refused number all line rest tree done taken why e was some =
    plan_from-line number all line rest tree e
    ∙ ap (λ (r : Result TreeState Refusal). followed number r (plan_from (number + 1) rest)) (was ∙ ap (λ (o : Option Refusal). done_or_refused o done) some)

pub due_lines-none : (tree : TreeState) → due_lines tree 0 ≡ []
unfolding due_lines
due_lines-none tree = refl

pub due_lines-more : (tree : TreeState) (n : ℕ) → due_lines tree (n + 1) ≡ due_lines tree n ++ due_line tree (n + 1)
unfolding due_lines
due_lines-more tree n =
    let e : n + 1 ≡ suc n = omega arith in
    subst (λ (k : ℕ). due_lines tree k ≡ due_lines tree n ++ due_line tree k) (sym e) refl
