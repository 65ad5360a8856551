-- How many candidates are looked at until the next ready record is found, counted number by number.
use Rattle.std.proofs.Common.{◌≡◌, ◌↔◌, ◌<◌, ◌≤◌, ◌+◌, ◌-◌, ◌&&◌, ℕ, Bool, true, false, cond, List, [], ◌∷◌, length, filter, find, Option, Some, None, ℤ, pos, unwrap_or, option_map, refl, sym, ap, ◌∙◌, arith}
use Rattle.std.specs.Prelude.{◌≤ℤ◌, IsTrue, int_le, nat_le}
use Rattle.std.proofs.lemmas.Bool.{le-leb}
use Rattle.std.proofs.lemmas.Bool.Decides.{nat_tests}
use Rattle.office_records.specs.Lists.{numbered, numbers_after, is_some_and}
use Rattle.office_records.specs.Disposal.{counts, is_disposal}
use Rattle.office_records.specs.Candidates.{candidate_by, is_candidate}
use Rattle.office_records.specs.Tree.{TreeState, action_of, due_of, status_of}
use Rattle.office_records.specs.declared.status.Status.{Status}
use Rattle.office_records.specs.declared.status.Status.TheVariants as status
use Rattle.office_rules.specs.Disposing.{is_ready, ready_by}
use Rattle.office_rules.specs.Runs.{looked_at_by, looked_at_in}
use Rattle.office_rules.specs.State.{Office}
use Rattle.office_rules.specs.declared.run.Run.{Run}
use Rattle.office_rules.proofs.Rising.{AllAfter, AllAfter-filter, AllAfter-numbers}
use Rattle.office_records.proofs.Numbers.{one_after}
use Rattle.office_machine.proofs.NextReady.{ready_after, ready_here, ready_later}

-- ---- a ready record is a candidate

abbrev is_due : TreeState → ℕ → ℤ → Bool
is_due tree r day = is_some_and (due_of tree r) (λ due. int_le due day)

never_by : (represents : Option Status) (may due counts : Bool) → candidate_by represents (may && counts) ≡ false → ready_by represents (may && due && counts) ≡ false
never_by (Some status.Here) true true counts not = not
never_by (Some status.Here) true false counts not = refl
never_by (Some status.Here) false due counts not = refl
never_by (Some status.Sent) may due counts not = refl
never_by (Some status.Received) may due counts not = not
never_by (Some status.Ended) may due counts not = refl
never_by None may due counts not = refl

never_ready : (s : Office) (day : ℤ) (r : ℕ) → is_candidate s.tree r ≡ false → is_ready s day r ≡ false
unfolding is_candidate
never_ready s day r = never_by (status_of s.tree r) (is_some_and (action_of s.tree r) is_disposal) (is_due s.tree r day) (counts s.tree r)

begins_by : (may due counts : Bool) → (may && counts) ≡ true → (may && due && counts) ≡ due
begins_by true true counts is = is
begins_by true false counts is = refl
begins_by false due counts is = absurd cc

is_due_by : (b : Bool) (due day : ℤ) → (IsTrue b ↔ (due ≤ℤ day)) → b ≡ int_le due day
is_due_by b due day reported = grind arith

-- a candidate that is here is ready where its due day is reached
pub here_ready : (s : Office) (day due : ℤ) (r : ℕ) (reached : Bool) → Some status.Here ≡ status_of s.tree r → is_candidate s.tree r ≡ true
    → Some due ≡ due_of s.tree r → (IsTrue reached ↔ (due ≤ℤ day)) → reached ≡ is_ready s day r
unfolding is_candidate
here_ready s day due r reached here is there reported =
    let may = is_some_and (action_of s.tree r) is_disposal in
    let count = counts s.tree r in
    is_due_by reached due day reported
    ∙ (λ i. is_some_and (there i) (λ due. int_le due day))
    ∙ sym (begins_by may (is_due s.tree r day) count (ap (λ represents. candidate_by represents (may && count)) here ∙ is))
    ∙ (λ i. ready_by (here i) (may && is_due s.tree r day && count))

-- ---- the candidates above a number, and how many of them are looked at

abbrev candidates_after : Office → ℕ → List ℕ
candidates_after s before = filter (is_candidate s.tree) (numbers_after before (length s.tree.records - before))

abbrev pub looked_after : Office → ℤ → ℕ → ℕ
looked_after s day before =
    looked_at_by (filter (is_candidate s.tree) (numbers_after before (length s.tree.records - before))) (ready_after s day before)

-- for a run, they are those above its cursor, on its day
pub looked_by_row : (s : Office) (run : ℕ) (it : Run) → numbered s.runs run ≡ Some it → looked_at_in s run ≡ looked_after s it.day it.cursor
looked_by_row s run it there =
    ap (λ o. looked_after s (unwrap_or (option_map (λ (row : Run). row.day) o) (pos 0)) (unwrap_or (option_map (λ (row : Run). row.cursor) o) 0)) there

-- at the end nothing is left
pub none_left : (s : Office) (day : ℤ) (before : ℕ) → length s.tree.records ≤ before → looked_after s day before ≡ 0
none_left s day before h =
    let none : length s.tree.records - before ≡ 0 = omega arith in
    ap (λ n. looked_at_by (filter (is_candidate s.tree) (numbers_after before n)) (find (is_ready s day) (numbers_after before n))) none

next_candidates : (s : Office) (before : ℕ) (may : Bool) → before < length s.tree.records → is_candidate s.tree (before + 1) ≡ may
    → candidates_after s before ≡ cond may ((before + 1) ∷ candidates_after s (before + 1)) (candidates_after s (before + 1))
next_candidates s before may h is =
    ap (filter (is_candidate s.tree)) (one_after (length s.tree.records) before h)
    ∙ ap (λ b. cond b ((before + 1) ∷ candidates_after s (before + 1)) (candidates_after s (before + 1))) is

-- what is found is above
found_above : (test : ℕ → Bool) (c r : ℕ) (rs : List ℕ) → AllAfter c rs → find test rs ≡ Some r → c < r
found_above test c r [] a e = absurd cc
found_above test c r (x ∷ xs) (m, a) e =
    elim (test x) as (λ b. cond b (Some x) (find test xs) ≡ Some r → c < r) [
      | true ↦ λ e. let same : x ≡ r = cc in omega arith
      | false ↦ found_above test c r xs a
    ] e

one_more : (c : ℕ) (cs : List ℕ) (o : Option ℕ) → ((r : ℕ) → o ≡ Some r → c ≤ r) → looked_at_by (c ∷ cs) o ≡ looked_at_by cs o + 1
one_more c cs None h = omega arith
one_more c cs (Some r) h =
    let those = filter (λ x. nat_le x r) cs in
    ap (λ b. length (cond b (c ∷ those) those)) (le-leb c r (h r refl)) ∙ omega arith

not_below : (c : ℕ) (cs : List ℕ) → AllAfter c cs → filter (λ x. nat_le x c) cs ≡ []
not_below c [] a = refl
not_below c (x ∷ xs) (m, a) =
    let those = filter (λ y. nat_le y c) xs in
    let above : nat_le x c ≡ false = grind (arith, nat_tests) in
    ap (λ b. cond b (x ∷ those) those) above ∙ not_below c xs a

-- what is no candidate is passed by
pub passed_by : (s : Office) (day : ℤ) (before : ℕ) → before < length s.tree.records → is_candidate s.tree (before + 1) ≡ false
    → looked_after s day before ≡ looked_after s day (before + 1)
passed_by s day before h not =
    λ i. looked_at_by (next_candidates s before false h not i) (ready_later s day before h (never_ready s day (before + 1) not) i)

pub next_passed_by : (s : Office) (day : ℤ) (before : ℕ) → before < length s.tree.records → is_candidate s.tree (before + 1) ≡ false
    → ready_after s day before ≡ ready_after s day (before + 1)
next_passed_by s day before h not = ready_later s day before h (never_ready s day (before + 1) not)

-- a candidate that is not ready is looked at
pub looked_further : (s : Office) (day : ℤ) (before : ℕ) → before < length s.tree.records → is_candidate s.tree (before + 1) ≡ true
    → is_ready s day (before + 1) ≡ false → looked_after s day before ≡ looked_after s day (before + 1) + 1
looked_further s day before h may not =
    let rest = numbers_after (before + 1) (length s.tree.records - (before + 1)) in
    (λ i. looked_at_by (next_candidates s before true h may i) (ready_later s day before h not i))
    ∙ one_more (before + 1) (candidates_after s (before + 1)) (ready_after s day (before + 1)) (λ r e.
    let more : before + 1 < r = found_above (is_ready s day) (before + 1) r rest (AllAfter-numbers (before + 1) (length s.tree.records - (before + 1))) e in
    omega arith)

-- one that is ready is the last
pub looked_last : (s : Office) (day : ℤ) (before : ℕ) → before < length s.tree.records → is_candidate s.tree (before + 1) ≡ true
    → is_ready s day (before + 1) ≡ true → looked_after s day before ≡ 1
looked_last s day before h may ready =
    let left = length s.tree.records - (before + 1) in
    let rest = AllAfter-filter (is_candidate s.tree) (before + 1) (numbers_after (before + 1) left) (AllAfter-numbers (before + 1) left) in
    (λ i. looked_at_by (next_candidates s before true h may i) (ready_here s day before h ready i))
    ∙ one_more (before + 1) (candidates_after s (before + 1)) (Some (before + 1)) (λ r e. let same : before + 1 ≡ r = cc in omega arith)
    ∙ ap (λ xs. length xs + 1) (not_below (before + 1) (candidates_after s (before + 1)) rest)
