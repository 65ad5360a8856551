-- The next ready record and the count of what is looked at, where one goes from a candidate to the next: what is between them changes neither.
use Rattle.std.proofs.Common.{◌≡◌, ℕ, zero, suc, ◌+◌, ◌-◌, ◌<◌, ◌≤◌, Bool, true, false, length, find, Option, Some, None, ℤ, inl, inr, ap, ◌∙◌, arith}
use Rattle.std.proofs.lemmas.Bool.{cases_lt}
use Rattle.office_records.specs.Lists.{numbers_after}
use Rattle.office_records.specs.Candidates.{HasNoCandidateAbove, IsNextCandidate, is_candidate}
use Rattle.office_rules.specs.Disposing.{is_ready}
use Rattle.office_rules.specs.State.{Office}
use Rattle.office_machine.proofs.LookedAt.{looked_after, looked_further, looked_last, next_passed_by, none_left, passed_by}
use Rattle.office_machine.proofs.NextReady.{ready_after, ready_here, ready_later}

-- what no number on the way changes is the same at both ends
passed_over : (A : Type 0) (f : ℕ → A) (is : ℕ → Bool) (len : ℕ) → ((b : ℕ) → b < len → is (b + 1) ≡ false → f b ≡ f (b + 1))
    → (from n : ℕ) → from + n ≤ len → ((k : ℕ) → from < k → k ≤ from + n → is k ≡ false) → f from ≡ f (from + n)
passed_over A f is len step from zero within none = let end : from ≡ from + zero = omega arith in ap f end
passed_over A f is len step from (suc n) within none =
    let end : from + n + 1 ≡ from + suc n = omega arith in
    passed_over A f is len step from n (omega arith) (λ k low high. none k low (omega arith))
    ∙ step (from + n) (omega arith) (none (from + n + 1) (omega arith) (omega arith))
    ∙ ap f end

-- past the last record none is ready
none_past : (s : Office) (day : ℤ) (before : ℕ) → length s.tree.records ≤ before → ready_after s day before ≡ None
none_past s day before past =
    let none : length s.tree.records - before ≡ 0 = omega arith in
    ap (λ n. find (is_ready s day) (numbers_after before n)) none

module _ (s : Office) (day : ℤ) (above : ℕ) where
  ready_over : (end : ℕ) → above ≤ end → end ≤ length s.tree.records → ((k : ℕ) → above < k → k ≤ end → is_candidate s.tree k ≡ false)
      → ready_after s day above ≡ ready_after s day end
  ready_over end low high none =
      let at : above + (end - above) ≡ end = omega arith in
      passed_over (Option ℕ) (ready_after s day) (is_candidate s.tree) (length s.tree.records) (next_passed_by s day) above (end - above) (omega arith)
      (λ k more less. none k more (omega arith))
      ∙ ap (ready_after s day) at

  looked_over : (end : ℕ) → above ≤ end → end ≤ length s.tree.records → ((k : ℕ) → above < k → k ≤ end → is_candidate s.tree k ≡ false)
      → looked_after s day above ≡ looked_after s day end
  looked_over end low high none =
      let at : above + (end - above) ≡ end = omega arith in
      passed_over ℕ (looked_after s day) (is_candidate s.tree) (length s.tree.records) (passed_by s day) above (end - above) (omega arith)
      (λ k more less. none k more (omega arith))
      ∙ ap (looked_after s day) at

  -- at a candidate, which is the next one
  module _ (r : ℕ) (next : IsNextCandidate s.tree above r) (within : r ≤ length s.tree.records) where
    at_next : r - 1 + 1 ≡ r
    at_next = omega (arith, next.higher)

    to_next : ready_after s day above ≡ ready_after s day (r - 1)
    to_next = ready_over (r - 1) (omega (arith, next.higher)) (omega arith) (λ k low high. next.between k low (omega (arith, next.higher)))

    count_to_next : looked_after s day above ≡ looked_after s day (r - 1)
    count_to_next = looked_over (r - 1) (omega (arith, next.higher)) (omega arith) (λ k low high. next.between k low (omega (arith, next.higher)))

    pub next_is : is_ready s day r ≡ true → ready_after s day above ≡ Some r
    next_is ready = to_next ∙ ready_here s day (r - 1) (omega (arith, next.higher)) (ap (is_ready s day) at_next ∙ ready) ∙ ap Some at_next

    pub next_counts : is_ready s day r ≡ true → looked_after s day above ≡ 1
    next_counts ready =
        count_to_next ∙ looked_last s day (r - 1) (omega (arith, next.higher)) (ap (is_candidate s.tree) at_next ∙ next.candidate) (ap (is_ready s day) at_next ∙ ready)

    pub next_passed : is_ready s day r ≡ false → ready_after s day above ≡ ready_after s day r
    next_passed not = to_next ∙ ready_later s day (r - 1) (omega (arith, next.higher)) (ap (is_ready s day) at_next ∙ not) ∙ ap (ready_after s day) at_next

    pub next_passed_counts : is_ready s day r ≡ false → looked_after s day above ≡ looked_after s day r + 1
    next_passed_counts not =
        count_to_next
        ∙ looked_further s day (r - 1) (omega (arith, next.higher)) (ap (is_candidate s.tree) at_next ∙ next.candidate) (ap (is_ready s day) at_next ∙ not)
        ∙ ap (λ n. looked_after s day n + 1) at_next

  -- where no candidate is left
  pub no_next : HasNoCandidateAbove s.tree above → ready_after s day above ≡ None
  no_next none =
      elim (cases_lt above (length s.tree.records)) as (λ _. ready_after s day above ≡ None) [
        | inl here ↦ ready_over (length s.tree.records) (omega arith) (omega arith) (λ k low high. none k low) ∙ none_past s day (length s.tree.records) (omega arith)
        | inr past ↦ none_past s day above past
      ]

  pub no_next_counts : HasNoCandidateAbove s.tree above → looked_after s day above ≡ 0
  no_next_counts none =
      elim (cases_lt above (length s.tree.records)) as (λ _. looked_after s day above ≡ 0) [
        | inl here ↦ looked_over (length s.tree.records) (omega arith) (omega arith) (λ k low high. none k low) ∙ none_left s day (length s.tree.records) (omega arith)
        | inr past ↦ none_left s day above past
      ]
