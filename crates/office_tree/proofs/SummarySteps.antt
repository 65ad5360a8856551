-- Summaries that are changed by numbers, each as often as its number is there.
use Rattle.std.proofs.Common.{◌≡◌, ◌⊎◌, inl, inr, ℕ, zero, suc, ◌+◌, ◌-◌, ◌<◌, ◌≤◌, ◌==◌, true, false, cond, List, length, get_or, set, take, Some, count_by, refl, sym, ap, ◌∙◌, arith}
use Rattle.std.proofs.lemmas.Bool.Decides.{nat_tests}
use Rattle.std.proofs.lemmas.List.Sums.{count_by_more_yes, count_by_more_no, count_by-le-length, sum_by-take-le}
use Rattle.office_records.specs.Lists.{numbered}
use Rattle.office_tree.specs.declared.summary.AggregationSummary.{AggregationSummary}
use Rattle.office_records.proofs.Places.{numbered_within, numbered_or}
use Rattle.office_records.proofs.Putting.{put_within, numbered-put}
use Rattle.office_tree.proofs.SummaryLemmas.{numbered-put_other}

-- how often a number is among numbers
abbrev pub times : List ℕ → ℕ → ℕ
times numbers a = count_by (λ b. b == a) numbers

-- each is changed as often as its number is among these
abbrev pub AreChanged : (ℕ → AggregationSummary → AggregationSummary) → List AggregationSummary → List AggregationSummary → List ℕ → Type 0
AreChanged change old now numbers = (a : ℕ) (it : AggregationSummary) → numbered old a ≡ Some it → numbered now a ≡ Some (change (times numbers a) it)

-- ---- numbers that are the same, or not

pub is_equal : (m n : ℕ) → m ≡ n → (m == n) ≡ true
is_equal m n h = grind (arith, nat_tests)

pub not_equal : (m n : ℕ) → (m ≡ n → ⊥) → (m == n) ≡ false
not_equal m n h = grind (arith, nat_tests)

pub same_or_not : (m n : ℕ) → (m ≡ n) ⊎ (m ≡ n → ⊥)
same_or_not zero zero = inl refl
same_or_not zero (suc n) = inr (λ e. absurd (omega (arith, e)))
same_or_not (suc m) zero = inr (λ e. absurd (omega (arith, e)))
same_or_not (suc m) (suc n) = elim (same_or_not m n) [ inl same ↦ inl (ap suc same) | inr other ↦ inr (λ e. other (omega (arith, e))) ]

-- ---- a write at the place of a number

pub numbered-set : (xs : List AggregationSummary) (b : ℕ) (y : AggregationSummary) → 0 < b → b ≤ length xs → numbered (set xs (b - 1) y) b ≡ Some y
numbered-set xs b y low high = ap (λ ys. numbered ys b) (sym (put_within xs b (b - 1) y (omega (arith, low)) high)) ∙ numbered-put xs b y low (omega (arith, high))

pub numbered-set_other : (xs : List AggregationSummary) (b : ℕ) (y : AggregationSummary) (a : ℕ) → 0 < b → b ≤ length xs → (a ≡ b → ⊥) → numbered (set xs (b - 1) y) a ≡ numbered xs a
numbered-set_other xs b y a low high other =
    ap (λ ys. numbered ys a) (sym (put_within xs b (b - 1) y (omega (arith, low)) high)) ∙ numbered-put_other xs b y a (omega (arith, high)) other

-- ---- one number more

more_here : (numbers : List ℕ) (i a d : ℕ) → i < length numbers → a ≡ get_or numbers i d → times (take (i + 1) numbers) a ≡ times (take i numbers) a + 1
more_here numbers i a d h same = count_by_more_yes (λ c. c == a) numbers i d h (is_equal (get_or numbers i d) a (sym same))

more_apart : (numbers : List ℕ) (i a d : ℕ) → i < length numbers → (a ≡ get_or numbers i d → ⊥) → times (take (i + 1) numbers) a ≡ times (take i numbers) a
more_apart numbers i a d h other = count_by_more_no (λ c. c == a) numbers i d h (not_equal (get_or numbers i d) a (λ e. other (sym e)))

-- what is there at a number, where those of some numbers are changed
pub record CameFrom (change : ℕ → AggregationSummary → AggregationSummary) (old : List AggregationSummary) (numbers : List ℕ) (b : ℕ) (x : AggregationSummary) : Type 0 where
  pub it : AggregationSummary
  pub there : numbered old b ≡ Some it
  pub is : x ≡ change (times numbers b) it

-- so it is of what was read at the place of a number
pub came_from : (change : ℕ → AggregationSummary → AggregationSummary) (old now : List AggregationSummary) (numbers : List ℕ) (b : ℕ) (d : AggregationSummary) → length now ≡ length old → (0 < b) × (b ≤ length old) → AreChanged change old now numbers → CameFrom change old numbers b (get_or now (b - 1) d)
came_from change old now numbers b d long within changed =
    let it : AggregationSummary = get_or old (b - 1) d in
    let there : numbered old b ≡ Some it = numbered_or old b d within.0 within.1 in
    let both : Some (get_or now (b - 1) d) ≡ Some (change (times numbers b) it) = sym (numbered_or now b d within.0 (omega (arith, long, within.1))) ∙ changed b it there in
    record { it = it; there = there; is = cc both }

-- and of what its number is
pub came : (change : ℕ → AggregationSummary → AggregationSummary) (old now : List AggregationSummary) (numbers : List ℕ) (a : ℕ) (x : AggregationSummary) → length now ≡ length old → AreChanged change old now numbers → numbered now a ≡ Some x → CameFrom change old numbers a x
came change old now numbers a x long changed at =
    let within = numbered_within now a x at in
    let it : AggregationSummary = get_or old (a - 1) x in
    let there : numbered old a ≡ Some it = numbered_or old a x within.0 (omega (arith, within.1, long)) in
    let both : Some x ≡ Some (change (times numbers a) it) = sym at ∙ changed a it there in
    record { it = it; there = there; is = cc both }

-- what a write of the changed one makes of those that are changed so far
pub changed_more : (change : ℕ → AggregationSummary → AggregationSummary) (one : AggregationSummary → AggregationSummary) → ((n : ℕ) (it : AggregationSummary) → one (change n it) ≡ change (n + 1) it) → (old now : List AggregationSummary) (numbers : List ℕ) (i : ℕ) (d : AggregationSummary)
    → i < length numbers → length now ≡ length old → (0 < get_or numbers i 0) × (get_or numbers i 0 ≤ length old)
    → AreChanged change old now (take i numbers) → AreChanged change old (set now (get_or numbers i 0 - 1) (one (get_or now (get_or numbers i 0 - 1) d))) (take (i + 1) numbers)
changed_more change one step old now numbers i d h long within changed a it there =
    let b = get_or numbers i 0 in
    let x = get_or now (b - 1) d in
    let high : get_or numbers i 0 ≤ length now = omega (arith, long, within.1) in
    elim (same_or_not a b) [
      | inl same ↦
          let read : Some (change (times (take i numbers) a) it) ≡ Some x = sym (changed a it there) ∙ ap (numbered now) same ∙ numbered_or now b d within.0 high in
          let was : x ≡ change (times (take i numbers) a) it = cc read in
          ap (numbered (set now (b - 1) (one x))) same
          ∙ numbered-set now b (one x) within.0 high
          ∙ ap (λ y. Some (one y)) was
          ∙ ap Some (step (times (take i numbers) a) it)
          ∙ ap (λ n. Some (change n it)) (sym (more_here numbers i a 0 h same))
      | inr other ↦
          numbered-set_other now b (one x) a within.0 high other
          ∙ changed a it there
          ∙ ap (λ n. Some (change n it)) (sym (more_apart numbers i a 0 h other))
    ]

-- a number is among the first ones no more often than there are numbers
pub times_few : (numbers : List ℕ) (i a : ℕ) → times (take i numbers) a ≤ length numbers
times_few numbers i a =
    let most = count_by-le-length (λ b. b == a) numbers in
    let first = sum_by-take-le (λ b. cond {A = ℕ} (b == a) 1 0) numbers i in
    omega (arith, most, first)

-- and less often than among all, where it is once more
pub times_left : (numbers : List ℕ) (i : ℕ) → i < length numbers → times (take i numbers) (get_or numbers i 0) < times numbers (get_or numbers i 0)
times_left numbers i h =
    let b = get_or numbers i 0 in
    let first = sum_by-take-le (λ c. cond {A = ℕ} (c == b) 1 0) numbers (i + 1) in
    let more = more_here numbers i b 0 h refl in
    omega (arith, first, more)
