-- The lists of records by class stay right as a record that is on none is put at the head of one.
use Rattle.std.proofs.Common.{◌≡◌, ◌≢◌, ℕ, ◌+◌, ◌<◌, ◌≤◌, List, length, cond, ◌==◌, Bool, true, false, Some, refl, sym, ap, ◌∙◌, ◌⊎◌, inl, inr, arith}
use Rattle.office_records.specs.Lists.{numbered, put}
use Rattle.office_tree.specs.ClassLists.{AreClassLists, rest}
use Rattle.office_records.proofs.Places.{numbered_within}
use Rattle.office_tree.proofs.Puts.{is_other, is_same, numbered_low, one_of, put_cases, put_here, put_kept}
use Rattle.office_records.proofs.Putting.{length-put}
use Rattle.office_tree.proofs.Ranks.{falls_by}
use Rattle.office_tree.proofs.Relinked.{first_within, next_within}

-- the ranks with this one in place of the record's
abbrev ranked : (ℕ → ℕ) → ℕ → ℕ → ℕ → ℕ
ranked rank r v m = cond (m == r) v (rank m)

here_by : (m r v w : ℕ) (b : Bool) → (m == r) ≡ b → m ≡ r → cond b v w ≡ v
here_by m r v w true h same = refl
here_by m r v w false h same = absurd (is_other m r h same)

other_by : (m r v w : ℕ) (b : Bool) → (m == r) ≡ b → m ≢ r → cond b v w ≡ w
other_by m r v w true h other = absurd (other (is_same m r h))
other_by m r v w false h other = refl

module _ (first next previous class : List ℕ) (right : AreClassLists first next previous class) (r c f : ℕ) (is_off : numbered class r ≡ Some 0) (some_class : 0 < c) (is_f : numbered first c ≡ Some f) where
  abbrev firsts : List ℕ
  firsts = put first c r

  abbrev nexts : List ℕ
  nexts = put next r f

  abbrev previouses : List ℕ
  previouses = put previous f r

  abbrev classes : List ℕ
  classes = put class r c

  low : 0 < r
  low = numbered_low class r 0 is_off

  next_none : numbered next r ≡ Some 0
  next_none = (right.off r is_off).0

  previous_none : numbered previous r ≡ Some 0
  previous_none = (right.off r is_off).1

  r_class : r ≤ length class
  r_class = (numbered_within class r 0 is_off).1

  r_next : r ≤ length next
  r_next = (numbered_within next r 0 next_none).1

  c_first : c ≤ length first
  c_first = (numbered_within first c f is_f).1

  f_previous : f ≤ length previous
  f_previous = let high = first_within first next previous class right c f is_f in omega (arith, high, right.previous_count)

  not_f : r ≢ f
  not_f e = let none : 0 ≡ c = one_of class r f 0 c is_off e (right.firsts c f is_f (omega (arith, low, e))).0 in omega (arith, none, some_class)

  class_here : numbered classes r ≡ Some c
  class_here = put_here class r c low r_class

  class_of_f : 0 < f → numbered class f ≡ Some c
  class_of_f some = (right.firsts c f is_f some).0

  class_kept : (m : ℕ) → m ≢ r → numbered classes m ≡ numbered class m
  class_kept m other = put_kept class r c m r_class other

  next_kept : (m : ℕ) → m ≢ r → numbered nexts m ≡ numbered next m
  next_kept m other = put_kept next r f m r_next other

  previous_kept : (m : ℕ) → m ≢ f → numbered previouses m ≡ numbered previous m
  previous_kept m other = put_kept previous f r m f_previous other

  within : (m k : ℕ) → numbered classes m ≡ Some k → k ≤ length firsts
  within m k e =
      let longer : length firsts ≡ length first = length-put first c r c_first in
      elim (put_cases class r c m k r_class e) [
        | inl at ↦ omega (arith, at.1, c_first, longer)
        | inr at ↦ let was = right.within m k at.1 in omega (arith, was, longer)
      ]

  off_by : (m : ℕ) → m ≢ r → numbered class m ≡ Some 0 → (numbered nexts m ≡ Some 0) × (numbered previouses m ≡ Some 0)
  off_by m other e =
      let was = right.off m e in
      let apart : m ≢ f = λ same.
      let some : 0 < f = let there = numbered_low class m 0 e in omega (arith, there, same) in
      let none : 0 ≡ c = one_of class m f 0 c e same (class_of_f some) in
      omega (arith, none, some_class) in
      (next_kept m other ∙ was.0, previous_kept m apart ∙ was.1)

  off : (m : ℕ) → numbered classes m ≡ Some 0 → (numbered nexts m ≡ Some 0) × (numbered previouses m ≡ Some 0)
  off m e = elim (put_cases class r c m 0 r_class e) [
    | inl at ↦ let none = at.1 in absurd (omega (arith, none, some_class))
    | inr at ↦ off_by m at.0 at.1
  ]

  firsts_by : (k x : ℕ) → 0 < x → ((k ≡ c) × (x ≡ r)) ⊎ ((k ≢ c) × (numbered first k ≡ Some x)) → (numbered classes x ≡ Some k) × (numbered previouses x ≡ Some 0)
  firsts_by k x some (inl at) = (ap (numbered classes) at.1 ∙ (class_here ∙ ap Some (sym at.0)), ap (numbered previouses) at.1 ∙ (previous_kept r not_f ∙ previous_none))
  firsts_by k x some (inr at) =
      let was = right.firsts k x at.1 some in
      let k_low = numbered_low first k x at.1 in
      let other : x ≢ r = λ e. let none : k ≡ 0 = one_of class x r k 0 was.0 e is_off in omega (arith, none, k_low) in
      let apart : x ≢ f = λ e. at.0 (one_of class x f k c was.0 e (class_of_f (omega (arith, some, e)))) in
      (class_kept x other ∙ was.0, previous_kept x apart ∙ was.1)

  heads_by : (m k : ℕ) → 0 < k → m ≢ r → numbered class m ≡ Some k → m ≢ f → numbered previous m ≡ Some 0 → numbered firsts k ≡ Some m
  heads_by m k some other e apart none =
      let was = right.heads m k e some none in
      put_kept first c r k c_first (λ same. apart (one_of first k c m f was same is_f)) ∙ was

  heads : (m k : ℕ) → numbered classes m ≡ Some k → 0 < k → numbered previouses m ≡ Some 0 → numbered firsts k ≡ Some m
  heads m k e some none = elim (put_cases class r c m k r_class e) [
    | inl at ↦ ap (numbered firsts) at.1 ∙ (put_here first c r some_class c_first ∙ ap Some (sym at.0))
    | inr at ↦ elim (put_cases previous f r m 0 f_previous none) [
      | inl by ↦ let zero_is = by.1 in absurd (omega (arith, zero_is, low))
      | inr by ↦ heads_by m k some at.0 at.1 by.0 by.1
    ]
  ]

  -- a record that follows another was on the list, and is not its first
  next_other : (m x : ℕ) → numbered next m ≡ Some x → 0 < x → x ≢ r
  next_other m x e some same =
      let there = numbered_low next m x e in
      let none : m ≡ 0 = one_of previous x r m 0 (right.nexts m x e some).0 same previous_none in
      omega (arith, there, none)

  next_apart : (m x : ℕ) → numbered next m ≡ Some x → 0 < x → x ≢ f
  next_apart m x e some same =
      let there = numbered_low next m x e in
      let none : m ≡ 0 = one_of previous x f m 0 (right.nexts m x e some).0 same (right.firsts c f is_f (omega (arith, some, same))).1 in
      omega (arith, there, none)

  nexts_by : (m x : ℕ) → 0 < x → ((m ≡ r) × (x ≡ f)) ⊎ ((m ≢ r) × (numbered next m ≡ Some x)) → (numbered previouses x ≡ Some m) × (numbered classes x ≡ numbered classes m)
  nexts_by m x some (inl at) =
      let f_low : 0 < f = omega (arith, some, at.1) in
      let other : x ≢ r = λ e. not_f (sym e ∙ at.1) in
      let its : numbered classes m ≡ Some c = ap (numbered classes) at.0 ∙ class_here in
      (ap (numbered previouses) at.1 ∙ (put_here previous f r f_low f_previous ∙ ap Some (sym at.0)), class_kept x other ∙ (ap (numbered class) at.1 ∙ (class_of_f f_low ∙ sym its)))
  nexts_by m x some (inr at) =
      let was = right.nexts m x at.1 some in
      (previous_kept x (next_apart m x at.1 some) ∙ was.0, class_kept x (next_other m x at.1 some) ∙ (was.1 ∙ sym (class_kept m at.0)))

  previouses_by : (m x : ℕ) → 0 < m → 0 < x → ((m ≡ f) × (x ≡ r)) ⊎ ((m ≢ f) × (numbered previous m ≡ Some x)) → (numbered nexts x ≡ Some m) × (numbered classes x ≡ numbered classes m)
  previouses_by m x there some (inl at) =
      let f_low : 0 < f = omega (arith, there, at.0) in
      let other : m ≢ r = λ e. not_f (sym e ∙ at.0) in
      let its : numbered classes m ≡ Some c = class_kept m other ∙ (ap (numbered class) at.0 ∙ class_of_f f_low) in
      (ap (numbered nexts) at.1 ∙ (put_here next r f low r_next ∙ ap Some (sym at.0)), ap (numbered classes) at.1 ∙ (class_here ∙ sym its))
  previouses_by m x there some (inr at) =
      let was = right.previouses m x at.1 some in
      let other : m ≢ r = λ e. let none : x ≡ 0 = one_of previous m r x 0 at.1 e previous_none in omega (arith, none, some) in
      let apart : x ≢ r = λ e. let none : m ≡ 0 = one_of next x r m 0 was.0 e next_none in omega (arith, none, there) in
      (next_kept x apart ∙ was.0, class_kept x apart ∙ (was.1 ∙ sym (class_kept m other)))

  -- the first is above the one that was the first
  abbrev was_rank : ℕ → ℕ
  was_rank m = length (rest next m)

  abbrev rank : ℕ → ℕ
  rank = ranked was_rank r (was_rank f + 1)

  rank_here : (m : ℕ) → m ≡ r → rank m ≡ was_rank f + 1
  rank_here m same = here_by m r (was_rank f + 1) (was_rank m) (m == r) refl same

  rank_other : (m : ℕ) → m ≢ r → rank m ≡ was_rank m
  rank_other m other = other_by m r (was_rank f + 1) (was_rank m) (m == r) refl other

  rank_falls : (m x : ℕ) → 0 < x → ((m ≡ r) × (x ≡ f)) ⊎ ((m ≢ r) × (numbered next m ≡ Some x)) → rank x < rank m
  rank_falls m x some (inl at) =
      let lower : rank x ≡ was_rank f = rank_other x (λ e. not_f (sym e ∙ at.1)) ∙ ap was_rank at.1 in
      let higher : rank m ≡ was_rank f + 1 = rank_here m at.0 in
      omega (arith, lower, higher)
  rank_falls m x some (inr at) =
      let was = right.falls m x at.1 some in
      let lower : rank x ≡ was_rank x = rank_other x (next_other m x at.1 some) in
      let higher : rank m ≡ was_rank m = rank_other m at.0 in
      omega (arith, was, lower, higher)

  -- what follows is there
  next_inside : (m x : ℕ) → numbered nexts m ≡ Some x → x ≤ length nexts
  next_inside m x e =
      let longer = length-put next r f r_next in
      elim (put_cases next r f m x r_next e) [
        | inl at ↦ omega (arith, at.1, f_previous, longer, right.next_count, right.previous_count)
        | inr at ↦ let high = next_within first next previous class right m x at.1 in omega (arith, high, longer, right.next_count, right.previous_count)
      ]

  pub class_lists_on : AreClassLists firsts nexts previouses classes
  class_lists_on =
      let class_longer : length classes ≡ length class = length-put class r c r_class in
      record {
        next_count = length-put next r f r_next ∙ (right.next_count ∙ sym class_longer);
        previous_count = length-put previous f r f_previous ∙ (right.previous_count ∙ sym class_longer);
        within = within;
        off = off;
        firsts = λ k x e some. firsts_by k x some (put_cases first c r k x c_first e);
        heads = heads;
        nexts = λ m x e some. nexts_by m x some (put_cases next r f m x r_next e);
        previouses = λ m x e some. previouses_by m x (numbered_low previouses m x e) some (put_cases previous f r m x f_previous e);
        falls = falls_by nexts rank next_inside (λ m x e some. rank_falls m x some (put_cases next r f m x r_next e));
      }
