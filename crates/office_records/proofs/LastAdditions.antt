-- The last addition to an aggregation is the greatest added day of its records.
use Rattle.std.proofs.Common.{◌≡◌, ◌≢◌, ◌↔◌, ◌⊎◌, inl, inr, ℕ, zero, suc, ◌==◌, Bool, true, false, cond, List, [], ◌∷◌, map, filter, fold, slice_get, Option, Some, None, ℤ, ◌≤ℤ◌, int_lt, refl, sym, ap, ◌∙◌, arith}
use Rattle.std.proofs.lemmas.Bool.Decides.{nat_tests}
use Rattle.std.proofs.lemmas.Bool.{cases_cond}
use Rattle.std.proofs.lemmas.Int.{ints, clamps}
use Rattle.std.specs.Int.{int_max}
use Rattle.office_records.specs.Lists.{numbered, later}
use Rattle.office_records.specs.Meanings.{IsLastAddition}
use Rattle.office_records.specs.Tree.{last_addition}
use Rattle.office_records.specs.declared.head.Record.{Record}

-- the added days of the records of an aggregation
abbrev days_of : List Record → List ℤ
days_of heads = map (λ (head : Record). head.added) heads

abbrev heads_in : ℕ → List Record → List Record
heads_in a records = filter (λ (head : Record). head.aggregation == a) records

-- a record of the aggregation has that day
abbrev HasDay : List Record → ℕ → ℤ → Type 0
HasDay records a day = (i : ℕ) × (head : Record) × (slice_get records i ≡ Some head) × (head.aggregation ≡ a) × (head.added ≡ day)

-- that day is the greatest of a first one and of those of the records of the aggregation
record IsGreatestFrom (first : Option ℤ) (records : List Record) (a : ℕ) (day : ℤ) : Type 0 where
  one : (first ≡ Some day) ⊎ HasDay records a day
  after_first : (b : ℤ) → first ≡ Some b → b ≤ℤ day
  greatest : (i : ℕ) (head : Record) → slice_get records i ≡ Some head → head.aggregation ≡ a → head.added ≤ℤ day

same_day : (b day : ℤ) (o : Option ℤ) → o ≡ Some day → o ≡ Some b → b ≤ℤ day
same_day b day o e f = let same : b ≡ day = cc in omega (arith, ints, same)

int_max_one : (b day x : ℤ) → int_max b x ≡ day → (b ≡ day) ⊎ (x ≡ day)
int_max_one b day x e = elim (cases_cond (int_lt x b) b x day (sym e)) [ inl old ↦ inl (sym old) | inr new ↦ inr (sym new) ]

later_one : (o : Option ℤ) (x day : ℤ) → later o x ≡ Some day → (o ≡ Some day) ⊎ (x ≡ day)
later_one None x day e = inr cc
later_one (Some b) x day e = elim (int_max_one b day x cc) [ inl old ↦ inl (ap Some old) | inr new ↦ inr new ]

later_after : (o : Option ℤ) (x day : ℤ) → ((b : ℤ) → later o x ≡ Some b → b ≤ℤ day) → (x ≤ℤ day) × ((b : ℤ) → o ≡ Some b → b ≤ℤ day)
later_after None x day h = (h x refl, λ b e. absurd cc)
later_after (Some c) x day h = let top = h (int_max c x) refl in (omega (arith, ints, clamps, top), λ b e. let same : b ≡ c = cc in omega (arith, ints, clamps, top, same))

later_some : (o : Option ℤ) (x : ℤ) → later o x ≡ None → ⊥
later_some None x e = absurd cc
later_some (Some b) x e = absurd cc

same_is : (m n : ℕ) → (m == n) ≡ true → m ≡ n
same_is m n h = grind (arith, nat_tests)

is_other : (m n : ℕ) → (m == n) ≡ false → m ≡ n → ⊥
is_other m n h e = grind (arith, nat_tests)

one_on : (x : Record) (xs : List Record) (a : ℕ) (day : ℤ) → HasDay xs a day → HasDay (x ∷ xs) a day
one_on x xs a day (i, head, at, is, added) = (suc i, head, at, is, added)

greatest_step : (first : Option ℤ) (x : Record) (xs : List Record) (a : ℕ) (day : ℤ) (b : Bool) → (x.aggregation == a) ≡ b
    → ((o : Option ℤ) → fold later o (days_of (heads_in a xs)) ≡ Some day → IsGreatestFrom o xs a day)
    → fold later first (days_of (cond b (x ∷ heads_in a xs) (heads_in a xs))) ≡ Some day → IsGreatestFrom first (x ∷ xs) a day
greatest_step first x xs a day true test rest e =
    let h = rest (later first x.added) e in
    let tops = later_after first x.added day h.after_first in
    record {
      one = elim h.one [
        | inl last ↦ elim (later_one first x.added day last) [ inl old ↦ inl old | inr new ↦ inr (0, x, refl, same_is x.aggregation a test, new) ]
        | inr more ↦ inr (one_on x xs a day more)
      ];
      after_first = tops.1;
      greatest = bound x xs a day tops.0 h.greatest;
    }
  where
    bound : (x : Record) (xs : List Record) (a : ℕ) (day : ℤ) → x.added ≤ℤ day → ((i : ℕ) (head : Record) → slice_get xs i ≡ Some head → head.aggregation ≡ a → head.added ≤ℤ day)
        → (i : ℕ) (head : Record) → slice_get (x ∷ xs) i ≡ Some head → head.aggregation ≡ a → head.added ≤ℤ day
    bound x xs a day top h zero head at is = let same : x ≡ head = cc in rw (sym same) top
    bound x xs a day top h (suc i) head at is = h i head at is
greatest_step first x xs a day false test rest e =
    let h = rest first e in
    record {
      one = elim h.one [ inl last ↦ inl last | inr more ↦ inr (one_on x xs a day more) ];
      after_first = h.after_first;
      greatest = bound x xs a day test h.greatest;
    }
  where
    bound : (x : Record) (xs : List Record) (a : ℕ) (day : ℤ) → (x.aggregation == a) ≡ false → ((i : ℕ) (head : Record) → slice_get xs i ≡ Some head → head.aggregation ≡ a → head.added ≤ℤ day)
        → (i : ℕ) (head : Record) → slice_get (x ∷ xs) i ≡ Some head → head.aggregation ≡ a → head.added ≤ℤ day
    bound x xs a day test h zero head at is = let same : x ≡ head = cc in absurd (is_other x.aggregation a test (ap (λ (y : Record). y.aggregation) same ∙ is))
    bound x xs a day test h (suc i) head at is = h i head at is

greatest_from : (records : List Record) (a : ℕ) (day : ℤ) (first : Option ℤ) → fold later first (days_of (heads_in a records)) ≡ Some day → IsGreatestFrom first records a day
greatest_from [] a day first e = record { one = inl e; after_first = λ b f. same_day b day first e f; greatest = λ i head at is. absurd cc }
greatest_from (x ∷ xs) a day first e = greatest_step first x xs a day (x.aggregation == a) refl (greatest_from xs a day) e

-- where there is no greatest day, there is no record
abbrev HasNone : Option ℤ → List Record → ℕ → Type 0
HasNone first records a = (first ≡ None) × ((i : ℕ) (head : Record) → slice_get records i ≡ Some head → head.aggregation ≡ a → ⊥)

none_step : (first : Option ℤ) (x : Record) (xs : List Record) (a : ℕ) (b : Bool) → (x.aggregation == a) ≡ b → ((o : Option ℤ) → fold later o (days_of (heads_in a xs)) ≡ None → HasNone o xs a)
    → fold later first (days_of (cond b (x ∷ heads_in a xs) (heads_in a xs))) ≡ None → HasNone first (x ∷ xs) a
none_step first x xs a true test rest e = absurd (later_some first x.added (rest (later first x.added) e).0)
none_step first x xs a false test rest e = let h = rest first e in (h.0, other x xs a test h.1)
  where
    other : (x : Record) (xs : List Record) (a : ℕ) → (x.aggregation == a) ≡ false → ((i : ℕ) (head : Record) → slice_get xs i ≡ Some head → head.aggregation ≡ a → ⊥)
        → (i : ℕ) (head : Record) → slice_get (x ∷ xs) i ≡ Some head → head.aggregation ≡ a → ⊥
    other x xs a test h zero head at is = let same : x ≡ head = cc in is_other x.aggregation a test (ap (λ (y : Record). y.aggregation) same ∙ is)
    other x xs a test h (suc i) head at is = h i head at is

none_from : (records : List Record) (a : ℕ) (first : Option ℤ) → fold later first (days_of (heads_in a records)) ≡ None → HasNone first records a
none_from [] a first e = (e, λ i head at is. absurd cc)
none_from (x ∷ xs) a first e = none_step first x xs a (x.aggregation == a) refl (none_from xs a) e

numbered_bound : (records : List Record) (a : ℕ) (P : Record → Type 0) → ((i : ℕ) (head : Record) → slice_get records i ≡ Some head → head.aggregation ≡ a → P head)
    → (r : ℕ) (head : Record) → numbered records r ≡ Some head → head.aggregation ≡ a → P head
numbered_bound records a P h zero head at is = absurd cc
numbered_bound records a P h (suc i) head at is = h i head at is

last_of : (records : List Record) (a : ℕ) (day : ℤ) → IsGreatestFrom None records a day → IsLastAddition records a day
last_of records a day h = record {
  one = elim h.one [ inl none ↦ absurd cc | inr (i, head, at, is, added) ↦ (suc i, head, at, is, added) ];
  greatest = numbered_bound records a (λ (head : Record). head.added ≤ℤ day) h.greatest;
}

last_is : (records : List Record) (a : ℕ) (day : ℤ) → last_addition records a ≡ Some day → IsLastAddition records a day
unfolding last_addition
last_is records a day e = last_of records a day (greatest_from records a day None e)

none_is : (records : List Record) (a : ℕ) → last_addition records a ≡ None → (r : ℕ) (head : Record) → numbered records r ≡ Some head → head.aggregation ≡ a → ⊥
unfolding last_addition
none_is records a e = numbered_bound records a (λ head. ⊥) (none_from records a None e).1

-- there is one last addition
one_last : (records : List Record) (a : ℕ) (c day : ℤ) → IsLastAddition records a c → IsLastAddition records a day → c ≡ day
one_last records a c day one other =
    let low : one.one.1.added ≤ℤ day = other.greatest one.one.0 one.one.1 one.one.2 one.one.3 in
    let high : other.one.1.added ≤ℤ c = one.greatest other.one.0 other.one.1 other.one.2 other.one.3 in
    omega (arith, ints, low, high, one.one.4, other.one.4)

is_last : (records : List Record) (a : ℕ) (day : ℤ) (o : Option ℤ) → last_addition records a ≡ o → IsLastAddition records a day → last_addition records a ≡ Some day
is_last records a day None e last = absurd (none_is records a e last.one.0 last.one.1 last.one.2 last.one.3)
is_last records a day (Some c) e last = e ∙ ap Some (one_last records a c day (last_is records a c e) last)

pub last_addition_greatest : (records : List Record) (a : ℕ) (day : ℤ) → (last_addition records a ≡ Some day) ↔ IsLastAddition records a day
last_addition_greatest records a day = (last_is records a day, is_last records a day (last_addition records a) refl)

none_last : (records : List Record) (a : ℕ) (o : Option ℤ) → last_addition records a ≡ o → ((r : ℕ) (head : Record) → numbered records r ≡ Some head → head.aggregation ≢ a) → last_addition records a ≡ None
none_last records a None e none = e
none_last records a (Some day) e none = let last = last_is records a day e in absurd (none last.one.0 last.one.1 last.one.2 last.one.3)

pub no_last_addition : (records : List Record) (a : ℕ) → (last_addition records a ≡ None) ↔ ((r : ℕ) (head : Record) → numbered records r ≡ Some head → head.aggregation ≢ a)
no_last_addition records a = (none_is records a, none_last records a (last_addition records a) refl)
