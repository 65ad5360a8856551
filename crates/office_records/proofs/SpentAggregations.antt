-- An aggregation is spent where it is closed, a record lies below it, and all records below it are ended.
use Rattle.std.proofs.Common.{◌≡◌, ◌↔◌, inl, inr, ℕ, zero, suc, ◌+◌, ◌<◌, ◌≤◌, nat_lt, nat_le, Bool, true, false, cond, ◌&&◌, IsTrue, IsSome, List, ◌∷◌, filter, length, Option, Some, None, refl, ap, ◌∙◌, arith}
use Rattle.std.proofs.lemmas.Bool.{and_parts, and_from, cases_lt}
use Rattle.std.proofs.lemmas.Bool.Decides.{nat_tests}
use Rattle.std.specs.List.{list_all}
use Rattle.std.specs.Option.{is_some}
use Rattle.office_records.specs.Disposal.{is_below, records_below, is_spent, is_ended}
use Rattle.office_records.specs.Lists.{numbered, numbers_after, is_some_and}
use Rattle.office_records.specs.Meanings.{Contains, IsSpent}
use Rattle.office_records.specs.Sound.{IsSound}
use Rattle.office_records.specs.Tree.{TreeState, has_record, status_of}
use Rattle.office_records.specs.declared.aggregation.Aggregation.{Aggregation}
use Rattle.office_records.specs.declared.status.Status.{Status}
use Rattle.office_records.specs.declared.status.Status.TheVariants as status
use Rattle.office_records.proofs.Containing.{below_contains}

-- the numbers after a number that pass a test
abbrev passing : (ℕ → Bool) → ℕ → ℕ → List ℕ
passing test from count = filter test (numbers_after from count)

-- one of so many numbers after a number passes
abbrev SomePasses : (ℕ → Bool) → ℕ → ℕ → Type 0
SomePasses test from count = (r : ℕ) × (from < r) × (r ≤ from + count) × (test r ≡ true)

not_both : (b : Bool) → b ≡ false → b ≡ true → ⊥
not_both b off on = absurd cc

-- ---- whether one passes

some_step : (test : ℕ → Bool) (from count : ℕ) (b : Bool) → test (suc from) ≡ b → (0 < length (passing test (suc from) count) → SomePasses test (suc from) count)
    → 0 < length (cond b (suc from ∷ passing test (suc from) count) (passing test (suc from) count)) → SomePasses test from (suc count)
some_step test from count true is rest h = (suc from, omega arith, omega arith, is)
some_step test from count false is rest h = let one = rest h in (one.0, omega (arith, one.1), omega (arith, one.2), one.3)

passing_some : (test : ℕ → Bool) (count from : ℕ) → 0 < length (passing test from count) → SomePasses test from count
passing_some test zero from h = absurd (omega (arith, h))
passing_some test (suc count) from h = some_step test from count (test (suc from)) refl (passing_some test count (suc from)) h

step_some : (test : ℕ → Bool) (from count r : ℕ) (b : Bool) → test (suc from) ≡ b → from < r → test r ≡ true → (suc from < r → 0 < length (passing test (suc from) count))
    → 0 < length (cond b (suc from ∷ passing test (suc from) count) (passing test (suc from) count))
step_some test from count r true is low passes rest = omega arith
step_some test from count r false is low passes rest = elim (cases_lt (suc from) r) [ inl after ↦ rest after | inr here ↦ let same : suc from ≡ r = omega arith in absurd (not_both (test (suc from)) is (ap test same ∙ passes)) ]

some_passing : (test : ℕ → Bool) (count from r : ℕ) → from < r → r ≤ from + count → test r ≡ true → 0 < length (passing test from count)
some_passing test zero from r low high passes = absurd (omega arith)
some_passing test (suc count) from r low high passes = step_some test from count r (test (suc from)) refl low passes (λ after. some_passing test count (suc from) r after (omega (arith, high)) passes)

-- ---- whether all that pass are good

all_step : (test good : ℕ → Bool) (from count r : ℕ) (b : Bool) → test (suc from) ≡ b → from < r → test r ≡ true → list_all good (cond b (suc from ∷ passing test (suc from) count) (passing test (suc from) count)) ≡ true
    → (list_all good (passing test (suc from) count) ≡ true → suc from < r → good r ≡ true) → good r ≡ true
all_step test good from count r true is low passes all rest =
    let parts = and_parts (good (suc from)) (list_all good (passing test (suc from) count)) all in
    elim (cases_lt (suc from) r) [ inl after ↦ rest parts.1 after | inr here ↦ let same : r ≡ suc from = omega arith in ap good same ∙ parts.0 ]
all_step test good from count r false is low passes all rest =
    elim (cases_lt (suc from) r) [ inl after ↦ rest all after | inr here ↦ let same : suc from ≡ r = omega arith in absurd (not_both (test (suc from)) is (ap test same ∙ passes)) ]

passing_all : (test good : ℕ → Bool) (count from r : ℕ) → list_all good (passing test from count) ≡ true → from < r → r ≤ from + count → test r ≡ true → good r ≡ true
passing_all test good zero from r all low high passes = absurd (omega arith)
passing_all test good (suc count) from r all low high passes =
    all_step test good from count r (test (suc from)) refl low passes all (λ all after. passing_all test good count (suc from) r all after (omega (arith, high)) passes)

step_all : (test good : ℕ → Bool) (from count : ℕ) (b : Bool) → test (suc from) ≡ b → (test (suc from) ≡ true → good (suc from) ≡ true) → list_all good (passing test (suc from) count) ≡ true
    → list_all good (cond b (suc from ∷ passing test (suc from) count) (passing test (suc from) count)) ≡ true
step_all test good from count true is here rest = and_from (good (suc from)) (list_all good (passing test (suc from) count)) (here is) rest
step_all test good from count false is here rest = rest

all_passing : (test good : ℕ → Bool) (count from : ℕ) → ((r : ℕ) → from < r → r ≤ from + count → test r ≡ true → good r ≡ true) → list_all good (passing test from count) ≡ true
all_passing test good zero from h = refl
all_passing test good (suc count) from h =
    step_all test good from count (test (suc from)) refl (h (suc from) (omega arith) (omega arith)) (all_passing test good count (suc from) (λ r low high. h r (omega (arith, low)) (omega (arith, high))))

-- ---- a spent aggregation

lt_holds : (m n : ℕ) → nat_lt m n ≡ true → m < n
lt_holds m n h = grind (arith, nat_tests)

holds_lt : (m n : ℕ) → m < n → nat_lt m n ≡ true
holds_lt m n h = grind (arith, nat_tests)

record_there : (tree : TreeState) (r : ℕ) → 0 < r → r ≤ 0 + length tree.records → has_record tree r ≡ true
record_there tree r low high = grind (arith, nat_tests)

there_record : (tree : TreeState) (r : ℕ) → has_record tree r ≡ true → (0 < r) × (r ≤ 0 + length tree.records)
there_record tree r h = let parts = and_parts (nat_le 1 r) (nat_le r (length tree.records)) h in (low r parts.0, high r (length tree.records) parts.1)
  where
    low : (r : ℕ) → nat_le 1 r ≡ true → 0 < r
    low r h = grind (arith, nat_tests)

    high : (r n : ℕ) → nat_le r n ≡ true → r ≤ 0 + n
    high r n h = grind (arith, nat_tests)

closed_is : (o : Option Aggregation) → is_some_and o (λ it. is_some it.closed) ≡ true → (it : Aggregation) × (o ≡ Some it) × IsSome it.closed
closed_is None h = absurd cc
closed_is (Some it) h = (it, refl, h)

is_closed : (o : Option Aggregation) → (it : Aggregation) × (o ≡ Some it) × IsSome it.closed → is_some_and o (λ it. is_some it.closed) ≡ true
is_closed o one = ap (λ p. is_some_and p (λ (it : Aggregation). is_some it.closed)) one.1 ∙ one.2

-- whether the aggregation is closed
abbrev closed_at : TreeState → ℕ → Bool
closed_at tree a = is_some_and (numbered tree.aggregations a) (λ (it : Aggregation). is_some it.closed)

ended_is : (o : Option Status) → is_some_and o is_ended ≡ true → o ≡ Some status.Ended
ended_is None h = absurd cc
ended_is (Some status.Here) h = absurd cc
ended_is (Some status.Sent) h = absurd cc
ended_is (Some status.Received) h = absurd cc
ended_is (Some status.Ended) h = refl

-- whether the record is ended
abbrev pub ended : TreeState → ℕ → Bool
ended tree r = is_some_and (status_of tree r) is_ended

some_below_is : (tree : TreeState) (a : ℕ) → IsSound tree → 0 < length (records_below tree a) → (r : ℕ) × IsTrue (has_record tree r) × Contains tree a r
some_below_is tree a sound h =
    let one = passing_some (is_below tree a) (length tree.records) 0 h in
    (one.0, record_there tree one.0 one.1 one.2, (below_contains tree a one.0 sound).0 one.3)

is_some_below : (tree : TreeState) (a : ℕ) → IsSound tree → (r : ℕ) × IsTrue (has_record tree r) × Contains tree a r → 0 < length (records_below tree a)
is_some_below tree a sound one =
    let there = there_record tree one.0 one.1 in
    some_passing (is_below tree a) (length tree.records) 0 one.0 there.0 there.1 ((below_contains tree a one.0 sound).1 one.2)

all_ended_is : (tree : TreeState) (a : ℕ) → IsSound tree → list_all (ended tree) (records_below tree a) ≡ true → (r : ℕ) → IsTrue (has_record tree r) → Contains tree a r → IsTrue (ended tree r)
all_ended_is tree a sound all r has below =
    let there = there_record tree r has in
    passing_all (is_below tree a) (ended tree) (length tree.records) 0 r all there.0 there.1 ((below_contains tree a r sound).1 below)

is_all_ended : (tree : TreeState) (a : ℕ) → IsSound tree → ((r : ℕ) → IsTrue (has_record tree r) → Contains tree a r → IsTrue (ended tree r)) → list_all (ended tree) (records_below tree a) ≡ true
is_all_ended tree a sound h =
    all_passing (is_below tree a) (ended tree) (length tree.records) 0 (λ r low high below. h r (record_there tree r low high) ((below_contains tree a r sound).0 below))

spent_is : (tree : TreeState) (a : ℕ) → IsSound tree → is_spent tree a ≡ true → IsSpent tree a
unfolding is_spent
spent_is tree a sound h =
    let outer = and_parts (closed_at tree a && nat_lt 0 (length (records_below tree a))) (list_all (ended tree) (records_below tree a)) h in
    let inner = and_parts (closed_at tree a) (nat_lt 0 (length (records_below tree a))) outer.0 in
    record {
      closed = closed_is (numbered tree.aggregations a) inner.0;
      some_below = some_below_is tree a sound (lt_holds 0 (length (records_below tree a)) inner.1);
      all_ended = λ r has below. ended_is (status_of tree r) (all_ended_is tree a sound outer.1 r has below);
    }

is_spent_where : (tree : TreeState) (a : ℕ) → IsSound tree → IsSpent tree a → is_spent tree a ≡ true
unfolding is_spent
is_spent_where tree a sound h =
    let closed = is_closed (numbered tree.aggregations a) h.closed in
    let some_below = holds_lt 0 (length (records_below tree a)) (is_some_below tree a sound h.some_below) in
    and_from (closed_at tree a && nat_lt 0 (length (records_below tree a))) (list_all (ended tree) (records_below tree a)) (and_from (closed_at tree a) (nat_lt 0 (length (records_below tree a))) closed some_below) (is_all_ended tree a sound (λ r has below. ap (λ o. is_some_and o is_ended) (h.all_ended r has below)))

pub spent_where : (tree : TreeState) (a : ℕ) → IsSound tree → (IsTrue (is_spent tree a) ↔ IsSpent tree a)
spent_where tree a sound = (spent_is tree a sound, is_spent_where tree a sound)
