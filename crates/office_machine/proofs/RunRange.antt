-- The entries of a run, which are under its number, are those between its first key and its last.
use Rattle.std.proofs.Common.{◌≡◌, ◌==◌, ◌&&◌, ◌<◌, ◌≤◌, ◌⊎◌, inl, inr, ℕ, Bool, true, false, not, cond, List, [], ◌∷◌, filter, Some, refl, sym, ap, ◌∙◌, arith}
use Rattle.std.proofs.lemmas.Bool.{cases_order}
use Rattle.std.proofs.lemmas.Bool.Decides.{nat_tests}
use Rattle.std.proofs.lemmas.List.Elements.{All-weaker, recursion_from_All}
use Rattle.std.proofs.lemmas.Map.Views.{All-found}
use Rattle.std.specs.BTreeMap as tree
use Rattle.std.specs.BTreeMap.{BTreeMap, IsOrdered}
use Rattle.std.specs.BTreeMap.Range.{range_contains, entries_between}
use Rattle.std.specs.Cmp.{nat_cmp_total, tied_itself}
use Rattle.std.specs.FinMap.{from_entries, get, values}
use Rattle.std.specs.List.{AllByRecursion}
use Rattle.std.specs.Map.{values_of}
use Rattle.std.specs.Ordering.{nat_cmp, ordering_then, is_le, is_lt}
use Rattle.std.specs.declared.cmp.Ordering.{Ordering}
use Rattle.std.specs.declared.cmp.Ordering.TheVariants.{Less, Greater}
use Rattle.std.specs.declared.ops.Bound.{Bound}
use Rattle.std.specs.declared.ops.Bound.TheVariants.{Included}
use Rattle.office_rules.specs.declared.entry.Entry.{Entry}
use Rattle.office_rules.proofs.SoundMaps.{entry_cmp-IsAntisymmetric, entry_total}
use Rattle.office_rules.specs.Runs.{entries_of}
use Rattle.office_rules.specs.Sound.{IsSoundOffice}
use Rattle.office_rules.specs.State.{Office, entry_cmp}
use Rattle.office_machine.proofs.RunEntries.{of_run_ordered}
use Rattle.office_machine.proofs.Stored.{get_is}

-- an entry with its key
abbrev Kept : Type 0
Kept = (ℕ × ℕ) × Entry

-- it is under its own run, and its record's number is of 32 bits
abbrev IsOfItsRun : Kept → Type 0
IsOfItsRun e = (e.1.run ≡ e.0.0) × (e.0.1 ≤ 4_294_967_295)

-- the first key of a run, and the last
abbrev first_of_run : ℕ → Bound (ℕ × ℕ)
first_of_run run = Included (run, 0)

abbrev last_of_run : ℕ → Bound (ℕ × ℕ)
last_of_run run = Included (run, 4_294_967_295)

-- the entries between these two
abbrev pub between : ℕ → List Kept → List Kept
between run es = entries_between entry_cmp (first_of_run run) (last_of_run run) es

-- ---- a key is between these two exactly where it is of that run

from_zero : (r : ℕ) → is_le (nat_cmp 0 r) ≡ true
from_zero r = grind (arith, nat_tests)

not_above : (r n : ℕ) → r ≤ n → is_lt (nat_cmp n r) ≡ false
not_above r n h = grind (arith, nat_tests)

before_is : (m n : ℕ) → m < n → nat_cmp m n ≡ Less
before_is m n h = grind (arith, nat_tests)

after_is : (m n : ℕ) → n < m → nat_cmp m n ≡ Greater
after_is m n h = grind (arith, nat_tests)

is_same : (m n : ℕ) → m ≡ n → (m == n) ≡ true
is_same m n h = grind (arith, nat_tests)

is_other_above : (m n : ℕ) → n < m → (m == n) ≡ false
is_other_above m n h = grind (arith, nat_tests)

is_other_below : (m n : ℕ) → m < n → (m == n) ≡ false
is_other_below m n h = grind (arith, nat_tests)

-- whether a key is between, by how its run compares and by its record's number
abbrev between_by : ℕ → Ordering → Bool
between_by r o = is_le (ordering_then o (nat_cmp 0 r)) && not (is_lt (ordering_then o (nat_cmp 4_294_967_295 r)))

of_run : (run k r : ℕ) → r ≤ 4_294_967_295 → (run ≡ k) ⊎ ((run < k) ⊎ (k < run)) → range_contains entry_cmp (first_of_run run) (last_of_run run) (k, r) ≡ (k == run)
of_run run k r low (inl same) =
    ap (between_by r) (ap (nat_cmp run) (sym same) ∙ tied_itself nat_cmp_total run)
    ∙ (λ i. from_zero r i && not (not_above r 4_294_967_295 low i))
    ∙ sym (is_same k run (sym same))
of_run run k r low (inr (inl less)) = ap (between_by r) (before_is run k less) ∙ sym (is_other_above k run less)
of_run run k r low (inr (inr more)) = ap (between_by r) (after_is run k more) ∙ sym (is_other_below k run more)

of_its_run : (run : ℕ) (e : Kept) → IsOfItsRun e → range_contains entry_cmp (first_of_run run) (last_of_run run) e.0 ≡ (e.1.run == run)
of_its_run run e own = of_run run e.0.0 e.0.1 own.1 (cases_order run e.0.0) ∙ ap (λ n. n == run) (sym own.0)

-- ---- the entries between the two are those of the run

one_more : (e : Kept) (rest : List Kept) (others : List Entry) (b c : Bool) → b ≡ c → values_of rest ≡ others → values_of (cond b (e ∷ rest) rest) ≡ cond c (e.1 ∷ others) others
one_more e rest others true c is same = ap (λ es. e.1 ∷ es) same ∙ ap (λ d. cond d (e.1 ∷ others) others) is
one_more e rest others false c is same = same ∙ ap (λ d. cond d (e.1 ∷ others) others) is

between_is : (run : ℕ) (es : List Kept) → AllByRecursion IsOfItsRun es → values_of (between run es) ≡ filter (λ e. e.run == run) (values_of es)
between_is run [] own = refl
between_is run (e ∷ es) own =
    one_more e (between run es) (filter (λ e. e.run == run) (values_of es)) (range_contains entry_cmp (first_of_run run) (last_of_run run) e.0) (e.1.run == run) (of_its_run run e own.0) (between_is run es own.1)

-- ---- in a sound office each entry is under its own run

module _ (s : Office) (sound : IsSoundOffice s) where
  of_its_own : (run r : ℕ) (e : Entry) → get s.entries (run, r) ≡ Some e → IsOfItsRun ((run, r), e)
  unfolding IsSoundOffice
  of_its_own run r e there =
      let within = (sound.1.names.of_entries run r e there).record_there.1 in
      ((sound.1.entries.keyed run r e there).0, omega (arith, within, sound.1.limits.tree_few.records_few))

  each_of_its_own : (m : BTreeMap (ℕ × ℕ) Entry) → from_entries {R = entry_cmp} m.entries ≡ s.entries → IsOrdered entry_cmp m → AllByRecursion IsOfItsRun m.entries
  each_of_its_own m of_map ordered =
      recursion_from_All IsOfItsRun m.entries
      (All-weaker (λ e. tree.get entry_cmp m e.0 ≡ Some e.1) IsOfItsRun
      (λ e found. of_its_own e.0.0 e.0.1 e.1 (ap (λ es. get es e.0) (sym of_map) ∙ get_is entry_total entry_cmp-IsAntisymmetric m.entries e.0 ∙ found))
      m.entries (All-found entry_total m ordered))

  -- the entries of a run are those between its first key and its last
  pub run_between : (run : ℕ) (m : BTreeMap (ℕ × ℕ) Entry) → from_entries {R = entry_cmp} m.entries ≡ s.entries → IsOrdered entry_cmp m → values_of (between run m.entries) ≡ entries_of s run
  run_between run m of_map ordered =
      between_is run m.entries (each_of_its_own m of_map ordered)
      ∙ of_run_ordered run m.entries ordered
      ∙ ap (λ es. filter (λ (e : Entry). e.run == run) (values es)) of_map
