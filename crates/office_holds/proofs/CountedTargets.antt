-- The counts of all targets, after the number of one of them changed.
use Rattle.std.proofs.Common.{◌≡◌, ◌==◌, ℕ, ◌+◌, ◌-◌, List, ap, ◌∙◌, arith}
use Rattle.std.specs.Ordering.{eq_by_cmp, nat_cmp}
use Rattle.std.specs.Cmp.{nat_cmp_total, unsigned_tied}
use Rattle.std.specs.Cmp.Lexicographic.{nat_list_cmp_total}
use Rattle.std.specs.Str.{bytes_eq}
use Rattle.std.proofs.lemmas.Map.Text.{is_eq-slice_cmp}
use Rattle.std.specs.BTreeMap.{BTreeMap}
use Rattle.std.specs.BTreeSet as tree_set
use Rattle.std.specs.BTreeSet.{BTreeSet}
use Rattle.std.specs.FinSet.{contains, from_list}
use Rattle.office_records.specs.Tree.{code_cmp}
use Rattle.office_rules.specs.HoldLoading.{same_target}
use Rattle.office_holds.specs.HoldCounts.{CountsDown, CountsUp}
use Rattle.office_holds.specs.Numbers.{AreOneLess, AreOneMore, number_at, one_if}
use Rattle.office_rules.specs.Holds.{HoldState, has_target}
use Rattle.office_holds.specs.declared.counts.HoldCounts.{HoldCounts}
use Rattle.office_records.specs.declared.target.Target.TheVariants as target
use Rattle.office_holds.proofs.Keys.{key_in}

-- the tests of codes and of numbers by their orders are those of targets
code_test : (code q : List ℕ) → one_if (eq_by_cmp code_cmp code q) ≡ one_if (bytes_eq code q)
code_test code q = ap one_if (is_eq-slice_cmp code q)

number_test : (n q : ℕ) → one_if (eq_by_cmp nat_cmp n q) ≡ one_if (n == q)
number_test n q = ap one_if (unsigned_tied n q)

pub class_up : (counts : HoldCounts) (classes : BTreeMap (List ℕ) ℕ) (key : List ℕ) → AreOneMore code_cmp counts.classes classes (eq_by_cmp code_cmp key) → CountsUp counts (record counts { classes = classes }) (same_target (target.Class key))
class_up counts classes key is (target.Class q) = is q ∙ ap (λ n. number_at code_cmp counts.classes q + n) (code_test key q)
class_up counts classes key is (target.Aggregation q) = omega arith
class_up counts classes key is (target.Record q) = omega arith

pub aggregation_up : (counts : HoldCounts) (aggregations : BTreeMap (ℕ) ℕ) (key : ℕ) → AreOneMore nat_cmp counts.aggregations aggregations (eq_by_cmp nat_cmp key) → CountsUp counts (record counts { aggregations = aggregations }) (same_target (target.Aggregation key))
aggregation_up counts aggregations key is (target.Class q) = omega arith
aggregation_up counts aggregations key is (target.Aggregation q) = is q ∙ ap (λ n. number_at nat_cmp counts.aggregations q + n) (number_test key q)
aggregation_up counts aggregations key is (target.Record q) = omega arith

pub record_up : (counts : HoldCounts) (records : BTreeMap (ℕ) ℕ) (key : ℕ) → AreOneMore nat_cmp counts.records records (eq_by_cmp nat_cmp key) → CountsUp counts (record counts { records = records }) (same_target (target.Record key))
record_up counts records key is (target.Class q) = omega arith
record_up counts records key is (target.Aggregation q) = omega arith
record_up counts records key is (target.Record q) = is q ∙ ap (λ n. number_at nat_cmp counts.records q + n) (number_test key q)

pub class_down : (counts : HoldCounts) (classes : BTreeMap (List ℕ) ℕ) (key : List ℕ) → AreOneLess code_cmp counts.classes classes (eq_by_cmp code_cmp key) → CountsDown counts (record counts { classes = classes }) (same_target (target.Class key))
class_down counts classes key is (target.Class q) = is q ∙ ap (λ n. number_at code_cmp counts.classes q - n) (code_test key q)
class_down counts classes key is (target.Aggregation q) = omega arith
class_down counts classes key is (target.Record q) = omega arith

pub aggregation_down : (counts : HoldCounts) (aggregations : BTreeMap (ℕ) ℕ) (key : ℕ) → AreOneLess nat_cmp counts.aggregations aggregations (eq_by_cmp nat_cmp key) → CountsDown counts (record counts { aggregations = aggregations }) (same_target (target.Aggregation key))
aggregation_down counts aggregations key is (target.Class q) = omega arith
aggregation_down counts aggregations key is (target.Aggregation q) = is q ∙ ap (λ n. number_at nat_cmp counts.aggregations q - n) (number_test key q)
aggregation_down counts aggregations key is (target.Record q) = omega arith

pub record_down : (counts : HoldCounts) (records : BTreeMap (ℕ) ℕ) (key : ℕ) → AreOneLess nat_cmp counts.records records (eq_by_cmp nat_cmp key) → CountsDown counts (record counts { records = records }) (same_target (target.Record key))
record_down counts records key is (target.Class q) = omega arith
record_down counts records key is (target.Aggregation q) = omega arith
record_down counts records key is (target.Record q) = is q ∙ ap (λ n. number_at nat_cmp counts.records q - n) (number_test key q)

-- each number of the targets of a hold counted down counts these targets down
pub each_down : (counts after : HoldCounts) (hold : HoldState) (classes : BTreeSet (List ℕ)) (aggregations records : BTreeSet ℕ)
    → from_list {R = code_cmp} classes.keys ≡ hold.classes → from_list {R = nat_cmp} aggregations.keys ≡ hold.aggregations → from_list {R = nat_cmp} records.keys ≡ hold.records
    → AreOneLess code_cmp counts.classes after.classes (tree_set.contains code_cmp classes) → AreOneLess nat_cmp counts.aggregations after.aggregations (tree_set.contains nat_cmp aggregations)
    → AreOneLess nat_cmp counts.records after.records (tree_set.contains nat_cmp records) → CountsDown counts after (has_target hold)
each_down counts after hold classes aggregations records in_c in_a in_r c a r (target.Class q) = c q ∙ ap (λ b. number_at code_cmp counts.classes q - one_if b) (key_in nat_list_cmp_total classes q ∙ ap (λ s. contains s q) in_c)
each_down counts after hold classes aggregations records in_c in_a in_r c a r (target.Aggregation q) = a q ∙ ap (λ b. number_at nat_cmp counts.aggregations q - one_if b) (key_in nat_cmp_total aggregations q ∙ ap (λ s. contains s q) in_a)
each_down counts after hold classes aggregations records in_c in_a in_r c a r (target.Record q) = r q ∙ ap (λ b. number_at nat_cmp counts.records q - one_if b) (key_in nat_cmp_total records q ∙ ap (λ s. contains s q) in_r)
