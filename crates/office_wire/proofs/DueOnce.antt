-- What is due on a day is one list, and so is what is overdue.
use Rattle.std.proofs.Common.{◌≡◌, ◌∙◌, ap, sym, ℕ, ℤ, pos, List}
use Rattle.std.specs.Cmp.{IsTotalOrder}
use Rattle.std.specs.Prelude.{unwrap_or}
use Rattle.std.proofs.lemmas.Cmp.{int_cmp_total, nat_cmp_total, on_total, then_total}
use Rattle.office_records.specs.Tree.{TreeState, due_of}
use Rattle.office_rules.specs.Readings.{IsDueList, IsOverdueList, deadline_cmp, deadline_or, due_cmp}
use Rattle.office_rules.specs.Registers.{AreDueRows, AreOverdueRows, DueRowView, due_rows_of}
use Rattle.office_rules.specs.State.{Office}
use Rattle.office_wire.proofs.SortedOnce.{same_sorted}

due_total : (tree : TreeState) → IsTotalOrder (due_cmp tree)
due_total tree = then_total (on_total (λ (r : ℕ). unwrap_or (due_of tree r) (pos 0)) int_cmp_total) nat_cmp_total

deadline_total : (tree : TreeState) (n : ℕ) → IsTotalOrder (deadline_cmp tree n)
deadline_total tree n = then_total (on_total (λ (r : ℕ). deadline_or tree n r) int_cmp_total) nat_cmp_total

due_once : (tree : TreeState) (day : ℤ) (xs ys : List ℕ) → IsDueList tree day xs → IsDueList tree day ys → xs ≡ ys
due_once tree day xs ys one other =
    same_sorted (due_cmp tree) (due_total tree) xs ys one.in_order other.in_order
    (λ r is. (other.these r).1 ((one.these r).0 is)) (λ r is. (one.these r).1 ((other.these r).0 is))

overdue_once : (tree : TreeState) (day : ℤ) (n : ℕ) (xs ys : List ℕ) → IsOverdueList tree day n xs → IsOverdueList tree day n ys → xs ≡ ys
overdue_once tree day n xs ys one other =
    same_sorted (deadline_cmp tree n) (deadline_total tree n) xs ys one.in_order other.in_order
    (λ r is. (other.these r).1 ((one.these r).0 is)) (λ r is. (one.these r).1 ((other.these r).0 is))

pub same_due_rows : (s : Office) (day : ℤ) (rows other_rows : List DueRowView) → AreDueRows s day rows → AreDueRows s day other_rows → rows ≡ other_rows
same_due_rows s day rows other_rows (xs, one, is) (ys, other, too) = is ∙ ap (λ (list : List ℕ). due_rows_of s list) (due_once s.tree day xs ys one other) ∙ sym too

pub same_overdue_rows : (s : Office) (day : ℤ) (n : ℕ) (rows other_rows : List DueRowView) → AreOverdueRows s day n rows → AreOverdueRows s day n other_rows → rows ≡ other_rows
same_overdue_rows s day n rows other_rows (xs, one, is) (ys, other, too) = is ∙ ap (λ (list : List ℕ). due_rows_of s list) (overdue_once s.tree day n xs ys one other) ∙ sym too
