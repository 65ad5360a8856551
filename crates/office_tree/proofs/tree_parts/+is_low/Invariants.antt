use Rattle.office_tree.proofs.tree_parts.+is_low.Given as goal

abbrev pub decreases-is_low : goal.decreases-is_low
decreases-is_low l = l.steps
