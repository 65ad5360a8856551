use Rattle.std.proofs.Common.{◌≡◌, ◌++◌, map}
use Rattle.office_rules.specs.Runs.{spent_list}
use Rattle.office_machine.proofs.SpentByEntries.{spent_after}
use Rattle.office_machine.proofs.run_certificate.spent_list.Given as goal

-- those so far, and those after, are all
abbrev pub invariant-loop-before : goal.invariant-loop-before
invariant-loop-before l = l.spent.items ++ spent_after l.tree (map (λ entry. entry.now) l.entries) l.before ≡ spent_list l.tree (map (λ entry. entry.now) l.entries)
