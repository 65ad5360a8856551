use Rattle.std.proofs.Common.{◌≡◌, None, take}
use Rattle.std.specs.List.{fold}
use Rattle.office_policy.specs.Rules.{changer_days}
use Rattle.office_policy.proofs.rules.last_days.Given as goal

-- the days by the lines before a place
abbrev pub invariant-loop-entry : goal.invariant-loop-entry
invariant-loop-entry l =
    l.days ≡ fold (λ days entry. changer_days days entry.line) None (take l.entry-index l.entries)
