use Rattle.std.proofs.Common.{◌≡◌, drop}
use Rattle.office_gate.specs.Performing.{lasting_denial_from}
use Rattle.office_gate.specs.Visitors.{visitor_of}
use Rattle.office_gate.proofs.acts.deny_anywhere.Given as goal

-- of the acts that are left, the first that is denied is the first of all
abbrev pub invariant-loop-place : goal.invariant-loop-place
invariant-loop-place l =
    lasting_denial_from (visitor_of l.keeper) l.place (drop l.place l.acts) ≡ lasting_denial_from (visitor_of l.keeper) 0 l.acts
