use Rattle.std.proofs.Common.{◌≡◌, flat_map}
use Rattle.office_journal.specs.Shown.{shown_char}
use Rattle.office_journal.proofs.show.show.Given as goal

-- the characters so far are shown
abbrev pub invariant-loop-c : goal.invariant-loop-c
invariant-loop-c l = l.out.items ≡ flat_map shown_char l.yielded
