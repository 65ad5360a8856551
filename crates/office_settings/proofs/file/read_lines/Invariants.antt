use Rattle.std.proofs.Common.{◌≡◌, ◌+◌, drop}
use Rattle.office_settings.specs.Files.{entries_from}
use Rattle.office_settings.proofs.file.read_lines.Given as goal

-- the lines before a place are read, and the others are left
abbrev pub invariant-loop-before : goal.invariant-loop-before
invariant-loop-before l =
    entries_from l.entries.items (l.before + 1) (drop l.before l.lines) ≡ entries_from l.fn.entries.items 1 l.lines
