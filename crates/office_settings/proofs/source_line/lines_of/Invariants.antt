use Rattle.std.proofs.Common.{◌≡◌, map, take}
use Rattle.office_settings.proofs.source_line.lines_of.Given as goal

-- the lines before a place
abbrev pub invariant-loop-part : goal.invariant-loop-part
invariant-loop-part l = l.lines.items ≡ map (λ line. line.now) (take l.part-index l.part-items)
