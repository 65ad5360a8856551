use Rattle.std.proofs.Common.{Option, List, ℕ, drop}
use Rattle.std.specs.Io.KnownBytes.{Appends}
use Rattle.office_base.specs.Output.{AppendsSome}
use Rattle.office_json.specs.Answers.{answer_lines}
use Rattle.office_json.proofs.answer_lines.write_answers.Given as goal

-- what appends the lines that are left has appended them all, and some of them are some of all
abbrev pub invariant-loop-answer : goal.invariant-loop-answer
invariant-loop-answer g l =
    (new : Option (List ℕ))
    → (Appends (g.W.Write.contents l.out) new (answer_lines (drop l.answer-index l.answers)) → Appends (g.W.Write.contents l.initial.out) new (answer_lines l.answers))
    × (AppendsSome (g.W.Write.contents l.out) new (answer_lines (drop l.answer-index l.answers)) → AppendsSome (g.W.Write.contents l.initial.out) new (answer_lines l.answers))
