use Rattle.std.proofs.Common.{Bor, Option, List, ℕ, drop, map}
use Rattle.std.specs.List.{concat}
use Rattle.std.specs.Io.KnownBytes.{Appends}
use Rattle.office_base.specs.Output.{AppendsSome}
use Rattle.office_base.proofs.output.put_parts.Given as goal

-- what appends the parts that are left has appended them all, and some of them are some of all
abbrev pub invariant-loop-part : goal.invariant-loop-part
invariant-loop-part g l =
    let left : List ℕ = concat (map (λ (part : Bor (List ℕ)). part.now) (drop l.part-index l.parts)) in
    let all : List ℕ = concat (map (λ (part : Bor (List ℕ)). part.now) l.parts) in
    (new : Option (List ℕ))
    → (Appends (g.W.Write.contents l.out) new left → Appends (g.W.Write.contents l.initial.out) new all)
    × (AppendsSome (g.W.Write.contents l.out) new left → AppendsSome (g.W.Write.contents l.initial.out) new all)
