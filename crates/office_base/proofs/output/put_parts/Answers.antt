use Rattle.std.proofs.Common.{subst, sym, List, ℕ}
use Rattle.std.specs.Io.KnownBytes.{Appends}
use Rattle.office_base.specs.Output.{AppendsSome}
use Rattle.office_base.proofs.Written.{appends_both, next_part, no_part, on_err, some_before, some_then}
use Rattle.office_base.proofs.output.put_parts.Goals as goal

pub returns-in_err-put_bytes-clause-err : goal.returns-in_err-put_bytes-clause-err
returns-in_err-put_bytes-clause-err g c =
    on_err _ ((c.loop-part.invariant _).1 (subst (λ (x : List ℕ). AppendsSome (g.W.Write.contents c.loop-part.out) (g.W.Write.contents c.put_bytes.new.out) x)
    (sym (next_part c.args.parts.now c.loop-part.part-index _ c.loop-part-test.true)) (some_before _ _ _ _ c.in_err-put_bytes.ensures.err)))

pub loop-part-preserved : goal.loop-part-preserved
loop-part-preserved g c = λ new.
    let next = sym (next_part c.args.parts.now c.loop-part.part-index _ c.loop-part-test.true) in (
      λ left. (c.loop-part.invariant new).0 (subst (λ (x : List ℕ). Appends (g.W.Write.contents c.loop-part.out) new x) next (appends_both _ _ _ _ _ c.in_ok-put_bytes.ensures.ok left)),
      λ some. (c.loop-part.invariant new).1 (subst (λ (x : List ℕ). AppendsSome (g.W.Write.contents c.loop-part.out) new x) next (some_then _ _ _ _ _ c.in_ok-put_bytes.ensures.ok some)),
    )

pub returns-clause-ok : goal.returns-clause-ok
returns-clause-ok g c = (c.loop-part.invariant _).0 (no_part _ c.args.parts.now c.loop-part.part-index c.loop-part-test.false)
