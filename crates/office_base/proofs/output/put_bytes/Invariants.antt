use Rattle.office_base.proofs.Written.{IsPut}
use Rattle.office_base.proofs.output.put_bytes.Given as goal

abbrev pub invariant-loop : goal.invariant-loop
invariant-loop g l = IsPut (g.W.Write.contents l.initial.out) (g.W.Write.contents l.out) l.fn.bytes l.rest
