use Rattle.std.proofs.Common.{◌≡◌, ◌∙◌, Result, Err, ap, sym}
use Rattle.office_rules.specs.declared.read_fault.ReadFault.{ReadFault}
use Rattle.office_rules.proofs.Pairs.{both_read, both_reads}
use Rattle.office_rules.proofs.parts.both.Goals.{in-Ok-second-2, in-Err-second-2}
use Rattle.office_rules.proofs.parts.both.Goals as goal

pub returns-after-second-2 : goal.returns-after-second-2
returns-after-second-2 g c = λ a b h k.
    let reported : ReadFault → Result (g.row.A.Denot × g.row.B.Denot) ReadFault = λ fault. Err fault in
    let read : both_read c.args.first c.args.second ≡ c.match-second-2.result = elim c.match-second-2.branch [
      | in-Ok-second-2 w ↦ rw (c.in-Err.is, w.in-Ok-second-2.is) (sym w.result-is)
      | in-Err-second-2 w ↦ rw (c.in-Err.is, w.in-Err-second-2.is) (ap reported (sym w.min_refusal.ensures) ∙ sym w.result-is)
    ] in
    rw read at (both_reads c.args.first c.args.second a b h k)
