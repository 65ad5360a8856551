use Rattle.office_evidence.proofs.Joining.{one_more_line}
use Rattle.office_rules.specs.Certificates.{tabbed}
use Rattle.office_evidence.specs.Parsed.{columns_of}
use Rattle.office_evidence.proofs.written.push_entries.Goals as goal

pub loop-line-preserved : goal.loop-line-preserved
loop-line-preserved c = one_more_line (λ line. tabbed (columns_of line)) c.args.entries.now c.loop-line.line-index c.line-item.result _ _ _ c.loop-line-test.true c.line-item.is c.loop-line.invariant c.in_ok-push_entry.ensures
