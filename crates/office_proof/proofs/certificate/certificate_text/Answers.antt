use Rattle.std.proofs.Common.{◌∙◌, map}
use Rattle.office_proof.proofs.Assembling.{certificate_is}
use Rattle.office_proof.proofs.certificate.certificate_text.Goals as goal

pub returns : goal.returns
returns c =
    c.in_ok-seal.ensures
    ∙ certificate_is c.args.tree.now c.args.run c.args.day c.args.by.now (map (λ entry. entry.now) c.args.entries.now) c.args.spent.now _ _ _ _ _
    c.new-text.ensures.bytes c.in_ok-push_run.ensures c.in_ok-push_counts.ensures c.in_ok-push_entries.ensures c.in_ok-push_spent.ensures
