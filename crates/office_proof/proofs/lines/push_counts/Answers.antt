use Rattle.std.proofs.Common.{◌∙◌, ap, ◌++◌, codes, map}
use Rattle.std.specs.Fmt.{decimal}
use Rattle.office_rules.specs.Certificates.{counted}
use Rattle.office_rules.specs.Outcomes.{is_ending, is_sending, is_skipping}
use Rattle.office_proof.proofs.Counts.{counted_is}
use Rattle.office_proof.proofs.Texts.{three_lines, reported_as}
use Rattle.office_proof.proofs.lines.push_counts.Goals as goal

pub returns : goal.returns
returns c =
    let entries = c.args.entries.now in
    let each = map (λ entry. entry.now) entries in
    three_lines _ _ _ _ (codes "ENDED " ++ counted is_ending each) (codes "SENT " ++ counted is_sending each) (codes "SKIPPED " ++ counted is_skipping each)
    (reported_as _ _ (codes "ENDED ") (decimal c.ended.result) (counted is_ending each) c.in_ok-push_number.ensures (ap decimal (c.ended.ensures ∙ counted_is is_ending entries)))
    (reported_as _ _ (codes "SENT ") (decimal c.sent.result) (counted is_sending each) c.in_ok-push_number-2.ensures (ap decimal (c.sent.ensures ∙ counted_is is_sending entries)))
    (reported_as _ _ (codes "SKIPPED ") (decimal c.skipped.result) (counted is_skipping each) c.in_ok-push_number-3.ensures (ap decimal (c.skipped.ensures ∙ counted_is is_skipping entries)))
