use Rattle.std.proofs.Common.{◌∙◌, ap, ◌++◌, codes}
use Rattle.std.specs.Fmt.{decimal}
use Rattle.office_rules.specs.Outcomes.{is_ending, is_sending, is_skipping}
use Rattle.office_evidence.specs.Parsed.{count_in}
use Rattle.office_proof.proofs.Texts.{reported_as, three_lines}
use Rattle.office_evidence.proofs.Joining.{counted_is}
use Rattle.office_evidence.proofs.written.push_counts.Goals as goal

pub returns : goal.returns
returns c =
    let entries = c.args.entries.now in
    three_lines _ _ _ _ (codes "ENDED " ++ count_in is_ending entries) (codes "SENT " ++ count_in is_sending entries) (codes "SKIPPED " ++ count_in is_skipping entries)
    (reported_as _ _ (codes "ENDED ") (decimal c.ended.result) (count_in is_ending entries) c.in_ok-push_number.ensures (ap decimal (c.ended.ensures ∙ counted_is is_ending entries)))
    (reported_as _ _ (codes "SENT ") (decimal c.sent.result) (count_in is_sending entries) c.in_ok-push_number-2.ensures (ap decimal (c.sent.ensures ∙ counted_is is_sending entries)))
    (reported_as _ _ (codes "SKIPPED ") (decimal c.skipped.result) (count_in is_skipping entries) c.in_ok-push_number-3.ensures (ap decimal (c.skipped.ensures ∙ counted_is is_skipping entries)))
