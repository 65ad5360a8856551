use Rattle.std.proofs.Common.{◌++◌, codes}
use Rattle.std.specs.Fmt.{decimal}
use Rattle.office_rules.specs.Certificates.{date_text}
use Rattle.office_proof.proofs.Texts.{three_lines, reported_as}
use Rattle.office_proof.proofs.lines.push_run.Goals as goal

pub returns : goal.returns
returns c =
    three_lines _ _ _ _ (codes "CERTIFICATE " ++ decimal c.args.run) (codes "DAY " ++ date_text c.args.day) (codes "BY " ++ c.args.by.now)
    c.in_ok-push_number.ensures c.in_ok-push_day.ensures (reported_as _ _ (codes "BY ") c.text.result.now c.args.by.now c.in_ok-push_line.ensures c.text.ensures.value)
