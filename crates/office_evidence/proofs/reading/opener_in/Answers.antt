use Rattle.std.proofs.Common.{codes, refl}
use Rattle.office_evidence.proofs.Chains.{copied_error, copied_on}
use Rattle.office_evidence.proofs.ReadWords.{lacks}
use Rattle.office_evidence.proofs.reading.opener_in.Goals as goal

pub returns-in_err-word : goal.returns-in_err-word
returns-in_err-word c by form same =
    absurd (copied_error c.reported.result by c.ok_or.result _ _ (c.reported.ensures (codes "BY") by (lacks 32 (codes "BY") refl) same) c.ok_or.ensures.value c.in_err-word.was)

pub returns : goal.returns
returns c by form same =
    c.text_in.ensures by form (copied_on c.reported.result by c.in_ok-word.word c.ok_or.result _ (c.reported.ensures (codes "BY") by (lacks 32 (codes "BY") refl) same) c.ok_or.ensures.value c.in_ok-word.was)
