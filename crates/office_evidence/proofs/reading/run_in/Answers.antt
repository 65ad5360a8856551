use Rattle.std.proofs.Common.{codes, refl}
use Rattle.std.specs.Fmt.{decimal}
use Rattle.office_evidence.proofs.Chains.{copied_error, copied_on, gives_it}
use Rattle.office_evidence.proofs.ReadWords.{lacks}
use Rattle.office_evidence.proofs.reading.run_in.Goals as goal

pub returns-in_err-word : goal.returns-in_err-word
returns-in_err-word c x form same =
    absurd (copied_error c.reported.result (decimal x) c.ok_or.result _ _ (c.reported.ensures (codes "CERTIFICATE") (decimal x) (lacks 32 (codes "CERTIFICATE") refl) same) c.ok_or.ensures.value c.in_err-word.was)

pub returns : goal.returns
returns c x form same =
    gives_it c.number_in.result x c.ok_or-2.result _
    (c.number_in.ensures x form (copied_on c.reported.result (decimal x) c.in_ok-word.word c.ok_or.result _ (c.reported.ensures (codes "CERTIFICATE") (decimal x) (lacks 32 (codes "CERTIFICATE") refl) same) c.ok_or.ensures.value c.in_ok-word.was))
    c.ok_or-2.ensures.value
