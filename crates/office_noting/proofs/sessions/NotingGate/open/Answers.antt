use Rattle.std.proofs.Common.{◌∙◌, ap, subst, List, ℕ}
use Rattle.sha2.specs.Sha256.{sha256}
use Rattle.office_noting.specs.Ledgers.{LacksBegin}
use Rattle.office_noting.proofs.sessions.NotingGate.open.Goals as goal

pub returns-in-Err-clause-err : goal.returns-in-Err-clause-err
returns-in-Err-clause-err g c =
    subst (λ (digest : List ℕ). LacksBegin g.W.Write.contents digest c.args.journal c.in-Err.why)
    (c.digest_of-settings.ensures ∙ ap sha256 c.deref.ensures.value) c.in-Err.ensures.err
