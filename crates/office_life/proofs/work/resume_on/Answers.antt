use Rattle.std.proofs.Common.{subst}
use Rattle.sqlite.specs.Held.{state}
use Rattle.sqlite.specs.State.{HasCleanDisk}
use Rattle.office_life.proofs.DeskWork.{interrupted, resumed}
use Rattle.office_life.proofs.work.resume_on.Goals as goal

pub returns-in-Ok-clause-clean : goal.returns-in-Ok-clause-clean
returns-in-Ok-clause-clean g c clean = c.in-Ok.ensures.rest.clean (subst (λ h. HasCleanDisk (state g.S.Store h)) c.close.ensures.same clean)

pub returns-in-Err-clause-clean : goal.returns-in-Err-clause-clean
returns-in-Err-clause-clean g c clean = c.in-Err.ensures.rest.clean (subst (λ h. HasCleanDisk (state g.S.Store h)) c.close-in-Err.ensures.same clean)

pub returns-in-Ok-clause-left : goal.returns-in-Ok-clause-left
returns-in-Ok-clause-left g c =
    resumed c.law_of_one_database.ensures.one c.law_of_soundness.ensures.step g.S.Store c.args.desk c.resume.new.self c.close.result c.close.ensures.same c.in-Ok.answer c.in-Ok.ensures.answered c.in-Ok.ensures.leaves

pub returns-in-Err-clause-left : goal.returns-in-Err-clause-left
returns-in-Err-clause-left g c =
    interrupted c.law_of_one_database.ensures.one c.law_of_soundness.ensures.step g.S.Store c.args.desk c.resume.new.self c.close-in-Err.result c.close-in-Err.ensures.same c.in-Err.fault c.in-Err.ensures.leaves
