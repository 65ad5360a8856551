use Rattle.office_wire.proofs.Reported.{run_performed}
use Rattle.office_wire.proofs.answers.answer_path.Goals as goal

pub returns-in-Resume : goal.returns-in-Resume
returns-in-Resume g c = rw c.in-Resume.is (run_performed g.S.Store c.resume.result _ _ c.resume.ensures)
