use Rattle.std.proofs.Common.{Ok, refl}
use Rattle.std.specs.FinMap.{empty}
use Rattle.office_rules.specs.Runs.{open_run}
use Rattle.office_rules.specs.State.{with_contents}
use Rattle.office_desk.specs.Resumptions.{run_outcome, run_stopped}
use Rattle.office_desk.proofs.Resumptions.{run_left}
use Rattle.office_commands.proofs.resume.resume_at.Goals as goal

pub report_answer-requires : goal.report_answer-requires
report_answer-requires g c = (open_run c.args.desk.now.office, (c.in-Ok.ensures.answered (with_contents c.args.desk.now.office empty) c.requires refl).answered)

pub returns-in-Ok-clause-done : goal.returns-in-Ok-clause-done
returns-in-Ok-clause-done g c =
    let it = c.in-Ok.ensures in
    let was_open = open_run c.args.desk.now.office in
    let o = run_outcome (Ok c.in-Ok.answer) was_open in
    record {
      outcome = o;
      reported = c.report_answer.ensures was_open (it.answered (with_contents c.args.desk.now.office empty) c.requires refl).answered;
      came = λ t was. run_left g.S.Store t o c.resume.new.self (it.leaves t was.0 was.1);
    }

pub returns-in-Err-clause-done : goal.returns-in-Err-clause-done
returns-in-Err-clause-done g c =
    let o = run_stopped c.in-Err.fault in
    record { outcome = o; reported = (refl, refl); came = λ t was. run_left g.S.Store t o c.resume.new.self (c.in-Err.ensures.leaves t was.0 was.1) }
