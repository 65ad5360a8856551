use Rattle.std.proofs.Common.{Ok, refl, sym, rules}
use Rattle.std.specs.FinMap.{empty}
use Rattle.office_rules.specs.Runs.{open_run}
use Rattle.office_rules.specs.State.{with_contents}
use Rattle.office_desk.specs.Resumptions.{run_outcome, run_stopped}
use Rattle.office_http.specs.Replies.{response}
use Rattle.office_wire.specs.Answering.{IsGiven}
use Rattle.office_wire.proofs.Resumed.{run_seen}
use Rattle.office_wire.proofs.Unavailable.{fault_unavailable}
use Rattle.office_wire.proofs.answers.resume.Goals as goal

pub returns-in-Ok : goal.returns-in-Ok
returns-in-Ok g c =
    let it = c.in-Ok.ensures in
    let was_open = open_run c.args.desk.now.office in
    record {
      call = record {
        clean = it.rest.clean;
        shield = it.rest.shield;
        did = λ t clean at. (
          run_outcome (Ok c.in-Ok.answer) was_open,
          run_seen c.in-Ok.answer was_open (IsGiven c.answer_reply.result) (it.answered t at.is_open (sym at.office)).answered c.answer_reply.ensures,
          it.leaves t clean at,
        );
      };
      kept = λ was. (it.gone was).1;
      gone = λ was. absurd (let wrong = (it.gone was).0 in cc);
      -- a desk that ended by an answer is open
      reported = λ is_open. let still = (it.answered (with_contents c.args.desk.now.office empty) is_open refl).is_open in search rules;
    }

pub returns-in-Err : goal.returns-in-Err
returns-in-Err g c =
    let it = c.in-Err.ensures in
    record {
      call = record { clean = it.rest.clean; shield = it.rest.shield; did = λ t clean at. (run_stopped c.in-Err.fault, c.fault_reply.ensures, it.leaves t clean at) };
      kept = λ was. (it.gone was).1;
      gone = search rules;
      reported = λ is_open gone. fault_unavailable response c.fault_reply.result _ c.fault_reply.ensures;
    }
