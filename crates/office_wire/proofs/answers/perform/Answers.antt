use Rattle.std.proofs.Common.{Err, Ok, sym, refl, rules}
use Rattle.std.specs.FinMap.{empty}
use Rattle.office_rules.specs.State.{with_contents}
use Rattle.office_http.specs.Replies.{response}
use Rattle.office_wire.specs.Answering.{IsGiven}
use Rattle.office_wire.proofs.Performed.{outcome_seen}
use Rattle.office_wire.proofs.Unavailable.{stopped_unavailable}
use Rattle.office_wire.proofs.answers.perform.Goals as goal

pub returns-in-Ok : goal.returns-in-Ok
returns-in-Ok g c =
    let it = c.in-Ok.ensures in
    record {
      call = record {
        clean = it.rest.clean;
        shield = it.rest.shield;
        did = λ t clean at. record {
          outcome = _;
          reported = outcome_seen (Ok c.in-Ok.field-0) _ _ _ (IsGiven c.acts_reply.result) c.new-answers.ensures.items c.as_slice.ensures.value c.acts_reply.ensures;
          leads = (it.answered t at.is_open (sym at.office)).leads;
          came = it.leaves t clean at;
        };
      };
      kept = λ was. (it.gone was).1;
      gone = λ was. absurd (let wrong = (it.gone was).0 in cc);
      -- a desk that ended by an answer is open
      reported = λ is_open. let still = (it.answered (with_contents c.args.desk.now.office empty) is_open refl).leads.1 in search rules;
    }

pub returns : goal.returns
returns g c =
    let it = c.in-Err.ensures in
    record {
      call = record {
        clean = it.rest.clean;
        shield = it.rest.shield;
        did = λ t clean at. record {
          outcome = _;
          reported = outcome_seen (Err c.in-Err.fault) _ _ _ (IsGiven c.stopped_reply.result) c.new-answers.ensures.items c.as_slice-in-Err.ensures.value c.stopped_reply.ensures;
          leads = (it.answered t at.is_open (sym at.office)).leads;
          came = it.leaves t clean at;
        };
      };
      kept = λ was. (it.gone was).1;
      gone = search rules;
      reported = λ is_open gone. stopped_unavailable response c.stopped_reply.result _ _ c.stopped_reply.ensures;
    }
