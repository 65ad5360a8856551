use Rattle.std.proofs.Common.{◌∙◌, ap, length, refl, rules, sym}
use Rattle.std.specs.FinMap.{empty}
use Rattle.std.specs.Prelude.{slice_get}
use Rattle.office_gate.specs.Visitors.{visitor_of}
use Rattle.office_gate.proofs.NextDenied.{permitted_seen, stopped_seen}
use Rattle.office_http.specs.Replies.{response}
use Rattle.office_rules.specs.State.{with_contents}
use Rattle.office_wire.specs.Answering.{IsGiven}
use Rattle.office_wire.proofs.Unavailable.{stopped_unavailable}
use Rattle.office_gate.proofs.acts.perform_permitted.Goals as goal

pub returns-in-Ok : goal.returns-in-Ok
returns-in-Ok g c =
    let it = c.in-Ok.ensures in
    record {
      call = record {
        clean = it.rest.clean;
        shield = it.rest.shield;
        did = λ t clean at. record {
          outcome = _;
          reported =
              let done = (it.answered t at.is_open (sym at.office)).answered in
              permitted_seen (visitor_of c.args.keeper.now) t c.args.acts.now _ _ _ _ _ _ (IsGiven c.permitted_reply.result) c.new-answers.ensures.items
              c.as_slice-answers.ensures.value done.added (c.machine.ensures ∙ done.leads.0) (c.act_at.ensures ∙ ap (slice_get c.args.acts.now) (ap length c.as_slice-answers.ensures.value))
              c.deny_next-denial.ensures c.permitted_reply.ensures;
          leads = (it.answered t at.is_open (sym at.office)).answered.leads;
          came = it.leaves t clean at;
        };
      };
      kept = λ was. (it.gone was).1;
      gone = λ was. tt;
      reported = λ is_open. let still = (it.answered (with_contents c.args.desk.now.office empty) is_open refl).answered.leads.1 in search rules;
    }

pub returns : goal.returns
returns g c =
    let it = c.in-Err.ensures in
    record {
      call = record {
        clean = it.rest.clean;
        shield = it.rest.shield;
        did = λ t clean at. record {
          outcome = _;
          reported =
              stopped_seen _ _ _ c.in-Err.fault (IsGiven c.stopped_reply.result) c.new-answers.ensures.items c.as_slice.ensures.value
              c.stopped_reply.ensures;
          leads = (it.answered t at.is_open (sym at.office)).answered.leads;
          came = it.leaves t clean at;
        };
      };
      kept = λ was. (it.gone was).1;
      gone = λ was. tt;
      reported = λ is_open gone. stopped_unavailable response c.stopped_reply.result _ _ c.stopped_reply.ensures;
    }
