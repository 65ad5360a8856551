use Rattle.std.proofs.Common.{refl, rules, subst, Ok, Some}
use Rattle.office_rules.specs.State.{Office}
use Rattle.office_desk.specs.Contents.{content_found}
use Rattle.office_desk.specs.Leaving.{HasContent}
use Rattle.office_http.specs.Replies.{response}
use Rattle.office_http.specs.Receiving.{requested}
use Rattle.office_http.specs.declared.path_request.PathRequest.TheVariants as path
use Rattle.office_wire.proofs.Reported.{gone_given}
use Rattle.office_wire.proofs.Unreported.{content_there, unreported_at}
use Rattle.office_wire.proofs.Unavailable.{fault_unavailable}
use Rattle.office_wire.proofs.answers.report_content.Goals as goal

pub returns-in-Ok : goal.returns-in-Ok
returns-in-Ok g c =
    let it = c.in-Ok.ensures in
    record {
      call = record {
        clean = it.rest.clean;
        shield = it.rest.shield;
        did = λ t clean at. rw c.in-Some.is (content_found (Ok c.in-Ok.content), c.content_reply.ensures, it.leaves t clean at, tt);
      };
      kept = λ was. (it.gone was).1;
      gone = λ was. absurd (let wrong = (it.gone was).0 in cc);
      -- a desk that ended by a content is open
      reported = λ is_open. let still = (it.answered is_open).ends in search rules;
    }

pub returns-in-Err : goal.returns-in-Err
returns-in-Err g c =
    let it = c.in-Err.ensures in
    record {
      call = record {
        clean = it.rest.clean;
        shield = it.rest.shield;
        did = λ t clean at.
            let was_there = content_there c.args.desk.now.office.tree c.in-Some.record_no _ c.in-Err.fault refl (λ none. ((it.answered at.is_open).absent none).0) in
            let there = subst (λ (o : Office). HasContent o.tree c.in-Some.record_no) at.office was_there in
            rw c.in-Some.is (unreported_at g.S.Store t c.in-Some.record_no c.in-Err.fault c.content.new.self (it.leaves t clean at) there c.fault_reply.result c.fault_reply.ensures);
      };
      kept = λ was. (it.gone was).1;
      gone = λ was. rw c.in-Some.is (gone_given (requested (path.Content (Some c.in-Some.record_no))) c.fault_reply.result refl (search rules));
      reported = λ is_open gone. fault_unavailable response c.fault_reply.result _ c.fault_reply.ensures;
    }
