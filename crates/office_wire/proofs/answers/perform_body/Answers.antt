use Rattle.office_wire.proofs.Reported.{body_performed}
use Rattle.office_wire.proofs.answers.perform_body.Goals as goal

pub returns-in-Ok : goal.returns-in-Ok
returns-in-Ok g c = body_performed g.S.Store c.args.body.now _ c.in-Ok.acts.items c.perform.result _ _ c.as_slice.ensures.value c.in-Ok.ensures.ok c.perform.ensures
