use Rattle.std.proofs.Common.{refl, []}
use Rattle.sqlite.specs.Held.{state}
use Rattle.office_life.proofs.DeskWork.{found_at, unopened_at}
use Rattle.office_life.proofs.Openings.{not_refused}
use Rattle.office_sessions.proofs.serving.serve_at.Goals as goal

pub returns-in-Ok-clause-left : goal.returns-in-Ok-clause-left
returns-in-Ok-clause-left g c clean s rests =
    let finds = c.in-Ok.ensures.ok.finds (c.serve_on.ensures.clean clean) in
    c.serve_on.ensures.left clean s (found_at c.law_of_one_database.ensures.one s g.S.Store c.args.conn c.in-Ok.desk finds rests)

pub returns-in-Err-clause-left : goal.returns-in-Err-clause-left
returns-in-Err-clause-left g c clean s rests db may =
    let fault = c.in-Err.fault in
    let why = not_refused g.S.Store c.args.conn c.in-Err.conn s rests clean fault c.in-Err.ensures.err in (
      s,
      ([], record { formed = tt; did = (refl, why) }, refl),
      unopened_at c.law_of_one_database.ensures.one c.law_of_soundness.ensures.empty s (state g.S.Store c.args.conn) (state g.S.Store c.in-Err.conn) fault rests (c.in-Err.ensures.err.left clean) db may,
    )
