use Rattle.sqlite.specs.Files.{over_files}
use Rattle.office_life.proofs.DeskWork.{found_at}
use Rattle.office_life.proofs.LeftTables.{never_dirty}
use Rattle.office_life.proofs.Openings.{not_refused}
use Rattle.office_life.proofs.finding.found_at.Goals as goal

pub returns-in-Ok-clause-found : goal.returns-in-Ok-clause-found
returns-in-Ok-clause-found g c never s rests =
    let desk = c.in-Ok.desk in
    found_at c.law_of_one_database.ensures.one s over_files c.args.conn desk (c.in-Ok.ensures.ok.finds (never_dirty never desk.connection.store)) rests

pub returns-in-Err-clause-why : goal.returns-in-Err-clause-why
returns-in-Err-clause-why g c never files s rests =
    let conn = c.in-Err.conn in
    not_refused over_files c.args.conn conn s rests (never_dirty never conn.store) c.in-Err.fault c.in-Err.ensures.err
