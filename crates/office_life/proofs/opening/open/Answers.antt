use Rattle.std.proofs.lemmas.Result.{err_from_is_err_and}
use Rattle.office_life.proofs.LeftTables.{clean_left, never_dirty, spared}
use Rattle.office_life.proofs.Openings.{files_not_refused}
use Rattle.office_life.proofs.Rests.{rests_at}
use Rattle.sqlite.specs.Files.{file_state, image_of}
use Rattle.office_life.proofs.opening.open.Goals as goal

pub returns-clause-idle : goal.returns-clause-idle
returns-clause-idle g c = c.in_ok-conn.ensures.fresh.autocommit

pub returns-clause-found : goal.returns-clause-found
returns-clause-found g c never stage s stands =
    let conn = c.in_ok-conn.conn in
    let clean = never_dirty never conn.store in
    let opened = c.in_ok-conn.ensures.opened clean in
    let found = c.in_ok-conn.ensures.found clean in
    let law = c.law_of_the_last_commit.ensures in
    rests_at (file_state conn) opened.0 opened.1 (law.only opened.0.is_open) (law.stays opened.0.is_open) (image_of g.D.Disk c.args.files) found.holds found.reads stage s stands

pub returns-in_err-conn-clause-stopped : goal.returns-in_err-conn-clause-stopped
returns-in_err-conn-clause-stopped g c never =
    let failed = err_from_is_err_and c.from_residual.result c.from_residual.ensures.1 in
    let rest = c.in_err-conn.field-0.0.1 in
    let clean = clean_left never rest in
    let why = c.in_err-conn.ensures.cause clean in
    rw (failed.1, failed.2) (record {
      leaves = c.in_err-conn.ensures.unharmed clean;
      stops = λ stage s stands. files_not_refused g.D.Disk c.args.files rest c.in_err-conn.field-0.0.0 stage s stands why;
    })

pub returns-in_err-conn-clause-spared : goal.returns-in_err-conn-clause-spared
returns-in_err-conn-clause-spared g c never =
    let failed = err_from_is_err_and c.from_residual.result c.from_residual.ensures.1 in
    let rest = c.in_err-conn.field-0.0.1 in
    rw (failed.1, failed.2) (spared g.D.Disk never c.args.files rest (c.in_err-conn.ensures.unharmed (clean_left never rest)))
