use Rattle.sqlite_wal.specs.Files.{outcomes}
use Rattle.office_life.specs.Life.{IsAfterLife, stage_at_end}
use Rattle.office_life.proofs.Leading.{finds_led}
use Rattle.office_life.proofs.life.live_and_find.Goals as goal

pub returns-in-Ok : goal.returns-in-Ok
returns-in-Ok g c never stage known =
    let reports = c.in_ok-reports.reports in
    let left = c.in_ok-reports.left in
    finds_led g.D.Disk g.met.D.Disk.seen_may_stay stage (stage_at_end stage reports.items) (IsAfterLife c.args.tasks.now reports.items) (outcomes g.D.Disk c.args.files.log c.args.files.db) left
    (c.in_ok-reports.ensures.led never stage known) c.in-Ok.desk (c.in-Ok.ensures.found never)
