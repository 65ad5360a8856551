use Rattle.std.proofs.Common.{refl, subst}
use Rattle.sqlite_std_file.specs.File.{IsFresh}
use Rattle.sqlite_wal.specs.Files.{image_at}
use Rattle.office_store.specs.declared.fault.Fault.TheVariants.{Store}
use Rattle.office_commands.specs.OpenResult.{IsOpenResult}
use Rattle.office_commands.specs.declared.exit.Exit.TheVariants.{Fault}
use Rattle.office_commands.proofs.OpenResults.{ends_over}
use Rattle.office_commands.proofs.office_files.run_opened.Goals as goal

pub run_on-status-requires : goal.run_on-status-requires
run_on-status-requires g c = (subst (IsOpenResult IsFresh (image_at g.S.Start)) c.in-Ok.is c.requires).fresh.autocommit

pub refuse-requires : goal.refuse-requires
refuse-requires g c = subst (IsOpenResult IsFresh (image_at g.S.Start)) c.in-Err.is c.requires

pub returns-in-Ok-clause-refused : goal.returns-in-Ok-clause-refused
returns-in-Ok-clause-refused g c = rw c.in-Ok.is tt

pub returns-in-Err-clause-refused : goal.returns-in-Err-clause-refused
returns-in-Err-clause-refused g c = rw c.in-Err.is (c.status.ensures, c.refuse.ensures.given, refl)

pub returns-in-Ok-clause-runs : goal.returns-in-Ok-clause-runs
returns-in-Ok-clause-runs g c =
    let result = subst (IsOpenResult IsFresh (image_at g.S.Start)) c.in-Ok.is c.requires in
    let last = c.run_on-status.result.1 in
    let ran = c.run_on-status.ensures in
    let law = c.law_of_the_last_commit.ensures in
    rw c.in-Ok.is (record {
      exit = ran.runs.exit;
      is = ran.runs.is;
      ends = (
        last,
        ends_over IsFresh (image_at g.S.Start) c.close.result _ c.in-Ok.conn last result law.only law.stays ran.clean ran.shield ran.runs.ends c.law_of_the_last_commit-in-Ok.ensures.stays c.close.ensures.shield,
        c.close.ensures.left,
      );
    })

pub returns-in-Err-clause-runs : goal.returns-in-Err-clause-runs
returns-in-Err-clause-runs g c = rw c.in-Err.is (record {
  exit = Fault Store;
  is = c.status.ensures;
  ends = record { fault = refl; given = c.refuse.ensures.given; kept = c.refuse.ensures.kept; silent = refl };
})
