use Rattle.std.proofs.Common.{refl, subst}
use Rattle.sqlite_std_file.specs.File.{IsFresh}
use Rattle.sqlite_wal.specs.Files.{image_at}
use Rattle.office_commands.specs.OpenResult.{IsOpenResult}
use Rattle.office_commands.proofs.OpenResults.{ends_over}
use Rattle.office_commands.proofs.gate.gate_opened.Goals as goal

pub gate_on-exit-requires : goal.gate_on-exit-requires
gate_on-exit-requires g c = (subst (IsOpenResult IsFresh (image_at g.S.Start)) c.in-Ok.is c.requires).fresh.autocommit

pub refuse-requires : goal.refuse-requires
refuse-requires g c = subst (IsOpenResult IsFresh (image_at g.S.Start)) c.in-Err.is c.requires

pub returns-in-Ok-clause-refused : goal.returns-in-Ok-clause-refused
returns-in-Ok-clause-refused g c = rw c.in-Ok.is tt

pub returns-in-Err-clause-refused : goal.returns-in-Err-clause-refused
returns-in-Err-clause-refused g c = rw c.in-Err.is (refl, c.refuse.ensures.given, refl)

pub returns-in-Ok-clause-serves : goal.returns-in-Ok-clause-serves
returns-in-Ok-clause-serves g c =
    let result = subst (IsOpenResult IsFresh (image_at g.S.Start)) c.in-Ok.is c.requires in
    let last = c.gate_on-exit.result.1 in
    let served = c.gate_on-exit.ensures in
    let law = c.law_of_the_last_commit.ensures in
    rw c.in-Ok.is (
      last,
      ends_over IsFresh (image_at g.S.Start) c.close.result _ c.in-Ok.conn last result law.only law.stays served.clean served.shield served.ends c.law_of_the_last_commit-in-Ok.ensures.stays c.close.ensures.shield,
      c.close.ensures.left,
    )

pub returns-in-Err-clause-serves : goal.returns-in-Err-clause-serves
returns-in-Err-clause-serves g c = rw c.in-Err.is (record { fault = refl; given = c.refuse.ensures.given; kept = c.refuse.ensures.kept; silent = refl })
