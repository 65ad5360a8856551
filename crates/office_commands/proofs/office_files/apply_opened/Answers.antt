use Rattle.std.proofs.Common.{inr, refl, subst}
use Rattle.sqlite_std_file.specs.File.{IsFresh}
use Rattle.sqlite_wal.specs.Files.{image_at}
use Rattle.office_commands.specs.OpenResult.{IsOpenResult}
use Rattle.office_commands.proofs.OpenResults.{ends_over}
use Rattle.office_commands.proofs.office_files.apply_opened.Goals as goal

pub apply_text-exit-requires : goal.apply_text-exit-requires
apply_text-exit-requires g c = (subst (IsOpenResult IsFresh (image_at g.S.Start)) c.in-Ok.is c.requires).fresh.autocommit

pub refuse-requires : goal.refuse-requires
refuse-requires g c = subst (IsOpenResult IsFresh (image_at g.S.Start)) c.in-Err.is c.requires

pub returns-in-Ok-clause-refused : goal.returns-in-Ok-clause-refused
returns-in-Ok-clause-refused g c = rw c.in-Ok.is tt

pub returns-in-Err-clause-refused : goal.returns-in-Err-clause-refused
returns-in-Err-clause-refused g c = rw c.in-Err.is (refl, c.refuse.ensures.given, refl)

pub returns-in-Ok-clause-applies : goal.returns-in-Ok-clause-applies
returns-in-Ok-clause-applies g c =
    let result = subst (IsOpenResult IsFresh (image_at g.S.Start)) c.in-Ok.is c.requires in
    let last = c.apply_text-exit.result.1 in
    let applied = c.apply_text-exit.ensures in
    let law = c.law_of_the_last_commit.ensures in
    rw c.in-Ok.is (
      last,
      ends_over IsFresh (image_at g.S.Start) c.close.result _ c.in-Ok.conn last result law.only law.stays applied.clean applied.shield applied.ends c.law_of_the_last_commit-in-Ok.ensures.stays c.close.ensures.shield,
      c.close.ensures.left,
    )

pub returns-in-Ok-clause-runs : goal.returns-in-Ok-clause-runs
returns-in-Ok-clause-runs g c = λ file acts.
    let result = subst (IsOpenResult IsFresh (image_at g.S.Start)) c.in-Ok.is c.requires in
    let last = c.apply_text-exit.result.1 in
    let applied = c.apply_text-exit.ensures in
    let law = c.law_of_the_last_commit.ensures in
    rw c.in-Ok.is (
      last,
      ends_over IsFresh (image_at g.S.Start) c.close.result _ c.in-Ok.conn last result law.only law.stays applied.clean applied.shield (inr applied.ends) c.law_of_the_last_commit-in-Ok.ensures.stays c.close.ensures.shield,
      c.close.ensures.left,
    )

pub returns-in-Err-clause-applies : goal.returns-in-Err-clause-applies
returns-in-Err-clause-applies g c = rw c.in-Err.is (record { fault = refl; given = c.refuse.ensures.given; kept = c.refuse.ensures.kept; silent = refl })

pub returns-in-Err-clause-runs : goal.returns-in-Err-clause-runs
returns-in-Err-clause-runs g c = λ file acts. rw c.in-Err.is (record { fault = refl; given = c.refuse.ensures.given; kept = c.refuse.ensures.kept; silent = refl })
