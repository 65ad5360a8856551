use Rattle.std.proofs.Common.{IfErr, IfOk, Result, Ok, Err}
use Rattle.sqlite_disk.specs.declared.Files.{Files}
use Rattle.sqlite.specs.Files.{file_state, image_of, over_files}
use Rattle.office_rules.specs.State.{State}
use Rattle.office_desk.specs.Leaving.{IsAt}
use Rattle.office_life.specs.Opening.{StopsFinding}
use Rattle.office_life.specs.Standing.{RestsAt, Stage, StandsAt}
use Rattle.office_life.proofs.finding.find.Goals as goal

if_ok : {T E : Type 0} (P Q : T → Type 0) (r : Result T E) → ((t : T) → P t → Q t) → IfOk r P → IfOk r Q
if_ok P Q (Ok t) more is = more t is
if_ok P Q (Err e) more is = tt

if_err : {T E : Type 0} (P Q : E → Type 0) (r : Result T E) → ((e : E) → P e → Q e) → IfErr r P → IfErr r Q
if_err P Q (Ok t) more is = tt
if_err P Q (Err e) more is = more e is

pub returns-in-Ok-clause-found : goal.returns-in-Ok-clause-found
returns-in-Ok-clause-found g c never =
    if_ok (λ desk. (s : State) → RestsAt (file_state c.in-Ok.conn) s → IsAt over_files s desk)
    (λ desk. (stage : Stage) (s : State) → StandsAt stage (image_of g.D.Disk c.args.files) s → IsAt over_files s desk) c.found_at.result
    (λ desk at stage s stands. at s (c.in-Ok.ensures.found never stage s stands)) (c.found_at.ensures.found never)

pub returns-in-Ok-clause-why : goal.returns-in-Ok-clause-why
returns-in-Ok-clause-why g c never =
    if_err (λ stop. (files : Files _) (s : State) → RestsAt (file_state c.in-Ok.conn) s → StopsFinding files s stop)
    (λ stop. (stage : Stage) (s : State) → StandsAt stage (image_of g.D.Disk c.args.files) s → StopsFinding c.args.files s stop) c.found_at.result
    (λ stop why stage s stands. why c.args.files s (c.in-Ok.ensures.found never stage s stands)) (c.found_at.ensures.why never)

pub returns-in-Err-clause-why : goal.returns-in-Err-clause-why
returns-in-Err-clause-why g c never = (c.in-Err.ensures.stopped never).stops
