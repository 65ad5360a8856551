use Rattle.std.proofs.Common.{refl}
use Rattle.std.proofs.lemmas.Result.{err_from_is_err_and}
use Rattle.office_rules.specs.State.{with_contents}
use Rattle.office_desk.proofs.Opened.{examined, not_built, rebuild_damaged, rebuild_fault, represent_found}
use Rattle.office_desk.proofs.desk.Desk.load.Goals as goal

pub returns-in_err-store-clause-err : goal.returns-in_err-store-clause-err
returns-in_err-store-clause-err g c =
    let failed = err_from_is_err_and c.from_residual.result c.from_residual.ensures.1 in
    rw (failed.1, failed.2) (examined g.S.Store c.args.conn c.in_err-store.field-0.0.0 c.in_err-store.field-0.0.1 _ _ c.new-builder.ensures c.in_err-store.ensures.err)

pub returns-in-Ok-clause-ok : goal.returns-in-Ok-clause-ok
returns-in-Ok-clause-ok g c =
    let it = c.in_ok-store.ensures.ok in
    record {
      version = it.version;
      clean = it.clean;
      shield = it.shield;
      found = λ ed clean rest.
          let taken = it.taken ed clean rest in
          let read = taken.read c.new-builder.ensures in
          let reported = rw c.in-Ok.is at c.finish.ensures in
          let like = reported.keys in
          let law = c.law_of_found_rows.ensures ed c.adopt_into.new.intake _ read in
          let found = law.contents like.0 taken.bytes like.1 in
          let here = represent_found {ed = ed} c.adopt_into.new.intake _ c.in-Ok.machine reported.ok reported.sound law.represent law.texts found.0 found.1 found.2 in
          (with_contents c.in-Ok.machine found.0, here, refl, taken.rest, taken.same);
    }

pub returns-in-Err-clause-err : goal.returns-in-Err-clause-err
returns-in-Err-clause-err g c =
    not_built g.S.Store c.args.conn c.in_ok-store.store c.release.result _ _ c.from.result c.release.ensures.same c.release.ensures.ended (rebuild_fault c.in-Err.error c.from.result c.from.ensures) c.new-builder.ensures c.in_ok-store.ensures.ok
    (λ ed read is s sound texts represents. c.in-Err.ensures.damaged (rebuild_damaged c.in-Err.error c.from.result c.from.ensures is) s ((c.law_of_read_rows.ensures ed s _ sound represents).represent c.adopt_into.new.intake read) sound)
