use Rattle.std.proofs.Common.{◌≡◌, suc, length, ap, ◌∙◌, arith}
use Rattle.std.proofs.lemmas.Result.{IfOk-weaker}
use Rattle.office_base.specs.Rows.{numbered_rows}
use Rattle.office_base.proofs.Counted.{numbered_rows-push}
use Rattle.office_base.proofs.build.push_numbered.Goals as goal

pub returns-clause-rows : goal.returns-clause-rows
returns-clause-rows g c =
    let next : c.args.number ≡ suc (length c.args.things.now.items) = omega arith in
    IfOk-weaker c.push.result _ _ (λ _ pushed. ap numbered_rows pushed ∙ numbered_rows-push c.args.things.now.items c.args.thing c.args.number next) c.push.ensures.ok
