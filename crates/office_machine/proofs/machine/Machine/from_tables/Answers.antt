use Rattle.std.proofs.Common.{IfOk, subst}
use Rattle.office_rules.specs.Loading.{HaveKeys}
use Rattle.office_rules.specs.State.{ByteMap}
use Rattle.office_rules.specs.Tables.{TableLists}
use Rattle.office_machine.proofs.machine.Machine.from_tables.Goals as goal

pub returns-clause-keys : goal.returns-clause-keys
returns-clause-keys c =
    subst (λ (rows : TableLists). IfOk c.finish.result (λ machine. (contents : ByteMap) × HaveKeys contents rows.contents)) c.in_ok-give.ensures.ok c.finish.ensures.keys
