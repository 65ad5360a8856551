use Rattle.std.proofs.Common.{subst}
use Rattle.office_rules.specs.Loading.{HaveKeys}
use Rattle.office_rules.specs.Sound.{IsSoundOffice}
use Rattle.office_rules.specs.State.{ByteMap}
use Rattle.office_rules.specs.Tables.{TableLists}
use Rattle.office_machine.proofs.builder.Builder.finish.Goals as goal

pub invariant_of-result : goal.invariant_of-result
unfolding IsSoundOffice
invariant_of-result c =
    let some = c.in_ok-office.ensures.keys in
    (some.0, c.in_ok-office.ensures.sound some.0 some.1)

pub returns-clause-keys : goal.returns-clause-keys
returns-clause-keys c = subst (λ (rows : TableLists). (contents : ByteMap) × HaveKeys contents rows.contents) c.self.view_is c.in_ok-office.ensures.keys
