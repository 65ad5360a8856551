use Rattle.std.proofs.Common.{map}
use Rattle.office_policy.specs.People.{named_by}
use Rattle.office_policy.proofs.People.{people_all}
use Rattle.office_policy.proofs.names.people_of.Goals as goal

pub returns : goal.returns
returns c =
    people_all (λ people. map named_by people.items) c.args.entries.now (λ w. w.now) c.deref.result.now c.in_ok-names.names.items
    c.people_named.result c.deref.ensures.value c.in_ok-names.ensures c.people_named.ensures
