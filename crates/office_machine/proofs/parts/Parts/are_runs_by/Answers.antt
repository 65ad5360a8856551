use Rattle.std.proofs.Common.{◌≤ℤ◌, ◌∙◌, ap, sym, subst}
use Rattle.office_records.specs.Lists.{numbered}
use Rattle.office_records.proofs.Bridge.{from_numbers}
use Rattle.office_rules.specs.Loading.{AreRunsBy}
use Rattle.office_rules.specs.State.{Office}
use Rattle.office_machine.proofs.parts.Parts.are_runs_by.Goals as goal

pub returns-clause-no : goal.returns-clause-no
returns-clause-no c reported by =
    let here = subst (λ (o : Office). AreRunsBy o.runs o.day) (sym c.self.view_is) by in
    let all = from_numbers (λ it. it.day ≤ℤ c.self.inside.day) c.deref.result.now (λ n it at. here n it (ap (λ runs. numbered runs n) (sym c.deref.ensures.value) ∙ at)) in
    absurd (cc (c.are_by.ensures.1 all, reported))
