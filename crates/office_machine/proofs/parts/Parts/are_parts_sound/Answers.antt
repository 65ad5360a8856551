use Rattle.std.proofs.Common.{length, subst, sym}
use Rattle.office_rules.specs.SoundHolds.{TargetsExist}
use Rattle.office_rules.specs.State.{Office}
use Rattle.office_machine.proofs.parts.Parts.are_parts_sound.Goals as goal

pub returns-then-not-do_targets_exist-clause-no : goal.returns-then-not-do_targets_exist-clause-no
returns-then-not-do_targets_exist-clause-no c = λ reported represent.
    c.do_targets_exist.ensures.no c.if-not-do_targets_exist.true
    (subst (λ (o : Office). TargetsExist o.holds o.tree.classes (length o.tree.aggregations) (length o.tree.records)) (sym c.self.view_is) represent.targets)
