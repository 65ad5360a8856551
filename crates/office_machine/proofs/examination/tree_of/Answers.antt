use Rattle.std.proofs.Common.{refl, sym, subst}
use Rattle.office_records.specs.Sound.{IsSound}
use Rattle.office_machine.specs.TreeRows.{AreTreeRows}
use Rattle.office_machine.proofs.FoundTree.{tree_has_rows, tree_of_rows_is}
use Rattle.office_machine.proofs.examination.tree_of.Goals as goal

pub returns-in-Ok-Some-clause-ok : goal.returns-in-Ok-Some-clause-ok
returns-in-Ok-Some-clause-ok c =
    let is = rw c.in-Ok-Some.field-0-is at c.in-Ok-Some.ensures in
    subst (AreTreeRows c.args.schedules.entries c.args.classes.entries _ _ c.args.events.entries) (sym is)
    (tree_has_rows c.args.schedules.entries c.args.classes.entries c.args.aggregations.items c.args.heads.items c.args.statuses.items c.args.events.entries c.ordered.ensures c.ordered-2.ensures c.ordered-3.ensures _ _ _ _ _ refl refl refl refl refl)

pub returns-in-Ok-None-clause-damaged : goal.returns-in-Ok-None-clause-damaged
returns-in-Ok-None-clause-damaged c _ tree sound rows =
    let unsound = rw c.in-Ok-None.field-0-is at c.in-Ok-None.ensures in
    unsound (subst IsSound (tree_of_rows_is c.args.schedules.entries c.args.classes.entries c.args.aggregations.items c.args.heads.items c.args.statuses.items c.args.events.entries
    c.ordered.ensures c.ordered-2.ensures c.ordered-3.ensures _ _ _ _ _ refl refl refl refl refl tree c.requires sound rows) sound)
