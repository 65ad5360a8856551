use Rattle.std.proofs.Common.{ap, ◌∙◌}
use Rattle.std.specs.FinMap.{from_entries, insert}
use Rattle.office_records.specs.Tree.{code_cmp}
use Rattle.office_records.proofs.Inserting.{inserted}
use Rattle.office_holds.proofs.change_steps.add_in.Goals as goal

pub returns-clause-ok : goal.returns-clause-ok
returns-clause-ok c =
    inserted c.args.holds.now.entries c.insert.new.self.entries c.args.code c.new-hold.result c.in_ok-insert.ensures.updates.0
    ∙ ap (insert (from_entries {R = code_cmp} c.args.holds.now.entries) c.args.code) c.new-hold.ensures
