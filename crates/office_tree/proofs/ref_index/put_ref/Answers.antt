use Rattle.std.proofs.Common.{◌∙◌, ap}
use Rattle.std.specs.FinMap.{from_entries, insert}
use Rattle.office_records.proofs.Inserting.{inserted}
use Rattle.office_records.specs.Tree.{code_cmp}
use Rattle.office_tree.proofs.ref_index.put_ref.Goals as goal

pub returns-clause-ok : goal.returns-clause-ok
returns-clause-ok c =
    inserted c.args.index.now.entries c.insert.new.self.entries c.in_ok-copy.field-0 c.args.number c.in_ok-insert.ensures.updates.0
    ∙ ap (λ k. insert (from_entries {R = code_cmp} c.args.index.now.entries) k c.args.number) c.in_ok-copy.ensures
