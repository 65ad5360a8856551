use Rattle.office_sql.proofs.Columns.{columns}
use Rattle.office_sql.proofs.Inside.{ran_inside}
use Rattle.office_sql.proofs.RemoveLemmas.{removes_content}
use Rattle.office_sql.proofs.removals.remove_content.Goals as goal

pub returns-clause-removed : goal.returns-clause-removed
returns-clause-removed g c tables mine =
    ran_inside _ _ _ (removes_content _ tables mine _ _) (λ did. did.has) (search columns) c.execute.result c.execute.ensures.ran c.execute.ensures.kept c.execute.ensures.survives
