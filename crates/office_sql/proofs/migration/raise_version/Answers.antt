use Rattle.std.proofs.Common.{refl}
use Rattle.office_sql.proofs.Inside.{ran_inside}
use Rattle.office_sql.proofs.RaiseLemmas.{raises}
use Rattle.office_sql.proofs.migration.raise_version.Goals as goal

pub returns-clause-raised : goal.returns-clause-raised
returns-clause-raised g c day has =
    ran_inside _ _ _ (λ count tables did. raises day _ _ count tables has did) (λ did. did.is_office.has) refl c.execute.result c.execute.ensures.ran c.execute.ensures.kept c.execute.ensures.survives
