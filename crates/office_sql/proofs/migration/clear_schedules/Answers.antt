use Rattle.std.proofs.Common.{refl}
use Rattle.office_sql.proofs.Inside.{ran_inside}
use Rattle.office_sql.specs.SchemaVersions.{version_2}
use Rattle.office_sql.proofs.OfTwo.{has_schedules}
use Rattle.office_sql.proofs.RaiseLemmas.{clears}
use Rattle.office_sql.proofs.migration.clear_schedules.Goals as goal

pub returns-clause-cleared : goal.returns-clause-cleared
returns-clause-cleared g c =
    ran_inside _ _ _ (clears version_2 has_schedules _ _) (λ did. did.has) refl c.execute.result c.execute.ensures.ran c.execute.ensures.kept c.execute.ensures.survives
