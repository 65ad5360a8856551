use Rattle.std.proofs.Common.{refl}
use Rattle.office_sql.proofs.Inside.{ran_inside}
use Rattle.office_sql.proofs.MoveLemmas.{moves}
use Rattle.office_sql.proofs.migration.move_schedules.Goals as goal

pub returns-clause-moved : goal.returns-clause-moved
returns-clause-moved g c none rows =
    ran_inside _ _ _ (λ count has did. moves _ _ count has none rows did) (λ did. did.is_office.has) refl c.execute.result c.execute.ensures.ran c.execute.ensures.kept c.execute.ensures.survives
