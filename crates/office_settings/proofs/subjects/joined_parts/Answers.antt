use Rattle.office_settings.proofs.Joined.{joined_at}
use Rattle.office_settings.proofs.subjects.joined_parts.Goals as goal

pub returns : goal.returns
returns c = simp (joined_at (λ w. w.now) c.args.first.now c.args.rest.now) c.joined_from.ensures
