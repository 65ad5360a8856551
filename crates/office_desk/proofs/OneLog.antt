-- Acts that are done in two lists.
use Rattle.std.proofs.Common.{◌≡◌, List, [], ◌∷◌, ◌++◌, refl, ap}
use Rattle.office_rules.specs.Acts.{after, answers, step}
use Rattle.office_rules.specs.State.{State}
use Rattle.office_rules.specs.declared.act.Act.{Act}

pub answers_joined : (s : State) (first rest : List Act) → answers s (first ++ rest) ≡ answers s first ++ answers (after s first) rest
answers_joined s [] rest = refl
answers_joined s (a ∷ first) rest = ap (λ given. (step s a).0 ∷ given) (answers_joined (step s a).1 first rest)
