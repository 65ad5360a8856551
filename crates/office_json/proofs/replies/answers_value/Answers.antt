use Rattle.office_json.proofs.Floatless.{answers_have_none}
use Rattle.office_json.proofs.replies.answers_value.Goals as goal

pub returns-clause-no_float : goal.returns-clause-no_float
returns-clause-no_float c = answers_have_none _ _ c.loop-answer.invariant
