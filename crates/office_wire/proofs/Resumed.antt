-- The answer of a resumption, as it is served.
use Rattle.std.proofs.Common.{◌≡◌, subst, ℕ, Option, Some, None, Ok}
use Rattle.office_rules.specs.declared.answer.Answer.{Answer}
use Rattle.office_desk.specs.Resuming.{resumed_answer}
use Rattle.office_desk.specs.Resumptions.{run_outcome}
use Rattle.office_http.specs.Replies.{Response}
use Rattle.office_wire.specs.Answering.{run_reply}
use Rattle.office_wire.specs.Replies.{answer_response}

-- what the desk answers is the answer to its outcome
pub run_seen : (answer : Answer) (was_open : Option ℕ) (Reported : Response → Type 0) → answer ≡ resumed_answer was_open → Reported (answer_response answer) → Reported (run_reply (run_outcome (Ok answer) was_open))
run_seen answer None Reported is reported = subst (λ (a : Answer). Reported (answer_response a)) is reported
run_seen answer (Some run) Reported is reported = subst (λ (a : Answer). Reported (answer_response a)) is reported
