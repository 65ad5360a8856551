-- Acts that came to an outcome, as it is answered.
use Rattle.std.proofs.Common.{◌≡◌, ◌∙◌, ap, subst, sym, List, [], Result}
use Rattle.office_rules.specs.declared.answer.Answer.{Answer}
use Rattle.office_store.specs.declared.fault.Fault.{Fault}
use Rattle.office_desk.specs.Outcomes.{acts_outcome}
use Rattle.office_http.specs.Replies.{Response}
use Rattle.office_wire.specs.Answering.{acts_reply}

-- the outcome of a call that found no answer there is answered by those that were seen
pub outcome_seen : (result : Result (Unit {0}) Fault) (prefix found seen : List Answer) (Reported : Response → Type 0) → prefix ≡ [] → seen ≡ found
    → Reported (acts_reply (acts_outcome result [] seen)) → Reported (acts_reply (acts_outcome result prefix found))
outcome_seen result prefix found seen Reported none same reported =
    subst (λ (r : Response). Reported r) (ap (λ (xs : List Answer). acts_reply (acts_outcome result [] xs)) same ∙ ap (λ (xs : List Answer). acts_reply (acts_outcome result xs found)) (sym none)) reported
