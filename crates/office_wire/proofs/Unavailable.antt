-- Answers that report a fault.
use Rattle.std.proofs.Common.{◌≡◌, refl, subst, sym, List, Result, Ok, Err}
use Rattle.std.specs.Prelude.{IfOk}
use Rattle.office_http.specs.Replies.{Response, error_response}
use Rattle.office_http.specs.declared.request_error.RequestError.TheVariants as error
use Rattle.office_rules.specs.declared.answer.Answer.{Answer}
use Rattle.office_store.specs.declared.fault.Fault.{Fault}
use Rattle.office_wire.specs.Answering.{IsUnavailable}
use Rattle.office_wire.specs.Replies.{fault_response, json_response, stopped_response}

unavailable : {A E : Type 0} (to : A → Response) (r : Result A E) (w : Response) → IsUnavailable w → IfOk r (λ (a : A). to a ≡ w) → IfOk r (λ (a : A). IsUnavailable (to a))
unavailable to (Ok a) w is same = subst (λ (x : Response). IsUnavailable x) (sym same) is
unavailable to (Err e) w is same = tt

pub fault_unavailable : {A E : Type 0} (to : A → Response) (r : Result A E) (f : Fault) → IfOk r (λ (a : A). to a ≡ fault_response f) → IfOk r (λ (a : A). IsUnavailable (to a))
unfolding json_response
fault_unavailable to r f same = unavailable to r (fault_response f) refl same

pub stopped_unavailable : {A E : Type 0} (to : A → Response) (r : Result A E) (answers : List Answer) (f : Fault)
    → IfOk r (λ (a : A). to a ≡ stopped_response answers f) → IfOk r (λ (a : A). IsUnavailable (to a))
unfolding json_response
stopped_unavailable to r answers f same = unavailable to r (stopped_response answers f) refl same

pub memory_unavailable : IsUnavailable (error_response error.Memory)
unfolding error_response
memory_unavailable = refl
