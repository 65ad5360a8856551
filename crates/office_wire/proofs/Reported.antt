-- How what was done is answered.
use Rattle.std.proofs.Common.{◌≡◌, inr, subst, sym, ℕ, List, Result, Ok, Err}
use Rattle.sqlite_trees.specs.declared.store.Store.{Ghosts}
use Rattle.office_rules.specs.State.{State}
use Rattle.office_rules.specs.declared.act.Act.{Act}
use Rattle.office_base.specs.declared.memory.Memory.{Memory}
use Rattle.office_desk.specs.Desk.{DeskState}
use Rattle.office_json.specs.Lists.{NoActs, acts_in}
use Rattle.office_http.specs.Replies.{Response, error_response}
use Rattle.office_http.specs.declared.request_error.RequestError.TheVariants as error
use Rattle.office_http.specs.declared.reply.Reply.{Reply}
use Rattle.office_wire.specs.Answering.{AnyAnswer, ArePerformed, ArePerformedBy, IsAnswered, IsGiven, IsGivenAt, IsGivenUnavailable, IsGoneGiven, IsPerformed, IsUnavailable, PerformsActs, RunsOutOfMemory, Serves, TakesMemory, gone_acts, gone_response}
use Rattle.office_http.specs.Receiving.{OfficeRequest, acts, requested}
use Rattle.office_http.specs.declared.path_request.PathRequest.TheVariants as path
use Rattle.office_wire.specs.Serving.{HasReply}
use Rattle.office_wire.proofs.Calls.{answered}
use Rattle.office_wire.proofs.Unavailable.{memory_unavailable}

-- what is served with the answer that was given, or with any where memory ran out for it
given : {S : Type 0} (g : Ghosts S) (t : State) (request : OfficeRequest) (reply : Result Reply Memory) (desk : DeskState S) → Serves (IsGiven reply) g t request desk
    → (Serves AnyAnswer g t request desk → RunsOutOfMemory g t request desk) → IsGivenAt g t request reply desk
given g t request (Ok it) desk served out = served
given g t request (Err e) desk served out = out served

-- and from a poisoned desk
pub gone_given : (request : OfficeRequest) (reply : Result Reply Memory) → TakesMemory request → IsGiven reply (gone_response request) → IsGoneGiven request reply
gone_given request (Ok it) takes is = is
gone_given request (Err e) takes is = takes

performed : {S : Type 0} (g : Ghosts S) (request : OfficeRequest) (reply : Result Reply Memory) (old new : DeskState S) → TakesMemory request
    → ((t : State) → Serves AnyAnswer g t request new → RunsOutOfMemory g t request new) → IsPerformed g request reply old new → IsAnswered g request reply old new
performed g request reply old new takes out it =
    answered g old new (λ t. Serves (IsGiven reply) g t request new) (λ t. IsGivenAt g t request reply new)
    (IsGiven reply (gone_response request)) (IsGoneGiven request reply) (IsGivenUnavailable reply) (IsGivenUnavailable reply) it
    (λ t served. given g t request reply new served (out t)) (λ gone. gone_given request reply takes gone) (λ reported. reported)

-- the open run
pub run_performed : {S : Type 0} (g : Ghosts S) (reply : Result Reply Memory) (old new : DeskState S) → IsPerformed g (requested path.Resume) reply old new → IsAnswered g (requested path.Resume) reply old new
run_performed g reply old new it = performed g (requested path.Resume) reply old new tt (λ t served. served) it

-- the acts of a body
pub body_performed : {S : Type 0} (g : Ghosts S) (body : List ℕ) (seen done : List Act) (reply : Result Reply Memory) (old new : DeskState S) → seen ≡ done → acts_in body ≡ Ok done
    → ArePerformedBy g seen reply old new → IsAnswered g (acts body) reply old new
body_performed g body seen done reply old new same read it =
    performed g (acts body) reply old new tt (λ t served. inr served)
    (answered g old new (λ t. ArePerformed (IsGiven reply) g t seen new) (λ t. Serves (IsGiven reply) g t (acts body) new) _ (IsGiven reply (gone_response (acts body))) (IsGivenUnavailable reply) (IsGivenUnavailable reply) it
    (λ t is. subst (λ (x : Result (List Act) NoActs). PerformsActs (IsGiven reply) g t x new) (sym read) (subst (λ (x : List Act). ArePerformed (IsGiven reply) g t x new) same is))
    (λ gone. subst (λ (x : Result (List Act) NoActs). IsGiven reply (gone_acts x)) (sym read) gone) (λ reported. reported))

-- memory ran out for the answer, and that is reported
pub out_of_memory : {S : Type 0} (g : Ghosts S) (request : OfficeRequest) (e : Memory) (r : Response) (old new : DeskState S) → r ≡ error_response error.Memory → IsAnswered g request (Err e) old new → HasReply g request r old new
out_of_memory g request e r old new is it =
    answered g old new (λ t. RunsOutOfMemory g t request new) _ _ _ _ (IsUnavailable r) it
    (λ t runs_out_of_memory. inr (is, runs_out_of_memory)) (λ takes. inr (is, takes)) (λ reported. subst (λ (x : Response). IsUnavailable x) (sym is) memory_unavailable)
