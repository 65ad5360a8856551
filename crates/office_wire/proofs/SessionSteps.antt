-- A session is determined by what came, and goes on with each further request.
use Rattle.std.proofs.Common.{◌≡◌, ◌∙◌, ap, refl, subst, sym, ℕ, ℤ, List, [], ◌∷◌, ◌++◌, Option, Some, None}
use Rattle.office_http.specs.Receiving.{OfficeRequest, acts, cut, refused, requested, office_request}
use Rattle.office_http.specs.Replies.{Response, response_text}
use Rattle.office_http.specs.RequestPlans.{is_head_method}
use Rattle.office_http.specs.Requests.{Request, IsRequest, nothing, headless, asks}
use Rattle.office_http.specs.declared.path_request.PathRequest.TheVariants as path
use Rattle.office_http.proofs.OneRequest.{same_request}
use Rattle.office_rules.specs.Registers.{DueRowView}
use Rattle.office_rules.specs.State.{State}
use Rattle.office_wire.specs.Replies.{due_response, overdue_response}
use Rattle.office_wire.specs.Sessions.{AreAnsweredBy, AreRequests, IsAnswer, IsAnsweredBy, IsDueAnswer, IsOverdueAnswer, IsSession, after_request, after_requests}
use Rattle.office_wire.proofs.DueOnce.{same_due_rows, same_overdue_rows}

-- ---- one answer

same_due : (s : State) (day : Option ℤ) (r q : Response) → IsDueAnswer s day r → IsDueAnswer s day q → r ≡ q
same_due s None r q one other = one ∙ sym other
same_due s (Some day) r q (rows, are, is) (other_rows, are_too, too) = is ∙ ap (λ (x : List DueRowView). due_response x) (same_due_rows s.office day rows other_rows are are_too) ∙ sym too

same_overdue : (s : State) (day : Option ℤ) (n : Option ℕ) (r q : Response) → IsOverdueAnswer s day n r → IsOverdueAnswer s day n q → r ≡ q
same_overdue s None n r q one other = one ∙ sym other
same_overdue s (Some day) None r q one other = one ∙ sym other
same_overdue s (Some day) (Some n) r q (rows, are, is) (other_rows, are_too, too) =
    is ∙ ap (λ (x : List DueRowView). overdue_response n x) (same_overdue_rows s.office day n rows other_rows are are_too) ∙ sym too

same_answer : (s : State) (it : OfficeRequest) (r q : Response) → IsAnswer s it r → IsAnswer s it q → r ≡ q
same_answer s (refused check) r q one other = one ∙ sym other
same_answer s cut r q one other = one ∙ sym other
same_answer s (acts body) r q one other = one ∙ sym other
same_answer s (requested path.Resume) r q one other = one ∙ sym other
same_answer s (requested (path.Record number)) r q one other = one ∙ sym other
same_answer s (requested (path.Content number)) r q one other = one ∙ sym other
same_answer s (requested (path.Due day)) r q one other = same_due s day r q one other
same_answer s (requested (path.Overdue day n)) r q one other = same_overdue s day n r q one other
same_answer s (requested (path.Certificate run)) r q one other = one ∙ sym other

same_bytes : (s : State) (q : Request) (out other_out : List ℕ) → IsAnsweredBy s q out → IsAnsweredBy s q other_out → out ≡ other_out
same_bytes s nothing out other_out one other = one ∙ sym other
same_bytes s headless out other_out one other = one ∙ sym other
same_bytes s (asks h rest) out other_out (r, one, is) (p, other, too) =
    is ∙ ap (λ (x : Response). response_text (is_head_method h.method) x) (same_answer s (office_request h rest) r p one other) ∙ sym too

-- ---- one session

same_requests : (came : List (List ℕ)) (asked other_asked : List Request) → AreRequests asked came → AreRequests other_asked came → asked ≡ other_asked
same_requests [] [] [] one other = refl
same_requests [] [] (q ∷ rest) one other = absurd other
same_requests [] (q ∷ rest) other_asked one other = absurd one
same_requests (bytes ∷ more) [] other_asked one other = absurd one
same_requests (bytes ∷ more) (q ∷ rest) [] one other = absurd other
same_requests (bytes ∷ more) (q ∷ rest) (p ∷ others) one other =
    let first : q ≡ p = same_request bytes q p one.0 other.0 in
    let later : rest ≡ others = same_requests more rest others one.1 other.1 in
    cc

same_sent : (s : State) (asked : List Request) (sent other_sent : List (List ℕ)) → AreAnsweredBy s asked sent → AreAnsweredBy s asked other_sent → sent ≡ other_sent
same_sent s [] [] [] one other = refl
same_sent s [] [] (out ∷ more) one other = absurd other
same_sent s [] (out ∷ more) other_sent one other = absurd one
same_sent s (q ∷ rest) [] other_sent one other = absurd one
same_sent s (q ∷ rest) (out ∷ more) [] one other = absurd other
same_sent s (q ∷ rest) (out ∷ more) (other_out ∷ others) one other =
    let first : out ≡ other_out = same_bytes s q out other_out one.0 other.0 in
    let later : more ≡ others = same_sent (after_request s q) rest more others one.1 other.1 in
    cc

pub same_session : (s u v : State) (came sent other_sent : List (List ℕ)) → IsSession s came sent u → IsSession s came other_sent v → (sent ≡ other_sent) × (u ≡ v)
same_session s u v came sent other_sent one other =
    let asked = same_requests came one.requests other.requests one.are other.are in (
      same_sent s other.requests sent other_sent (subst (λ (x : List Request). AreAnsweredBy s x sent) asked one.answered) other.answered,
      one.leads ∙ ap (λ (x : List Request). after_requests s x) asked ∙ sym other.leads,
    )

-- ---- one request more

requests_more : (asked : List Request) (came : List (List ℕ)) (q : Request) (bytes : List ℕ) → AreRequests asked came → IsRequest q bytes → AreRequests (asked ++ q ∷ []) (came ++ bytes ∷ [])
requests_more [] [] q bytes are is = (is, tt)
requests_more [] (first ∷ more) q bytes are is = absurd are
requests_more (p ∷ rest) [] q bytes are is = absurd are
requests_more (p ∷ rest) (first ∷ more) q bytes are is = (are.0, requests_more rest more q bytes are.1 is)

answers_more : (s : State) (asked : List Request) (sent : List (List ℕ)) (q : Request) (out : List ℕ) → AreAnsweredBy s asked sent → IsAnsweredBy (after_requests s asked) q out → AreAnsweredBy s (asked ++ q ∷ []) (sent ++ out ∷ [])
answers_more s [] [] q out are is = (is, tt)
answers_more s [] (first ∷ more) q out are is = absurd are
answers_more s (p ∷ rest) [] q out are is = absurd are
answers_more s (p ∷ rest) (first ∷ more) q out are is = (are.0, answers_more (after_request s p) rest more q out are.1 is)

after_more : (s : State) (asked : List Request) (q : Request) → after_requests s (asked ++ q ∷ []) ≡ after_request (after_requests s asked) q
after_more s [] q = refl
after_more s (p ∷ rest) q = after_more (after_request s p) rest q

pub begun : (s : State) → IsSession s [] [] s
begun s = record { requests = []; are = tt; answered = tt; leads = refl }

pub went_on : (s t : State) (came sent : List (List ℕ)) (q : Request) (bytes out : List ℕ) → IsSession s came sent t → IsRequest q bytes → IsAnsweredBy t q out → IsSession s (came ++ bytes ∷ []) (sent ++ out ∷ []) (after_request t q)
went_on s t came sent q bytes out it is answered =
    record {
      requests = it.requests ++ q ∷ [];
      are = requests_more it.requests came q bytes it.are is;
      answered = answers_more s it.requests sent q out it.answered (subst (λ (x : State). IsAnsweredBy x q out) it.leads answered);
      leads = ap (λ (x : State). after_request x q) it.leads ∙ sym (after_more s it.requests q);
    }
