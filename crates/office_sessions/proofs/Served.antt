-- What is done for a request by its response: all its acts, or some first ones; and where a crash leaves the office then.
use Rattle.std.proofs.Common.{◌≡◌, ◌⊎◌, ◌∙◌, ◌+◌, inl, inr, ap, arith, refl, subst, sym, ℕ, suc, Bool, List, [], length, take, Option, Some, None, Result, Ok, Err}
use Rattle.std.specs.FinMap.{get}
use Rattle.sqlite.specs.Held.{state}
use Rattle.sqlite_trees.specs.Tree.{Trees}
use Rattle.sqlite_trees.specs.declared.store.Store.{Ghosts}
use Rattle.office_rules.specs.Acts.{after, answers}
use Rattle.office_rules.specs.Forms.{AreWellFormed}
use Rattle.office_rules.specs.Runs.{after_steps, candidates, open_run, whole as whole_run}
use Rattle.office_rules.specs.Sound.{IsSound}
use Rattle.office_rules.specs.State.{State}
use Rattle.office_rules.specs.declared.act.Act.{Act}
use Rattle.office_rules.specs.declared.answer.Answer.{Answer}
use Rattle.office_store.specs.RepresentsRows.{LeavesOffices}
use Rattle.office_store.specs.declared.fault.Fault.{Fault}
use Rattle.office_store.specs.declared.fault.Fault.TheVariants as fault
use Rattle.office_desk.specs.Contents.{IsContentRead}
use Rattle.office_desk.specs.Desk.{DeskState}
use Rattle.office_desk.specs.Fates.{LeavesStepFates}
use Rattle.office_desk.specs.Leaving.{IsAt, IsContentReported, LeavesRowsOf}
use Rattle.office_desk.specs.Outcomes.{ActsCameTo, ActsLead, ActsOutcome, all_done, stopped}
use Rattle.office_desk.specs.Resuming.{AreRunSteps, resumed_answer}
use Rattle.office_desk.specs.Resumptions.{RunCameTo, RunOutcome, none_open, run_closed, run_stopped}
use Rattle.office_desk.proofs.StepFates.{after_run, are_steps, run_steps}
use Rattle.office_json.specs.Lists.{NoActs, acts_in, bad_act, not_json}
use Rattle.office_http.specs.Receiving.{OfficeRequest, acts, cut, refused, requested, office_request}
use Rattle.office_http.specs.Replies.{Response, error_response}
use Rattle.office_http.specs.Requests.{Request, nothing, headless, asks}
use Rattle.office_http.specs.declared.path_request.PathRequest.TheVariants as path
use Rattle.office_http.specs.declared.request_error.RequestError.TheVariants as error
use Rattle.office_wire.specs.Answering.{Answers, AnyAnswer, IsUnavailable, PerformsActs, Reports, RunsOutOfMemory, acts_reply, content_reply, run_reply}
use Rattle.office_wire.specs.Replies.{acts_response, answer_response, content_response, fault_response, json_response, stopped_response}
use Rattle.office_wire.specs.Serving.{IsReplied, IsServed}
use Rattle.office_wire.specs.Sessions.{IsAnswer, acts_answer, after_resumed}
use Rattle.office_wire.proofs.Unavailable.{memory_unavailable}
use Rattle.office_life.specs.Tables.{AreTablesAt}
use Rattle.office_life.proofs.DeskWork.{StaySound}
use Rattle.office_sessions.specs.Requests.{AreAllActs, AreAllActsOf, AreFirst, AreReported, AreSomeActs, AreSomeActsOf, IsDetermined, IsFaultReport, acts_read, is_head_of}
use Rattle.office_sessions.proofs.Forms.{at_rows, at_tables, formed_first, formed_steps, sound_after, steps_first}

abbrev pub RunsEnd : Type 0
RunsEnd = (s : State) (run : ℕ) → open_run s.office ≡ Some run → after_steps s (suc (length (candidates s.office run))) ≡ whole_run s run

-- ---- responses of 503

fault_unavailable : (r : Response) (f : Fault) → r ≡ fault_response f → IsUnavailable r
unfolding json_response
fault_unavailable r f is = subst (λ (x : Response). IsUnavailable x) (sym is) refl

stopped_unavailable : (r : Response) (replies : List Answer) (f : Fault) → r ≡ stopped_response replies f → IsUnavailable r
unfolding json_response
stopped_unavailable r replies f is = subst (λ (x : Response). IsUnavailable x) (sym is) refl

pub no_memory : (r : Response) → r ≡ error_response error.Memory → IsUnavailable r
no_memory r is = subst (λ (x : Response). IsUnavailable x) (sym is) memory_unavailable

reported_is : (t : State) (n : ℕ) (content : Option (List ℕ)) → IsContentReported t n content → get t.contents n ≡ content
reported_is t n None is = is
reported_is t n (Some bytes) is = is.0

none_first : (all : List Act) → AreFirst all []
none_first all = (0, omega arith, refl)

module _ (stay : StaySound) (ends : RunsEnd) {S : Type 0} (g : Ghosts S) (t : State) (sound : IsSound t) (d : DeskState S) (r : Response) where
  -- whatever a crash leaves, it is at the state after some acts of this kind
  abbrev pub LeavesSome : (List Act → Type 0) → Type 0
  LeavesSome Are = (db : Trees) → (state g d.connection).may_leave db → (some : List Act) × Are some × AreWellFormed some × AreTablesAt db (after t some)

  -- all was done, and the response is determined
  abbrev pub AllDone : OfficeRequest → Type 0
  AllDone it = (all : List Act) × AreAllActs t it all × AreWellFormed all × IsAnswer t it r × IsAt g (after t all) d

  -- some was done, and the response is a 503
  abbrev pub SomeDone : OfficeRequest → Type 0
  SomeDone it = IsUnavailable r × LeavesSome (AreSomeActs t it r)

  -- ---- nothing was done

  kept : (Are : List Act → Type 0) → Are [] → IsAt g t d → LeavesSome Are
  kept Are none at db may = ([], none, tt, at_rows (state g d.connection) t sound at.rows db may)

  kept_rows : (Are : List Act → Type 0) → Are [] → LeavesRowsOf t (state g d.connection) → LeavesOffices (state g d.connection) → LeavesSome Are
  kept_rows Are none rows offices db may = ([], none, tt, at_tables t sound db (offices db may) (rows db may))

  none_by_memory : (it : OfficeRequest) → r ≡ error_response error.Memory → AreSomeActs t it r []
  none_by_memory (refused check) is = (inr is, refl)
  none_by_memory cut is = (inr is, refl)
  none_by_memory (acts body) is = inr (is, none_first (acts_read (acts_in body)))
  none_by_memory (requested path.Resume) is = (inr is, tt)
  none_by_memory (requested (path.Record n)) is = (inr is, refl)
  none_by_memory (requested (path.Content n)) is = (inr is, refl)
  none_by_memory (requested (path.Due day)) is = (inr is, refl)
  none_by_memory (requested (path.Overdue day n)) is = (inr is, refl)
  none_by_memory (requested (path.Certificate run)) is = (inr is, refl)

  kept_by_memory : (it : OfficeRequest) → r ≡ error_response error.Memory → IsAt g t d → SomeDone it
  kept_by_memory it is at = (no_memory r is, kept (AreSomeActs t it r) (none_by_memory it is) at)

  -- ---- acts of a body

  sound_at : (all : List Act) → AreWellFormed all → (n : ℕ) → IsSound (after t (take n all))
  sound_at all formed n = sound_after stay (take n all) t sound (formed_first n all formed)

  acts_stopped : (all : List Act) (replies : List Answer) (f : Fault) → r ≡ stopped_response replies f → ActsCameTo t all (stopped replies f) (state g d.connection) → LeavesSome (AreReported t all r)
  acts_stopped all replies fault.Memory is came db may =
      let n = length replies in
      (take n all, record { replies = replies; fault = fault.Memory; response = is; answered = came.answered; done_so = inl refl }, formed_first n all came.formed, at_rows (state g d.connection) _ (sound_at all came.formed n) came.leaves db may)
  acts_stopped all replies fault.Store is came db may =
      let n = length replies in
      elim (came.leaves.either db may) [
        | inl old ↦ (take n all, record { replies = replies; fault = fault.Store; response = is; answered = came.answered; done_so = inl refl }, formed_first n all came.formed, at_tables _ (sound_at all came.formed n) db (came.offices db may) old)
        | inr next ↦ (take (n + 1) all, record { replies = replies; fault = fault.Store; response = is; answered = came.answered; done_so = inr refl }, formed_first (n + 1) all came.formed, at_tables _ (sound_at all came.formed (n + 1)) db (came.offices db may) next)
      ]
  acts_stopped all replies fault.Reopen is came db may =
      let n = length replies in
      (take (n + 1) all, record { replies = replies; fault = fault.Reopen; response = is; answered = came.answered; done_so = inr refl }, formed_first (n + 1) all came.formed, at_rows (state g d.connection) _ (sound_at all came.formed (n + 1)) came.leaves db may)
  acts_stopped all replies fault.Damaged is came db may = absurd came.leaves
  acts_stopped all replies fault.Version is came db may = absurd came.leaves

  -- by what is read of the body
  abbrev AllPerformed : Result (List Act) NoActs → Type 0
  AllPerformed read = (all : List Act) × (all ≡ acts_read read) × AreWellFormed all × (r ≡ acts_answer t read) × IsAt g (after t all) d

  abbrev SomePerformed : Result (List Act) NoActs → Type 0
  SomePerformed read = IsUnavailable r × LeavesSome (AreReported t (acts_read read) r)

  came_to : (all : List Act) (o : ActsOutcome) → r ≡ acts_reply o → ActsLead t all o d → ActsCameTo t all o (state g d.connection) → AllPerformed (Ok all) ⊎ SomePerformed (Ok all)
  came_to all (all_done replies) is leads came =
      inl (all, refl, came.formed, is ∙ ap (λ (x : List Answer). acts_response x) came.answered, record { is_open = leads.1; office = leads.0; sound = came.leaves.sound; rows = came.leaves.rows })
  came_to all (stopped replies f) is leads came = inr (stopped_unavailable r replies f is, acts_stopped all replies f is came)

  performed : (read : Result (List Act) NoActs) → PerformsActs (λ reported. r ≡ reported) g t read d → AllPerformed read ⊎ SomePerformed read
  performed (Ok all) it = came_to all it.outcome it.reported it.leads it.came
  performed (Err not_json) it = inl ([], refl, tt, it.0, it.1)
  performed (Err (bad_act place why)) it = inl ([], refl, tt, it.0, it.1)

  acts_served : (body : List ℕ) → AllPerformed (acts_in body) ⊎ SomePerformed (acts_in body) → AllDone (acts body) ⊎ SomeDone (acts body)
  acts_served body (inl all) = inl all
  acts_served body (inr some) = inr (some.0, λ db may. let left = some.1 db may in (left.0, inl left.1, left.2, left.3))

  -- whatever was answered
  any_performed : (read : Result (List Act) NoActs) → PerformsActs AnyAnswer g t read d → LeavesSome (AreFirst (acts_read read))
  any_performed (Ok all) it = λ db may.
      let left = it.came.fates db may in
      (take left.0 all, (left.0, left.1.within, refl), formed_first left.0 all it.came.formed, at_tables _ (sound_at all it.came.formed left.0) db (it.came.offices db may) left.1.represents)
  any_performed (Err not_json) it = kept (AreFirst []) (none_first []) it.1
  any_performed (Err (bad_act place why)) it = kept (AreFirst []) (none_first []) it.1

  -- ---- a resumption

  steps_to_end : (o : Option ℕ) → open_run t.office ≡ o → (all : List Act) × AreRunSteps all × (after t all ≡ after_resumed t o)
  steps_to_end None is = ([], tt, refl)
  steps_to_end (Some run) is = let n = suc (length (candidates t.office run)) in (run_steps n, are_steps n, after_run n t ∙ ends t run is)

  run_ended : (r ≡ answer_response (resumed_answer (open_run t.office))) × IsAt g (after_resumed t (open_run t.office)) d → AllDone (requested path.Resume)
  run_ended (is, at) =
      let steps = steps_to_end (open_run t.office) refl in
      (steps.0, (steps.1, steps.2), formed_steps steps.0 steps.1, is, subst (λ (u : State). IsAt g u d) (sym steps.2) at)

  run_left : LeavesStepFates t (state g d.connection) → LeavesOffices (state g d.connection) → LeavesSome AreRunSteps
  run_left fates offices db may =
      let left = fates.2 db may in
      let steps = take left.0 fates.0 in
      let are = steps_first left.0 fates.0 fates.1 in
      (steps, are, formed_steps steps are, at_tables _ (sound_after stay steps t sound (formed_steps steps are)) db (offices db may) left.1.represents)

  run_some : IsFaultReport r → IsUnavailable r → LeavesStepFates t (state g d.connection) → LeavesOffices (state g d.connection) → SomeDone (requested path.Resume)
  run_some reports is fates offices = (is, λ db may. let left = run_left fates offices db may in (left.0, (reports, left.1), left.2, left.3))

  resumed : (o : RunOutcome) → r ≡ run_reply o → RunCameTo g t o d → AllDone (requested path.Resume) ⊎ SomeDone (requested path.Resume)
  resumed (run_closed run) is it =
      inl (run_ended (subst (λ (o : Option ℕ). (r ≡ answer_response (resumed_answer o)) × IsAt g (after_resumed t o) d) (sym it.fits) (is, it.leads)))
  resumed (none_open) is it =
      inl (run_ended (subst (λ (o : Option ℕ). (r ≡ answer_response (resumed_answer o)) × IsAt g (after_resumed t o) d) (sym it.fits) (is, it.leads)))
  resumed (run_stopped f) is it = inr (run_some (inl (f, is)) (fault_unavailable r f is) it.fates it.offices)

  -- ---- what is read

  by_fault : (it : OfficeRequest) (f : Fault) → r ≡ fault_response f → AreSomeActs t it r [] → IsAt g t d → SomeDone it
  by_fault it f is none at = (fault_unavailable r f is, kept (AreSomeActs t it r) none at)

  content_read : (n : ℕ) (found : Result (Option (List ℕ)) Fault) → r ≡ content_reply found → IsContentRead g t n found d → AllDone (requested (path.Content (Some n))) ⊎ SomeDone (requested (path.Content (Some n)))
  content_read n (Ok content) is it =
      inl ([], refl, tt, is ∙ ap (λ (x : Option (List ℕ)). content_response x) (sym (reported_is t n content it.ends.reported)), it.ends.represents)
  content_read n (Err f) is it = inr (fault_unavailable r f is, kept_rows (AreSomeActs t (requested (path.Content (Some n))) r) (inl (f, is), refl) it.leaves it.offices)

  -- ---- all of it

  answered : (it : OfficeRequest) → Answers g t it r d → AllDone it ⊎ SomeDone it
  answered (refused check) served = inl ([], refl, tt, served.0, served.1)
  answered cut served = inl ([], refl, tt, served.0, served.1)
  answered (acts body) served = acts_served body (performed (acts_in body) served)
  answered (requested path.Resume) (o, is, it) = resumed o is it
  answered (requested (path.Record None)) served = inl ([], refl, tt, served.0, served.1)
  answered (requested (path.Record (Some n))) (inl is, at) = inl ([], refl, tt, is, at)
  answered (requested (path.Record (Some n))) (inr (is, there), at) = inr (by_fault (requested (path.Record (Some n))) fault.Memory is (inl (fault.Memory, is), refl) at)
  answered (requested (path.Content None)) served = inl ([], refl, tt, served.0, served.1)
  answered (requested (path.Content (Some n))) served = content_read n served.0 served.1 served.2
  answered (requested (path.Due None)) served = inl ([], refl, tt, served.0, served.1)
  answered (requested (path.Due (Some day))) (inl is, at) = inl ([], refl, tt, is, at)
  answered (requested (path.Due (Some day))) (inr is, at) = inr (by_fault (requested (path.Due (Some day))) fault.Memory is (inl (fault.Memory, is), refl) at)
  answered (requested (path.Overdue None n)) served = inl ([], refl, tt, served.0, served.1)
  answered (requested (path.Overdue (Some day) None)) served = inl ([], refl, tt, served.0, served.1)
  answered (requested (path.Overdue (Some day) (Some n))) (inl is, at) = inl ([], refl, tt, is, at)
  answered (requested (path.Overdue (Some day) (Some n))) (inr is, at) = inr (by_fault (requested (path.Overdue (Some day) (Some n))) fault.Memory is (inl (fault.Memory, is), refl) at)
  answered (requested (path.Certificate None)) served = inl ([], refl, tt, served.0, served.1)
  answered (requested (path.Certificate (Some run))) (inl is, at) = inl ([], refl, tt, is, at)
  answered (requested (path.Certificate (Some run))) (inr (is, there), at) = inr (by_fault (requested (path.Certificate (Some run))) fault.Memory is (inl (fault.Memory, is), refl) at)

  -- memory ran out for the response
  out_of_memory : (it : OfficeRequest) → r ≡ error_response error.Memory → RunsOutOfMemory g t it d → SomeDone it
  out_of_memory (refused check) is out = absurd out
  out_of_memory cut is out = absurd out
  out_of_memory (acts body) is (inl at) = kept_by_memory (acts body) is at
  out_of_memory (acts body) is (inr served) = (no_memory r is, λ db may. let left = any_performed (acts_in body) served db may in (left.0, inr (is, left.1), left.2, left.3))
  out_of_memory (requested path.Resume) is (o, any, it) = run_some (inr is) (no_memory r is) it.fates it.offices
  out_of_memory (requested (path.Record n)) is out = kept_by_memory (requested (path.Record n)) is out.1
  out_of_memory (requested (path.Content None)) is out = absurd out
  out_of_memory (requested (path.Content (Some n))) is out = (no_memory r is, kept_rows (AreSomeActs t (requested (path.Content (Some n))) r) (inr is, refl) out.1.leaves out.1.offices)
  out_of_memory (requested (path.Due day)) is out = kept_by_memory (requested (path.Due day)) is out.1
  out_of_memory (requested (path.Overdue day n)) is out = kept_by_memory (requested (path.Overdue day n)) is out.2
  out_of_memory (requested (path.Certificate run)) is out = kept_by_memory (requested (path.Certificate run)) is out.1

  served : (it : OfficeRequest) → IsServed g t it r d → AllDone it ⊎ SomeDone it
  served it (inl answers_so) = answered it answers_so
  served it (inr (is, out)) = inr (out_of_memory it is out)

  -- ---- a request

  abbrev pub AllDoneOf : Request → Type 0
  AllDoneOf q = (all : List Act) × AreAllActsOf t q all × AreWellFormed all × IsDetermined t q r × IsAt g (after t all) d

  abbrev pub SomeDoneOf : Request → Type 0
  SomeDoneOf q = IsUnavailable r × LeavesSome (AreSomeActsOf t q r)

  pub replied : (q : Request) (is_head : Bool) → IsReplied g t q is_head r d → (is_head ≡ is_head_of q) × (AllDoneOf q ⊎ SomeDoneOf q)
  replied nothing is_head it = absurd it
  replied headless is_head it = (it.0, inl ([], refl, tt, it.1, it.2))
  replied (asks h rest) is_head (head, inl served_so) = (head, served (office_request h rest) served_so)
  replied (asks h rest) is_head (head, inr (lacks, at)) = (head, inr (kept_by_memory (office_request h rest) lacks.1 at))
