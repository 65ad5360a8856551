-- What is answered to a visitor's request, and where the desk is then. Source: own.
use Rattle.std.specs.Prelude.{◌⊎◌, ℕ, List, [], Option, Some, None, Result, Ok, Err}
use Rattle.sqlite_trees.specs.declared.store.Store.{Ghosts}
use Rattle.office_access.specs.declared.denial.Denial.{Denial}
use Rattle.office_base.specs.declared.memory.Memory.{Memory}
use Rattle.office_desk.specs.Desk.{DeskState}
use Rattle.office_desk.specs.Leaving.{IsAt}
use Rattle.office_gate.specs.Performing.{ArePerformedFor, lasting_denial_from}
use Rattle.office_gate.specs.Lists.{ReportsDueFor, ReportsOverdueFor}
use Rattle.office_gate.specs.Paths.{request_denial}
use Rattle.office_gate.specs.Replies.{denial_response, denied_response}
use Rattle.office_gate.specs.Visitors.{Visitor}
use Rattle.office_http.specs.Receiving.{OfficeRequest, acts, cut, refused, requested}
use Rattle.office_http.specs.Replies.{Response, error_response}
use Rattle.office_http.specs.declared.path_request.PathRequest.TheVariants as path
use Rattle.office_http.specs.declared.reply.Reply.{Reply}
use Rattle.office_http.specs.declared.request_error.RequestError.TheVariants as error
use Rattle.office_json.specs.Lists.{NoActs, acts_in, bad_act, not_json}
use Rattle.office_rules.specs.State.{State}
use Rattle.office_rules.specs.declared.act.Act.{Act}
use Rattle.office_wire.specs.Answering.{IsGiven, IsGivenUnavailable, Serves}
use Rattle.office_wire.specs.Calling.{AnsweredAt}
use Rattle.office_wire.specs.Replies.{bad_act_response}

-- a denial is answered, and nothing is done
abbrev pub Denies : {S : Type 0} → (Response → Type 0) → Ghosts S → State → Response → DeskState S → Type 0
Denies Reported g t response desk = Reported response × IsAt g t desk

-- if no act of a list is denied in whatever office, the acts are performed as far as each is permitted
abbrev pub PerformsUnlessDenied : {S : Type 0} → (Response → Type 0) → Ghosts S → Visitor → State → List Act
    → Option (ℕ × Denial) → DeskState S → Type 0
PerformsUnlessDenied Reported g v t all None desk = ArePerformedFor Reported g v t all desk
PerformsUnlessDenied Reported g v t all (Some (place, d)) desk =
    Denies Reported g t (denied_response d place []) desk

-- what bytes ask for, by what is read of them
abbrev pub PerformsFor : {S : Type 0} → (Response → Type 0) → Ghosts S → Visitor → State → Result (List Act) NoActs
    → DeskState S → Type 0
PerformsFor Reported g v t (Ok all) desk = PerformsUnlessDenied Reported g v t all (lasting_denial_from v 0 all) desk
PerformsFor Reported g v t (Err not_json) desk = Denies Reported g t (error_response error.Json) desk
PerformsFor Reported g v t (Err (bad_act place why)) desk = Denies Reported g t (bad_act_response place why) desk

-- what is requested, if it is not denied: the acts of a body as far as they are permitted, the rows of a list that the
-- visitor may read, or what else is asked for
abbrev pub PerformsOrServes : {S : Type 0} → (Response → Type 0) → Ghosts S → Visitor → State → OfficeRequest
    → DeskState S → Type 0
PerformsOrServes Reported g v t (acts body) desk = PerformsFor Reported g v t (acts_in body) desk
PerformsOrServes Reported g v t (refused check) desk = Serves Reported g t (refused check) desk
PerformsOrServes Reported g v t cut desk = Serves Reported g t cut desk
PerformsOrServes Reported g v t (requested path.Resume) desk = Serves Reported g t (requested path.Resume) desk
PerformsOrServes Reported g v t (requested (path.Record r)) desk =
    Serves Reported g t (requested (path.Record r)) desk
PerformsOrServes Reported g v t (requested (path.Content r)) desk =
    Serves Reported g t (requested (path.Content r)) desk
PerformsOrServes Reported g v t (requested (path.Due day)) desk = ReportsDueFor Reported g v t day desk
PerformsOrServes Reported g v t (requested (path.Overdue day count)) desk =
    ReportsOverdueFor Reported g v t day count desk
PerformsOrServes Reported g v t (requested (path.Certificate run)) desk =
    Serves Reported g t (requested (path.Certificate run)) desk

abbrev pub ServesUnlessDenied : {S : Type 0} → (Response → Type 0) → Ghosts S → Visitor → State → OfficeRequest
    → Option Denial → DeskState S → Type 0
ServesUnlessDenied Reported g v t request None desk = PerformsOrServes Reported g v t request desk
ServesUnlessDenied Reported g v t request (Some d) desk = Denies Reported g t (denial_response d) desk

-- what a visitor requests in a state is answered as far as it is permitted, and the desk is where that leaves it
abbrev pub ServesFor : {S : Type 0} → (Response → Type 0) → Ghosts S → Visitor → State → OfficeRequest → DeskState S
    → Type 0
ServesFor Reported g v t request desk =
    ServesUnlessDenied Reported g v t request (request_denial v t.office request) desk

-- ---- calls at a desk

-- memory ran out, and nothing was done
abbrev pub IsRefusedMemory : {S : Type 0} → Ghosts S → State → Result Reply Memory → DeskState S → Type 0
IsRefusedMemory g t (Ok reply) desk = ⊥
IsRefusedMemory g t (Err e) desk = IsAt g t desk

-- at a state it was served with the answer that was given, or with any answer if memory ran out for that; or memory ran
-- out before anything was done
abbrev pub IsGivenFor : {S : Type 0} → Ghosts S → Visitor → State → OfficeRequest → Result Reply Memory → DeskState S
    → Type 0
IsGivenFor g v t request given desk = ServesFor (IsGiven given) g v t request desk ⊎ IsRefusedMemory g t given desk

-- the same of what is not denied
abbrev pub IsGivenPermitted : {S : Type 0} → Ghosts S → Visitor → State → OfficeRequest → Result Reply Memory
    → DeskState S → Type 0
IsGivenPermitted g v t request given desk =
    PerformsOrServes (IsGiven given) g v t request desk ⊎ IsRefusedMemory g t given desk

-- what a visitor requests was answered; a desk that is poisoned stays as it is, and if it is poisoned here, that is
-- reported
abbrev pub IsAnsweredFor : {S : Type 0} → Ghosts S → Visitor → OfficeRequest → Result Reply Memory → DeskState S
    → DeskState S → Type 0
IsAnsweredFor g v request given old new =
    AnsweredAt g old new (λ t. IsGivenFor g v t request given new) (Unit {0}) (IsGivenUnavailable given)

abbrev pub IsAnsweredPermitted : {S : Type 0} → Ghosts S → Visitor → OfficeRequest → Result Reply Memory → DeskState S
    → DeskState S → Type 0
IsAnsweredPermitted g v request given old new =
    AnsweredAt g old new (λ t. IsGivenPermitted g v t request given new) (Unit {0}) (IsGivenUnavailable given)

-- what is requested was read of a desk, which stays as it is, and answered
abbrev pub IsReadFor : {S : Type 0} → Ghosts S → Visitor → OfficeRequest → Result Reply Memory → DeskState S → Type 0
IsReadFor g v request given desk = (t : State) → IsAt g t desk → IsGivenPermitted g v t request given desk
