-- At which state a gate leaves an office: where it came by what was permitted alone.
use Rattle.std.proofs.Common.{◌≡◌, inl, inr, ℕ, zero, suc, ℤ, List, [], ◌∷◌, take, Option, Some, None, Result, Ok, Err, refl, subst, sym}
use Rattle.std.specs.Prelude.{IfSome}
use Rattle.sqlite_trees.specs.Tree.{Trees}
use Rattle.sqlite_trees.specs.declared.store.Store.{Ghosts}
use Rattle.office_access.specs.Deeds.{AllPermitted}
use Rattle.office_access.specs.Settings.{Settings}
use Rattle.office_access.specs.declared.denial.Denial.{Denial}
use Rattle.office_access.specs.declared.person.SignIn.{SignIn}
use Rattle.office_access.proofs.Exact.{resumes_exactly}
use Rattle.office_rules.specs.Acts.{step}
use Rattle.office_rules.specs.Sound.{IsSound}
use Rattle.office_rules.specs.State.{State}
use Rattle.office_rules.specs.declared.act.Act.{Act}
use Rattle.office_desk.specs.Desk.{DeskState}
use Rattle.office_desk.specs.Leaving.{IsAt}
use Rattle.office_json.specs.Lists.{NoActs, acts_in, bad_act, not_json}
use Rattle.office_http.specs.Receiving.{OfficeRequest, acts, cut, refused, requested}
use Rattle.office_http.specs.Replies.{Response}
use Rattle.office_http.specs.declared.path_request.PathRequest.TheVariants as path
use Rattle.office_wire.specs.Answering.{AnyAnswer}
use Rattle.office_guard.specs.Permitted.{deeds_of}
use Rattle.office_guard.proofs.Deeds.{all_deeds}
use Rattle.office_gate.specs.Answering.{PerformsFor, PerformsUnlessDenied, ServesUnlessDenied}
use Rattle.office_gate.specs.Exchanges.{LeavesVisited, ServesStated}
use Rattle.office_gate.specs.InForce.{IsInForceSince}
use Rattle.office_gate.specs.Lists.{ReportsDueFor, ReportsOverdueFor}
use Rattle.office_gate.specs.Paths.{request_denial}
use Rattle.office_gate.specs.Performing.{ArePerformedFor, lasting_denial_from, permitted_acts_of}
use Rattle.office_gate.specs.Sessions.{CameByRights, LeavesGated, carried_out, performed, stayed}
use Rattle.office_gate.specs.Visitors.{Visitor}
use Rattle.office_life.specs.Tables.{IsOfficeAt}
use Rattle.office_commands.specs.NextCommand.{IsGatedTo}
use Rattle.office_commands.proofs.NextService.{Leading, ServedAt, as_it_was, outcome_served, reading_served, run_served}
use Rattle.office_commands.proofs.NextStates.{IsEnded, StaySound, well_formed_prefix}

-- what was permitted after what was permitted
went_on : (InForce : Settings → Type 0) (s t u : State) → CameByRights InForce s t → CameByRights InForce t u → CameByRights InForce s u
went_on InForce s t _ first (stayed) = first
went_on InForce s t _ first (performed v settings today name done more in_force formed all) =
    performed v settings today name done (went_on InForce s t v first more) in_force formed all
went_on InForce s t _ first (carried_out v settings name steps more in_force may) =
    carried_out v settings name steps (went_on InForce s t v first more) in_force may

pub rights_lead : (InForce : Settings → Type 0) → Leading (CameByRights InForce)
rights_lead InForce = record { still = λ s. stayed; further = λ s t u first more. went_on InForce s t u first more }

-- the first of deeds that were permitted
permitted_first : (settings : Settings) (today : ℤ) (name : SignIn) (n : ℕ) (done : List Act) (s : State) → AllPermitted s (deeds_of settings today name done) → AllPermitted s (deeds_of settings today name (take n done))
permitted_first settings today name zero done s all = tt
permitted_first settings today name (suc n) [] s all = tt
permitted_first settings today name (suc n) (a ∷ done) s (is, all) = (is, permitted_first settings today name n done (step s a).1 all)

module _ (stay : StaySound) (ends : IsEnded) (At : Trees → State → Type 0) (office : (db : Trees) (u : State) → IsOfficeAt db u → At db u) {S : Type 0} (g : Ghosts S) (first : Settings) (t : State) (sound : IsSound t) (d : DeskState S) where
  abbrev Gated : Type 0
  Gated = ServedAt (IsGatedTo first) (rights_lead (IsInForceSince first)) stay ends At office g t d

  same : IsAt g t d → Gated
  same at = as_it_was (IsGatedTo first) (rights_lead (IsInForceSince first)) stay ends At office g t d at

  module _ (Reported : Response → Type 0) (v : Visitor) (in_force : IsInForceSince first v.settings) where
    acts_performed : (asked : List Act) → ArePerformedFor Reported g v t asked d → Gated
    acts_performed asked it =
        let done = permitted_acts_of v t asked in
        let all = all_deeds v.settings v.today v.name t asked in
        outcome_served (IsGatedTo first) (rights_lead (IsInForceSince first)) stay ends At office g t sound d done
        (λ n formed. performed t v.settings v.today v.name (take n done) stayed in_force (well_formed_prefix n done formed) (permitted_first v.settings v.today v.name n done t all))
        (λ formed. performed t v.settings v.today v.name done stayed in_force formed all) it.outcome it.leads it.came

    acts_unless_denied : (asked : List Act) (denial : Option (ℕ × Denial)) → PerformsUnlessDenied Reported g v t asked denial d → Gated
    acts_unless_denied asked None it = acts_performed asked it
    acts_unless_denied asked (Some (place, why)) it = same it.1

    acts_left : (asked : Result (List Act) NoActs) → PerformsFor Reported g v t asked d → Gated
    acts_left (Ok asked) it = acts_unless_denied asked (lasting_denial_from v 0 asked) it
    acts_left (Err not_json) it = same it.1
    acts_left (Err (bad_act place why)) it = same it.1

    due_left : (day : Option ℤ) → ReportsDueFor Reported g v t day d → Gated
    due_left None it = same it.1
    due_left (Some day) it = same it.1

    overdue_left : (day : Option ℤ) (count : Option ℕ) → ReportsOverdueFor Reported g v t day count d → Gated
    overdue_left None count it = same it.1
    overdue_left (Some day) None it = same it.1
    overdue_left (Some day) (Some n) it = same it.1

    request_left : (request : OfficeRequest) (denial : Option Denial) → request_denial v t.office request ≡ denial → ServesUnlessDenied Reported g v t request denial d → Gated
    request_left request (Some why) is it = same it.1
    request_left (acts body) None is it = acts_left (acts_in body) it
    request_left (requested path.Resume) None is it =
        run_served (IsGatedTo first) (rights_lead (IsInForceSince first)) stay ends At office g t sound d Reported
        (λ n. carried_out t v.settings v.name n stayed in_force ((resumes_exactly v.settings t.office v.name).0 is)) it
    request_left (requested (path.Due day)) None is it = due_left day it
    request_left (requested (path.Overdue day n)) None is it = overdue_left day n it
    request_left (refused check) None is it =
        reading_served (IsGatedTo first) (rights_lead (IsInForceSince first)) stay ends At office g t sound d Reported (refused check) tt it
    request_left cut None is it =
        reading_served (IsGatedTo first) (rights_lead (IsInForceSince first)) stay ends At office g t sound d Reported cut tt it
    request_left (requested (path.Record r)) None is it =
        reading_served (IsGatedTo first) (rights_lead (IsInForceSince first)) stay ends At office g t sound d Reported (requested (path.Record r)) tt it
    request_left (requested (path.Content r)) None is it =
        reading_served (IsGatedTo first) (rights_lead (IsInForceSince first)) stay ends At office g t sound d Reported (requested (path.Content r)) tt it
    request_left (requested (path.Certificate run)) None is it =
        reading_served (IsGatedTo first) (rights_lead (IsInForceSince first)) stay ends At office g t sound d Reported (requested (path.Certificate run)) tt it

  stated_left : (Reported : Response → Type 0) (v : Option Visitor) (request : OfficeRequest) → IfSome v (λ it. IsInForceSince first it.settings) → ServesStated Reported g t v request d → Gated
  stated_left Reported None request in_force it = same it.1
  stated_left Reported (Some v) request in_force it = request_left Reported v in_force request (request_denial v t.office request) refl it

  in_force_as : (settings : Settings) (v : Option Visitor) → IsInForceSince first settings → IfSome v (λ it. it.settings ≡ settings) → IfSome v (λ it. IsInForceSince first it.settings)
  in_force_as settings None in_force is = tt
  in_force_as settings (Some v) in_force is = subst (IsInForceSince first) (sym is) in_force

  visited_left : (settings : Settings) → IsInForceSince first settings → LeavesVisited g t settings d → Gated
  visited_left settings in_force (inl at) = same at
  visited_left settings in_force (inr (v, of, request, r, inl served)) =
      stated_left (λ reported. r ≡ reported) v request (in_force_as settings v in_force of) served
  visited_left settings in_force (inr (v, of, request, r, inr (is, inl served))) =
      stated_left AnyAnswer v request (in_force_as settings v in_force of) served
  visited_left settings in_force (inr (v, of, request, r, inr (is, inr at))) = same at

  pub gated_left : LeavesGated g first t d → Gated
  gated_left (settings, in_force, left) = visited_left settings in_force left
