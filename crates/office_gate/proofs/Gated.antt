-- How serving the names that a proxy states goes on, and which settings are in force.
use Rattle.std.proofs.Common.{◌≡◌, inl, inr, ℕ, zero, suc, ◌+◌, Bool, true, false, ◌||◌, List, Option, Result, Ok, Err, refl, sym, ap, subst}
use Rattle.std.specs.Prelude.{IfErr, IfOk}
use native.Mathlib.Numerals.{unary_clauses}
use Rattle.sqlite_trees.specs.declared.store.Store.{Ghosts}
use Rattle.office_access.specs.Settings.{Settings}
use Rattle.office_base.specs.declared.output.Io.{Io}
use Rattle.office_base.specs.declared.stop.Stop.{Stop}
use Rattle.office_desk.specs.Desk.{DeskState}
use Rattle.office_gate.specs.Exchanges.{IsStatedNext, IsVisitServed, LeavesVisited}
use Rattle.office_gate.specs.InForce.{AreInForce, IsInForceSince}
use Rattle.office_gate.specs.Sessions.{GateTurn, GateTurns, LeavesGated}
use Rattle.office_gate.specs.declared.access.Access.{Access}
use Rattle.office_gate.specs.declared.access.AccessError.{AccessError}
use Rattle.office_gate.specs.declared.access.AccessError.TheVariants as error
use Rattle.office_gate.specs.declared.gate.Gate.{Gate}
use Rattle.office_wire.specs.Connections.{Ends, IsVisitedBy, TurnBy, TurnsBy, has_failed}
use Rattle.office_wire.specs.Serving.{ReportsUnavailable, Sends}
use Rattle.office_wire.specs.declared.exchange.OutgoingReply.{OutgoingReply}
use Rattle.office_wire.proofs.Calls.{called}
use Rattle.office_wire.proofs.Replied.{sent_unavailable}

-- ---- one request

module _ {W S : Type 0} (g : Ghosts S) (gate : Gate) (all : Option (List ℕ)) (contents : W → Option (List ℕ)) (writer after : W) (status : Result ℕ Io) (old new : DeskState S)
    (it : IsVisitServed g gate all contents writer after status old new) where
  sent_so : (s : Result ℕ Io) (sending : Option OutgoingReply) → ReportsUnavailable sending → Sends sending s (contents writer) (contents after) → IfOk s (λ code. code ≡ 503)
  sent_so (Ok code) sending reported second = sent_unavailable sending code (contents writer) (contents after) reported second.ok
  sent_so (Err e) sending reported second = tt

  unavailable : (next : Result (Option OutgoingReply) Io) → IfOk next (λ sending. ReportsUnavailable sending) → IfErr next (λ e. (status ≡ Err e) × (new ≡ old) × (after ≡ writer))
      → IfOk next (λ sending. Sends sending status (contents writer) (contents after)) → IfOk status (λ code. code ≡ 503)
  unavailable (Err e) reported unserved second = subst (λ (s : Result ℕ Io). IfOk s (λ code. code ≡ 503)) (sym unserved.0) tt
  unavailable (Ok sending) reported unserved second = sent_so status sending reported second

  closed_unavailable : (served closed : Result ℕ Io) → IfOk served (λ code. code ≡ 503) → IfOk closed (λ code. served ≡ Ok code) → IfOk closed (λ code. code ≡ 503)
  closed_unavailable served (Err e) is same = tt
  closed_unavailable (Err e) (Ok code) is same = absurd cc
  closed_unavailable (Ok found) (Ok code) is same = cc

  pub visited : (closed : Result ℕ Io) → IfOk closed (λ code. status ≡ Ok code) → IsVisitedBy (λ t d. LeavesVisited g t gate.policy d) g closed old new
  visited closed same =
      record {
        call = called g old new (λ t. IsStatedNext g t gate all it.next new) (λ t. LeavesVisited g t gate.policy new) it.first.call (λ t one. one.leaves);
        kept = it.first.kept;
        gone = λ was. tt;
        reported = λ still is. closed_unavailable status closed (unavailable it.next (it.first.reported still is) it.unserved it.second) same;
      }

-- ---- the settings in force

module _ {T : Type 0} where
  pub in_force_from : (result : Result Bool AccessError) (old new : Access T) → AreInForce result old new → IsInForceSince old.gate.policy new.gate.policy
  in_force_from (Ok true) old new is = inr (new.seen.items, is.0)
  in_force_from (Ok false) old new is = inl (ap (λ (gate : Gate). gate.policy) is.1)
  in_force_from (Err error.Io) old new is = inl (ap (λ (gate : Gate). gate.policy) is.1)
  in_force_from (Err error.Memory) old new is = inl (ap (λ (gate : Gate). gate.policy) is)
  in_force_from (Err (error.Wrong fault)) old new is = inl (ap (λ (gate : Gate). gate.policy) is.1)

later : (first was is : Settings) → IsInForceSince first was → IsInForceSince was is → IsInForceSince first is
later first was is since (inl same) = subst (IsInForceSince first) (sym same) since
later first was is since (inr text) = inr text

-- ---- connections one after another

module _ {S T : Type 0} (g : Ghosts S) (readings : T → Option (List (Result (List ℕ) Stop))) where
  pub none_gated : (access : Access T) (desk : DeskState S) → GateTurns g readings 0 false false access access desk desk
  unfolding GateTurns
  none_gated access desk = (refl, refl, refl, refl)

  pub one_more :
      (n : ℕ) (failed ended : Bool) (status : Result ℕ Io) (first was is : Access T) (old m new : DeskState S)
      → GateTurns g readings n failed false first was old m → GateTurn g readings status was is m new → Ends status new.is_poisoned ended
      → GateTurns g readings (n + 1) (failed || has_failed status) ended first is old new
  unfolding GateTurns
  one_more n failed ended status first was is old m new served turn ends = simp unary_clauses (m, was, failed, status, served, turn, ends, refl)

  -- the settings that were in force stay in force, or later ones are
  since_turn : (status : Result ℕ Io) (first : Settings) (was is : Access T) (m new : DeskState S) → IsInForceSince first was.gate.policy → GateTurn g readings status was is m new → IsInForceSince first is.gate.policy
  since_turn status first was is m new since (inl failed) = subst (λ (a : Access T). IsInForceSince first a.gate.policy) (sym failed.1) since
  since_turn status first was is m new since (inr turn) = later first was.gate.policy is.gate.policy since (in_force_from turn.0.0 was is turn.0.1.in_force)

  turn_gated : (status : Result ℕ Io) (first : Settings) (was is : Access T) (m new : DeskState S) → IsInForceSince first was.gate.policy → GateTurn g readings status was is m new → TurnBy (LeavesGated g first) g status m new
  turn_gated status first was is m new since (inl failed) = inl (failed.0, failed.2)
  turn_gated status first was is m new since (inr turn) =
      let now = since_turn status first was is m new since (inr turn) in
      inr (record {
        call = called g m new (λ t. LeavesVisited g t is.gate.policy new) (λ t. LeavesGated g first t new) turn.1.call (λ t left. (is.gate.policy, now, left));
        kept = turn.1.kept;
        gone = λ was. tt;
        reported = turn.1.reported;
      })

  pub turns_gated : (n : ℕ) (failed ended : Bool) (first is : Access T) (old new : DeskState S) → GateTurns g readings n failed ended first is old new
      → TurnsBy (LeavesGated g first.gate.policy) g n failed ended old new × IsInForceSince first.gate.policy is.gate.policy
  unfolding GateTurns TurnsBy
  turns_gated zero failed ended first is old new turns = ((turns.0, turns.1, turns.3), inl (ap (λ (a : Access T). a.gate.policy) turns.2))
  turns_gated (suc n) failed ended first is old new (m, was, earlier, status, turns, turn, ends, so) =
      let before = turns_gated n earlier false first was old m turns in
      ((m, earlier, status, before.0, turn_gated status first.gate.policy was is m new before.1 turn, ends, so), since_turn status first.gate.policy was is m new before.1 turn)
