-- The desk that a service has, and that a disk which is clean after a service was so before, and reads are tested on.
use Rattle.std.proofs.Common.{inl, inr, ℕ, zero, suc, Bool, false, List, Option, Result, subst, sym}
use Rattle.sqlite.specs.Held.{Held, state}
use Rattle.sqlite.specs.State.{HasCleanDisk}
use Rattle.sqlite_trees.specs.declared.store.Store.{Ghosts}
use Rattle.office_base.specs.declared.output.Io.{Io}
use Rattle.office_rules.specs.State.{State}
use Rattle.office_desk.specs.Desk.{DeskState}
use Rattle.office_desk.specs.Opening.{Opens}
use Rattle.office_wire.specs.Connections.{TurnBy, TurnsBy}
use Rattle.office_commands.specs.Serving.{IsDeskOf, ServesAtBy}
use Rattle.office_commands.specs.declared.exit.Exit.{Exit}
use Rattle.office_commands.proofs.Desks.{desk_at, represent_some}

-- a desk that was opened over a connection is the one of it that a service has
pub desk_of : {S : Type 0} (g : Ghosts S) (conn : Held S) (desk : DeskState S) → Opens g conn desk → IsDeskOf g conn desk
desk_of g conn desk it = record { is_open = it.is_open; found = represent_some g conn desk it (state g desk.connection) (λ clean. clean); is_at = desk_at g conn desk it (state g desk.connection) (λ clean. clean) }

pub clean_turn : {S : Type 0} (Leaves : State → DeskState S → Type 0) (g : Ghosts S) (status : Result ℕ Io) (old new : DeskState S) → TurnBy Leaves g status old new → HasCleanDisk (state g new.connection) → HasCleanDisk (state g old.connection)
clean_turn Leaves g status old new (inl failed) clean = subst (λ (d : DeskState _). HasCleanDisk (state g d.connection)) failed.1 clean
clean_turn Leaves g status old new (inr visited) clean = visited.call.clean clean

pub clean_turns : {S : Type 0} (Leaves : State → DeskState S → Type 0) (g : Ghosts S) (n : ℕ) (failed ended : Bool) (old new : DeskState S) → TurnsBy Leaves g n failed ended old new → HasCleanDisk (state g new.connection) → HasCleanDisk (state g old.connection)
unfolding TurnsBy
clean_turns Leaves g zero failed ended old new turns clean = subst (λ (d : DeskState _). HasCleanDisk (state g d.connection)) turns.2 clean
clean_turns Leaves g (suc n) failed ended old new (m, earlier, status, turns, turn, ends, is) clean =
    clean_turns Leaves g n earlier false old m turns (clean_turn Leaves g status m new turn clean)

pub clean_served : {S : Type 0} (Leaves : State → DeskState S → Type 0) (g : Ghosts S) (port count : ℕ) (old new : DeskState S) (written after : Option (List ℕ)) (e : Exit) → ServesAtBy Leaves g port count old new written after e → HasCleanDisk (state g new.connection) → HasCleanDisk (state g old.connection)
clean_served Leaves g port count old new written after e (inl it) clean = subst (λ (d : DeskState _). HasCleanDisk (state g d.connection)) it.1 clean
clean_served Leaves g port count old new written after e (inr (n, failed, ended, reported, turns, few, all, is)) clean = clean_turns Leaves g n failed ended old new turns clean

pub shield_turn : {S : Type 0} (Leaves : State → DeskState S → Type 0) (g : Ghosts S) (status : Result ℕ Io) (old new : DeskState S) → TurnBy Leaves g status old new → (state g old.connection).IsShielded → (state g new.connection).IsShielded
shield_turn Leaves g status old new (inl failed) shielded = subst (λ (d : DeskState _). (state g d.connection).IsShielded) (sym failed.1) shielded
shield_turn Leaves g status old new (inr visited) shielded = visited.call.shield shielded

pub shield_turns : {S : Type 0} (Leaves : State → DeskState S → Type 0) (g : Ghosts S) (n : ℕ) (failed ended : Bool) (old new : DeskState S) → TurnsBy Leaves g n failed ended old new → (state g old.connection).IsShielded → (state g new.connection).IsShielded
unfolding TurnsBy
shield_turns Leaves g zero failed ended old new turns shielded = subst (λ (d : DeskState _). (state g d.connection).IsShielded) (sym turns.2) shielded
shield_turns Leaves g (suc n) failed ended old new (m, earlier, status, turns, turn, ends, is) shielded =
    shield_turn Leaves g status m new turn (shield_turns Leaves g n earlier false old m turns shielded)

pub shield_served : {S : Type 0} (Leaves : State → DeskState S → Type 0) (g : Ghosts S) (port count : ℕ) (old new : DeskState S) (written after : Option (List ℕ)) (e : Exit) → ServesAtBy Leaves g port count old new written after e → (state g old.connection).IsShielded → (state g new.connection).IsShielded
shield_served Leaves g port count old new written after e (inl it) shielded = subst (λ (d : DeskState _). (state g d.connection).IsShielded) (sym it.1) shielded
shield_served Leaves g port count old new written after e (inr (n, failed, ended, reported, turns, few, all, is)) shielded = shield_turns Leaves g n failed ended old new turns shielded
