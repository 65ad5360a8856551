-- How serving goes on.
use Rattle.std.proofs.Common.{ℕ, ◌+◌, Bool, false, ◌||◌, Option, Result, refl}
use Rattle.std.specs.Prelude.{IfSome}
use native.Mathlib.Numerals.{unary_clauses}
use Rattle.sqlite_trees.specs.declared.store.Store.{Ghosts}
use Rattle.office_base.specs.declared.output.Io.{Io}
use Rattle.office_rules.specs.State.{State}
use Rattle.office_desk.specs.Desk.{DeskState}
use Rattle.office_wire.specs.Connections.{Ends, Turn, TurnBy, Turns, TurnsBy, has_failed}
use Rattle.office_wire.specs.Exchanges.{AreServed, IsNextServed}
use Rattle.office_wire.specs.Serving.{LeavesServed}
use Rattle.office_wire.specs.Sources.{Traffic}
use Rattle.office_wire.proofs.Exchanged.{some_more_served, some_none_served}

pub none_yet : {S : Type 0} (Leaves : State → DeskState S → Type 0) (g : Ghosts S) (desk : DeskState S) → TurnsBy Leaves g 0 false false desk desk
unfolding TurnsBy
none_yet Leaves g desk = (refl, refl, refl)

pub one_more :
    {S : Type 0} (Leaves : State → DeskState S → Type 0) (g : Ghosts S) (n : ℕ) (failed ended : Bool) (status : Result ℕ Io) (old m new : DeskState S)
    → TurnsBy Leaves g n failed false old m → TurnBy Leaves g status m new → Ends status new.is_poisoned ended
    → TurnsBy Leaves g (n + 1) (failed || has_failed status) ended old new
unfolding TurnsBy
one_more Leaves g n failed ended status old m new served turn ends = simp unary_clauses (m, failed, status, served, turn, ends, refl)

-- so many connections were served; of a source that reports their bytes it is known which
pub record IsServing {C S : Type 0} (g : Ghosts S) (traffic : C → Option Traffic) (n : ℕ) (failed : Bool) (first source : C) (old new : DeskState S) : Type 0 where
  pub turns : Turns g n failed false old new
  pub served : IfSome (traffic first) (λ before. AreServed g n failed before (traffic source) old new)

pub none_serving : {C S : Type 0} (g : Ghosts S) (traffic : C → Option Traffic) (source : C) (desk : DeskState S) → IsServing g traffic 0 false source source desk desk
none_serving g traffic source desk = record { turns = none_yet (LeavesServed g) g desk; served = some_none_served g desk (traffic source) }

pub next_serving :
    {C S : Type 0} (g : Ghosts S) (traffic : C → Option Traffic) (n : ℕ) (failed : Bool) (status : Result ℕ Io) (first before after : C) (old m new : DeskState S)
    → IsServing g traffic n failed first before old m → Turn g status m new → IfSome (traffic before) (λ it. IsNextServed g status it (traffic after) m new) → Ends status new.is_poisoned false
    → IsServing g traffic (n + 1) (failed || has_failed status) first after old new
next_serving g traffic n failed status first before after old m new serving turn next ends =
    record {
      turns = one_more (LeavesServed g) g n failed false status old m new serving.turns turn ends;
      served = some_more_served g old n failed (traffic first) (traffic before) (traffic after) status m new serving.served next;
    }
