-- What is wanted is done for a visitor.
use Rattle.std.proofs.Common.{◌≡◌, inl, ℕ, List, Some, Result, Ok, sym, subst}
use Rattle.sqlite_trees.specs.declared.store.Store.{Ghosts}
use Rattle.office_base.specs.declared.memory.Memory.{Memory}
use Rattle.office_desk.specs.Desk.{DeskState}
use Rattle.office_gate.specs.Answering.{PerformsFor, PerformsUnlessDenied}
use Rattle.office_gate.specs.Exchanges.{IsAnsweredStated, IsGivenStated}
use Rattle.office_gate.specs.Performing.{lasting_denial_from}
use Rattle.office_gate.specs.Visitors.{Visitor}
use Rattle.office_http.specs.Receiving.{acts}
use Rattle.office_http.specs.declared.reply.Reply.{Reply}
use Rattle.office_json.specs.Lists.{NoActs, acts_in}
use Rattle.office_rules.specs.declared.act.Act.{Act}
use Rattle.office_wire.specs.Answering.{IsGiven, IsGivenUnavailable}
use Rattle.office_wire.specs.Calling.{AnsweredAt}
use Rattle.office_wire.proofs.Calls.{answered}

-- the acts that are read of a body are those that it asks for
pub list_done :
    {S : Type 0} (g : Ghosts S) (v : Visitor) (body : List ℕ) (all : List Act) (given : Result Reply Memory) (old new : DeskState S)
    → acts_in body ≡ Ok all
    → AnsweredAt g old new (λ t. PerformsUnlessDenied (IsGiven given) g v t all (lasting_denial_from v 0 all) new) (Unit {0}) (IsGivenUnavailable given)
    → IsAnsweredStated g (Some v) (acts body) given old new
list_done g v body all given old new is it =
    answered g old new (λ t. PerformsUnlessDenied (IsGiven given) g v t all (lasting_denial_from v 0 all) new)
    (λ t. IsGivenStated g t (Some v) (acts body) given new) (Unit {0}) (Unit {0}) (IsGivenUnavailable given) (IsGivenUnavailable given) it
    (λ t done. inl (subst (λ (read : Result (List Act) NoActs). PerformsFor (IsGiven given) g v t read new) (sym is) done)) (λ gone. tt)
    (λ reported. reported)
