-- Calls at a desk, one after another.
use Rattle.std.proofs.Common.{◌≡◌, Bool, false, IsTrue, refl}
use Rattle.sqlite_trees.specs.declared.store.Store.{Ghosts}
use Rattle.office_rules.specs.State.{State}
use Rattle.office_desk.specs.Desk.{DeskState}
use Rattle.office_desk.specs.Leaving.{IsAt}
use Rattle.office_wire.specs.Calling.{AnsweredAt, CalledAt}

-- what follows from what was done is done
pub called : {S : Type 0} (g : Ghosts S) (old new : DeskState S) (P Q : State → Type 0) → CalledAt g old new P → ((t : State) → P t → Q t) → CalledAt g old new Q
called g old new P Q it to = record { clean = it.clean; shield = it.shield; did = λ t clean at. to t (it.did t clean at) }

pub answered : {S : Type 0} (g : Ghosts S) (old new : DeskState S) (P Q : State → Type 0) (IfPoisoned IfPoisonedThen OnPoisoning OnPoisoningThen : Type 0)
    → AnsweredAt g old new P IfPoisoned OnPoisoning → ((t : State) → P t → Q t) → (IfPoisoned → IfPoisonedThen) → (OnPoisoning → OnPoisoningThen) → AnsweredAt g old new Q IfPoisonedThen OnPoisoningThen
answered g old new P Q IfPoisoned IfPoisonedThen OnPoisoning OnPoisoningThen it to away said =
    record {
      call = called g old new P Q it.call to;
      kept = it.kept;
      gone = λ was. away (it.gone was);
      reported = λ still is. said (it.reported still is);
    }

-- one call after another: what the first did says from which state the second began
pub called_on : {S : Type 0} (g : Ghosts S) (old mid new : DeskState S) (P Q R : State → Type 0) → CalledAt g old mid P → CalledAt g mid new Q
    → ((s : State) → P s → (t : State) × IsAt g t mid × (Q t → R s)) → CalledAt g old new R
called_on g old mid new P Q R first second on =
    record {
      clean = λ clean. first.clean (second.clean clean);
      shield = λ shielded. second.shield (first.shield shielded);
      did = λ s clean at. let next = on s (first.did s (second.clean clean) at) in next.2 (second.did next.0 clean next.1);
    }

-- nothing was done
pub not_called : {S : Type 0} (g : Ghosts S) (desk : DeskState S) (P : State → Type 0) → ((t : State) → IsAt g t desk → P t) → CalledAt g desk desk P
not_called g desk P none = record { clean = λ clean. clean; shield = λ shielded. shielded; did = λ t clean at. none t at }

-- and a desk that is open stays so
still_open : {OnPoisoning : Type 0} (b : Bool) → b ≡ false → IsTrue b → OnPoisoning
still_open b still gone = absurd (let wrong = gone in cc)

pub not_answered : {S : Type 0} (g : Ghosts S) (desk : DeskState S) (P : State → Type 0) (IfPoisoned OnPoisoning : Type 0) → ((t : State) → IsAt g t desk → P t) → IfPoisoned → AnsweredAt g desk desk P IfPoisoned OnPoisoning
not_answered g desk P IfPoisoned OnPoisoning none gone =
    record {
      call = not_called g desk P none;
      kept = λ was. refl;
      gone = λ was. gone;
      reported = λ still was. still_open desk.is_poisoned still was;
    }
