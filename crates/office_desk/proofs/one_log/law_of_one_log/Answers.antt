use Rattle.std.proofs.Common.{◌∙◌, List, sym}
use Rattle.sqlite_trees.specs.declared.store.Store.{Ghosts}
use Rattle.office_rules.specs.Acts.{after}
use Rattle.office_rules.specs.State.{State}
use Rattle.office_rules.specs.declared.act.Act.{Act}
use Rattle.office_rules.specs.declared.answer.Answer.{Answer}
use Rattle.office_desk.specs.Desk.{DeskState}
use Rattle.office_desk.specs.Leaving.{IsAt}
use Rattle.office_desk.specs.OneLog.{DidAll}
use Rattle.office_desk.proofs.Found.{after-append}
use Rattle.office_desk.proofs.OneLog.{answers_joined}
use Rattle.office_desk.proofs.one_log.law_of_one_log.Goals as goal

-- where the acts led
led : {S : Type 0} (g : Ghosts S) (s : State) (acts : List Act) (given found : List Answer) (old new : DeskState S) → DidAll g s acts given found old new → IsAt g (after s acts) new
led g s acts given found old new it = record { is_open = it.answered.leads.1; office = it.answered.leads.0; sound = it.came.leaves.sound; rows = it.came.leaves.rows }

pub returns : goal.returns
returns g c = record {
  joined = λ s first rest. (after-append s first rest, answers_joined s first rest);
  alike = λ s acts given found other_found old one other_old other it that. (
    it.answered.added ∙ sym that.answered.added,
    led g.S.Store s acts given found old one it,
    led g.S.Store s acts given other_found other_old other that,
  );
}
