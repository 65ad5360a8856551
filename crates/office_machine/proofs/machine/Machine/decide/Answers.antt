use Rattle.std.proofs.Common.{IfOk, subst}
use Rattle.std.proofs.lemmas.Result.{IfOk-weaker}
use Rattle.office_rules.specs.Acts.{IsDecidedFor, IsDecidedTo, step}
use Rattle.office_rules.specs.Sound.{IsSoundOffice}
use Rattle.office_rules.specs.State.{Office, with_contents}
use Rattle.office_rules.proofs.Feasible.{feasible, keeps}
use Rattle.office_machine.proofs.machine.Machine.decide.Goals.{After-decide}
use Rattle.office_machine.proofs.machine.Machine.decide.Goals as goal

decided : (c : After-decide) → IfOk c.decide.result (λ d. IsDecidedTo c.args.self.now (λ contents. step (with_contents c.args.self.now contents) c.args.act.now) d)
decided c = subst (λ (s : Office). IfOk c.decide.result (λ d. IsDecidedTo s (λ contents. step (with_contents s contents) c.args.act.now) d)) c.self.view_is c.decide.ensures

leads : (c : After-decide) → IfOk c.decide.result (λ d. IsDecidedFor c.args.self.now c.args.act.now d)
leads c = IfOk-weaker c.decide.result _ _ (λ d is. is.0) (decided c)

sound : (c : After-decide) → IsSoundOffice c.args.self.now
sound c = subst IsSoundOffice c.self.view_is c.self.invariant

pub returns-clause-step : goal.returns-clause-step
returns-clause-step c = leads c

pub returns-clause-reported : goal.returns-clause-reported
returns-clause-reported c = IfOk-weaker c.decide.result _ _ (λ d is. is.1) (decided c)

pub returns-clause-feasible : goal.returns-clause-feasible
returns-clause-feasible c = IfOk-weaker c.decide.result _ _ (λ d. feasible c.args.self.now c.args.act.now d (sound (goal.at.returns-clause-feasible c).After-decide) c.formed.ensures) (leads c)

pub returns-clause-held : goal.returns-clause-held
returns-clause-held c = IfOk-weaker c.decide.result _ _ (λ d is kept. keeps c.args.self.now c.args.act.now d (sound (goal.at.returns-clause-held c).After-decide) kept is) (leads c)
