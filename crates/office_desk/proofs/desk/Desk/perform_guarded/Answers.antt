use Rattle.std.proofs.Common.{◌≡◌, List, Err, rules, subst, sym}
use Rattle.sqlite.specs.Held.{state}
use Rattle.office_rules.specs.declared.answer.Answer.{Answer}
use Rattle.office_store.specs.declared.fault.Fault.TheVariants as fault
use Rattle.office_desk.specs.Guarded.{AreGuarded, guarded_outcome, permitted_acts}
use Rattle.office_desk.specs.Outcomes.{ActsLeave}
use Rattle.office_desk.proofs.LeftRest.{spares_here}
use Rattle.office_desk.proofs.Outcomes.{came_to, guarded_came}
use Rattle.office_desk.proofs.Permitted.{permitted_formed}
use Rattle.office_desk.proofs.Prefixes.{none_begun}
use Rattle.office_desk.proofs.desk.Desk.perform_guarded.Goals as goal

-- ---- no room for the answers

pub returns-then-is_err-clause-answered : goal.returns-then-is_err-clause-answered
returns-then-is_err-clause-answered g c = λ s is_open same.
    let permits = g.G.Guard.permits c.args.guard.now in
    let silent : c.try_reserve.new.self.items ≡ c.args.answers.now.items = search rules in
    record {
      all = tt;
      answered = (none_begun g.S.Store c.args.self.now (λ t. permitted_acts permits t c.args.acts.now) c.args.answers.now.items c.try_reserve.new.self.items (λ t. permitted_formed permits t c.args.acts.now c.well_formed_all.ensures) is_open silent).answered s same;
    }

pub returns-then-is_err-clause-leaves : goal.returns-then-is_err-clause-leaves
returns-then-is_err-clause-leaves g c = λ s clean at.
    let permits = g.G.Guard.permits c.args.guard.now in
    let silent : c.try_reserve.new.self.items ≡ c.args.answers.now.items = search rules in
    let it = none_begun g.S.Store c.args.self.now (λ t. permitted_acts permits t c.args.acts.now) c.args.answers.now.items c.try_reserve.new.self.items (λ t. permitted_formed permits t c.args.acts.now c.well_formed_all.ensures) at.is_open silent in
    came_to c.law_of_fates.ensures c.law_of_resumption.ensures.goes_on s at.sound _ (permitted_acts permits s c.args.acts.now) c.args.answers.now.items c.try_reserve.new.self.items (Err fault.Memory) c.args.self.now (it.answered s (sym at.office)) (it.leaves s clean at)

pub returns-then-is_err-clause-rest : goal.returns-then-is_err-clause-rest
returns-then-is_err-clause-rest g c = spares_here g.S.Store c.args.self.now

-- ---- the acts

pub returns-clause-answered : goal.returns-clause-answered
returns-clause-answered g c = λ s is_open same.
    let permits = g.G.Guard.permits c.args.guard.now in
    let reserved : c.try_reserve.new.self.items ≡ c.args.answers.now.items = search rules in
    let found = c.perform_open.new.answers.items in
    subst (λ (given : List Answer). AreGuarded permits s c.args.acts.now c.perform_open.result given found c.perform_open.new.self) reserved (c.perform_open.ensures.answered s same)

pub returns-clause-leaves : goal.returns-clause-leaves
returns-clause-leaves g c = λ s clean at.
    let permits = g.G.Guard.permits c.args.guard.now in
    let reserved : c.try_reserve.new.self.items ≡ c.args.answers.now.items = search rules in
    let found = c.perform_open.new.answers.items in
    let new = c.perform_open.new.self in
    let r = c.perform_open.result in
    let guarded = subst (λ (given : List Answer). AreGuarded permits s c.args.acts.now r given found new) reserved (c.perform_open.ensures.answered s (sym at.office)) in
    let left = subst (λ (given : List Answer). ActsLeave s (permitted_acts permits s c.args.acts.now) (guarded_outcome r given found) (state g.S.Store new.connection)) reserved (c.perform_open.ensures.leaves s clean at) in
    guarded_came c.law_of_fates.ensures c.law_of_resumption.ensures.goes_on s at.sound _ (permitted_acts permits s c.args.acts.now) c.args.answers.now.items found r new guarded.answered left
