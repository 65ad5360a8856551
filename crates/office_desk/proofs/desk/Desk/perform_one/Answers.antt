use Rattle.std.proofs.Common.{◌≡◌, sym, ap, ◌∙◌}
use Rattle.office_desk.specs.Desk.{DeskState}
use Rattle.office_desk.proofs.LeftRest.{spares_here}
use Rattle.office_desk.proofs.DecidedSteps.{go_answered, go_leaves, go_step, stay_answered, stay_leaves}
use Rattle.office_desk.proofs.desk.Desk.perform_one.Goals as goal

-- what a desk holds in memory is its office
office_of : {S : Type 0} {d e : DeskState S} → d ≡ e → d.office ≡ e.office
office_of same = ap (λ d. d.office) same

pub returns-in-Ok-Stay-clause-answered : goal.returns-in-Ok-Stay-clause-answered
returns-in-Ok-Stay-clause-answered g c = λ s same.
    let decided = rw c.in-Ok-Stay.field-0-is at c.in-Ok-Stay.ensures.step in
    stay_answered s c.self.inside.machine c.args.act.now c.in-Ok-Stay.answer c.args.self.now (same ∙ sym (office_of c.self.view_is)) decided same c.requires.open c.in-Ok-Stay.ensures.formed

pub returns-in-Ok-Stay-clause-leaves : goal.returns-in-Ok-Stay-clause-leaves
returns-in-Ok-Stay-clause-leaves g c = λ s clean at.
    let decided = rw c.in-Ok-Stay.field-0-is at c.in-Ok-Stay.ensures.step in
    stay_leaves s c.self.inside.machine c.args.act.now c.in-Ok-Stay.answer _ (sym at.office ∙ sym (office_of c.self.view_is)) decided at.sound at.rows

pub returns-in-Ok-Stay-clause-rest : goal.returns-in-Ok-Stay-clause-rest
returns-in-Ok-Stay-clause-rest g c = spares_here g.S.Store c.args.self.now

pub returns-in-Ok-Go-clause-answered : goal.returns-in-Ok-Go-clause-answered
returns-in-Ok-Go-clause-answered g c = λ s same.
    let decided = rw c.in-Ok-Go.field-0-is at c.in-Ok-Go.ensures.step in
    let changes = rw c.in-Ok-Go.field-0-is at c.in-Ok-Go.ensures.reported in
    let by = go_step s c.self.inside.machine c.args.act.now c.in-Ok-Go.change (same ∙ sym (office_of c.self.view_is)) decided in
    go_answered s c.args.act.now c.in-Ok-Go.change c.in-Ok-Go.ensures.formed by c.make.result c.args.self.now c.make.new.self same c.requires.open changes c.make.ensures.ends

pub returns-in-Ok-Go-clause-leaves : goal.returns-in-Ok-Go-clause-leaves
returns-in-Ok-Go-clause-leaves g c = λ s clean at.
    let decided = rw c.in-Ok-Go.field-0-is at c.in-Ok-Go.ensures.step in
    let by = go_step s c.self.inside.machine c.args.act.now c.in-Ok-Go.change (sym at.office ∙ sym (office_of c.self.view_is)) decided in
    go_leaves s c.args.act.now c.in-Ok-Go.change c.in-Ok-Go.ensures.formed by c.make.result _ at.sound (c.make.ensures.leaves s clean at)
