use Rattle.std.proofs.Common.{sym, ap, ◌∙◌}
use Rattle.office_records.specs.Tree.{due_of, status_of}
use Rattle.office_rules.specs.State.{Office}
use Rattle.office_machine.proofs.LookedAt.{here_ready}
use Rattle.office_machine.proofs.parts.Parts.is_ready.Goals as goal

pub returns-in-Some : goal.returns-in-Some
returns-in-Some c =
    let r = c.args.record_no in
    let here = sym c.in-Here.ensures ∙ ap (λ (o : Office). status_of o.tree r) c.self.view_is in
    let there = c.in-Some.ensures ∙ ap (λ (o : Office). due_of o.tree r) c.self.view_is in
    here_ready c.args.self.now c.args.day c.in-Some.due r c.reached.result here c.requires.candidate there c.reached.ensures
