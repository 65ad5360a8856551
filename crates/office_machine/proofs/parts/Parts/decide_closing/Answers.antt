use Rattle.std.proofs.Common.{◌∙◌, ap, refl}
use Rattle.office_rules.specs.declared.answer.Answer.TheVariants.{RunClosed}
use Rattle.office_machine.proofs.RunClosing.{closing, closing_writes}
use Rattle.office_machine.proofs.parts.Parts.decide_closing.Goals as goal

pub returns : goal.returns
returns c = (
  closing c.args.self.now c.args.run c.run.result.now c.in_ok-text.text (record { answer = RunClosed c.args.run; writes = c.in_ok-writes.writes })
      c.requires.opened c.requires.next c.run.ensures c.in_ok-text.ensures refl
      (c.in_ok-writes.ensures ∙ ap (closing_writes c.args.run c.in_ok-text.text) c.in_ok-closed.ensures),
  refl,
)
