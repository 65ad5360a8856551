use Rattle.std.proofs.Common.{◌≡◌, ◌∙◌, ◌∷◌, suc, ◌+◌, length, sym, ap, arith, refl}
use Rattle.office_records.specs.Conditions.{first_of}
use Rattle.office_rules.specs.Conditions.{conditions_of_open_run, refusals_of_open_run}
use Rattle.office_rules.specs.Effects.{after_open_run, new_run}
use Rattle.office_rules.specs.State.{ByteMap, with_contents, with_office}
use Rattle.office_rules.specs.Steps.{step_open_run}
use Rattle.office_rules.specs.declared.answer.Answer.TheVariants.{Number}
use Rattle.office_rules.specs.declared.rows.RowWrite.TheVariants as row_write
use Rattle.office_machine.specs.DayWrites.{day_writes}
use Rattle.office_machine.proofs.DecidedTree.{none_of}
use Rattle.office_machine.proofs.Decisions.{going, refused_step}
use Rattle.office_machine.proofs.OfficeSound.{few_runs}
use Rattle.office_machine.proofs.OpenedRuns.{opening_change}
use Rattle.office_machine.proofs.parts.Parts.decide_open_run.Goals.{After-dated}
use Rattle.office_machine.proofs.parts.Parts.decide_open_run.Goals as goal

table : (c : After-dated) → c.dated.result ≡ first_of (refusals_of_open_run c.args.self.now c.args.day)
table c = c.dated.ensures (conditions_of_open_run c.args.self.now) c.check_open_run.ensures

pub returns-in-Some : goal.returns-in-Some
returns-in-Some c = (
  λ contents.
      let s = c.args.self.now in
      let p = (goal.at.returns-in-Some c).After-dated in
      refused_step (refusals_of_open_run s c.args.day) c.in-Some.refusal (with_contents s contents) (Number (suc (length s.runs))) (with_office (with_contents s contents) (after_open_run s c.args.day c.args.by.now)) (sym (table p) ∙ c.in-Some.is),
  refl,
)

pub overflow_add-number : goal.overflow_add-number
overflow_add-number c = let few = few_runs c.args.self.now c.requires in omega (arith, few, c.run_count-number.ensures)

pub returns : goal.returns
returns c =
    let s = c.args.self.now in
    let accepted = sym (table (goal.at.returns c).After-dated) ∙ none_of c.dated.result c.in_default.not-Some in
    let count = c.run_count-number.ensures in
    let by = c.in_ok-copy.ensures in
    let number : suc (length s.runs) ≡ c.run_count-number.result + 1 = omega (arith, count) in
    let next = λ (contents : ByteMap). step_open_run (with_contents s contents) c.args.day c.args.by.now in
    going s next (Number (c.run_count-number.result + 1)) _ c.go.result c.go.ensures (λ change answer writes.
    opening_change s c.args.day c.args.by.now change accepted (ap Number number ∙ sym answer) (writes ∙ (λ i. row_write.Run (count i + 1) (new_run c.args.day (by i)) ∷ day_writes c.args.self.now c.args.day)))
