use Rattle.std.proofs.Common.{subst}
use Rattle.office_records.specs.Forms.{IsWellFormedTree}
use Rattle.office_records.specs.Sound as tree
use Rattle.office_rules.specs.HoldForms.{AreWellFormedHolds, FitsHoldLimits}
use Rattle.office_rules.specs.State.{Office}
use Rattle.office_machine.proofs.parts.Parts.all_well_formed.Goals as goal

pub returns : goal.returns
returns c = record {
  tree_sound = subst (λ (o : Office). tree.IsSound o.tree) c.self.view_is c.sound.ensures;
  tree_forms = subst (λ (o : Office). IsWellFormedTree o.tree) c.self.view_is c.formed.ensures;
  holds_few = subst (λ (o : Office). FitsHoldLimits o.holds) c.self.view_is c.sound-2.ensures;
  hold_forms = subst (λ (o : Office). AreWellFormedHolds o.holds) c.self.view_is c.formed-2.ensures;
  run_forms = c.formed-3.ensures.runs;
  entry_forms = c.formed-3.ensures.entries;
  day_form = c.formed-3.ensures.day;
}
