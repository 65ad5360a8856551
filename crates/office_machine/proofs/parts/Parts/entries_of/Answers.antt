use Rattle.std.proofs.Common.{◌++◌, map, ap, ◌∙◌}
use Rattle.std.specs.BTreeMap.Range.{entries_between}
use Rattle.std.specs.Map.{values_of}
use Rattle.std.specs.declared.ops.Bound.TheVariants.{Included}
use Rattle.office_rules.specs.State.{Office, entry_cmp}
use Rattle.office_machine.proofs.RunRange.{run_between}
use Rattle.office_machine.proofs.parts.Parts.entries_of.Goals as goal

pub loop-entry-init : goal.loop-entry-init
loop-entry-init c =
    (λ i. map (λ entry. entry.now) (c.new-these.ensures.items i) ++ values_of (c.into_iter-entry-iterator.ensures.into_iter_gives i))
    ∙ ap values_of (c.range-entry-items.ensures.between c.new.ensures.exhausted)
    ∙ (λ i. values_of (entries_between entry_cmp (Included (c.new.ensures.start i)) (Included (c.new.ensures.end i)) c.self.inside.entries.entries))
    ∙ run_between c.args.self.now c.requires c.args.run c.self.inside.entries (ap (λ (s : Office). s.entries) c.self.view_is) c.range-entry-items.ensures.ordered
