use Rattle.std.proofs.Common.{◌<◌, ◌≤◌, length, sym, ◌∙◌, subst}
use Rattle.std.specs.List.{All}
use Rattle.office_records.specs.Tree.{above}
use Rattle.office_machine.proofs.AboveRecords.{above_there}
use Rattle.office_machine.proofs.marks.mark_above.Goals as goal

pub mark-requires : goal.mark-requires
mark-requires c =
    let there = above_there c.args.tree.now c.sound.ensures c.args.entry.now.record_no in
    let within = subst (λ n. All (λ a. (0 < a) × (a ≤ n)) (above c.args.tree.now c.args.entry.now.record_no)) (sym c.requires) there in
    subst (All (λ a. (0 < a) × (a ≤ length c.args.marks.now))) (sym (c.deref.ensures.0 ∙ c.above.ensures)) within
