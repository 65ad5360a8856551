use Rattle.std.proofs.Common.{◌≡◌, Some, sym}
use Rattle.office_records.specs.Lists.{numbered}
use Rattle.office_records.specs.declared.status.Status.TheVariants.{Ended}
use Rattle.office_machine.proofs.EndingEntries.{not_ended}
use Rattle.office_machine.proofs.parts.Parts.entry_that_ended.Goals as goal

pub returns-then-not-is_ended-clause-read : goal.returns-then-not-is_ended-clause-read
returns-then-not-is_ended-clause-read c =
    let other : numbered c.args.self.now.tree.statuses c.args.record_no ≡ Some Ended → ⊥ = λ ended. let is = c.is_ended.ensures.1 ended in cc in
    sym (not_ended c.args.self.now c.requires c.args.record_no other)
