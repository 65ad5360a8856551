use Rattle.std.proofs.Common.{◌≡◌, ◌∙◌, ℕ, Some, ap, subst}
use Rattle.std.specs.FinMap.{get}
use Rattle.office_records.specs.Lists.{numbered}
use Rattle.office_rules.specs.EntryForms.{IsWellFormedEntry}
use Rattle.office_rules.specs.declared.entry.Entry.{Entry}
use Rattle.office_rules.specs.Sound.{IsWellFormedRun}
use Rattle.office_rules.specs.State.{Office}
use Rattle.office_rules.specs.declared.run.Run.{Run}
use Rattle.office_machine.proofs.RunTests.{at_entries}
use Rattle.office_machine.proofs.parts.Parts.formed.Goals as goal

pub returns-clause-runs : goal.returns-clause-runs
returns-clause-runs c =
    subst (λ (o : Office). (n : ℕ) (it : Run) → numbered o.runs n ≡ Some it → IsWellFormedRun it) c.self.view_is
    (λ n it at. c.well_formed_runs.ensures n it (ap (λ runs. numbered runs n) c.deref.ensures.value ∙ at))

pub returns-clause-entries : goal.returns-clause-entries
returns-clause-entries c =
    subst (λ (o : Office). (run r : ℕ) (e : Entry) → get o.entries (run, r) ≡ Some e → IsWellFormedEntry e) c.self.view_is
    (λ run r e at. at_entries IsWellFormedEntry c.self.inside.entries.entries c.well_formed_entries.ensures (run, r) e at)
