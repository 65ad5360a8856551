use Rattle.std.proofs.Common.{◌≡◌, true, false, subst}
use Rattle.std.specs.FinMap.{from_entries, values}
use Rattle.std.specs.Ordering.{nat_cmp}
use Rattle.office_rules.specs.Loading.{AreEndings}
use Rattle.office_rules.specs.State.{Office}
use Rattle.office_machine.proofs.Endings.{no_ending, one_ending}
use Rattle.office_machine.proofs.parts.Parts.have_all_one_ending.Goals.{After-drop-ends}
use Rattle.office_machine.proofs.parts.Parts.have_all_one_ending.Goals as goal

-- the runs that are noted are those of the office's entries
noted : (c : After-drop-ends) → AreEndings (from_entries {R = nat_cmp} c.in-Some.ends.entries) (values c.args.self.now.entries)
noted c =
    subst (λ (o : Office). AreEndings (from_entries {R = nat_cmp} c.in-Some.ends.entries) (values o.entries)) c.self.view_is (rw c.in-Some.is at c.in_ok-ends.ensures)

pub returns-in-Some-clause-yes : goal.returns-in-Some-clause-yes
returns-in-Some-clause-yes c = λ reported.
    let s = c.args.self.now in
    let is : c.has_each_ended.result ≡ true = cc reported in
    one_ending (from_entries c.in-Some.ends.entries) s.tree.statuses (values s.entries) (noted c) (c.has_each_ended.ensures.yes is)

pub returns-in-Some-clause-no : goal.returns-in-Some-clause-no
returns-in-Some-clause-no c = λ reported one.
    let s = c.args.self.now in
    let is : c.has_each_ended.result ≡ false = cc reported in
    let lacking = c.has_each_ended.ensures.no is in
    no_ending (from_entries c.in-Some.ends.entries) s.tree.statuses (values s.entries) lacking.0 (noted c) lacking.1 lacking.2 one
