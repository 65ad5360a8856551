use Rattle.std.proofs.Common.{◌≡◌, ◌∙◌, sym}
use Rattle.std.specs.FinMap.{from_entries, get}
use Rattle.office_records.specs.Tree.{code_cmp}
use Rattle.office_tree.proofs.Codes.{code_absent, code_found}
use Rattle.office_records.proofs.Plan.{get_is}
use Rattle.office_tree.proofs.schedule_numbers.ScheduleNumbers.find.Goals as goal

-- what is found is what the map has
found : (c : goal.After-copied) → c.copied.result ≡ get (from_entries {R = code_cmp} c.self.inside.numbers.entries) c.args.code.now
found c = c.copied.ensures ∙ c.get.ensures.value ∙ sym (get_is c.self.inside.numbers.entries c.args.code.now)

pub returns-clause-some : goal.returns-clause-some
returns-clause-some c = code_found _ c.self.inside.codes.items _ c.args.code.now c.copied.result c.self.invariant c.self.view_is (found c)

pub returns-clause-none : goal.returns-clause-none
returns-clause-none c = code_absent _ c.self.inside.codes.items _ c.args.code.now c.copied.result c.self.invariant c.self.view_is (found c)
