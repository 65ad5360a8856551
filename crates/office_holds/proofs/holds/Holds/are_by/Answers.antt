use Rattle.std.proofs.Common.{sym, ◌≤ℤ◌}
use Rattle.std.specs.Prelude.{IfSome}
use Rattle.office_records.proofs.Named.{at_codes, from_codes}
use Rattle.office_rules.specs.Holds.{HoldState}
use Rattle.office_holds.proofs.Representing.{not_both}
use Rattle.office_holds.proofs.holds.Holds.are_by.Goals as goal

pub returns-clause-yes : goal.returns-clause-yes
returns-clause-yes c reported = rw (sym c.self.view_is)
    (at_codes (λ (hold : HoldState). (hold.placed ≤ℤ c.args.last) × IfSome hold.lifted (λ lifted. lifted ≤ℤ c.args.last)) c.self.inside.by_code.entries (c.are_all_by.ensures.all.0 reported))

pub returns-clause-no : goal.returns-clause-no
returns-clause-no c reported none =
    let inside = rw (sym c.self.view_is) at none in
    let all = from_codes (λ (hold : HoldState). (hold.placed ≤ℤ c.args.last) × IfSome hold.lifted (λ lifted. lifted ≤ℤ c.args.last)) c.self.inside.by_code.entries c.are_all_by.ensures.ordered inside in
    not_both c.are_all_by.result (c.are_all_by.ensures.all.1 all) reported
