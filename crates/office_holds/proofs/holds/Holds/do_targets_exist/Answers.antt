use Rattle.std.proofs.Common.{length, sym}
use Rattle.office_records.proofs.Named.{at_codes, from_codes}
use Rattle.office_rules.specs.SoundHolds.{TargetsAreThere}
use Rattle.office_holds.proofs.Representing.{not_both}
use Rattle.office_holds.proofs.holds.Holds.do_targets_exist.Goals as goal

pub returns-clause-yes : goal.returns-clause-yes
returns-clause-yes c reported = rw (sym c.self.view_is)
    (at_codes (TargetsAreThere c.args.tree.now.classes (length c.args.tree.now.aggregations) (length c.args.tree.now.records)) c.self.inside.by_code.entries (c.do_all_exist.ensures.all.0 reported))

pub returns-clause-no : goal.returns-clause-no
returns-clause-no c reported represent =
    let inside = rw (sym c.self.view_is) at represent in
    let all = from_codes (TargetsAreThere c.args.tree.now.classes (length c.args.tree.now.aggregations) (length c.args.tree.now.records)) c.self.inside.by_code.entries c.do_all_exist.ensures.ordered inside in
    not_both c.do_all_exist.result (c.do_all_exist.ensures.all.1 all) reported
