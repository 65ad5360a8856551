use Rattle.std.proofs.Common.{◌^◌, ◌∙◌, ap, sym}
use Rattle.std.specs.FinMap.{contains_key, from_entries}
use Rattle.std.specs.Ordering.{nat_cmp}
use Rattle.office_machine.proofs.RunTests.{contains_is, too_great}
use Rattle.office_machine.proofs.examination.runs.is_certified.Goals as goal

pub returns-in-Ok : goal.returns-in-Ok
returns-in-Ok c =
    c.contains_key.ensures
    ∙ sym (contains_is c.args.certificates.now.entries c.in-Ok.run')
    ∙ ap (contains_key (from_entries {R = nat_cmp} c.args.certificates.now.entries)) c.in-Ok.ensures.1

pub returns-in-Err : goal.returns-in-Err
returns-in-Err c = too_great c.args.certificates.now.entries c.args.run (2 ^ 32) c.well_formed_numbers.ensures c.in-Err.ensures
