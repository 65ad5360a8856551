use Rattle.std.proofs.Common.{◌∙◌, ap}
use Rattle.std.specs.Cmp.{nat_cmp_total}
use Rattle.std.specs.FinMap.{from_entries, insert, nat_cmp-IsAntisymmetric}
use Rattle.office_machine.proofs.Stored.{inserted}
use Rattle.office_machine.proofs.entry_maps.put_certificate.Goals as goal

pub returns-clause-ok : goal.returns-clause-ok
returns-clause-ok c =
    inserted nat_cmp_total nat_cmp-IsAntisymmetric c.args.certificates.now.entries c.insert.new.self.entries c.args.run c.new.result c.in_ok-insert.ensures.updates.0
    ∙ ap (insert (from_entries c.args.certificates.now.entries) c.args.run) c.new.ensures
