use Rattle.office_rules.proofs.SoundMaps.{entry_cmp-IsAntisymmetric, entry_total}
use Rattle.office_machine.proofs.Stored.{inserted}
use Rattle.office_machine.proofs.entry_maps.put_entry.Goals as goal

pub returns-clause-ok : goal.returns-clause-ok
returns-clause-ok c =
    let entry = c.args.entry in
    inserted entry_total entry_cmp-IsAntisymmetric c.args.entries.now.entries c.insert.new.self.entries (entry.run, entry.record_no) entry c.in_ok-insert.ensures.updates.0
