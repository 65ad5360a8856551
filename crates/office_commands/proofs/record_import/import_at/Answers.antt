use Rattle.office_commands.proofs.Imports.{imported}
use Rattle.office_commands.proofs.record_import.import_at.Goals as goal

pub returns-clause-done : goal.returns-clause-done
returns-clause-done g c = imported g.S.Store c.args.day _ _ _ _ _ c.import_records.result _ c.from.ensures c.import_records.ensures.call.did

pub returns-clause-clean : goal.returns-clause-clean
returns-clause-clean g c = c.import_records.ensures.call.clean

pub returns-clause-shield : goal.returns-clause-shield
returns-clause-shield g c = c.import_records.ensures.call.shield
