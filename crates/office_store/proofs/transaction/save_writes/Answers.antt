use Rattle.std.proofs.Common.{rules}
use Rattle.office_store.proofs.transaction.save_writes.Goals as goal

pub returns-in_err-write_all-clause-saves : goal.returns-in_err-write_all-clause-saves
returns-in_err-write_all-clause-saves g c = record { ok = search rules; err = search rules; undone = search rules }

pub returns-clause-saves : goal.returns-clause-saves
returns-clause-saves g c = record { ok = search rules; err = search rules; undone = search rules }
