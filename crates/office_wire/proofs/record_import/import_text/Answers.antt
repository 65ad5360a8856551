use Rattle.std.proofs.Common.{ap, Err, rules}
use Rattle.office_csv.specs.declared.import_text.RowStop.{RowStop}
use Rattle.office_wire.proofs.Calls.{not_called}
use Rattle.office_wire.proofs.Imported.{memory_ran_out, none_read, not_headed}
use Rattle.office_wire.proofs.record_import.import_text.Goals as goal

pub returns-in-Ok-true : goal.returns-in-Ok-true
returns-in-Ok-true g c = c.import_rows.ensures _ (rw c.requires.start at (c.in-Ok-true.ensures.heads (search rules)))

pub returns-in-Ok-false : goal.returns-in-Ok-false
returns-in-Ok-false g c = not_called g.S.Store _ _ (λ s at. not_headed g.S.Store c.args.day s _ _ _ at (rw c.requires.start at (c.in-Ok-false.ensures.lacks c.in-Ok-false.field-0-test)))

pub returns-in-Err-NotText : goal.returns-in-Err-NotText
returns-in-Err-NotText g c = not_called g.S.Store _ _ (λ s at. not_headed g.S.Store c.args.day s _ _ _ at (rw c.requires.start at (c.in-Err-NotText.ensures.bad (ap (λ (why : RowStop). Err why) c.in-Err-NotText.field-0-is))))

pub returns-in-Err-Memory : goal.returns-in-Err-Memory
returns-in-Err-Memory g c = not_called g.S.Store _ _ (λ s at. memory_ran_out g.S.Store c.args.day s _ _ _ at)

pub returns : goal.returns
returns g c = not_called g.S.Store _ _ (λ s at. none_read g.S.Store c.args.day s _ _ _ at)
