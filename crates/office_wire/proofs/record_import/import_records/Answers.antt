use Rattle.std.proofs.Common.{refl}
use Rattle.office_wire.proofs.Calls.{called, not_called}
use Rattle.office_wire.proofs.Imported.{not_sent, sent}
use Rattle.office_wire.proofs.record_import.import_records.Goals as goal

pub returns-then-is_poisoned : goal.returns-then-is_poisoned
returns-then-is_poisoned g c =
    record {
      call = not_called g.S.Store _ _ (λ s at. absurd (let wrong = at.is_open in cc (c.is_poisoned.ensures, c.if-is_poisoned.true)));
      gone = λ was. (refl, refl, refl);
    }

pub returns-in-Ok-flush : goal.returns-in-Ok-flush
returns-in-Ok-flush g c =
    record {
      call = called g.S.Store _ _ _ _ c.in-Ok.ensures (λ s it. sent g.S.Store c.args.day s _ _ _ _ _ _ c.flush.ensures.bytes (rw c.import_reader-rdr.ensures.source at it));
      gone = λ was. absurd (let wrong = was in cc (c.is_poisoned.ensures, c.if-is_poisoned.false));
    }

pub returns-in-Ok : goal.returns-in-Ok
returns-in-Ok g c =
    record {
      call = called g.S.Store _ _ _ _ c.in-Ok.ensures (λ s it. not_sent g.S.Store c.args.day s _ _ _ _ _ _ c.flush.ensures.bytes (rw c.import_reader-rdr.ensures.source at it));
      gone = λ was. absurd (let wrong = was in cc (c.is_poisoned.ensures, c.if-is_poisoned.false));
    }

pub returns : goal.returns
returns g c =
    record {
      call = called g.S.Store _ _ _ _ c.in-Err.ensures (λ s it. (rw c.import_reader-rdr.ensures.source at it));
      gone = λ was. absurd (let wrong = was in cc (c.is_poisoned.ensures, c.if-is_poisoned.false));
    }
