use Rattle.std.proofs.Common.{inr}
use Rattle.office_noting.specs.Ledgers.{ledger_of}
use Rattle.office_noting.proofs.asked.note_asked.Goals as goal

pub returns-in-Ok : goal.returns-in-Ok
returns-in-Ok g c =
    inr (ledger_of c.name_settings.new.self, c.in-Ok.ensures.ok, c.note_wanted.ensures.line, c.note_wanted.ensures.named)
