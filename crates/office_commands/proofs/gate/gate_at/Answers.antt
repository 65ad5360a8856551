use Rattle.std.proofs.Common.{inr}
use Rattle.office_commands.proofs.gate.gate_at.Goals as goal

pub returns-in-Ok : goal.returns-in-Ok
returns-in-Ok g c =
    let all = c.serve.ensures in
    let service = c.serve.result in
    inr (
      service.connections,
      service.has_failed,
      service.is_poisoned,
      c.in-Ok.ensures.ok,
      all.turns,
      all.most,
      all.all,
      c.from.ensures,
    )
