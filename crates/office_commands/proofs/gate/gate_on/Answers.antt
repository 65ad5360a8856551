use Rattle.std.proofs.Common.{inl, inr, refl}
use Rattle.office_commands.specs.Serving.{GateEnds}
use Rattle.office_gate.specs.Sessions.{LeavesGated}
use Rattle.office_commands.proofs.Callings.{clean_closed, once_closed, shield_closed}
use Rattle.office_commands.proofs.Services.{clean_served, desk_of, shield_served}
use Rattle.office_commands.proofs.Unopened.{unopened}
use Rattle.office_commands.proofs.gate.gate_on.Goals as goal

pub returns-in-Ok-clause-ends : goal.returns-in-Ok-clause-ends
returns-in-Ok-clause-ends g c =
    let desk = c.gate_at-exit.new.desk in
    once_closed _ _ c.close.ensures.same
    (λ h. GateEnds g.S.Store (g.G.Gatekeeper.settings c.args.keeper.now) c.args.port c.args.count c.args.conn h (g.W.Write.contents c.args.out.now) (g.W.Write.contents c.gate_at-exit.new.out) c.gate_at-exit.result)
    (inr (c.in-Ok.desk, desk, desk_of g.S.Store c.args.conn c.in-Ok.desk c.in-Ok.ensures.ok, c.gate_at-exit.ensures, refl))

pub returns-in-Ok-clause-clean : goal.returns-in-Ok-clause-clean
returns-in-Ok-clause-clean g c =
    clean_closed g.S.Store c.args.conn c.gate_at-exit.new.desk.connection c.close.result c.close.ensures.same (λ clean. c.in-Ok.ensures.ok.clean (clean_served (LeavesGated g.S.Store (g.G.Gatekeeper.settings c.args.keeper.now)) g.S.Store c.args.port c.args.count c.in-Ok.desk c.gate_at-exit.new.desk _ _ _ c.gate_at-exit.ensures clean))

pub returns-in-Err-clause-ends : goal.returns-in-Err-clause-ends
returns-in-Err-clause-ends g c = inl (c.in-Err.fault, refl, unopened g.S.Store c.args.conn c.in-Err.fault c.in-Err.conn c.in-Err.ensures.err, refl)

pub returns-in-Err-clause-clean : goal.returns-in-Err-clause-clean
returns-in-Err-clause-clean g c = c.in-Err.ensures.err.clean

pub returns-in-Ok-clause-shield : goal.returns-in-Ok-clause-shield
returns-in-Ok-clause-shield g c =
    shield_closed g.S.Store c.args.conn c.gate_at-exit.new.desk.connection c.close.result c.close.ensures.same
    (λ shielded. shield_served (LeavesGated g.S.Store (g.G.Gatekeeper.settings c.args.keeper.now)) g.S.Store c.args.port c.args.count c.in-Ok.desk c.gate_at-exit.new.desk _ _ _ c.gate_at-exit.ensures (c.in-Ok.ensures.ok.shield shielded))

pub returns-in-Err-clause-shield : goal.returns-in-Err-clause-shield
returns-in-Err-clause-shield g c = c.in-Err.ensures.err.shield
