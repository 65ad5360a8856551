use Rattle.office_gate.proofs.Gated.{turns_gated}
use Rattle.office_noting.proofs.gatekeeper.NotingGateGatekeeper.serve.Goals as goal

pub returns : goal.returns
returns g c =
    let all = c.serve_noted_visits.ensures.gates in
    let service = c.serve_noted_visits.result in
    record {
      turns = (turns_gated g.S.Store g.T.SettingsText.readings service.connections service.has_failed service.is_poisoned _ _ _ _ all.turns).0;
      most = all.most;
      all = all.all;
    }
