use Rattle.office_http.proofs.ProxyLemmas.{is_proxied}
use Rattle.office_http.proofs.proxied_request.receive_proxied.Goals as goal

pub returns-in_ok-request-in-Ok-Found : goal.returns-in_ok-request-in-Ok-Found
returns-in_ok-request-in-Ok-Found g c =
    is_proxied _ _ _ _ _ _ _ c.in-Ok-Found.field-0-is c.in-Ok-Found.ensures c.in_ok-request-in-Ok-Found.ensures.ok
