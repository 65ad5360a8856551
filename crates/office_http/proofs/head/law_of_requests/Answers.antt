use Rattle.office_http.proofs.OneRequest.{same_request}
use Rattle.office_http.proofs.head.law_of_requests.Goals as goal

pub returns : goal.returns
returns c = same_request
