use Rattle.office_json.proofs.Encodings.{takes_encodings}
use Rattle.office_json.proofs.content.law_of_contents.Goals as goal

pub returns : goal.returns
returns c = takes_encodings
