use Rattle.office_http.proofs.BodyLemmas.{reads_body}
use Rattle.office_http.proofs.body.read_rest.Goals as goal

pub returns : goal.returns
returns g c = reads_body _ _ _ _ _ _ _ c.requires.ordered c.requires.start_in c.fill.ensures.bytes c.fill.ensures.whole c.fill.ensures.cut
