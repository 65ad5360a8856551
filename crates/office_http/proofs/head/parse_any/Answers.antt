use Rattle.office_http.proofs.HeadLemmas.{nothing_has_none}
use Rattle.office_http.proofs.head.parse_any.Goals as goal

pub returns-then-is_empty-clause-parsed : goal.returns-then-is_empty-clause-parsed
returns-then-is_empty-clause-parsed c = nothing_has_none c.args.buf.now c.if-is_empty.ensures
