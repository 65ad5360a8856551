use Rattle.std.proofs.Common.{rules}
use Rattle.office_http.proofs.Utf8Lemmas.{text-known}
use Rattle.office_http.proofs.paths.path_of.Goals as goal

pub returns-else-has_query : goal.returns-else-has_query
returns-else-has_query c = text-known _ c.args.target.now c.from_utf8.result _ c.ok.result (search rules) c.from_utf8.ensures.cases c.ok.ensures.value
