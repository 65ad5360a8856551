use Rattle.std.proofs.Common.{sym, rules}
use Rattle.office_json.proofs.Texts.{json_some, json_none}
use Rattle.office_json.proofs.lists.json_in.Goals as goal

pub returns-in-Ok : goal.returns-in-Ok
returns-in-Ok c = sym (json_some _ _ c.in-Ok.ensures.ok.0 c.in-Ok.ensures.ok.1)

pub returns-in-Err-2 : goal.returns-in-Err-2
returns-in-Err-2 c = sym (json_none _ (c.in-Err.ensures.err (search rules)))
