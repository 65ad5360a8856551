use Rattle.office_json.proofs.Stripped.{stripped}
use Rattle.office_json.proofs.targets.after.Goals as goal

pub returns : goal.returns
returns c = stripped c.strip_prefix.result c.args.prefix.now c.args.text.now c.strip_prefix.ensures.cases
