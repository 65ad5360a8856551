use Rattle.std.specs.Prelude.{codes}
use Rattle.std.proofs.lemmas.Str.Pattern.{starts_text}
use Rattle.office_evidence.proofs.lines.is_spent.Goals as goal

pub returns : goal.returns
returns c = starts_text c.starts_with.result (codes "AGGREGATION") c.args.line.now c.starts_with.ensures.cases
