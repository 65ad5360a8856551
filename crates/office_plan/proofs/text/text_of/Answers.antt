use Rattle.office_plan.proofs.Utf8.{text-known}
use Rattle.office_plan.proofs.text.text_of.Goals as goal

pub returns : goal.returns
returns c = text-known c.args.line.now c.from_utf8.result _ c.ok.result c.from_utf8.ensures.cases c.ok.ensures.value
