use Rattle.office_settings.proofs.Texts.{text_none, text_some}
use Rattle.office_settings.proofs.looks.text_in.Goals as goal

pub returns-in-Ok : goal.returns-in-Ok
returns-in-Ok c = text_some c.in-Ok.text.now c.args.bytes.now c.in-Ok.ensures.cases

pub returns-in-Err : goal.returns-in-Err
returns-in-Err c = text_none c.args.bytes.now c.in-Err.ensures.cases.0
