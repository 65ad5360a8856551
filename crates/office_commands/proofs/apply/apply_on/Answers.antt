use Rattle.office_commands.proofs.Applications.{text_applies}
use Rattle.office_commands.proofs.apply.apply_on.Goals as goal

pub returns-in-Ok-clause-ends : goal.returns-in-Ok-clause-ends
returns-in-Ok-clause-ends g c =
    text_applies g.S.Store (g.R.Read.remaining c.args.input.now) c.in-Ok.text.items c.args.conn c.apply_text.result.1 _ _ c.apply_text.result.0 c.in-Ok.ensures.all (rw c.as_slice.ensures.value at c.apply_text.ensures.ends)
