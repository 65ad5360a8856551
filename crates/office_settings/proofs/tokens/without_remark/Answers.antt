use Rattle.std.proofs.Common.{◌∙◌, ◌==◌, sym}
use Rattle.office_settings.proofs.Remarks.{before_at, before_none}
use Rattle.office_settings.proofs.tokens.without_remark.Goals as goal

pub returns-in-Some : goal.returns-in-Some
returns-in-Some c = before_at (λ b. b == 35) c.args.line.now c.in-Some.place (sym c.remark_place.ensures ∙ c.in-Some.is)

pub returns-in-None : goal.returns-in-None
returns-in-None c = before_none (λ b. b == 35) c.args.line.now (sym c.remark_place.ensures ∙ c.in-None.is)
