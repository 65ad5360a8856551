use Rattle.std.proofs.Common.{◌∙◌}
use Rattle.office_days.proofs.Naming.{day_named-some}
use Rattle.office_evidence.proofs.words.day_in.Goals as goal

pub returns : goal.returns
returns c d form same = c.read.ensures.named ∙ day_named-some c.args.word.now d form same
