use Rattle.std.proofs.Common.{◌++◌, [], ◌∷◌, codes, length}
use Rattle.std.specs.Fmt.{decimal}
use Rattle.office_proof.proofs.Texts.{more_lines}
use Rattle.office_proof.proofs.lines.push_spent.Goals as goal

pub returns : goal.returns
returns c = more_lines _ _ _ ((codes "SPENT " ++ decimal (length c.args.spent.now)) ∷ []) _ c.in_ok-push_number.ensures c.in_ok-push_aggregations.ensures
