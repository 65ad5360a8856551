use Rattle.std.proofs.Common.{◌∙◌, sym}
use Rattle.std.specs.Str.{bytes_eq}
use Rattle.office_policy.proofs.Lists.{list_any_map}
use Rattle.office_policy.proofs.names.is_among.Goals as goal

pub returns : goal.returns
returns c = c.is_one_of.ensures ∙ sym (list_any_map (bytes_eq c.args.name.now) (λ w. w.now) c.args.names.now)
