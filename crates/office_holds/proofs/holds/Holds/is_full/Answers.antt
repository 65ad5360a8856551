use Rattle.std.proofs.Common.{◌∙◌, ap, sym}
use Rattle.std.specs.Prelude.{nat_le}
use Rattle.std.specs.FinMap.{len}
use Rattle.office_records.proofs.Maps.{len_is}
use Rattle.office_holds.proofs.holds.Holds.is_full.Goals as goal

pub returns : goal.returns
returns c = ap (nat_le 1_000) (c.len.ensures.len ∙ sym (len_is c.self.inside.by_code.entries c.len.ensures.ordered) ∙ ap (λ t. len t) c.self.view_is)
