use Rattle.std.proofs.Common.{◌∙◌, ap, sym}
use Rattle.std.specs.FinMap.{get}
use Rattle.office_rules.proofs.SoundMaps.{entry_cmp-IsAntisymmetric, entry_total}
use Rattle.office_rules.specs.State.{Office}
use Rattle.office_machine.proofs.Stored.{get_is}
use Rattle.office_machine.proofs.parts.Parts.entry.Goals as goal

pub returns : goal.returns
returns c =
    c.get.ensures.value
    ∙ sym (get_is entry_total entry_cmp-IsAntisymmetric c.self.inside.entries.entries (c.args.run, c.args.record_no))
    ∙ ap (λ (s : Office). get s.entries (c.args.run, c.args.record_no)) c.self.view_is
