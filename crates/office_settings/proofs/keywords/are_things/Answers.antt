use Rattle.std.proofs.Common.{◌∙◌, sym}
use Rattle.office_settings.specs.Keywords.{is_thing}
use Rattle.office_settings.proofs.Marks.{list_all_map}
use Rattle.office_settings.proofs.keywords.are_things.Goals as goal

pub returns : goal.returns
returns c = c.each_is_thing.ensures ∙ sym (list_all_map is_thing (λ w. w.now) c.args.tokens.now)
