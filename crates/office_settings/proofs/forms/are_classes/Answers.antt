use Rattle.std.proofs.Common.{◌∙◌, sym}
use Rattle.office_settings.specs.Forms.{is_class}
use Rattle.office_settings.proofs.Marks.{list_all_map}
use Rattle.office_settings.proofs.forms.are_classes.Goals as goal

pub returns : goal.returns
returns c = c.each_is_class.ensures ∙ sym (list_all_map is_class (λ w. w.now) c.args.tokens.now)
