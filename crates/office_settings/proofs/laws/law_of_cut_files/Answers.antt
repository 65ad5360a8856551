use Rattle.office_settings.proofs.Beginnings.{beginning}
use Rattle.office_settings.proofs.Marked.{marked}
use Rattle.office_settings.proofs.laws.law_of_cut_files.Goals as goal

pub returns : goal.returns
returns c = record { marks = marked; beginnings = beginning }
