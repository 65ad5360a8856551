use Rattle.office_rules.proofs.SoundEmpty.{sound_empty}
use Rattle.office_rules.proofs.StepSound.{sound_step}
use Rattle.office_rules.proofs.laws.soundness.law_of_soundness.Goals as goal

pub returns : goal.returns
returns c = record { empty = sound_empty; step = sound_step }
