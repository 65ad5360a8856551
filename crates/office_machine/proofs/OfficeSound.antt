-- What it says of an office's parts that the office is sound.
use Rattle.std.proofs.Common.{◌≤◌, length}
use Rattle.office_records.specs.Sound.{IsSound}
use Rattle.office_rules.specs.HoldForms.{FitsHoldLimits}
use Rattle.office_rules.specs.Sound.{IsSoundOffice}
use Rattle.office_rules.specs.State.{Office, with_contents}
use Rattle.office_rules.proofs.Accepted.{tree_sound}

-- its tree is sound
pub sound_tree : (s : Office) → IsSoundOffice s → IsSound s.tree
unfolding IsSoundOffice
sound_tree s (contents, sound) = tree_sound (with_contents s contents) sound

-- it has no more holds than it takes
pub few_holds : (s : Office) → IsSoundOffice s → FitsHoldLimits s.holds
unfolding IsSoundOffice
few_holds s sound = sound.1.limits.holds_few

-- nor more runs
pub few_runs : (s : Office) → IsSoundOffice s → length s.runs ≤ 10_000
unfolding IsSoundOffice
few_runs s sound = sound.1.limits.runs_few
