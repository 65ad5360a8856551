-- What is decided of an act in a sound office can be made there, and keeps what is held.
use Rattle.std.proofs.Common.{◌≡◌, false, sym, subst}
use Rattle.office_rules.specs.Acts.{CanBeMade, IsDecidedFor, IsFeasible, KeepsHeld, may_release, step}
use Rattle.office_rules.specs.Forms.{IsWellFormedAct}
use Rattle.office_rules.specs.Meanings.{IsHeldIn}
use Rattle.office_rules.specs.Sound.{IsSound, IsSoundOffice}
use Rattle.office_rules.specs.State.{State, Office, with_contents, empty_office, empty_state}
use Rattle.office_rules.specs.declared.act.Act.{Act}
use Rattle.office_rules.specs.declared.change.Decision.{Decision}
use Rattle.office_rules.specs.declared.change.Decision.TheVariants.{Stay, Go}
use Rattle.office_rules.proofs.KeptHolds.{kept_step}
use Rattle.office_rules.proofs.Changes.{office_changed}
use Rattle.office_rules.proofs.SoundEmpty.{sound_empty}
use Rattle.office_rules.proofs.StepSound.{sound_step}

-- a sound state's office is sound
pub office_sound : (s : State) → IsSound s → IsSoundOffice s.office
unfolding IsSoundOffice
office_sound s sound = (s.contents, sound)

pub empty_sound : IsSoundOffice empty_office
empty_sound = office_sound empty_state sound_empty

-- a decided change leads to the office of a step, which is sound
pub feasible : (s : Office) (a : Act) (d : Decision) → IsSoundOffice s → IsWellFormedAct a → IsDecidedFor s a d → IsFeasible s d
unfolding CanBeMade IsSoundOffice
feasible s a (Stay answer) sound formed decided = tt
feasible s a (Go change) sound formed decided =
    let after = sound_step (with_contents s sound.0) a sound.1 formed in
    (decided.fits, subst IsSoundOffice (sym (office_changed s a change sound.0 decided)) (office_sound (step (with_contents s sound.0) a).1 after))

-- and in which every record is held that was, but for what may let one out
pub keeps : (s : Office) (a : Act) (d : Decision) → IsSoundOffice s → may_release a ≡ false → IsDecidedFor s a d → KeepsHeld s d
unfolding IsSoundOffice
keeps s a (Stay answer) sound kept decided = tt
keeps s a (Go change) sound kept decided = λ r held.
    subst (λ t. IsHeldIn t r) (sym (office_changed s a change sound.0 decided)) (kept_step (with_contents s sound.0) a r sound.1 kept held)
