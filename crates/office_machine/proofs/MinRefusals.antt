-- Where the holds and the tree are asked apart, the lesser of their refusals is the first of the one table.
use Rattle.std.proofs.Common.{◌≡◌, Bool, true, false, ◌||◌, List, [], ◌∷◌, ℕ, Option, refl}
use Rattle.std.specs.Prelude.{◌&&◌}
use Rattle.std.specs.FinMap.{get}
use Rattle.std.specs.Option.{is_none}
use Rattle.office_base.specs.declared.refusal.Refusal.TheVariants.{Exists, NoSuch, Full, NeedsClass, HeldClass, Lifted, Ended, InTransfer}
use Rattle.office_records.specs.Conditions.{classified_status, conditions_of_reclassify, first_of, is_root, lacks_class, lacks_classified}
use Rattle.office_records.specs.Disposal.{is_ended, is_in_transfer}
use Rattle.office_records.specs.Lists.{is_some_and}
use Rattle.office_records.specs.declared.classified.Classified.{Classified}
use Rattle.office_rules.specs.HoldConditions.{conditions_of_hold_on, conditions_of_leaving_class, has_all_targets, holds_target, is_lifted, would_leave_held_class}
use Rattle.office_records.specs.declared.target.Target.{Target}
use Rattle.office_rules.specs.Conditions.{conditions_of_covering, conditions_of_reclassifying, conditions_of_target, lacks_target, target_status}
use Rattle.office_machine.specs.MinRefusal.{min_refusal}
use Rattle.office_rules.specs.State.{Office}

covering_by : (ended lacks exists no_hold full lifted : Bool)
    → min_refusal (first_of ((Exists, exists) ∷ (NoSuch, no_hold) ∷ (Full, full) ∷ (Lifted, lifted) ∷ [])) (first_of ((NoSuch, lacks) ∷ (Ended, ended) ∷ []))
    ≡ first_of ((Exists, exists) ∷ (NoSuch, no_hold || lacks) ∷ (Full, full) ∷ (Lifted, lifted) ∷ (Ended, ended) ∷ [])
covering_by ended true true no_hold full lifted = refl
covering_by ended true false true full lifted = refl
covering_by ended true false false true lifted = refl
covering_by ended true false false false true = refl
covering_by ended true false false false false = refl
covering_by true false true no_hold full lifted = refl
covering_by true false false true full lifted = refl
covering_by true false false false true lifted = refl
covering_by true false false false false true = refl
covering_by true false false false false false = refl
covering_by false false true no_hold full lifted = refl
covering_by false false false true full lifted = refl
covering_by false false false false true lifted = refl
covering_by false false false false false true = refl
covering_by false false false false false false = refl

-- a target put on a hold
pub min_refusal_of_covering : (s : Office) (code : List ℕ) (target : Target) → min_refusal (first_of (conditions_of_hold_on s.holds code target)) (first_of (conditions_of_target s.tree target)) ≡ first_of (conditions_of_covering s code target)
min_refusal_of_covering s code target =
    covering_by (is_some_and (target_status s.tree target) is_ended) (lacks_target s.tree target)
    (holds_target s.holds code target) (is_none (get s.holds code)) (has_all_targets s.holds code) (is_lifted s.holds code)

reclassifying_by : (leaves lacks needs ended moving : Bool)
    → min_refusal (first_of ((NoSuch, lacks) ∷ (NeedsClass, needs) ∷ (Ended, ended) ∷ (InTransfer, moving) ∷ [])) (first_of ((HeldClass, leaves) ∷ []))
    ≡ first_of ((NoSuch, lacks) ∷ (NeedsClass, needs) ∷ (HeldClass, leaves) ∷ (Ended, ended) ∷ (InTransfer, moving) ∷ [])
reclassifying_by true true needs ended moving = refl
reclassifying_by true false true ended moving = refl
reclassifying_by true false false true moving = refl
reclassifying_by true false false false true = refl
reclassifying_by true false false false false = refl
reclassifying_by false true needs ended moving = refl
reclassifying_by false false true ended moving = refl
reclassifying_by false false false true moving = refl
reclassifying_by false false false false true = refl
reclassifying_by false false false false false = refl

-- an own class set or taken away
pub min_refusal_of_reclassifying : (s : Office) (what : Classified) (class : Option (List ℕ)) → min_refusal (first_of (conditions_of_reclassify s.tree what class)) (first_of (conditions_of_leaving_class s.holds s.tree what class)) ≡ first_of (conditions_of_reclassifying s what class)
min_refusal_of_reclassifying s what class =
    reclassifying_by (would_leave_held_class s.holds s.tree what class) (lacks_classified s.tree what || lacks_class s.tree class) (is_root s.tree what && is_none class)
    (is_some_and (classified_status s.tree what) is_ended) (is_some_and (classified_status s.tree what) is_in_transfer)
