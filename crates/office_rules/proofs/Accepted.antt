-- What a sound state says of its tree, and what it says of an act that is accepted.
use Rattle.std.proofs.Common.{◌≡◌, ℤ, ◌≤ℤ◌, Bool, false, true, cond, List, [], ◌∷◌, ℕ, Option, Some, None, refl, ap, ◌∙◌, arith}
use Rattle.std.specs.Prelude.{int_lt}
use Rattle.std.specs.List.{AllByRecursion}
use Rattle.std.proofs.lemmas.Int.{ints}
use Rattle.office_base.specs.declared.refusal.Refusal.{Refusal}
use Rattle.office_records.specs.Conditions.{first_of, conditions_of_reclassify}
use Rattle.office_records.specs.Sound as tree
use Rattle.office_records.specs.declared.classified.Classified.{Classified}
use Rattle.office_records.proofs.Accepting.{none_holds}
use Rattle.office_rules.specs.HoldConditions.{would_leave_held_class}
use Rattle.office_rules.specs.Conditions.{dated, refusals_of_reclassify}
use Rattle.office_rules.specs.Meanings.{IsAccepted}
use Rattle.office_rules.specs.Sound.{IsSound}
use Rattle.office_rules.specs.State.{State, Office}

-- the tree of a sound state is sound
pub tree_sound : (s : State) → IsSound s → tree.IsSound s.office.tree
tree_sound s sound = record {
  limits = sound.limits.tree_few;
  forest = sound.forest;
  names = sound.names.of_tree;
  closed = sound.closed;
  statuses = sound.limits.statuses;
}

-- ---- an act that is accepted

not_first : (r : Refusal) (b : Bool) (rest : Option Refusal) → cond b (Some r) rest ≡ None → (b ≡ false) × (rest ≡ None)
not_first r true rest e = absurd cc
not_first r false rest e = (refl, e)

-- a day that is not before another
pub not_back : (day before : ℤ) → int_lt day before ≡ false → before ≤ℤ day
not_back day before e = grind (arith, ints)

-- an accepted act's day is not before the office's, and no other condition of it holds
pub dated_accepted : (s : Office) (day : ℤ) (conditions : List (Refusal × Bool)) → first_of (dated s day conditions) ≡ None → (s.day ≤ℤ day) × (first_of conditions ≡ None)
dated_accepted s day conditions e = let first = not_first _ (int_lt day s.day) (first_of conditions) e in (not_back day s.day first.0, first.1)

-- where no condition holds there is no refusal
pub accepted_of : (cs : List (Refusal × Bool)) → AllByRecursion (λ c. c.1 ≡ false) cs → first_of cs ≡ None
accepted_of [] h = refl
accepted_of (c ∷ cs) h = ap (λ b. cond b (Some c.0) (first_of cs)) h.0 ∙ accepted_of cs h.1

-- a reclassification that is accepted is accepted by the tree
pub accepted_by_tree : (s : Office) (day : ℤ) (what : Classified) (class : Option (List ℕ)) → IsAccepted (refusals_of_reclassify s day what class) → first_of (conditions_of_reclassify s.tree what class) ≡ None
accepted_by_tree s day what class accepted =
    let all = none_holds (refusals_of_reclassify s day what class) accepted in
    accepted_of (conditions_of_reclassify s.tree what class) (all.1.0, (all.1.1.0, all.1.1.1.1))

-- and leaves no held class
pub leaves_none : (s : Office) (day : ℤ) (what : Classified) (class : Option (List ℕ)) → IsAccepted (refusals_of_reclassify s day what class) → would_leave_held_class s.holds s.tree what class ≡ false
leaves_none s day what class accepted = let all = none_holds (refusals_of_reclassify s day what class) accepted in all.1.1.1.0
