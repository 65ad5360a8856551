-- What is right of the changes by which acts put a row into the holds.
use Rattle.std.proofs.Common.{◌≡◌, ℕ, List, ◌∷◌, length, Option, Some, None, refl, sym, ap, subst, ◌∙◌, Bool, true, false, ℤ, arith}
use Rattle.std.specs.Prelude.{IsSome}
use Rattle.std.specs.FinMap.{get, insert}
use Rattle.std.specs.Option.{is_none}
use Rattle.office_base.specs.declared.refusal.Refusal.{Refusal}
use Rattle.office_records.specs.Conditions.{first_of}
use Rattle.office_records.specs.Lists.{amended_by}
use Rattle.office_records.proofs.Accepting.{none_holds, neither}
use Rattle.office_rules.specs.HoldConditions.{conditions_of_hold_off, conditions_of_hold_on, conditions_of_lift_hold, conditions_of_place_hold}
use Rattle.office_rules.specs.HoldEffects.{held_off, held_on, lifted_hold, placed_hold}
use Rattle.office_rules.specs.HoldForms.{FitsHoldLimits}
use Rattle.office_rules.specs.Holds.{HoldMap, HoldState}
use Rattle.office_rules.specs.HoldRows.{hold_from, put_hold}
use Rattle.office_records.specs.declared.hold_row.HoldRow.{HoldRow}
use Rattle.office_records.specs.declared.target.Target.{Target}
use Rattle.office_rules.proofs.HoldSoundness.{FitsHoldLimits-held_on, FitsHoldLimits-lifted_hold, FitsHoldLimits-placed_hold, StaysLifted-free, placed_by_put}
use Rattle.office_rules.specs.Acts.{IsChangeTo}
use Rattle.office_rules.specs.Conditions.{conditions_of_covering, dated, lacks_target, refusals_of_hold_off, refusals_of_hold_on, refusals_of_lift_hold, refusals_of_place_hold}
use Rattle.office_rules.specs.Effects.{with_holds}
use Rattle.office_rules.specs.State.{Office, State, ByteMap, with_contents, with_office}
use Rattle.office_rules.specs.Steps.{step_hold_off, step_hold_on, step_lift_hold, step_place_hold, stepped}
use Rattle.office_rules.specs.Writes.{CanPut, CanWrite, all_writes, write, write_office}
use Rattle.office_rules.specs.declared.answer.Answer.TheVariants.{Done}
use Rattle.office_rules.specs.declared.change.Change.{Change}
use Rattle.office_rules.specs.declared.rows.RowWrite.{RowWrite}
use Rattle.office_rules.specs.declared.rows.RowWrite.TheVariants as row_write
use Rattle.office_rules.proofs.Accepted.{accepted_of, dated_accepted}
use Rattle.office_machine.specs.DayWrites.{day_writes}
use Rattle.office_machine.proofs.Decisions.{accepted_change}
use Rattle.office_machine.proofs.DayWrites.{day_led, days_follow, few_days}

-- a row that is put into the holds, and the day
put_change : (s : Office) (day : ℤ) (conditions : List (Refusal × Bool)) (after : HoldMap) (row : RowWrite) (change : Change) → first_of (dated s day conditions) ≡ None → Done ≡ change.answer → change.writes.items ≡ row ∷ day_writes s day → CanPut s row
    → ((contents : ByteMap) → write row (with_contents s contents) ≡ with_contents (record s { holds = after }) contents)
    → IsChangeTo s (λ contents. stepped (dated s day conditions) (with_contents s contents) Done (with_office (with_contents s contents) (with_holds s day after))) change
put_change s day conditions after row change accepted same writes can wrote =
    accepted_change s (dated s day conditions) Done (λ contents. with_office (with_contents s contents) (with_holds s day after)) change accepted same refl
    (let n = ap length writes in let days = few_days s day in omega (arith, n, days)) (subst (λ (ws : List RowWrite). CanWrite s ws) (sym writes) (can, days_follow s (write_office row s) day))
    (λ contents. ap (λ ws. all_writes ws (with_contents s contents)) writes ∙ day_led s day (write row (with_contents s contents)) (ap (λ (t : State). t.office.day) (wrote contents)) ∙ ap (write (row_write.Day day)) (wrote contents))

-- the columns of a new hold
abbrev pub placed_row : ℤ → List ℕ → List ℕ → HoldRow
placed_row day reason by = record { reason = reason; placed = day; placed_by = by; lifted = None }

pub placing_change : (s : Office) (day : ℤ) (code reason by : List ℕ) (change : Change) → FitsHoldLimits s.holds → first_of (refusals_of_place_hold s day code) ≡ None → Done ≡ change.answer
    → change.writes.items ≡ row_write.Hold code (placed_row day reason by) ∷ day_writes s day → IsChangeTo s (λ contents. step_place_hold (with_contents s contents) day code reason by) change
placing_change s day code reason by change fits accepted same writes =
    let none = (dated_accepted s day (conditions_of_place_hold s.holds code) accepted).1 in
    let puts = placed_by_put s.holds day code reason by none in
    put_change s day (conditions_of_place_hold s.holds code) (placed_hold s.holds day code reason by) (row_write.Hold code (placed_row day reason by)) change accepted same writes
    (subst FitsHoldLimits (sym puts) (FitsHoldLimits-placed_hold s.holds fits day code reason by none), StaysLifted-free s.holds code (placed_row day reason by) none)
    (λ contents. ap (λ (holds : HoldMap). with_contents (record s { holds = holds }) contents) puts)

-- the hold that is lifted is there
pub hold_there : (s : Office) (day : ℤ) (code : List ℕ) → first_of (refusals_of_lift_hold s day code) ≡ None → get s.holds code ≡ None → ⊥
hold_there s day code accepted none =
    let there : is_none (get s.holds code) ≡ false = (none_holds (refusals_of_lift_hold s day code) accepted).1.0 in
    let gone : is_none (get s.holds code) ≡ true = ap is_none none in
    absurd cc

-- a hold's columns, lifted on that day
abbrev pub lifted_row : ℤ → HoldState → HoldRow
lifted_row day hold = record { reason = hold.reason; placed = hold.placed; placed_by = hold.by; lifted = Some day }

-- its columns put in, lifted, lift it
lifted_by_put : (holds : HoldMap) (day : ℤ) (code : List ℕ) (hold : HoldState) → get holds code ≡ Some hold → put_hold holds code (lifted_row day hold) ≡ lifted_hold holds day code
lifted_by_put holds day code hold there =
    ap (λ (o : Option HoldState). insert holds code (hold_from (lifted_row day hold) o)) there
    ∙ sym (ap (amended_by holds code (λ it. record it { lifted = Some day })) there)

pub lifting_change : (s : Office) (day : ℤ) (code : List ℕ) (hold : HoldState) (change : Change) → FitsHoldLimits s.holds → first_of (refusals_of_lift_hold s day code) ≡ None → get s.holds code ≡ Some hold → Done ≡ change.answer
    → change.writes.items ≡ row_write.Hold code (lifted_row day hold) ∷ day_writes s day → IsChangeTo s (λ contents. step_lift_hold (with_contents s contents) day code) change
lifting_change s day code hold change fits accepted there same writes =
    let puts = lifted_by_put s.holds day code hold there in
    put_change s day (conditions_of_lift_hold s.holds code) (lifted_hold s.holds day code) (row_write.Hold code (lifted_row day hold)) change accepted same writes
    (subst FitsHoldLimits (sym puts) (FitsHoldLimits-lifted_hold s.holds fits day code), λ _ _ _. refl)
    (λ contents. ap (λ (holds : HoldMap). with_contents (record s { holds = holds }) contents) puts)

some_of : (o : Option HoldState) → is_none o ≡ false → IsSome o
some_of None e = absurd cc
some_of (Some hold) e = refl

-- what is accepted by the one table is accepted by the holds, and the hold is there
accepted_by_holds : (s : Office) (code : List ℕ) (target : Target) → first_of (conditions_of_covering s code target) ≡ None → IsSome (get s.holds code) × (first_of (conditions_of_hold_on s.holds code target) ≡ None)
accepted_by_holds s code target accepted =
    let no = none_holds (conditions_of_covering s code target) accepted in
    let lacks = neither (is_none (get s.holds code)) (lacks_target s.tree target) no.1.0 in
    (some_of (get s.holds code) lacks.0, accepted_of (conditions_of_hold_on s.holds code target) (no.0, (lacks.0, (no.1.1.0, (no.1.1.1.0, tt)))))

pub covering_change : (s : Office) (day : ℤ) (code : List ℕ) (target : Target) (change : Change) → FitsHoldLimits s.holds → first_of (refusals_of_hold_on s day code target) ≡ None → Done ≡ change.answer
    → change.writes.items ≡ row_write.Target code target ∷ day_writes s day → IsChangeTo s (λ contents. step_hold_on (with_contents s contents) day code target) change
covering_change s day code target change fits accepted same writes =
    let by_holds = accepted_by_holds s code target (dated_accepted s day (conditions_of_covering s code target) accepted).1 in
    put_change s day (conditions_of_covering s code target) (held_on s.holds code target) (row_write.Target code target) change accepted same writes
    (by_holds.0, FitsHoldLimits-held_on s.holds fits code target by_holds.1) (λ contents. refl)

pub uncovering_change : (s : Office) (day : ℤ) (code : List ℕ) (target : Target) (change : Change) → first_of (refusals_of_hold_off s day code target) ≡ None → Done ≡ change.answer
    → change.writes.items ≡ row_write.RemoveTarget code target ∷ day_writes s day → IsChangeTo s (λ contents. step_hold_off (with_contents s contents) day code target) change
uncovering_change s day code target change accepted same writes =
    put_change s day (conditions_of_hold_off s.holds code target) (held_off s.holds code target) (row_write.RemoveTarget code target) change accepted same writes tt (λ contents. refl)
