-- What a decision rests on: the first condition of an act's table that holds, or that none does.
use Rattle.std.proofs.Common.{◌≡◌, ◌≤◌, Bool, true, List, length, Some, None, Result, Ok, Err, IfOk, sym, ap, ◌∙◌}
use Rattle.office_base.specs.declared.refusal.Refusal.{Refusal}
use Rattle.office_records.specs.Conditions.{first_of}
use Rattle.office_base.specs.declared.memory.Memory.{Memory}
use Rattle.office_rules.specs.Acts.{IsChangeTo, IsDecidedTo, IsGoing, is_of_change}
use Rattle.office_rules.specs.State.{with_contents, Office, State, ByteMap}
use Rattle.office_rules.specs.Steps.{stepped, by_refusal}
use Rattle.office_rules.specs.Writes.{CanWrite, all_writes}
use Rattle.office_rules.specs.declared.answer.Answer.{Answer}
use Rattle.office_rules.specs.declared.answer.Answer.TheVariants.{Refused}
use Rattle.office_rules.specs.declared.change.Change.{Change}
use Rattle.office_rules.specs.declared.change.Decision.{Decision}
use Rattle.office_rules.specs.declared.change.Decision.TheVariants.{Go, Stay}
use Rattle.office_rules.specs.declared.rows.RowWrite.{RowWrite}

-- a condition that holds refuses
pub refused_step : (conditions : List (Refusal × Bool)) (refusal : Refusal) (before : State) (answer : Answer) (next : State) → first_of conditions ≡ Some refusal → stepped conditions before answer next ≡ (Refused refusal, before)
refused_step conditions refusal before answer next e = ap (λ o. by_refusal o before answer next) e

-- where none holds the act is done
pub accepted_step : (conditions : List (Refusal × Bool)) (before : State) (answer : Answer) (next : State) → first_of conditions ≡ None → stepped conditions before answer next ≡ (answer, next)
accepted_step conditions before answer next e = ap (λ o. by_refusal o before answer next) e

-- a change for an accepted act
pub accepted_change : (s : Office) (conditions : List (Refusal × Bool)) (answer : Answer) (next : ByteMap → State) (change : Change) → first_of conditions ≡ None → answer ≡ change.answer → is_of_change answer ≡ true → length change.writes.items ≤ 6
    → CanWrite s change.writes.items → ((contents : ByteMap) → all_writes change.writes.items (with_contents s contents) ≡ next contents)
    → IsChangeTo s (λ contents. stepped conditions (with_contents s contents) answer (next contents)) change
accepted_change s conditions answer next change accepted same reported few fits leads = record {
  answered = λ contents. ap (λ (p : Answer × State). p.0) (accepted_step conditions (with_contents s contents) answer (next contents) accepted) ∙ same;
  changes = ap is_of_change (sym same) ∙ reported;
  few = few;
  fits = fits;
  leads = λ contents. leads contents ∙ sym (ap (λ (p : Answer × State). p.1) (accepted_step conditions (with_contents s contents) answer (next contents) accepted));
}

-- a decision to do such writes is right where each change of them is
pub going : (s : Office) (next : ByteMap → Answer × State) (answer : Answer) (writes : List RowWrite) (decided : Result Decision Memory) → IfOk decided (IsGoing answer writes)
    → ((change : Change) → change.answer ≡ answer → change.writes.items ≡ writes → IsChangeTo s next change) → IfOk decided (λ d. IsDecidedTo s next d)
going s next answer writes (Ok (Go change)) goes right = let led = right change goes.0 goes.1 in (led, led.changes)
going s next answer writes (Ok (Stay reported)) goes right = absurd goes
going s next answer writes (Err refused) goes right = tt
