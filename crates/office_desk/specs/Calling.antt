-- What private calls of a desk do, and its readings. Source: own.
use Rattle.std.specs.Prelude.{◌≡◌, ◌⊎◌, false, Result, Ok, Err, IfErr, IfOk, IsTrue, OnOk}
use Rattle.sqlite.specs.Held.{state}
use Rattle.sqlite.specs.State as sqlite
use Rattle.sqlite_trees.specs.declared.store.Store.{Ghosts}
use Rattle.office_rules.specs.Rows.{rows_of}
use Rattle.office_rules.specs.State.{State}
use Rattle.office_rules.specs.Writes.{all_office_writes, all_writes}
use Rattle.office_rules.specs.declared.answer.Answer.{Answer}
use Rattle.office_rules.specs.declared.change.Change.{Change}
use Rattle.office_sql.specs.Office.{Leaves, SparesRest}
use Rattle.office_store.specs.RepresentsRows.{ContainsRows}
use Rattle.office_store.specs.declared.fault.Fault.{Fault}
use Rattle.office_store.specs.declared.fault.Fault.TheVariants as fault
use Rattle.office_desk.specs.Desk.{DeskState}
use Rattle.office_desk.specs.Leaving.{StopsAt, StopsLeaving}

-- whatever a crash leaves has all that is not the office's as it was
abbrev pub LeavesRestOf : {S : Type 0} (g : Ghosts S) (old new : DeskState S) → Type 0
LeavesRestOf g old new = Leaves (SparesRest (state g old.connection).now) (state g new.connection)

-- ---- a change

-- a change was done in memory, and is answered
pub record IsMade {S : Type 0} (change : Change) (answer : Answer) (old new : DeskState S) : Type 0 where
  pub answered : answer ≡ change.answer
  pub office : new.office ≡ all_office_writes change.writes.items old.office
  pub same : new.is_poisoned ≡ old.is_poisoned

-- a growth was refused, and the desk is poisoned
pub record IsPoisoned {S : Type 0} (f : Fault) (new : DeskState S) : Type 0 where
  pub reopen : f ≡ fault.Reopen
  pub gone : IsTrue new.is_poisoned

-- a fault stopped a change; where memory ran out, nothing was done
pub record IsNotMade {S : Type 0} (f : Fault) (old new : DeskState S) : Type 0 where
  pub memory : f ≡ fault.Memory → new ≡ old
  pub stops : StopsAt old.office f new

-- a crash leaves the rows that a change makes; or, by the fault, those or the rows before it
abbrev pub ChangeLeaves : State → Change → Result Answer Fault → sqlite.State → Type 0
ChangeLeaves s change (Ok answer) file = ContainsRows (rows_of (all_writes change.writes.items s)) file
ChangeLeaves s change (Err f) file = StopsLeaving s (all_writes change.writes.items s) f file

-- ---- a reading

-- something is read of the office in memory
pub record Reads {S X : Type 0} (desk : DeskState S) (Is : X → Type 0) (result : Result X Fault) : Type 0 where
  -- what is reported is so, and by an open desk alone
  pub ok : IfOk result Is
  pub is_open : OnOk result (desk.is_poisoned ≡ false)
  -- a fault is lack of memory, or the desk was poisoned, which always is one
  pub err : IfErr result (λ f. (f ≡ fault.Memory) ⊎ (f ≡ fault.Reopen) × IsTrue desk.is_poisoned)
  pub gone : IsTrue desk.is_poisoned → result ≡ Err fault.Reopen
