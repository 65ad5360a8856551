-- How the reading of a content ends: for the desk in memory, and over a clean disk. Source: own.
use Rattle.std.specs.Prelude.{◌≡◌, ◌≢◌, ℕ, false, List, MatchResult, IsTrue, Vec, Option, None, Result, Ok, Err, option_map}
use Rattle.std.specs.Global.{Global}
use Rattle.sqlite.specs.Held.{state}
use Rattle.sqlite_trees.specs.declared.store.Store.{Ghosts}
use Rattle.office_rules.specs.State.{State}
use Rattle.office_store.specs.RepresentsRows.{LeavesOffices}
use Rattle.office_store.specs.declared.fault.Fault.{Fault}
use Rattle.office_store.specs.declared.fault.Fault.TheVariants as fault
use Rattle.office_desk.specs.Desk.{DeskState}
use Rattle.office_desk.specs.Leaving.{HasContent, IsAt, IsContentReported, IsOtherContent, LeavesRowsOf}

-- what was found: the bytes of a content, that there is none, or a fault
abbrev pub content_found : Result (Option (Vec ℕ Global)) Fault → Result (Option (List ℕ)) Fault
content_found (Ok content) = Ok (option_map (λ it. it.items) content)
content_found (Err f) = Err f

-- the fault of a reading: a desk that is open reports no `Reopen`, and `Store` poisons it
pub record IsContentFault {S : Type 0} (f : Fault) (new : DeskState S) : Type 0 where
  pub faults : (f ≢ fault.Reopen) × (f ≢ fault.Version)
  pub poisoned : f ≡ fault.Store → IsTrue new.is_poisoned

-- ---- in memory

-- the office stays; of a record without content nothing is asked of the tables
pub record IsContentAnswered {S : Type 0} (r : ℕ) (result : Result (Option (Vec ℕ Global)) Fault) (old new : DeskState S)
    : Type 0 where
  pub ends : MatchResult result (λ content. new.is_poisoned ≡ false) (λ f. IsContentFault f new)
  pub office : new.office ≡ old.office
  pub absent : (HasContent old.office.tree r → ⊥) → (result ≡ Ok None) × (new ≡ old)

-- ---- over a clean disk

-- a content is reported, and the desk stays where it was
pub record IsContentTaken {S : Type 0} (g : Ghosts S) (s : State) (r : ℕ) (bytes : Option (List ℕ)) (new : DeskState S)
    : Type 0 where
  pub reported : IsContentReported s r bytes
  pub represents : IsAt g s new

-- a content is not reported; but where the database failed, the desk stays where it was
pub record IsContentMissed {S : Type 0} (g : Ghosts S) (s : State) (r : ℕ) (f : Fault) (new : DeskState S) : Type 0 where
  pub faults : (f ≢ fault.Reopen) × (f ≢ fault.Version)
  pub damaged : f ≡ fault.Damaged → IsOtherContent s r
  pub poisoned : f ≡ fault.Store → IsTrue new.is_poisoned
  pub kept : f ≢ fault.Store → IsAt g s new

-- how the reading ends, and that a crash leaves the state
pub record IsContentRead {S : Type 0} (g : Ghosts S) (s : State) (r : ℕ) (found : Result (Option (List ℕ)) Fault)
    (new : DeskState S) : Type 0 where
  pub ends : MatchResult found (λ bytes. IsContentTaken g s r bytes new) (λ f. IsContentMissed g s r f new)
  pub leaves : LeavesRowsOf s (state g new.connection)
  pub offices : LeavesOffices (state g new.connection)
