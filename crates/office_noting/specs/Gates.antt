-- A gate that notes what it does. Source: docs/ACCESS.md, "The journal".
use Rattle.std.specs.Prelude.{◌≡◌, ℕ, List, Option}
use Rattle.office_gate.specs.declared.access.Access.{Access}
use Rattle.office_journal.specs.declared.journal.Journal.{Journal}
use Rattle.office_noting.specs.Ledgers.{BeginsBook}
use Rattle.office_noting.specs.Sessions.{IsDigestOf}
use Rattle.office_noting.specs.declared.sessions.NotingGate.{NotingGate}

-- the SHA-256 that the gate names is that of the file that its settings are those of
abbrev pub HasItsDigest : {T W C : Type 0} → NotingGate T W C → Type 0
HasItsDigest gate = IsDigestOf gate.access.gate.policy gate.settings

-- a gate goes on behind the line `opened`, which names its settings
pub record OpensGate {T W C : Type 0} (contents : W → Option (List ℕ)) (first : Access T) (journal : Journal W)
    (gate : NotingGate T W C) : Type 0 where
  pub access : gate.access ≡ first
  pub digest : HasItsDigest gate
  pub begins : BeginsBook contents gate.settings journal gate.book
