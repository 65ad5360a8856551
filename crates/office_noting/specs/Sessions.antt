-- Connections at a gate with a journal, one after another. Source: own.
use Rattle.std.specs.Prelude.{◌≡◌, ◌⊎◌, ℕ, zero, suc, List, Option, Some, None, ⊤}
use Rattle.std.specs.Result.{result_ok}
use Rattle.sha2.specs.Sha256.{sha256}
use Rattle.sqlite_trees.specs.declared.store.Store.{Ghosts}
use Rattle.office_access.specs.Settings.{Settings}
use Rattle.office_desk.specs.Desk.{DeskState}
use Rattle.office_gate.specs.Exchanges.{HasStatedReply}
use Rattle.office_gate.specs.InForce.{IsPolicyIn}
use Rattle.office_gate.specs.Visitors.{visitor_of}
use Rattle.office_http.specs.Receiving.{OfficeRequest, acts, requested}
use Rattle.office_http.specs.Replies.{Response}
use Rattle.office_http.specs.declared.path_request.PathRequest.TheVariants as path
use Rattle.office_json.specs.Lists.{acts_in}
use Rattle.office_noting.specs.Arrivals.{IsUntouched}
use Rattle.office_noting.specs.InJournal.{IsAskedIn}
use Rattle.office_noting.specs.Ledgers.{Ledger}
use Rattle.office_noting.specs.Noted.{IsNotedReply}
use Rattle.office_noting.specs.declared.visit.Visit.{Visit}
use Rattle.office_rules.specs.declared.act.Act.{Act}

-- a text is a file of settings: they have this policy, and the text this SHA-256
pub record IsDigestOf (policy : Settings) (digest : List ℕ) : Type 0 where
  pub text : List ℕ
  pub has : IsPolicyIn text policy
  pub sum : digest ≡ sha256 text

-- a visitor is judged by a file of settings, and the lines name its SHA-256
abbrev pub IsJudgedByFile : Visit → Type 0
IsJudgedByFile visit = IsDigestOf visit.keeper.policy.now visit.settings

-- one connection: nothing was done and nothing noted, or this came of a request
abbrev pub NotedTurn : {W S : Type 0} → (W → Option (List ℕ)) → Ghosts S → (ledger after : Ledger W)
    → (old new : DeskState S) → Type 0
NotedTurn contents g ledger after old new =
    IsUntouched ledger after old new
    ⊎ ((visit : Visit) × IsJudgedByFile visit × (request : OfficeRequest) × (r : Response)
    × IsNotedReply contents g visit request r ledger after old new)

-- that many connections, one after another
unfoldable pub NotedTurns : {W S : Type 0} → (W → Option (List ℕ)) → Ghosts S → ℕ → (first last : Ledger W)
    → (old new : DeskState S) → Type 0
NotedTurns contents g zero first last old new = IsUntouched first last old new
NotedTurns {W} {S} contents g (suc n) first last old new =
    (ledger : Ledger W) × (desk : DeskState S) × NotedTurns contents g n first ledger old desk
    × NotedTurn contents g ledger last desk new

-- ---- what the journal has of a session

-- a request that cannot change an office
abbrev pub IsReading : OfficeRequest → Type 0
IsReading (acts body) = ⊥
IsReading (requested path.Resume) = ⊥
IsReading request = ⊤

-- the acts that a request asks for, if they can be read
abbrev pub acts_asked : OfficeRequest → Option (List Act)
acts_asked (acts body) = result_ok (acts_in body)
acts_asked request = None

-- a request was served for a visitor; if it may change an office, its line stands in what was written from one moment to
-- another
abbrev pub IsServedOrAsked : {W S : Type 0} → (W → Option (List ℕ)) → Ghosts S → (first last : Ledger W)
    → (old new : DeskState S) → Type 0
IsServedOrAsked contents g first last old new =
    (visit : Visit) × IsJudgedByFile visit × (request : OfficeRequest) × (r : Response)
    × HasStatedReply g (Some (visitor_of visit.keeper)) request r old new
    × (IsReading request ⊎ IsAskedIn contents visit request (acts_asked request) first last)

-- each of that many connections left the desk as it was, or served such a request
unfoldable pub ChangesAreAsked : {W S : Type 0} → (W → Option (List ℕ)) → Ghosts S → (first last : Ledger W) → ℕ
    → (old new : DeskState S) → Type 0
ChangesAreAsked contents g first last zero old new = new ≡ old
ChangesAreAsked {W} {S} contents g first last (suc n) old new =
    (desk : DeskState S) × ChangesAreAsked contents g first last n old desk
    × ((new ≡ desk) ⊎ IsServedOrAsked contents g first last desk new)
