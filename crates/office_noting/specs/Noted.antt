-- The settings that decide a request are noted, then the request, then what it asks for is done, then the answer is noted,
-- and then it goes out. Source: docs/ACCESS.md, "The journal".
use Rattle.std.specs.Prelude.{◌≡◌, ◌⊎◌, ℕ, List, Option, Some, None, Result, Ok, Err}
use Rattle.sqlite_trees.specs.declared.store.Store.{Ghosts}
use Rattle.office_desk.specs.Desk.{DeskState}
use Rattle.office_gate.specs.Exchanges.{HasStatedReply}
use Rattle.office_gate.specs.Visitors.{visitor_of}
use Rattle.office_http.specs.Receiving.{OfficeRequest, acts, requested}
use Rattle.office_http.specs.Replies.{Response, error_response}
use Rattle.office_http.specs.declared.path_request.PathRequest.TheVariants as path
use Rattle.office_http.specs.declared.request_error.RequestError.TheVariants as error
use Rattle.office_journal.specs.Members.{answered_fields, asked_fields}
use Rattle.office_journal.specs.Noting.{IsNoted}
use Rattle.office_journal.specs.declared.answered.Answered.{Answered}
use Rattle.office_journal.specs.declared.asked.Asked.{Asked}
use Rattle.office_journal.specs.declared.journal.Journal.{Journal}
use Rattle.office_journal.specs.declared.unwritten.Unwritten.{Unwritten}
use Rattle.office_journal.specs.declared.unwritten.Unwritten.TheVariants.{Memory}
use Rattle.office_json.specs.Lists.{NoActs, acts_in, bad_act, not_json}
use Rattle.office_noting.specs.Ledgers.{LacksSettings, Ledger, NamesSettings}
use Rattle.office_noting.specs.Replies.{reply_after, unasked_response}
use Rattle.office_noting.specs.Requests.{IsAnswered, IsAsked}
use Rattle.office_noting.specs.declared.visit.Visit.{Visit}
use Rattle.office_rules.specs.declared.act.Act.{Act}
use Rattle.office_wire.specs.Replies.{bad_act_response}

-- ---- one line

-- what came of the line of a request: memory ran out before it; or it is written, or not
abbrev pub NotesRequest : {W : Type 0} → (W → Option (List ℕ)) → Visit → OfficeRequest → Option (List Act)
    → Result ℕ Unwritten → (old new : Journal W) → Type 0
NotesRequest contents visit request all result old new =
    ((result ≡ Err Memory) × (new ≡ old))
    ⊎ ((asked : Asked) × IsAsked visit request all asked × IsNoted contents old new (asked_fields asked) result)

-- the same behind the settings that decide the request; without their line it is not written
abbrev pub NotesAsked : {W : Type 0} → (W → Option (List ℕ)) → Visit → OfficeRequest → Option (List Act)
    → Result ℕ Unwritten → (old new : Ledger W) → Type 0
NotesAsked {W} contents visit request all result old new =
    ((why : Unwritten) × (result ≡ Err why) × LacksSettings contents visit.settings why old new)
    ⊎ ((mid : Ledger W) × NamesSettings contents visit.settings old mid
    × NotesRequest contents visit request all result mid.journal new.journal × (new.named ≡ mid.named))

-- what came of the line of its answer
abbrev pub NotesAnswered : {W : Type 0} → (W → Option (List ℕ)) → OfficeRequest → ℕ → Response
    → Result ℕ Unwritten → (old new : Journal W) → Type 0
NotesAnswered contents request line r result old new =
    ((result ≡ Err Memory) × (new ≡ old))
    ⊎ ((answered : Answered) × IsAnswered request line r answered
    × IsNoted contents old new (answered_fields answered) result)

-- ---- a request that may change the office

-- the line of the request is written: it was served as far as the visitor may have it, and the answer goes out once that
-- is noted
pub record IsServedNoted {W S : Type 0} (contents : W → Option (List ℕ)) (g : Ghosts S) (visit : Visit)
    (request : OfficeRequest) (line : ℕ) (r : Response) (ledger after : Ledger W) (old new : DeskState S)
    : Type 0 where
  pub done : Response
  pub served : HasStatedReply g (Some (visitor_of visit.keeper)) request done old new
  pub result : Result ℕ Unwritten
  pub noted : NotesAnswered contents request line done result ledger.journal after.journal
  pub named : after.named ≡ ledger.named
  pub replied : r ≡ reply_after done result

-- it was served once its line was written; without that line nothing was done
abbrev pub ServesIfNoted : {W S : Type 0} → (W → Option (List ℕ)) → Ghosts S → Visit → OfficeRequest
    → Result ℕ Unwritten → Response → (ledger after : Ledger W) → (old new : DeskState S) → Type 0
ServesIfNoted contents g visit request (Ok line) r ledger after old new =
    IsServedNoted contents g visit request line r ledger after old new
ServesIfNoted contents g visit request (Err why) r ledger after old new =
    (r ≡ unasked_response) × (after ≡ ledger) × (new ≡ old)

pub record IsNotedFirst {W S : Type 0} (contents : W → Option (List ℕ)) (g : Ghosts S) (visit : Visit)
    (request : OfficeRequest) (all : Option (List Act)) (r : Response) (ledger after : Ledger W)
    (old new : DeskState S) : Type 0 where
  pub asked : Ledger W
  pub result : Result ℕ Unwritten
  pub noted : NotesAsked contents visit request all result ledger asked
  pub serves : ServesIfNoted contents g visit request result r asked after old new

-- ---- any request

abbrev pub unread_response : NoActs → Response
unread_response not_json = error_response error.Json
unread_response (bad_act place why) = bad_act_response place why

-- the answer to a body of which this is read, if no act of it is to be done: why it has no acts, or lack of memory
abbrev pub IsUnread : Result (List Act) NoActs → Response → Type 0
IsUnread (Ok all) r = r ≡ error_response error.Memory
IsUnread (Err why) r = (r ≡ error_response error.Memory) ⊎ (r ≡ unread_response why)

-- nothing of a body is done or noted
abbrev pub IsLeftOut : {W S : Type 0} → Result (List Act) NoActs → Response → (ledger after : Ledger W)
    → (old new : DeskState S) → Type 0
IsLeftOut read r ledger after old new = IsUnread read r × (after ≡ ledger) × (new ≡ old)

-- a list of acts by what is read of it
abbrev pub NotesList : {W S : Type 0} → (W → Option (List ℕ)) → Ghosts S → Visit → List ℕ → Result (List Act) NoActs
    → Response → (ledger after : Ledger W) → (old new : DeskState S) → Type 0
NotesList contents g visit body (Ok all) r ledger after old new =
    IsLeftOut (Ok all) r ledger after old new
    ⊎ IsNotedFirst contents g visit (acts body) (Some all) r ledger after old new
NotesList contents g visit body (Err why) r ledger after old new = IsLeftOut (Err why) r ledger after old new

-- what does not change an office is answered without a line
abbrev pub IsServedAtOnce : {W S : Type 0} → Ghosts S → Visit → OfficeRequest → Response → (ledger after : Ledger W)
    → (old new : DeskState S) → Type 0
IsServedAtOnce g visit request r ledger after old new =
    HasStatedReply g (Some (visitor_of visit.keeper)) request r old new × (after ≡ ledger)

-- what a request comes to
abbrev pub IsNotedReply : {W S : Type 0} → (W → Option (List ℕ)) → Ghosts S → Visit → OfficeRequest → Response
    → (ledger after : Ledger W) → (old new : DeskState S) → Type 0
IsNotedReply contents g visit (acts body) r ledger after old new =
    NotesList contents g visit body (acts_in body) r ledger after old new
IsNotedReply contents g visit (requested path.Resume) r ledger after old new =
    IsNotedFirst contents g visit (requested path.Resume) None r ledger after old new
IsNotedReply contents g visit request r ledger after old new = IsServedAtOnce g visit request r ledger after old new
