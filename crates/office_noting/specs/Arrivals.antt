-- One connection at a gate with a journal, by all its bytes. Source: own.
use Rattle.std.specs.Prelude.{◌≡◌, ◌⊎◌, ℕ, Bool, false, List, [], codes, map, Option, Some, None, unwrap_or}
use Rattle.httparse.specs.Spans.{name_and_value}
use Rattle.sqlite_trees.specs.declared.store.Store.{Ghosts}
use Rattle.office_desk.specs.Desk.{DeskState}
use Rattle.office_gate.specs.Replies.{token_response}
use Rattle.office_gate.specs.Stated.{stated_text, visitor_among}
use Rattle.office_gate.specs.Visitors.{Visitor, visitor_of}
use Rattle.office_http.specs.Fields.{Values, found_named}
use Rattle.office_http.specs.Receiving.{OfficeRequest, office_request}
use Rattle.office_http.specs.Replies.{Response, error_response, response}
use Rattle.office_http.specs.RequestPlans.{is_head_method}
use Rattle.office_http.specs.Requests.{Request, IsRequest, asks, headless, nothing}
use Rattle.office_http.specs.declared.request_error.RequestError.TheVariants as error
use Rattle.office_noting.specs.Ledgers.{Ledger}
use Rattle.office_noting.specs.Noted.{IsNotedReply}
use Rattle.office_noting.specs.declared.arrival.Arrival.{Arrival}
use Rattle.office_noting.specs.declared.visit.Visit.{Visit}
use Rattle.office_wire.specs.declared.exchange.OutgoingReply.{OutgoingReply}

-- nothing is done, and nothing noted
abbrev pub IsUntouched : {W S : Type 0} → (ledger after : Ledger W) → (old new : DeskState S) → Type 0
IsUntouched ledger after old new = (after ≡ ledger) × (new ≡ old)

-- memory ran out before anything was done
abbrev pub IsOutOfMemory : {W S : Type 0} → Response → (ledger after : Ledger W) → (old new : DeskState S) → Type 0
IsOutOfMemory r ledger after old new = (r ≡ error_response error.Memory) × IsUntouched ledger after old new

-- ---- who asks, and from where

-- the address that one line states; it is empty if there is no such line, there are several, or the bytes are no text
abbrev pub stated_address : Values → List ℕ
stated_address value = unwrap_or (stated_text value) []

-- by all fields of a head
abbrev pub address_among : List (List ℕ × List ℕ) → List ℕ
address_among fields = stated_address (found_named (codes "office-from") fields)

-- who is stated to ask, from where the request is stated to come, and under the settings of the gate
pub record IsVisitAt (arrival : Arrival) (address : List ℕ) (v : Visitor) (visit : Visit) : Type 0 where
  pub visitor : visitor_of visit.keeper ≡ v
  pub from : visit.from.now ≡ address
  pub settings : visit.settings ≡ arrival.settings

-- a visitor is judged by the settings of the gate, and the lines name these
pub record IsJudgedAt (arrival : Arrival) (visit : Visit) : Type 0 where
  pub policy : visit.keeper.policy.now ≡ arrival.gate.now.policy
  pub settings : visit.settings ≡ arrival.settings

-- ---- what a request comes to

-- for whoever is stated
abbrev pub IsNotedFor : {W S : Type 0} → (W → Option (List ℕ)) → Ghosts S → Arrival → List ℕ → Option Visitor
    → OfficeRequest → Response → (ledger after : Ledger W) → (old new : DeskState S) → Type 0
IsNotedFor contents g arrival address None request r ledger after old new =
    (r ≡ token_response) × IsUntouched ledger after old new
IsNotedFor contents g arrival address (Some v) request r ledger after old new =
    (visit : Visit) × IsVisitAt arrival address v visit × IsNotedReply contents g visit request r ledger after old new

abbrev pub IsNotedStated : {W S : Type 0} → (W → Option (List ℕ)) → Ghosts S → Arrival → List ℕ → Option Visitor
    → OfficeRequest → Response → (ledger after : Ledger W) → (old new : DeskState S) → Type 0
IsNotedStated contents g arrival address v request r ledger after old new =
    IsOutOfMemory r ledger after old new ⊎ IsNotedFor contents g arrival address v request r ledger after old new

-- the answer to what was received, whether to HEAD; a connection without a byte gets none
abbrev pub IsNotedRequest : {W S : Type 0} → (W → Option (List ℕ)) → Ghosts S → Arrival → Request → Bool → Response
    → (ledger after : Ledger W) → (old new : DeskState S) → Type 0
IsNotedRequest contents g arrival nothing is_head r ledger after old new = ⊥
IsNotedRequest contents g arrival headless is_head r ledger after old new =
    (is_head ≡ false) × (r ≡ error_response error.Head) × IsUntouched ledger after old new
IsNotedRequest contents g arrival (asks h rest) is_head r ledger after old new =
    (is_head ≡ is_head_method h.method)
    × IsNotedStated contents g arrival (address_among (map name_and_value h.fields))
    (visitor_among arrival.gate.now (map name_and_value h.fields)) (office_request h rest) r ledger after old new

-- the answer to all bytes of a connection
abbrev pub IsNotedToSend : {W S : Type 0} → (W → Option (List ℕ)) → Ghosts S → Arrival → List ℕ
    → Option OutgoingReply → (ledger after : Ledger W) → (old new : DeskState S) → Type 0
IsNotedToSend contents g arrival bytes None ledger after old new =
    IsRequest nothing bytes × IsUntouched ledger after old new
IsNotedToSend contents g arrival bytes (Some it) ledger after old new =
    ((q : Request) × IsRequest q bytes
    × IsNotedRequest contents g arrival q it.is_head (response it.reply) ledger after old new)
    ⊎ ((it.is_head ≡ false) × IsOutOfMemory (response it.reply) ledger after old new)

-- whatever came: nothing was done and nothing noted, or this came of a request under the settings of the gate
abbrev pub NotesVisit : {W S : Type 0} → (W → Option (List ℕ)) → Ghosts S → Arrival → (ledger after : Ledger W)
    → (old new : DeskState S) → Type 0
NotesVisit contents g arrival ledger after old new =
    IsUntouched ledger after old new
    ⊎ ((visit : Visit) × IsJudgedAt arrival visit × (request : OfficeRequest) × (r : Response)
    × IsNotedReply contents g visit request r ledger after old new)
