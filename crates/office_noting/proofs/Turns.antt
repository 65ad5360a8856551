-- What a session does at the desk, and what it leaves in the journal.
use Rattle.std.proofs.Common.{◌≡◌, ◌∙◌, ◌⊎◌, inl, inr, ℕ, zero, suc, ◌+◌, List, Option, Some, Result, Ok, Err, refl, sym, subst}
use Rattle.std.specs.Result.{result_ok}
use native.Mathlib.Numerals.{unary_clauses}
use Rattle.sqlite_trees.specs.declared.store.Store.{Ghosts}
use Rattle.office_desk.specs.Desk.{DeskState}
use Rattle.office_gate.specs.Exchanges.{HasStatedReply}
use Rattle.office_gate.specs.InForce.{IsPolicyIn}
use Rattle.office_gate.specs.Visitors.{visitor_of}
use Rattle.office_http.specs.Receiving.{OfficeRequest, acts, cut, refused, requested}
use Rattle.office_http.specs.Replies.{Response}
use Rattle.office_http.specs.declared.path_request.PathRequest.TheVariants as path
use Rattle.office_json.specs.Lists.{NoActs, acts_in}
use Rattle.office_noting.specs.Arrivals.{NotesVisit}
use Rattle.office_noting.specs.Ledgers.{Ledger}
use Rattle.office_noting.specs.Noted.{IsNotedFirst, IsNotedReply, NotesList, ServesIfNoted}
use Rattle.office_noting.specs.Sessions.{ChangesAreAsked, IsDigestOf, IsReading, IsServedOrAsked, NotedTurn, NotedTurns, acts_asked}
use Rattle.office_noting.specs.declared.arrival.Arrival.{Arrival}
use Rattle.office_noting.specs.declared.visit.Visit.{Visit}
use Rattle.office_noting.proofs.Lines.{asked_in, asked_within, first_moves}
use Rattle.office_noting.proofs.Moves.{Moves, moves_none, moves_on}
use Rattle.office_journal.specs.declared.unwritten.Unwritten.{Unwritten}
use Rattle.office_rules.specs.declared.act.Act.{Act}

-- ---- one request

module _ {W S : Type 0} (contents : W → Option (List ℕ)) (g : Ghosts S) (visit : Visit) (ledger after : Ledger W) (old new : DeskState S) where
  -- it cannot change an office; or nothing is done; or it is noted first
  abbrev Kinds : OfficeRequest → Response → Type 0
  Kinds request r =
      (IsReading request × HasStatedReply g (Some (visitor_of visit.keeper)) request r old new × (after ≡ ledger))
      ⊎ ((after ≡ ledger) × (new ≡ old))
      ⊎ IsNotedFirst contents g visit request (acts_asked request) r ledger after old new

  listed : (body : List ℕ) (read : Result (List Act) NoActs) (r : Response) → acts_in body ≡ read
      → NotesList contents g visit body read r ledger after old new → Kinds (acts body) r
  listed body (Err why) r is it = inr (inl (it.1, it.2))
  listed body (Ok all) r is (inl it) = inr (inl (it.1, it.2))
  listed body (Ok all) r is (inr it) =
      inr (inr (subst (λ (read : Result (List Act) NoActs). IsNotedFirst contents g visit (acts body) (result_ok read) r ledger after old new) (sym is) it))

  by_kind : (request : OfficeRequest) (r : Response) → IsNotedReply contents g visit request r ledger after old new → Kinds request r
  by_kind (acts body) r it = listed body (acts_in body) r refl it
  by_kind (refused check) r it = inl (tt, it.0, it.1)
  by_kind cut r it = inl (tt, it.0, it.1)
  by_kind (requested path.Resume) r it = inr (inr it)
  by_kind (requested (path.Record n)) r it = inl (tt, it.0, it.1)
  by_kind (requested (path.Content n)) r it = inl (tt, it.0, it.1)
  by_kind (requested (path.Due day)) r it = inl (tt, it.0, it.1)
  by_kind (requested (path.Overdue day count)) r it = inl (tt, it.0, it.1)
  by_kind (requested (path.Certificate run)) r it = inl (tt, it.0, it.1)

  kind_moves : (request : OfficeRequest) (r : Response) → Kinds request r → Moves contents ledger after
  kind_moves request r (inl it) = moves_none contents ledger after it.2
  kind_moves request r (inr (inl it)) = moves_none contents ledger after it.0
  kind_moves request r (inr (inr it)) = first_moves contents g visit request (acts_asked request) r ledger after old new it

  abbrev Changes : Type 0
  Changes = (new ≡ old) ⊎ IsServedOrAsked contents g ledger after old new

  -- a request whose line is written was served
  first_served : (request : OfficeRequest) (r : Response) (result : Result ℕ Unwritten) (asked : Ledger W) → ServesIfNoted contents g visit request result r asked after old new
      → (new ≡ old) ⊎ ((done : Response) × HasStatedReply g (Some (visitor_of visit.keeper)) request done old new)
  first_served request r (Err why) asked serves = inl serves.2
  first_served request r (Ok line) asked serves = inr (serves.done, serves.served)

  kind_changes : (request : OfficeRequest) (r : Response) → IsDigestOf visit.keeper.policy.now visit.settings → Kinds request r → Changes
  kind_changes request r judged (inl it) = inr (visit, judged, request, r, it.1, inl it.0)
  kind_changes request r judged (inr (inl it)) = inl it.1
  kind_changes request r judged (inr (inr it)) =
      elim (first_served request r it.result it.asked it.serves) [
        | inl same ↦ inl same
        | inr served ↦
            elim (asked_in contents g visit request (acts_asked request) r ledger after old new it) [
              | inl same ↦ inl same
              | inr line ↦ inr (visit, judged, request, served.0, served.1, inr line)
            ]
      ]

-- ---- one connection

module _ {W S : Type 0} (contents : W → Option (List ℕ)) (g : Ghosts S) where
  turn_moves : (ledger after : Ledger W) (old new : DeskState S) → NotedTurn contents g ledger after old new → Moves contents ledger after
  turn_moves ledger after old new (inl none) = moves_none contents ledger after none.0
  turn_moves ledger after old new (inr (visit, judged, request, r, it)) =
      kind_moves contents g visit ledger after old new request r (by_kind contents g visit ledger after old new request r it)

  turn_changes : (ledger after : Ledger W) (old new : DeskState S) → NotedTurn contents g ledger after old new → (new ≡ old) ⊎ IsServedOrAsked contents g ledger after old new
  turn_changes ledger after old new (inl none) = inl none.1
  turn_changes ledger after old new (inr (visit, judged, request, r, it)) =
      kind_changes contents g visit ledger after old new request r judged (by_kind contents g visit ledger after old new request r it)

  -- what stands in a part of what was written stands in the whole
  change_within : (first ledger after last : Ledger W) (old new : DeskState S) → Moves contents first ledger → Moves contents after last
      → (new ≡ old) ⊎ IsServedOrAsked contents g ledger after old new → (new ≡ old) ⊎ IsServedOrAsked contents g first last old new
  change_within first ledger after last old new one two (inl same) = inl same
  change_within first ledger after last old new one two (inr (visit, judged, request, r, served, inl reading)) = inr (visit, judged, request, r, served, inl reading)
  change_within first ledger after last old new one two (inr (visit, judged, request, r, served, inr line)) =
      inr (visit, judged, request, r, served, inr (asked_within contents visit request (acts_asked request) first ledger after last one line two))

  changes_within : (n : ℕ) (first ledger last : Ledger W) (old new : DeskState S) → Moves contents ledger last
      → ChangesAreAsked contents g first ledger n old new → ChangesAreAsked contents g first last n old new
  unfolding ChangesAreAsked
  changes_within zero first ledger last old new moved it = it
  changes_within (suc n) first ledger last old new moved (desk, before, change) = (
    desk,
    changes_within n first ledger last old desk moved before,
    change_within first first ledger last desk new (moves_none contents first first refl) moved change,
  )

  -- ---- connections one after another

  turns_moves : (n : ℕ) (first last : Ledger W) (old new : DeskState S) → NotedTurns contents g n first last old new → Moves contents first last
  unfolding NotedTurns
  turns_moves zero first last old new it = moves_none contents first last it.0
  turns_moves (suc n) first last old new (ledger, desk, before, turn) =
      moves_on contents first ledger last (turns_moves n first ledger old desk before) (turn_moves ledger last desk new turn)

  pub turns_asked : (n : ℕ) (first last : Ledger W) (old new : DeskState S) → NotedTurns contents g n first last old new → ChangesAreAsked contents g first last n old new
  unfolding NotedTurns ChangesAreAsked
  turns_asked zero first last old new it = it.1
  turns_asked (suc n) first last old new (ledger, desk, before, turn) = (
    desk,
    changes_within n first ledger last old desk (turn_moves ledger last desk new turn) (turns_asked n first ledger old desk before),
    change_within first ledger last last desk new (turns_moves n first ledger old desk before) (moves_none contents last last refl)
        (turn_changes ledger last desk new turn),
  )

  pub no_turns : (ledger : Ledger W) (desk : DeskState S) → NotedTurns contents g 0 ledger ledger desk desk
  unfolding NotedTurns
  no_turns ledger desk = (refl, refl)

  pub one_turn_more : (n : ℕ) (first ledger last : Ledger W) (old desk new : DeskState S) → NotedTurns contents g n first ledger old desk → NotedTurn contents g ledger last desk new
      → NotedTurns contents g (n + 1) first last old new
  unfolding NotedTurns
  one_turn_more n first ledger last old desk new before turn = simp unary_clauses (ledger, desk, before, turn)

  -- a visitor whom the gate judges is judged by its file
  pub judged_turn : (arrival : Arrival) (ledger after : Ledger W) (old new : DeskState S) → IsDigestOf arrival.gate.now.policy arrival.settings
      → NotesVisit contents g arrival ledger after old new → NotedTurn contents g ledger after old new
  judged_turn arrival ledger after old new digest (inl none) = inl none
  judged_turn arrival ledger after old new digest (inr (visit, at, request, r, it)) =
      inr (
        visit,
        record { text = digest.text; has = subst (IsPolicyIn digest.text) (sym at.policy) digest.has; sum = at.settings ∙ digest.sum },
        request,
        r,
        it,
      )
