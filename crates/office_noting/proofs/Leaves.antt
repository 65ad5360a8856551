-- Where a noted request leaves the desk.
use Rattle.std.proofs.Common.{◌≡◌, inl, inr, refl, sym, subst, ℕ, List, Option, Some, None, Result, Ok, Err}
use Rattle.sqlite_trees.specs.declared.store.Store.{Ghosts}
use Rattle.office_desk.specs.Desk.{DeskState}
use Rattle.office_gate.specs.Exchanges.{HasStatedReply, IsStatedServed, LeavesVisited}
use Rattle.office_gate.specs.Visitors.{visitor_of}
use Rattle.office_http.specs.Receiving.{OfficeRequest, acts, cut, refused, requested}
use Rattle.office_http.specs.Replies.{Response}
use Rattle.office_http.specs.declared.path_request.PathRequest.TheVariants as path
use Rattle.office_journal.specs.declared.unwritten.Unwritten.{Unwritten}
use Rattle.office_json.specs.Lists.{NoActs, acts_in}
use Rattle.office_noting.specs.Ledgers.{Ledger}
use Rattle.office_noting.specs.Noted.{IsNotedFirst, IsNotedReply, NotesList, ServesIfNoted}
use Rattle.office_noting.specs.Replies.{reply_after, unnoted_response}
use Rattle.office_noting.specs.declared.visit.Visit.{Visit}
use Rattle.office_rules.specs.declared.act.Act.{Act}
use Rattle.office_wire.specs.Answering.{IsUnavailable}
use Rattle.office_wire.specs.Calling.{AnsweredAt}
use Rattle.office_wire.proofs.Calls.{answered, not_answered}

unnoted_unavailable : IsUnavailable unnoted_response
unfolding unnoted_response
unnoted_unavailable = refl

module _ {W S : Type 0} (contents : W → Option (List ℕ)) (g : Ghosts S) (visit : Visit) (old new : DeskState S) where
  abbrev pub Left : Response → Type 0
  Left r = AnsweredAt g old new (λ t. LeavesVisited g t visit.keeper.policy.now new) (Unit {0}) (IsUnavailable r)

  stays : (r : Response) → new ≡ old → Left r
  stays r same =
      subst (λ (desk : DeskState S). AnsweredAt g old desk (λ t. LeavesVisited g t visit.keeper.policy.now desk) (Unit {0}) (IsUnavailable r)) (sym same)
      (not_answered g old (λ t. LeavesVisited g t visit.keeper.policy.now old) (Unit {0}) (IsUnavailable r) (λ t at. inl at) tt)

  served : (request : OfficeRequest) (done r : Response) → (IsUnavailable done → IsUnavailable r)
      → HasStatedReply g (Some (visitor_of visit.keeper)) request done old new → Left r
  served request done r reports it =
      answered g old new (λ t. IsStatedServed g t (Some (visitor_of visit.keeper)) request done new)
      (λ t. LeavesVisited g t visit.keeper.policy.now new) (Unit {0}) (Unit {0}) (IsUnavailable done) (IsUnavailable r) it
      (λ t one. inr (Some (visitor_of visit.keeper), refl, request, done, one)) (λ gone. tt) reports

  after_noting : (done : Response) (result : Result ℕ Unwritten) → IsUnavailable done → IsUnavailable (reply_after done result)
  after_noting done (Ok line) is = is
  after_noting done (Err why) is = unnoted_unavailable

  module _ (request : OfficeRequest) (all : Option (List Act)) (r : Response) (ledger after : Ledger W) where
    first_by : (result : Result ℕ Unwritten) (mid : Ledger W) → ServesIfNoted contents g visit request result r mid after old new → Left r
    first_by (Err why) mid it = stays r it.2
    first_by (Ok line) mid it =
        subst Left (sym it.replied) (served request it.done (reply_after it.done it.result) (after_noting it.done it.result) it.served)

    first : IsNotedFirst contents g visit request all r ledger after old new → Left r
    first it = first_by it.result it.asked it.serves

  listed : (body : List ℕ) (read : Result (List Act) NoActs) (r : Response) (ledger after : Ledger W)
      → NotesList contents g visit body read r ledger after old new → Left r
  listed body (Err why) r ledger after it = stays r it.2
  listed body (Ok all) r ledger after (inl it) = stays r it.2
  listed body (Ok all) r ledger after (inr it) = first (acts body) (Some all) r ledger after it

  pub left : (request : OfficeRequest) (r : Response) (ledger after : Ledger W) → IsNotedReply contents g visit request r ledger after old new → Left r
  left (acts body) r ledger after it = listed body (acts_in body) r ledger after it
  left (refused check) r ledger after it = served (refused check) r r (λ is. is) it.0
  left cut r ledger after it = served cut r r (λ is. is) it.0
  left (requested path.Resume) r ledger after it = first (requested path.Resume) None r ledger after it
  left (requested (path.Record n)) r ledger after it = served (requested (path.Record n)) r r (λ is. is) it.0
  left (requested (path.Content n)) r ledger after it = served (requested (path.Content n)) r r (λ is. is) it.0
  left (requested (path.Due day)) r ledger after it = served (requested (path.Due day)) r r (λ is. is) it.0
  left (requested (path.Overdue day count)) r ledger after it = served (requested (path.Overdue day count)) r r (λ is. is) it.0
  left (requested (path.Certificate run)) r ledger after it = served (requested (path.Certificate run)) r r (λ is. is) it.0
