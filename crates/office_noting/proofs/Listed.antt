-- The line of a request.
use Rattle.std.proofs.Common.{◌≡◌, ◌∙◌, ap, refl, ℕ, List, Option, Some, None, Result, Ok, Err, inl}
use Rattle.std.specs.Borrow.{Bor}
use Rattle.std.specs.Prelude.{IsSomeAnd}
use Rattle.serde_json.specs.Read.{read}
use Rattle.sqlite_trees.specs.declared.store.Store.{Ghosts}
use Rattle.office_desk.specs.Desk.{DeskState}
use Rattle.office_http.specs.Replies.{Response}
use Rattle.office_json.specs.Lists.{NoActs}
use Rattle.office_notes.specs.Acts.{notes}
use Rattle.office_noting.specs.Ledgers.{Ledger}
use Rattle.office_noting.specs.Noted.{IsUnread, NotesList}
use Rattle.office_noting.specs.Requests.{HasNotes}
use Rattle.office_noting.specs.declared.visit.Visit.{Visit}
use Rattle.office_rules.specs.declared.act.Act.{Act}

pub has_notes : (all : List Act) (text : List ℕ) (acts : Option (Bor (List ℕ))) → IsSomeAnd acts (λ t. t.now ≡ text) → read text ≡ Some (notes all) → HasNotes (Some all) acts
has_notes all text None it is = absurd it
has_notes all text (Some t) it is = ap read it ∙ is

-- nothing is done or noted
pub left_out : {W S : Type 0} (contents : W → Option (List ℕ)) (g : Ghosts S) (visit : Visit) (body : List ℕ) (read : Result (List Act) NoActs) (r : Response)
    (ledger : Ledger W) (desk : DeskState S) → IsUnread read r → NotesList contents g visit body read r ledger ledger desk desk
left_out contents g visit body (Ok all) r ledger desk it = inl (it, refl, refl)
left_out contents g visit body (Err why) r ledger desk it = (it, refl, refl)
