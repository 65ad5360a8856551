-- The lines of a request stand in the journal.
use Rattle.std.proofs.Common.{◌≡◌, ◌∙◌, ◌⊎◌, ap, inl, inr, ℕ, List, [], ◌++◌, Option, Result, Ok, Err, append-nil, append_assoc, refl, sym, subst}
use Rattle.std.proofs.KnownBytes.{Appends-trans}
use Rattle.sqlite_trees.specs.declared.store.Store.{Ghosts}
use Rattle.office_desk.specs.Desk.{DeskState}
use Rattle.office_http.specs.Receiving.{OfficeRequest}
use Rattle.office_http.specs.Replies.{Response}
use Rattle.office_journal.specs.Members.{Field, answered_fields, asked_fields}
use Rattle.office_journal.specs.Noting.{IsNoted, line_of, with_feed, writer_of}
use Rattle.office_journal.specs.declared.journal.Journal.{Journal}
use Rattle.office_journal.specs.declared.unwritten.Unwritten.{Unwritten}
use Rattle.office_noting.specs.InJournal.{IsAnsweredIn, IsAskedIn, StandsIn}
use Rattle.office_noting.specs.Ledgers.{Ledger}
use Rattle.office_noting.specs.Noted.{IsNotedFirst, NotesAnswered, NotesAsked, NotesRequest, ServesIfNoted}
use Rattle.office_noting.specs.Replies.{reply_after, unasked_response, unnoted_response}
use Rattle.office_noting.specs.declared.visit.Visit.{Visit}
use Rattle.office_noting.proofs.Moves.{Grows, Moves, answer_grows, asked_moves, moves_along, moves_none, moves_on, named_behind, names, names_moves}
use Rattle.office_rules.specs.declared.act.Act.{Act}

-- ---- a line that is written stands in the journal, whatever comes before and after it

regrouped : (a b line c d : List ℕ) → a ++ (b ++ line ++ c) ++ d ≡ (a ++ b) ++ line ++ (c ++ d)
regrouped a b line c d =
    ap (λ (l : List ℕ). l ++ d) (sym (append_assoc a (b ++ line) c) ∙ ap (λ (l : List ℕ). l ++ c) (sym (append_assoc a b line)))
    ∙ append_assoc ((a ++ b) ++ line) c d

module _ {W : Type 0} (contents : W → Option (List ℕ)) where
  stands : (fields : List Field) (line : ℕ) (old mid new : Journal W) (more : List ℕ) → IsNoted contents old mid fields (Ok line)
      → Grows contents mid new more → StandsIn contents old new fields
  stands fields line old mid new more it after =
      record {
        head = old.head;
        before = [];
        rest = more;
        written = Appends-trans (contents (writer_of old)) (contents (writer_of mid)) (contents (writer_of new)) (with_feed (line_of old.head fields)) more it.3.written after;
      }

  stands_last : (fields : List Field) (line : ℕ) (old mid new : Journal W) (before : List ℕ) → Grows contents old mid before
      → IsNoted contents mid new fields (Ok line) → StandsIn contents old new fields
  stands_last fields line old mid new before first it =
      record {
        head = mid.head;
        before = before;
        rest = [];
        written = subst (λ (l : List ℕ). Grows contents old new l) (sym (append-nil (before ++ with_feed (line_of mid.head fields))))
            (Appends-trans (contents (writer_of old)) (contents (writer_of mid)) (contents (writer_of new)) before (with_feed (line_of mid.head fields)) first it.3.written);
      }

  pub asked_within : (visit : Visit) (request : OfficeRequest) (all : Option (List Act)) (first ledger after last : Ledger W)
      → Moves contents first ledger → IsAskedIn contents visit request all ledger after → Moves contents after last → IsAskedIn contents visit request all first last
  asked_within visit request all first ledger after last one (asked, is, place, named) two =
      let line : List ℕ = with_feed (line_of place.head (asked_fields asked)) in
      let inner : List ℕ = place.before ++ line ++ place.rest in (
        asked,
        is,
        record {
          head = place.head;
          before = one.bytes ++ place.before;
          rest = place.rest ++ two.bytes;
          written = subst (Grows contents first.journal last.journal) (regrouped one.bytes place.before line place.rest two.bytes)
              (Appends-trans (contents (writer_of first.journal)) (contents (writer_of after.journal)) (contents (writer_of last.journal)) (one.bytes ++ inner) two.bytes
              (Appends-trans (contents (writer_of first.journal)) (contents (writer_of ledger.journal)) (contents (writer_of after.journal)) one.bytes inner one.grows place.written)
              two.grows);
        },
        named_behind first ledger visit.settings one.bytes place.before one.named named,
      )

  -- ---- a request

  module _ {S : Type 0} (g : Ghosts S) (visit : Visit) (request : OfficeRequest) (all : Option (List Act)) (r : Response)
      (ledger after : Ledger W) (old new : DeskState S) where
    serves_moves : (result : Result ℕ Unwritten) (asked : Ledger W) → ServesIfNoted contents g visit request result r asked after old new → Moves contents asked after
    serves_moves (Err why) asked serves = moves_none contents asked after serves.1
    serves_moves (Ok line) asked serves =
        let more = answer_grows contents request line serves.done serves.result asked.journal after.journal serves.noted in
        moves_along contents asked after more.0 more.1 serves.named

    pub first_moves : IsNotedFirst contents g visit request all r ledger after old new → Moves contents ledger after
    first_moves it =
        moves_on contents ledger it.asked after (asked_moves contents visit request all it.result ledger it.asked it.noted)
        (serves_moves it.result it.asked it.serves)

    line_asked : (line : ℕ) (mid asked : Ledger W) → mid.named ≡ visit.settings → NotesRequest contents visit request all (Ok line) mid.journal asked.journal
        → Moves contents asked after → IsAskedIn contents visit request all mid after
    line_asked line mid asked named (inl none) moved = absurd (let wrong = none.0 in cc)
    line_asked line mid asked named (inr (fields, is, noted)) moved =
        (fields, is, stands (asked_fields fields) line mid.journal asked.journal after.journal moved.bytes noted moved.grows, inl named)

    asked_by : (result : Result ℕ Unwritten) (asked : Ledger W) → NotesAsked contents visit request all result ledger asked
        → ServesIfNoted contents g visit request result r asked after old new → (new ≡ old) ⊎ IsAskedIn contents visit request all ledger after
    asked_by (Err why) asked noted serves = inl serves.2
    asked_by (Ok line) asked (inl (why, is, lacks)) serves = absurd (let wrong = is in cc)
    asked_by (Ok line) asked (inr (mid, named, noted, same)) serves =
        inr (asked_within visit request all ledger mid after after (names_moves contents visit.settings ledger mid named)
        (line_asked line mid asked (names contents visit.settings ledger mid named) noted (serves_moves (Ok line) asked serves))
        (moves_none contents after after refl))

    pub asked_in : IsNotedFirst contents g visit request all r ledger after old new → (new ≡ old) ⊎ IsAskedIn contents visit request all ledger after
    asked_in it = asked_by it.result it.asked it.noted it.serves

    -- ---- its answer

    abbrev IsReported : Response → Type 0
    IsReported reply = (reply ≡ unasked_response) ⊎ (reply ≡ unnoted_response) ⊎ IsAnsweredIn contents request reply ledger.journal after.journal

    replied : (line : ℕ) (asked : Ledger W) (before : List ℕ) → Grows contents ledger.journal asked.journal before → (done : Response) (result : Result ℕ Unwritten)
        → NotesAnswered contents request line done result asked.journal after.journal → IsReported (reply_after done result)
    replied line asked before first done (Err why) noted = inr (inl refl)
    replied line asked before first done (Ok number) (inl none) = absurd (let wrong = none.0 in cc)
    replied line asked before first done (Ok number) (inr (answered, is, noted)) =
        inr (inr (line, answered, is, stands_last (answered_fields answered) number ledger.journal asked.journal after.journal before first noted))

    answered_by : (result : Result ℕ Unwritten) (asked : Ledger W) → NotesAsked contents visit request all result ledger asked
        → ServesIfNoted contents g visit request result r asked after old new → IsReported r
    answered_by (Err why) asked noted serves = inl serves.0
    answered_by (Ok line) asked noted serves =
        let moved = asked_moves contents visit request all (Ok line) ledger asked noted in
        subst IsReported (sym serves.replied) (replied line asked moved.bytes moved.grows serves.done serves.result serves.noted)

    pub answered_in : IsNotedFirst contents g visit request all r ledger after old new → IsReported r
    answered_in it = answered_by it.result it.asked it.noted it.serves
