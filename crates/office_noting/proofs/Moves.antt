-- What lines leave in a journal, and which settings it names then.
use Rattle.std.proofs.Common.{◌≡◌, ◌∙◌, ap, inl, inr, ℕ, List, [], ◌++◌, Option, Result, Ok, Err, append_assoc, refl, sym, subst}
use Rattle.std.specs.Io.KnownBytes.{Appends}
use Rattle.std.proofs.KnownBytes.{Appends-nil, Appends-trans}
use Rattle.office_http.specs.Receiving.{OfficeRequest}
use Rattle.office_http.specs.Replies.{Response}
use Rattle.office_journal.specs.Kinds.{settings_fields}
use Rattle.office_journal.specs.Members.{Field, answered_fields, asked_fields}
use Rattle.office_journal.specs.Noting.{IsNoted, line_of, with_feed, writer_of}
use Rattle.office_journal.specs.declared.journal.Journal.{Journal}
use Rattle.office_journal.specs.declared.unwritten.Unwritten.{Unwritten}
use Rattle.office_journal.specs.declared.unwritten.Unwritten.TheVariants.{Memory, NoJson, Full, Io, Poisoned}
use Rattle.office_noting.specs.InJournal.{AreNamedIn}
use Rattle.office_noting.specs.Ledgers.{LacksSettings, Ledger, NamesSettings, NotesSettings}
use Rattle.office_noting.specs.Noted.{NotesAnswered, NotesAsked, NotesRequest}
use Rattle.office_noting.specs.declared.visit.Visit.{Visit}
use Rattle.office_rules.specs.declared.act.Act.{Act}

-- ---- bytes

module _ {W : Type 0} (contents : W → Option (List ℕ)) where
  abbrev pub Grows : Journal W → Journal W → List ℕ → Type 0
  Grows old new more = Appends (contents (writer_of old)) (contents (writer_of new)) more

  pub stays : (old new : Journal W) → new ≡ old → Grows old new []
  stays old new same = subst (λ (j : Journal W). Grows old j []) (sym same) (Appends-nil (contents (writer_of old)))

  -- whatever came of a line, what was there before stays in front
  pub grows : (fields : List Field) (old new : Journal W) (result : Result ℕ Unwritten) → IsNoted contents old new fields result → (more : List ℕ) × Grows old new more
  grows fields old new (Ok line) it = (_, it.3.written)
  grows fields old new (Err Memory) it = ([], stays old new it)
  grows fields old new (Err NoJson) it = ([], stays old new it)
  grows fields old new (Err Full) it = ([], stays old new it.0)
  grows fields old new (Err Io) it = (_, it.0.out)
  grows fields old new (Err Poisoned) it = ([], stays old new it.0)

  pub answer_grows : (request : OfficeRequest) (line : ℕ) (r : Response) (result : Result ℕ Unwritten) (old new : Journal W)
      → NotesAnswered contents request line r result old new → (more : List ℕ) × Grows old new more
  answer_grows request line r result old new (inl none) = ([], stays old new none.1)
  answer_grows request line r result old new (inr (answered, is, noted)) = grows (answered_fields answered) old new result noted

  pub request_grows : (visit : Visit) (request : OfficeRequest) (all : Option (List Act)) (result : Result ℕ Unwritten) (old new : Journal W)
      → NotesRequest contents visit request all result old new → (more : List ℕ) × Grows old new more
  request_grows visit request all result old new (inl none) = ([], stays old new none.1)
  request_grows visit request all result old new (inr (asked, is, noted)) = grows (asked_fields asked) old new result noted

  settings_grow : (digest : List ℕ) (result : Result ℕ Unwritten) (old new : Journal W)
      → NotesSettings contents digest result old new → (more : List ℕ) × Grows old new more
  settings_grow digest result old new (inl none) = ([], stays old new none.1)
  settings_grow digest result old new (inr (settings, is, noted)) = grows (settings_fields settings) old new result noted

-- ---- the settings that are named

module _ {W : Type 0} (first : Ledger W) (digest bytes more : List ℕ) where
  pub named_within : AreNamedIn first digest bytes → AreNamedIn first digest (bytes ++ more)
  named_within (inl same) = inl same
  named_within (inr (head, settings, is, before, rest, at)) =
      let line : List ℕ = with_feed (line_of head (settings_fields settings)) in
      inr (head, settings, is, before, rest ++ more, ap (λ (l : List ℕ). l ++ more) at ∙ append_assoc (before ++ line) rest more)

pub named_behind : {W : Type 0} (first ledger : Ledger W) (digest bytes more : List ℕ) → AreNamedIn first ledger.named bytes → AreNamedIn ledger digest more
    → AreNamedIn first digest (bytes ++ more)
named_behind first ledger digest bytes more was (inl same) =
    subst (λ (d : List ℕ). AreNamedIn first d (bytes ++ more)) same (named_within first ledger.named bytes more was)
named_behind first ledger digest bytes more was (inr (head, settings, is, before, rest, at)) =
    let line : List ℕ = with_feed (line_of head (settings_fields settings)) in
    inr (
      head,
      settings,
      is,
      bytes ++ before,
      rest,
      ap (λ (l : List ℕ). bytes ++ l) at ∙ sym (append_assoc bytes (before ++ line) rest) ∙ ap (λ (l : List ℕ). l ++ rest) (sym (append_assoc bytes before line)),
    )

-- ---- from one ledger to another

-- bytes are written behind what was there, and the settings that are named last are named there
pub record Moves {W : Type 0} (contents : W → Option (List ℕ)) (old new : Ledger W) : Type 0 where
  pub bytes : List ℕ
  pub grows : Appends (contents (writer_of old.journal)) (contents (writer_of new.journal)) bytes
  pub named : AreNamedIn old new.named bytes

module _ {W : Type 0} (contents : W → Option (List ℕ)) where
  pub moves_along : (old new : Ledger W) (more : List ℕ) → Grows contents old.journal new.journal more → new.named ≡ old.named → Moves contents old new
  moves_along old new more grown same = record { bytes = more; grows = grown; named = inl (sym same) }

  pub moves_none : (old new : Ledger W) → new ≡ old → Moves contents old new
  moves_none old new same =
      moves_along old new [] (stays contents old.journal new.journal (ap (λ (l : Ledger W). l.journal) same)) (ap (λ (l : Ledger W). l.named) same)

  pub moves_on : (first mid last : Ledger W) → Moves contents first mid → Moves contents mid last → Moves contents first last
  moves_on first mid last one two =
      record {
        bytes = one.bytes ++ two.bytes;
        grows = Appends-trans (contents (writer_of first.journal)) (contents (writer_of mid.journal)) (contents (writer_of last.journal)) one.bytes two.bytes one.grows two.grows;
        named = named_behind first mid last.named one.bytes two.bytes one.named two.named;
      }

  -- ---- the settings that decide a request

  pub names : (digest : List ℕ) (old new : Ledger W) → NamesSettings contents digest old new → new.named ≡ digest
  names digest old new (inl was) = ap (λ (l : Ledger W). l.named) was.1 ∙ was.0
  names digest old new (inr (others, line, noted, is)) = is

  settings_line : (digest : List ℕ) (line : ℕ) (old new : Ledger W) → NotesSettings contents digest (Ok line) old.journal new.journal → new.named ≡ digest → Moves contents old new
  settings_line digest line old new (inl none) is = absurd (let wrong = none.0 in cc)
  settings_line digest line old new (inr (settings, sum, noted)) is =
      record {
        bytes = [] ++ with_feed (line_of old.journal.head (settings_fields settings)) ++ [];
        grows = Appends-trans (contents (writer_of old.journal)) (contents (writer_of new.journal)) (contents (writer_of new.journal))
            (with_feed (line_of old.journal.head (settings_fields settings))) [] noted.3.written (Appends-nil (contents (writer_of new.journal)));
        named = inr (old.journal.head, settings, sum ∙ sym is, [], [], refl);
      }

  pub names_moves : (digest : List ℕ) (old new : Ledger W) → NamesSettings contents digest old new → Moves contents old new
  names_moves digest old new (inl was) = moves_none old new was.1
  names_moves digest old new (inr (others, line, noted, is)) = settings_line digest line old new noted is

  lacks_moves : (digest : List ℕ) (why : Unwritten) (old new : Ledger W) → LacksSettings contents digest why old new → Moves contents old new
  lacks_moves digest why old new it =
      let more = settings_grow contents digest (Err why) old.journal new.journal it.1 in
      moves_along old new more.0 more.1 it.2

  pub asked_moves : (visit : Visit) (request : OfficeRequest) (all : Option (List Act)) (result : Result ℕ Unwritten) (old new : Ledger W)
      → NotesAsked contents visit request all result old new → Moves contents old new
  asked_moves visit request all result old new (inl (why, is, lacks)) = lacks_moves visit.settings why old new lacks
  asked_moves visit request all result old new (inr (mid, named, noted, same)) =
      let more = request_grows contents visit request all result mid.journal new.journal noted in
      moves_on old mid new (names_moves visit.settings old mid named) (moves_along mid new more.0 more.1 same)
