-- A journal, the settings that it names, and the lines of a gate itself. Source: docs/ACCESS.md, "The journal".
use Rattle.std.specs.Prelude.{◌≡◌, ◌≢◌, ◌⊎◌, ℕ, List, Option, Result, Ok, Err}
use Rattle.office_journal.specs.Kinds.{begun_fields, ended_fields, settings_fields}
use Rattle.office_journal.specs.Noting.{IsNoted}
use Rattle.office_journal.specs.declared.gate.Begun.{Begun}
use Rattle.office_journal.specs.declared.gate.Ended.{Ended}
use Rattle.office_journal.specs.declared.gate.Settings.{Settings}
use Rattle.office_journal.specs.declared.journal.Journal.{Journal}
use Rattle.office_journal.specs.declared.unwritten.Unwritten.{Unwritten}
use Rattle.office_journal.specs.declared.unwritten.Unwritten.TheVariants.{Memory}
use Rattle.office_noting.specs.declared.book.Book.{Book}

-- a journal, and the SHA-256 of the settings in its last line `opened` or `settings`
pub record Ledger (W : Type 0) : Type 0 where
  pub journal : Journal W
  pub named : List ℕ

abbrev pub ledger_of : {W C : Type 0} → Book W C → Ledger W
ledger_of book = record { journal = book.journal; named = book.named }

-- ---- other settings

-- what came of the line of settings with this SHA-256: memory ran out before it; or it is written, or not
abbrev pub NotesSettings : {W : Type 0} → (W → Option (List ℕ)) → List ℕ → Result ℕ Unwritten → (old new : Journal W)
    → Type 0
NotesSettings contents digest result old new =
    ((result ≡ Err Memory) × (new ≡ old))
    ⊎ ((settings : Settings) × (settings.sha256 ≡ digest) × IsNoted contents old new (settings_fields settings) result)

-- the journal names these settings: it did before; or it named others, and does so by a line that is written now
abbrev pub NamesSettings : {W : Type 0} → (W → Option (List ℕ)) → List ℕ → (old new : Ledger W) → Type 0
NamesSettings contents digest old new =
    ((old.named ≡ digest) × (new ≡ old))
    ⊎ ((old.named ≢ digest) × (line : ℕ) × NotesSettings contents digest (Ok line) old.journal new.journal
    × (new.named ≡ digest))

-- it names others, and the line of these is not written
abbrev pub LacksSettings : {W : Type 0} → (W → Option (List ℕ)) → List ℕ → Unwritten → (old new : Ledger W) → Type 0
LacksSettings contents digest why old new =
    (old.named ≢ digest) × NotesSettings contents digest (Err why) old.journal new.journal × (new.named ≡ old.named)

-- ---- the begin and the end

-- a book goes on behind the line `opened`, which names these settings
abbrev pub BeginsBook : {W C : Type 0} → (W → Option (List ℕ)) → List ℕ → Journal W → Book W C → Type 0
BeginsBook contents digest journal book =
    (begun : Begun) × (begun.settings ≡ digest) × (line : ℕ)
    × IsNoted contents journal book.journal (begun_fields begun) (Ok line) × (book.named ≡ digest)

-- why there is no book: memory ran out, or that line is not written
abbrev pub LacksBegin : {W : Type 0} → (W → Option (List ℕ)) → List ℕ → Journal W → Unwritten → Type 0
LacksBegin {W} contents digest journal why =
    (why ≡ Memory)
    ⊎ ((begun : Begun) × (begun.settings ≡ digest) × (after : Journal W)
    × IsNoted contents journal after (begun_fields begun) (Err why))

-- what came of the line `closed`
abbrev pub NotesEnd : {W : Type 0} → (W → Option (List ℕ)) → Result ℕ Unwritten → (old new : Journal W) → Type 0
NotesEnd contents result old new =
    ((result ≡ Err Memory) × (new ≡ old))
    ⊎ ((ended : Ended) × IsNoted contents old new (ended_fields ended) result)
