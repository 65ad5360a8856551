-- A line stands in a journal. Source: own.
use Rattle.std.specs.Prelude.{◌≡◌, ◌⊎◌, ℕ, List, ◌++◌, Option}
use Rattle.std.specs.Io.KnownBytes.{Appends}
use Rattle.office_http.specs.Receiving.{OfficeRequest}
use Rattle.office_http.specs.Replies.{Response}
use Rattle.office_journal.specs.Kinds.{settings_fields}
use Rattle.office_journal.specs.Members.{Field, answered_fields, asked_fields}
use Rattle.office_journal.specs.Noting.{line_of, with_feed, writer_of}
use Rattle.office_journal.specs.declared.answered.Answered.{Answered}
use Rattle.office_journal.specs.declared.asked.Asked.{Asked}
use Rattle.office_journal.specs.declared.gate.Settings.{Settings}
use Rattle.office_journal.specs.declared.head.Head.{Head}
use Rattle.office_journal.specs.declared.journal.Journal.{Journal}
use Rattle.office_noting.specs.Ledgers.{Ledger}
use Rattle.office_noting.specs.Requests.{IsAnswered, IsAsked}
use Rattle.office_noting.specs.declared.visit.Visit.{Visit}
use Rattle.office_rules.specs.declared.act.Act.{Act}

-- a line with these members stands in what was written since
pub record StandsIn {W : Type 0} (contents : W → Option (List ℕ)) (journal after : Journal W) (fields : List Field)
    : Type 0 where
  pub head : Head
  pub before : List ℕ
  pub rest : List ℕ
  pub written : Appends (contents (writer_of journal)) (contents (writer_of after))
      (before ++ with_feed (line_of head fields) ++ rest)

-- these settings are the last that the journal names in front of some bytes, or a line in these bytes has them
abbrev pub AreNamedIn : {W : Type 0} → Ledger W → List ℕ → List ℕ → Type 0
AreNamedIn ledger digest bytes =
    (ledger.named ≡ digest)
    ⊎ ((head : Head) × (settings : Settings) × (settings.sha256 ≡ digest) × (before : List ℕ) × (rest : List ℕ)
    × (bytes ≡ before ++ with_feed (line_of head (settings_fields settings)) ++ rest))

-- the line of a request of this visitor, with these acts, behind the settings that decide it
abbrev pub IsAskedIn : {W : Type 0} → (W → Option (List ℕ)) → Visit → OfficeRequest → Option (List Act)
    → (ledger after : Ledger W) → Type 0
IsAskedIn contents visit request all ledger after =
    (asked : Asked) × IsAsked visit request all asked
    × (place : StandsIn contents ledger.journal after.journal (asked_fields asked))
    × AreNamedIn ledger visit.settings place.before

-- the line of this answer
abbrev pub IsAnsweredIn : {W : Type 0} → (W → Option (List ℕ)) → OfficeRequest → Response
    → (journal after : Journal W) → Type 0
IsAnsweredIn contents request r journal after =
    (line : ℕ) × (answered : Answered) × IsAnswered request line r answered
    × StandsIn contents journal after (answered_fields answered)
