-- When a certificate is true of the history of its office, the acts from a state on with their answers, and complete.
-- Source: own; that what is due, confirmed and not held is ended, and nothing else, is MoReq2010's, its disposal
-- scheduling and disposal holding services.
use Rattle.std.specs.Prelude.{◌≡◌, ◌⊎◌, ◌<◌, ◌≤◌, ◌≤ℤ◌, ◌+◌, ℕ, ℤ, false, true, List, length, map, take, slice_get, Some, None, IsSome, IsTrue}
use Rattle.std.specs.FinMap.{get}
use Rattle.std.specs.List.{Contains}
use Rattle.std.specs.List.Sorted.{IsStrictlySortedBy}
use Rattle.std.specs.Option.{option_and_then}
use Rattle.std.specs.Ordering.{nat_cmp}
use Rattle.sha2.specs.Sha256.{sha256}
use Rattle.office_records.specs.Disposal.{confirmation_of, counts, is_below, is_spent}
use Rattle.office_records.specs.Lists.{numbered}
use Rattle.office_records.specs.Tree.{TreeState, action_of, class_of, due_of, has_aggregation, has_record, plan_of, status_of}
use Rattle.office_records.specs.declared.action.Action.{Action}
use Rattle.office_records.specs.declared.action.Action.TheVariants as action
use Rattle.office_records.specs.declared.aggregation.Aggregation.{Aggregation}
use Rattle.office_records.specs.declared.head.Confirmation.{Confirmation}
use Rattle.office_records.specs.declared.head.Record.{Record}
use Rattle.office_records.specs.declared.status.Status.TheVariants.{Here, Received}
use Rattle.office_rules.specs.Acts.{answers}
use Rattle.office_rules.specs.Disposing.{hold_by}
use Rattle.office_rules.specs.Holds.{is_held, least_covering}
use Rattle.office_rules.specs.NewRecords.{NewRecord, add_record}
use Rattle.office_rules.specs.Outcomes.{is_ending}
use Rattle.office_rules.specs.Runs.{open_run}
use Rattle.office_rules.specs.State.{State, Office}
use Rattle.office_rules.specs.declared.act.Act.{Act}
use Rattle.office_rules.specs.declared.answer.Answer.TheVariants.{Number}
use Rattle.office_rules.specs.declared.entry.Entry.{Entry}
use Rattle.office_rules.specs.declared.outcome.Outcome.{Outcome}
use Rattle.office_rules.specs.declared.outcome.Outcome.TheVariants.{Destroyed, Transferred, Sent, Skipped}
use Rattle.office_evidence.specs.History.{IsClosedAt, IsOpenedAt, IsStepAt, before}
use Rattle.office_evidence.specs.Parsed.{Certificate, IsTextOf}
use Rattle.office_evidence.specs.declared.parsed.EntryLine.{EntryLine}
use Rattle.office_evidence.specs.declared.parsed.SpentLine.{SpentLine}

-- ---- a line

-- the confirmation that was stored for the record is by the one named, for the due day named
pub record IsConfirmed (tree : TreeState) (line : EntryLine) : Type 0 where
  pub confirmation : Confirmation
  pub stored : confirmation_of tree line.record_no ≡ Some confirmation
  pub by : confirmation.by ≡ line.confirmed_by
  pub due : confirmation.due ≡ line.due

-- the record was here, by its plan for that action, due on the day of the run, and its confirmation counted
pub record WasDue (tree : TreeState) (r : ℕ) (day : ℤ) (planned : Action) : Type 0 where
  pub here : status_of tree r ≡ Some Here
  pub action : action_of tree r ≡ Some planned
  pub due : (due : ℤ) × (due_of tree r ≡ Some due) × (due ≤ℤ day)
  pub confirmed : IsTrue (counts tree r)

-- the receiver had reported that it has the copy
pub record WasReceived (tree : TreeState) (r : ℕ) : Type 0 where
  pub status : status_of tree r ≡ Some Received
  pub receipt : IsSome (option_and_then (λ head. head.receipt) (numbered tree.records r))

-- what the outcome of a step rests on: nothing is ended while a hold covers it, and only a hold keeps what was to be
-- ended
abbrev pub IsWarranted : Office → ℤ → ℕ → Outcome → Type 0
IsWarranted s day r Destroyed = WasDue s.tree r day action.Destroy × (is_held s.holds s.tree r ≡ false)
IsWarranted s day r Transferred = WasReceived s.tree r × (is_held s.holds s.tree r ≡ false)
IsWarranted s day r Sent = WasDue s.tree r day action.Transfer
IsWarranted s day r Skipped =
    (WasDue s.tree r day action.Destroy ⊎ WasReceived s.tree r) × (is_held s.holds s.tree r ≡ true)

-- a run of that day was to take the record: it was due for destruction or for transfer, or its copy was received
abbrev pub WasReady : TreeState → ℕ → ℤ → Type 0
WasReady tree r day = WasDue tree r day action.Destroy ⊎ WasDue tree r day action.Transfer ⊎ WasReceived tree r

-- an act of the list added the record, with this ref, and with a content of this length and digest
pub record WasAdded (s : State) (acts : List Act) (line : EntryLine) : Type 0 where
  pub place : ℕ
  pub day : ℤ
  pub new : NewRecord
  pub asked : slice_get acts place ≡ Some (add_record day new)
  pub answered : slice_get (answers s acts) place ≡ Some (Number line.record_no)
  pub ref_text : new.ref_text ≡ line.ref_text
  pub size : length new.content ≡ line.length
  pub digest : sha256 new.content ≡ line.digest

-- the ref is the record's, and so are the length and the digest of its content
pub record IsRecorded (tree : TreeState) (line : EntryLine) : Type 0 where
  pub head : Record
  pub there : numbered tree.records line.record_no ≡ Some head
  pub ref_text : head.ref_text ≡ line.ref_text
  pub size : head.length ≡ line.length
  pub digest : head.digest ≡ line.digest

-- its content was there just before the step, and from the step on it is gone
pub record HasGone (s : State) (acts : List Act) (j r : ℕ) : Type 0 where
  pub was : IsSome (get (before s acts j).contents r)
  pub gone : (n : ℕ) → j < n → get (before s acts n).contents r ≡ None

-- the line is true of the step at this place, of a run of that day
pub record IsTrueLine (s : State) (acts : List Act) (day : ℤ) (j : ℕ) (line : EntryLine) : Type 0 where
  -- the step took the record, with that outcome
  pub answered : IsStepAt s acts j line.record_no line.outcome
  -- just before it, the class and the schedule were in effect for the record
  pub class : class_of (before s acts j).office.tree line.record_no ≡ Some line.class
  pub schedule : plan_of (before s acts j).office.tree line.record_no ≡ Some line.schedule
  -- it was confirmed by the one named, for the day named
  pub confirmed : IsConfirmed (before s acts j).office.tree line
  -- it was due and confirmed, or received; no hold in force covered what was ended, and one covered what was skipped
  pub warranted : IsWarranted (before s acts j).office day line.record_no line.outcome
  -- the hold that kept a skipped record is the least that covered it
  pub hold : line.hold
      ≡ hold_by line.outcome
      (least_covering (before s acts j).office.holds (before s acts j).office.tree line.record_no)
  -- the content of what was ended is gone since
  pub content : IsTrue (is_ending line.outcome) → HasGone s acts j line.record_no
  -- ref, length and digest are those of the record
  pub recorded : IsRecorded (before s acts j).office.tree line
  -- and those with which an act added it, if it is later than the first state
  pub added : length s.office.tree.records < line.record_no → WasAdded s (take j acts) line

-- ---- a certificate

-- a place between two others
pub record IsBetween (opening closing j : ℕ) : Type 0 where
  pub after : opening < j
  pub before : j < closing

-- the entry lines of a certificate are, one to one, the steps between two places
pub record AreTheSteps (s : State) (acts : List Act) (c : Certificate) (opening closing : ℕ) : Type 0 where
  -- each line is of a step, and true of it
  pub each : (line : EntryLine) → Contains c.entries line
      → (j : ℕ) × IsBetween opening closing j × IsTrueLine s acts c.day j line
  -- each step has its line
  pub every : (j r : ℕ) (outcome : Outcome) → IsBetween opening closing j → IsStepAt s acts j r outcome
      → (line : EntryLine) × Contains c.entries line × (line.record_no ≡ r) × (line.outcome ≡ outcome)
  -- no two steps took the same record
  pub once : (i j r : ℕ) (outcome other : Outcome) → IsBetween opening closing i → IsBetween opening closing j
      → IsStepAt s acts i r outcome → IsStepAt s acts j r other → i ≡ j
  -- the lines are by record number, each once
  pub by_number : IsStrictlySortedBy nat_cmp (map (λ line. line.record_no) c.entries)

-- the run came to the number of a record at this place: each step before took a record of a lower number, and here a
-- step took the record or one of a higher number, or the run was closed
pub record CameTo (s : State) (acts : List Act) (opening closing p r : ℕ) : Type 0 where
  pub after : opening < p
  pub within : p ≤ closing
  pub lower : (j q : ℕ) (outcome : Outcome) → IsBetween opening p j → IsStepAt s acts j q outcome → q < r
  pub reached : (p ≡ closing) ⊎ ((q : ℕ) × (outcome : Outcome) × (r ≤ q) × IsStepAt s acts p q outcome)

-- no record was left out of the run between two places
pub record LeavesNoneOut (s : State) (acts : List Act) (c : Certificate) (opening closing : ℕ) : Type 0 where
  -- the run came to each
  pub came : (r : ℕ) → (p : ℕ) × CameTo s acts opening closing p r
  -- one that was ready then has a line, which is true of the step that took it there
  pub ready : (p r : ℕ) → CameTo s acts opening closing p r → WasReady (before s acts p).office.tree r c.day
      → (line : EntryLine) × Contains c.entries line × (line.record_no ≡ r) × IsTrueLine s acts c.day p line
  -- one that was due for destruction then, and that no hold in force covered, was destroyed
  pub destroyed : (p r : ℕ) → CameTo s acts opening closing p r
      → WasDue (before s acts p).office.tree r c.day action.Destroy
      → is_held (before s acts p).office.holds (before s acts p).office.tree r ≡ false
      → (line : EntryLine) × Contains c.entries line × (line.record_no ≡ r) × (line.outcome ≡ Destroyed)

-- a content that was there while the run was open, and is not there once it is closed, is that of a line that ended it
abbrev pub NoOtherWent : State → List Act → Certificate → ℕ → ℕ → Type 0
NoOtherWent s acts c opening closing =
    (p r : ℕ) → opening < p → p ≤ closing → IsSome (get (before s acts p).contents r)
    → get (before s acts (closing + 1)).contents r ≡ None
    → (line : EntryLine) × Contains c.entries line × (line.record_no ≡ r) × IsTrue (is_ending line.outcome)

-- an aggregation was spent by the run: it was spent as the run closed, and a line ended a record below it
pub record WasSpentBy (tree : TreeState) (c : Certificate) (a : ℕ) : Type 0 where
  pub there : IsTrue (has_aggregation tree a)
  pub spent : IsTrue (is_spent tree a)
  pub ended : (line : EntryLine) × Contains c.entries line × IsTrue (is_ending line.outcome)
      × IsTrue (has_record tree line.record_no) × IsTrue (is_below tree a line.record_no)

-- the aggregation has that ref
abbrev pub HasRef : TreeState → ℕ → List ℕ → Type 0
HasRef tree a ref_text =
    (it : Aggregation) × (numbered tree.aggregations a ≡ Some it) × (it.ref_text ≡ ref_text)

-- the last lines of a certificate are those of the aggregations that the run spent
pub record AreTheSpent (tree : TreeState) (c : Certificate) : Type 0 where
  pub each : (it : SpentLine) → Contains c.spent it → WasSpentBy tree c it.number × HasRef tree it.number it.ref_text
  pub every : (a : ℕ) → WasSpentBy tree c a → (it : SpentLine) × Contains c.spent it × (it.number ≡ a)
  -- by number, each once
  pub by_number : IsStrictlySortedBy nat_cmp (map (λ it. it.number) c.spent)

-- a certificate is true of the acts from a state on: one of them opened the run and a later one closed it, the lines
-- are what it did between, no record that was ready is left out, nothing else went, and the certificate stays
pub record IsTrueOf (s : State) (acts : List Act) (c : Certificate) (text : List ℕ) : Type 0 where
  pub opening : ℕ
  pub closing : ℕ
  pub opened : IsOpenedAt s acts opening c.run c.day c.by
  pub in_order : opening < closing
  pub closed : IsClosedAt s acts closing c.run
  pub lines : AreTheSteps s acts c opening closing
  pub complete : LeavesNoneOut s acts c opening closing
  pub no_other : NoOtherWent s acts c opening closing
  pub spent : AreTheSpent (before s acts closing).office.tree c
  pub kept : (n : ℕ) → closing < n → get (before s acts n).office.certificates c.run ≡ Some text

-- the text is that of a certificate of the run, which is true of the acts
pub record IsTrueCertificate (s : State) (acts : List Act) (run : ℕ) (text : List ℕ) : Type 0 where
  pub certificate : Certificate
  pub reads : IsTextOf certificate text
  pub of_run : certificate.run ≡ run
  pub is_true : IsTrueOf s acts certificate text

-- ---- an entry

-- the line says what the entry says
pub record IsLineOf (e : Entry) (line : EntryLine) : Type 0 where
  pub record_no : line.record_no ≡ e.record_no
  pub outcome : line.outcome ≡ e.outcome
  pub class : line.class ≡ e.class
  pub schedule : line.schedule ≡ e.schedule
  pub due : line.due ≡ e.due
  pub hold : line.hold ≡ e.hold
  pub confirmed_by : line.confirmed_by ≡ e.confirmed_by

-- the entry of a run for a record is true of the acts from a state on, also while the run is open: one of the acts
-- opened the run, a later one was a step of the run, and a line that says the same is true of that step
pub record IsTrueEntry (s : State) (acts : List Act) (run r : ℕ) (e : Entry) : Type 0 where
  pub opening : ℕ
  pub day : ℤ
  pub by : List ℕ
  pub opened : IsOpenedAt s acts opening run day by
  pub place : ℕ
  pub in_order : opening < place
  pub of_run : open_run (before s acts place).office ≡ Some run
  pub keyed : (e.run ≡ run) × (e.record_no ≡ r)
  pub line : EntryLine
  pub same : IsLineOf e line
  pub is_true : IsTrueLine s acts day place line
