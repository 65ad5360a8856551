-- A disposal run: its candidates, its steps, and what a run that never stops makes of the office at once. Source: own.
use Rattle.std.specs.Prelude.{◌≡◌, ◌==◌, ◌&&◌, ℕ, zero, suc, ◌-◌, ◌≤◌, ◌⊎◌, Bool, true, List, [], ◌∷◌, take, length, filter, nat_le, Option, Some, None, ℤ, pos, if◌then◌else◌}
use Rattle.std.specs.List.{find, list_any}
use Rattle.std.specs.Option.{unwrap_or, option_map, option_and_then}
use Rattle.std.specs.FinMap.{insert, remove, values}
use Rattle.office_records.specs.Disposal.{is_below, is_spent, records_below}
use Rattle.office_records.specs.Lists.{numbered, edited, numbers_after}
use Rattle.office_records.specs.Candidates.{is_candidate}
use Rattle.office_records.specs.Tree.{TreeState, has_record}
use Rattle.office_records.specs.declared.status.Status.{Status}
use Rattle.office_records.specs.declared.status.Status.TheVariants as status
use Rattle.office_rules.specs.Certificates.{certificate_text}
use Rattle.office_rules.specs.Outcomes.{is_ending}
use Rattle.office_rules.specs.declared.entry.Entry.{Entry}
use Rattle.office_rules.specs.declared.outcome.Outcome.{Outcome}
use Rattle.office_rules.specs.declared.outcome.Outcome.TheVariants as outcome
use Rattle.office_rules.specs.Disposing.{is_ready, outcome_of, entry_of}
use Rattle.office_rules.specs.State.{State, Office, EntryMap, ByteMap}
use Rattle.office_rules.specs.declared.run.Run.{Run}

-- the day of a run, the last record that it took, and who opened it
abbrev pub run_day : Office → ℕ → ℤ
run_day s run = unwrap_or (option_map (λ it. it.day) (numbered s.runs run)) (pos 0)

abbrev pub cursor_of : Office → ℕ → ℕ
cursor_of s run = unwrap_or (option_map (λ it. it.cursor) (numbered s.runs run)) 0

abbrev pub opened_by : Office → ℕ → List ℕ
opened_by s run = unwrap_or (option_map (λ it. it.by) (numbered s.runs run)) []

-- the numbers of the records above a run's cursor
abbrev pub above_cursor : Office → ℕ → List ℕ
above_cursor s run = numbers_after (cursor_of s run) (length s.tree.records - cursor_of s run)

-- the candidates of a run: the ready records above its cursor, by number
unfoldable pub candidates : Office → ℕ → List ℕ
candidates s run = filter (is_ready s (run_day s run)) (above_cursor s run)

-- ---- what an outcome does

-- sending makes a record sent, destruction and the end of a transfer make it ended
abbrev pub statuses_with : List Status → ℕ → Option Outcome → List Status
statuses_with statuses r None = statuses
statuses_with statuses r (Some outcome.Sent) = edited statuses r (λ _. status.Sent)
statuses_with statuses r (Some outcome.Skipped) = statuses
statuses_with statuses r (Some outcome.Destroyed) = edited statuses r (λ _. status.Ended)
statuses_with statuses r (Some outcome.Transferred) = edited statuses r (λ _. status.Ended)

-- the content of what is ended is gone
abbrev pub contents_with : ByteMap → ℕ → Option Outcome → ByteMap
contents_with contents r None = contents
contents_with contents r (Some outcome.Sent) = contents
contents_with contents r (Some outcome.Skipped) = contents
contents_with contents r (Some outcome.Destroyed) = remove contents r
contents_with contents r (Some outcome.Transferred) = remove contents r

-- each record that a run takes gets an entry
abbrev pub entries_with : EntryMap → ℕ → ℕ → (Outcome → Entry) → Option Outcome → EntryMap
entries_with entries run r entry None = entries
entries_with entries run r entry (Some o) = insert entries (run, r) (entry o)

-- ---- the outcomes of several records, all read from one office

abbrev pub all_statuses : Office → List ℕ → List Status → List Status
all_statuses s [] statuses = statuses
all_statuses s (r ∷ rs) statuses = all_statuses s rs (statuses_with statuses r (outcome_of s r))

abbrev pub all_contents : Office → List ℕ → ByteMap → ByteMap
all_contents s [] contents = contents
all_contents s (r ∷ rs) contents = all_contents s rs (contents_with contents r (outcome_of s r))

abbrev pub all_entries : Office → ℕ → List ℕ → EntryMap → EntryMap
all_entries s run [] entries = entries
all_entries s run (r ∷ rs) entries =
    all_entries s run rs (entries_with entries run r (entry_of s run r) (outcome_of s r))

abbrev pub with_cursor : List Run → ℕ → ℕ → List Run
with_cursor runs run r = edited runs run (λ it. record it { cursor = r })

-- the cursor at the last of these records, unchanged where there are none
abbrev pub cursor_at_last : List Run → ℕ → List ℕ → List Run
cursor_at_last runs run [] = runs
cursor_at_last runs run (r ∷ rs) = cursor_at_last (with_cursor runs run r) run rs

-- the office with the outcomes and entries of these records, all at once
abbrev pub office_with_outcomes : Office → ℕ → List ℕ → Office
office_with_outcomes s run rs = record s {
  tree = record (s.tree) { statuses = all_statuses s rs s.tree.statuses };
  entries = all_entries s run rs s.entries;
  runs = cursor_at_last s.runs run rs;
}

-- the state with the outcomes and entries of these records, all at once, and the cursor at the last of them
unfoldable pub with_outcomes : State → ℕ → List ℕ → State
with_outcomes s run rs =
    record { office = office_with_outcomes s.office run rs; contents = all_contents s.office rs s.contents }

-- ---- the end of a run

-- the entries of a run, by record number
abbrev pub entries_of : Office → ℕ → List Entry
entries_of s run = filter (λ e. e.run == run) (values s.entries)

-- some of the entries ended the record
abbrev pub is_ended_in : List Entry → ℕ → Bool
is_ended_in entries r = list_any (λ e. e.record_no == r && is_ending e.outcome) entries

-- the entry ended a record that is there, below the aggregation
abbrev pub ended_below : TreeState → ℕ → Entry → Bool
ended_below tree a e = is_ending e.outcome && has_record tree e.record_no && is_below tree a e.record_no

-- the aggregations, by number, that are spent and have a record below that one of the entries ended
unfoldable pub spent_list : TreeState → List Entry → List ℕ
spent_list tree entries =
    filter (λ a. is_spent tree a && list_any (is_ended_in entries) (records_below tree a))
    (numbers_after 0 (length tree.aggregations))

-- the certificate of a run, as the office is
abbrev pub certificate_of : Office → ℕ → List ℕ
certificate_of s run =
    certificate_text s.tree run (run_day s run) (opened_by s run) (entries_of s run)
    (spent_list s.tree (entries_of s run))

abbrev pub closed_runs : List Run → ℕ → List Run
closed_runs runs run = edited runs run (λ it. record it { is_closed = true })

-- the run closed, with its certificate
unfoldable pub closed : State → ℕ → State
closed s run = record s { office = record (s.office) { runs = closed_runs s.office.runs run; certificates = insert s.office.certificates run (certificate_of s.office run) } }

-- ---- the whole run, and where it may be stopped

-- what a run that never stops makes of a state: all candidates disposed of at once, and the run closed
abbrev pub whole : State → ℕ → State
whole s run = closed (with_outcomes s run (candidates s.office run)) run

-- a state on the way of the run from s: s with the outcomes and entries of its first n candidates and nothing else, or
-- the run is whole
abbrev pub IsMidway : State → ℕ → State → Type 0
IsMidway s run t =
    ((n : ℕ) × (n ≤ length (candidates s.office run)) × (t ≡ with_outcomes s run (take n (candidates s.office run))))
    ⊎ (t ≡ whole s run)

-- ---- one step

abbrev pub open_by : ℕ → Option Run → Option ℕ
open_by n None = None
open_by n (Some it) = if it.is_closed then None else Some n

-- the run that is open: the last one, unless it is closed
abbrev pub open_run : Office → Option ℕ
open_run s = open_by (length s.runs) (numbered s.runs (length s.runs))

-- the least ready record above the cursor
abbrev pub next_ready : Office → ℕ → Option ℕ
next_ready s run = find (is_ready s (run_day s run)) (above_cursor s run)

-- the record that a step of the open run would take
abbrev pub next_in_run : Office → Option ℕ
next_in_run s = option_and_then (next_ready s) (open_run s)

abbrev pub step_at : State → ℕ → Option ℕ → State
step_at s run None = closed s run
step_at s run (Some r) = with_outcomes s run (r ∷ [])

-- a step takes the next ready record, and where there is none closes the run
unfoldable pub run_step : State → ℕ → State
run_step s run = step_at s run (next_ready s.office run)

-- a step of the run that is open; where none is, nothing is done
abbrev pub step_of : State → Option ℕ → State
step_of s None = s
step_of s (Some run) = run_step s run

-- after so many steps
abbrev pub after_steps : State → ℕ → State
after_steps s zero = s
after_steps s (suc n) = after_steps (step_of s (open_run s.office)) n

-- ---- what is looked at to find the next record

-- the candidates of the tree above a run's cursor, ready or not
abbrev pub candidates_above : Office → ℕ → List ℕ
candidates_above s run = filter (is_candidate s.tree) (above_cursor s run)

-- how many of them are looked at: those not above the record that is found, and all where none is
abbrev pub looked_at_by : List ℕ → Option ℕ → ℕ
looked_at_by them None = length them
looked_at_by them (Some r) = length (filter (λ c. nat_le c r) them)

abbrev pub looked_at_in : Office → ℕ → ℕ
looked_at_in s run = looked_at_by (candidates_above s run) (next_ready s run)

-- how many candidates are looked at for the open run; none where no run is open
abbrev pub looked_at : Office → ℕ
looked_at s = unwrap_or (option_map (looked_at_in s) (open_run s)) 0
