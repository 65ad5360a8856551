-- What a step of a run writes of the record that it takes, and that these writes lead to what the step makes of the office.
use Rattle.std.proofs.Common.{◌≡◌, ◌≤◌, ℕ, List, [], ◌∷◌, length, Some, refl, sym, ap, ◌∙◌, subst, arith, true}
use Rattle.std.proofs.lemmas.Bool.Decides.{nat_tests}
use Rattle.std.specs.Prelude.{IsSome, IsTrue}
use Rattle.std.specs.FinMap.{insert, remove}
use Rattle.std.specs.Option.{is_none, is_some, unwrap_or, option_and_then}
use Rattle.office_base.specs.declared.refusal.Refusal.TheVariants.{NoRun}
use Rattle.office_records.specs.Disposal.{confirmation_of}
use Rattle.office_records.specs.Lists.{numbered, edited, put}
use Rattle.office_records.specs.Rows.{put_record}
use Rattle.office_records.specs.Sound as tree
use Rattle.office_records.specs.Tree.{TreeState, has_record}
use Rattle.office_records.specs.declared.head.Record.{Record}
use Rattle.office_records.specs.declared.status.Status.{Status}
use Rattle.office_records.specs.declared.status.Status.TheVariants as status
use Rattle.office_records.proofs.Places.{numbered_within}
use Rattle.office_records.proofs.Putting.{length-put, put-edited, put_same}
use Rattle.office_rules.specs.declared.entry.Entry.{Entry}
use Rattle.office_rules.specs.declared.outcome.Outcome.{Outcome}
use Rattle.office_rules.specs.declared.outcome.Outcome.TheVariants as outcome
use Rattle.office_rules.specs.Acts.{IsChangeTo, is_of_change}
use Rattle.office_rules.specs.Disposing.{entry_of, outcome_of}
use Rattle.office_machine.specs.RunWrites.{taking_writes}
use Rattle.office_rules.specs.Runs.{open_run, next_ready, run_step, step_at, step_of, with_outcomes, with_cursor}
use Rattle.office_rules.specs.Sound.{IsSoundOffice}
use Rattle.office_rules.specs.State.{State, Office, ByteMap, with_contents}
use Rattle.office_rules.specs.Steps.{stepped, step_run_step, answer_in, answer_at}
use Rattle.office_rules.specs.Writes.{CanFollow, CanWrite, all_writes}
use Rattle.office_rules.specs.declared.answer.Answer.{Answer}
use Rattle.office_rules.specs.declared.answer.Answer.TheVariants.{Step}
use Rattle.office_rules.specs.declared.change.Change.{Change}
use Rattle.office_rules.specs.declared.rows.RowWrite.{RowWrite}
use Rattle.office_rules.specs.declared.rows.RowWrite.TheVariants as row_write
use Rattle.office_rules.specs.declared.run.Run.{Run}
use Rattle.office_rules.proofs.SoundRuns.{open_there}
use Rattle.office_rules.proofs.SoundSteps.{with_outcome}
use Rattle.office_rules.proofs.SoundTaken as sound_taken
use Rattle.office_machine.proofs.OfficeSound.{sound_tree}

-- ---- what is so of a record that a step takes from a sound office

abbrev TakenFrom : Office → ℕ → ℕ → Type 0
TakenFrom s run r = (contents : ByteMap) × sound_taken.Taken (with_contents s contents) run r

taken_from : (s : Office) (run r : ℕ) → IsSoundOffice s → next_ready s run ≡ Some r → TakenFrom s run r
unfolding IsSoundOffice
taken_from s run r (contents, sound) next = (contents, sound_taken.taken (with_contents s contents) run r sound next)

record_there : (t : TreeState) (r : ℕ) (head : Record) → numbered t.records r ≡ Some head → has_record t r ≡ true
record_there t r head there = let within = numbered_within t.records r head there in grind (arith, nat_tests)

-- it is there
pub taken_there : (s : Office) (run r : ℕ) → IsSoundOffice s → next_ready s run ≡ Some r → IsTrue (has_record s.tree r)
taken_there s run r sound next = let (contents, (head, was, confirmation, o, t)) = taken_from s run r sound next in record_there s.tree r head t.there

-- it has a confirmation
pub taken_confirmed : (s : Office) (run r : ℕ) → IsSoundOffice s → next_ready s run ≡ Some r → IsSome (confirmation_of s.tree r)
taken_confirmed s run r sound next =
    let (contents, (head, was, confirmation, o, t)) = taken_from s run r sound next in
    ap is_some (ap (option_and_then (λ (x : Record). x.confirmation)) t.there ∙ t.confirmed)

-- and something comes of it
pub taken_comes : (s : Office) (run r : ℕ) → IsSoundOffice s → next_ready s run ≡ Some r → IsSome (outcome_of s r)
taken_comes s run r sound next = let (contents, (head, was, confirmation, o, t)) = taken_from s run r sound next in ap is_some t.comes

-- ---- the writes can be done

-- a tree is sound with another status of a record that is there
sound_status : (t : TreeState) (r : ℕ) (head : Record) (now : Status) → tree.IsSound t → numbered t.records r ≡ Some head → tree.IsSound (put_record t r head now)
sound_status t r head now sound there =
    let within = numbered_within t.records r head there in
    let many : r ≤ length t.statuses = omega (arith, within.1, sound.statuses) in
    let long = length-put t.statuses r now many ∙ sound.statuses in
    let kept : tree.IsSound (record t { statuses = put t.statuses r now }) = record { limits = sound.limits; forest = sound.forest; names = sound.names; closed = sound.closed; statuses = long } in
    subst (λ (records : List Record). tree.IsSound (record t { records = records; statuses = put t.statuses r now })) (sym (put_same t.records r head there)) kept

status_follows : (s : Office) (r : ℕ) (head : Record) (now : Status) → tree.IsSound s.tree → numbered s.tree.records r ≡ Some head → CanFollow s (row_write.Record r head now)
status_follows s r head now sound there = let within = numbered_within s.tree.records r head there in (within.0, within.1, sound_status s.tree r head now sound there, (head, there, record { ref_text = refl; aggregation = refl; added = refl }))

can_write : (s : Office) (run r : ℕ) (o : Outcome) (head : Record) (it : Run) → tree.IsSound s.tree → numbered s.tree.records r ≡ Some head → numbered s.runs run ≡ Some it → CanWrite s (taking_writes o (entry_of s run r o) head it)
can_write s run r outcome.Sent head it sound there opened = (tt, (status_follows s r head status.Sent sound there, (numbered_within s.runs run it opened, tt)))
can_write s run r outcome.Skipped head it sound there opened = (tt, (numbered_within s.runs run it opened, tt))
can_write s run r outcome.Destroyed head it sound there opened = (tt, (status_follows s r head status.Ended sound there, (tt, (numbered_within s.runs run it opened, tt))))
can_write s run r outcome.Transferred head it sound there opened = (tt, (status_follows s r head status.Ended sound there, (tt, (numbered_within s.runs run it opened, tt))))

few_writes : (o : Outcome) (entry : Entry) (head : Record) (it : Run) → length (taking_writes o entry head it) ≤ 6
few_writes outcome.Sent entry head it = omega arith
few_writes outcome.Skipped entry head it = omega arith
few_writes outcome.Destroyed entry head it = omega arith
few_writes outcome.Transferred entry head it = omega arith

-- ---- what they lead to

-- the state with an entry, and with that tree and those runs and contents
abbrev with_changes : State → ℕ → ℕ → TreeState → Outcome → List Run → ByteMap → State
with_changes s run r t o runs contents = record {
  office = record (s.office) { tree = t; entries = insert s.office.entries (run, r) (entry_of s.office run r o); runs = runs };
  contents = contents;
}

-- where the head, the status and the run are put at their places
module _ (s : State) (run r : ℕ) (head : Record) (was : Status) (it : Run) (there : numbered s.office.tree.records r ≡ Some head) (representing : numbered s.office.tree.statuses r ≡ Some was) (opened : numbered s.office.runs run ≡ Some it) where
  head_put : put s.office.tree.records r head ≡ s.office.tree.records
  head_put = put_same s.office.tree.records r head there

  status_put : (now : Status) → put s.office.tree.statuses r now ≡ edited s.office.tree.statuses r (λ _. now)
  status_put now = put-edited s.office.tree.statuses r (λ _. now) was representing

  run_put : put s.office.runs run (record it { cursor = r }) ≡ with_cursor s.office.runs run r
  run_put = put-edited s.office.runs run (λ (x : Run). record x { cursor = r }) it opened

  -- a status beside the entry and the cursor, whatever becomes of the content
  changed : (o : Outcome) (now : Status) (contents : ByteMap)
      → with_changes s run r (put_record s.office.tree r head now) o (put s.office.runs run (record it { cursor = r })) contents
      ≡ with_changes s run r (record (s.office.tree) { statuses = edited s.office.tree.statuses r (λ _. now) }) o (with_cursor s.office.runs run r) contents
  changed o now contents = λ i. with_changes s run r (record (s.office.tree) { records = head_put i; statuses = status_put now i }) o (run_put i) contents

  wrote : (o : Outcome) → all_writes (taking_writes o (entry_of s.office run r o) head it) s ≡ with_outcome s run r (Some o)
  wrote outcome.Sent = changed outcome.Sent status.Sent s.contents
  wrote outcome.Skipped = λ i. with_changes s run r s.office.tree outcome.Skipped (run_put i) s.contents
  wrote outcome.Destroyed = changed outcome.Destroyed status.Ended (remove s.contents r)
  wrote outcome.Transferred = changed outcome.Transferred status.Ended (remove s.contents r)

-- ---- the step

-- a step of the open run that takes a record
step_takes : (s : State) (run r : ℕ) (o : Outcome) → open_run s.office ≡ Some run → next_ready s.office run ≡ Some r → outcome_of s.office r ≡ Some o → step_run_step s ≡ (Step r o, with_outcome s run r (Some o))
unfolding run_step with_outcomes
step_takes s run r o opened next comes =
    ap (λ at. stepped ((NoRun, is_none at) ∷ []) s (answer_in s.office at) (step_of s at)) opened
    ∙ ap (λ found. (answer_at s.office run found, step_at s run found)) next
    ∙ ap (λ out. (Step r (unwrap_or out outcome.Skipped), with_outcome s run r out)) comes

-- the writes of a record that is taken are right for the step that takes it
pub taken : (s : Office) (run r : ℕ) (o : Outcome) (head : Record) (it : Run) (change : Change) → IsSoundOffice s → open_run s ≡ Some run → next_ready s run ≡ Some r → outcome_of s r ≡ Some o → numbered s.tree.records r ≡ Some head → numbered s.runs run ≡ Some it
    → change.answer ≡ Step r o → change.writes.items ≡ taking_writes o (entry_of s run r o) head it → IsChangeTo s (λ contents. step_run_step (with_contents s contents)) change
taken s run r o head it change sound opened next comes there at answer writes =
    let (kept, (same, was, confirmation, out, t)) = taken_from s run r sound next in
    let step = λ (contents : ByteMap). step_takes (with_contents s contents) run r o opened next comes in
    record {
      answered = λ contents. ap (λ (p : Answer × State). p.0) (step contents) ∙ sym answer;
      changes = ap is_of_change answer;
      few = subst (λ (ws : List RowWrite). length ws ≤ 6) (sym writes) (few_writes o (entry_of s run r o) head it);
      fits = subst (CanWrite s) (sym writes) (can_write s run r o head it (sound_tree s sound) there at);
      leads = λ contents. ap (λ ws. all_writes ws (with_contents s contents)) writes ∙ wrote (with_contents s contents) run r head was it there t.status at o ∙ sym (ap (λ (p : Answer × State). p.1) (step contents));
    }

-- and so are those that are reported for each head and run that are there
pub taken_change : (s : Office) (run r : ℕ) (o : Outcome) (change : Change) → IsSoundOffice s → open_run s ≡ Some run → next_ready s run ≡ Some r → outcome_of s r ≡ Some o → change.answer ≡ Step r o
    → ((head : Record) (it : Run) → numbered s.tree.records r ≡ Some head → numbered s.runs run ≡ Some it → change.writes.items ≡ taking_writes o (entry_of s run r o) head it) → IsChangeTo s (λ contents. step_run_step (with_contents s contents)) change
taken_change s run r o change sound opened next comes answer writes =
    let (kept, (head, was, confirmation, out, t)) = taken_from s run r sound next in
    let (it, at, going, last) = open_there s run opened in
    taken s run r o head it change sound opened next comes t.there at answer (writes head it t.there at)
