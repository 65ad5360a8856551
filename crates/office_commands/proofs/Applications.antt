-- How the performing of acts ends.
use Rattle.std.proofs.Common.{◌≡◌, inl, inr, ℕ, List, [], Option, Some, None, Result, Ok, Err, refl, sym, subst}
use Rattle.std.specs.Prelude.{IfSome}
use Rattle.sqlite.specs.Held.{Held, state}
use Rattle.sqlite.specs.State.{State as FileState}
use Rattle.sqlite_trees.specs.declared.store.Store.{Ghosts}
use Rattle.office_rules.specs.State.{State}
use Rattle.office_rules.specs.declared.act.Act.{Act}
use Rattle.office_rules.specs.declared.answer.Answer.{Answer}
use Rattle.office_store.specs.declared.fault.Fault.{Fault}
use Rattle.office_desk.specs.Desk.{DeskState}
use Rattle.office_desk.specs.Outcomes.{ActsCameTo, ActsOutcome, FromEach, acts_outcome, answers_of}
use Rattle.office_json.specs.Answers.{answer_lines}
use Rattle.office_json.specs.Lists.{IsListFault, acts_in, bad_act, not_json}
use Rattle.office_json.specs.declared.lists.ListFault.{ListFault}
use Rattle.office_json.specs.declared.lists.ListFault.TheVariants as list
use Rattle.office_commands.specs.Applying.{Applies, ApplyEnds, IsUnread, Performs, TextEnds}
use Rattle.office_commands.specs.Calling.{Reports}
use Rattle.office_commands.specs.ExitStatuses.{exit_of_acts, exit_of_list}
use Rattle.office_commands.specs.Opening.{WasAt}
use Rattle.office_commands.specs.declared.exit.Exit.{Exit}

-- where none was there, the answers are those of the outcome
pub answers_alone : (done : Result (Unit {0}) Fault) (found : List Answer) → found ≡ answers_of (acts_outcome done [] found)
answers_alone (Ok it) found = refl
answers_alone (Err f) found = refl

-- what was applied from each state of one kind was so from each of another that is among them
pub applies_of : (Was Other : State → Type 0) → ((s : State) → Other s → Was s) → (text : List ℕ) (new : FileState) (written after : Option (List ℕ)) (e : Exit) → Applies Was text new written after e → Applies Other text new written after e
applies_of Was Other to text new written after e (inl none) = inl (record { why = none.why; rows = λ s was. none.rows s (to s was); silent = none.silent })
applies_of Was Other to text new written after e (inr (acts, read, it)) = inr (acts, read, record { outcome = it.outcome; reported = it.reported; came = λ s was. it.came s (to s was) })

-- a text that was not read as acts is reported so
pub unread_by : (text : List ℕ) (fault : ListFault) (e : Exit) → IsListFault (acts_in text) fault → e ≡ exit_of_list fault → IsUnread text e
unread_by text list.NotJson e why is = inl (not_json, why, is)
unread_by text (list.BadAct place refusal) e why is = inl (bad_act place refusal, why, is)
unread_by text list.Memory e why is = inr is

-- the acts of a text that were performed were applied
pub performs_applies : (Was : State → Type 0) (text : List ℕ) (new : FileState) (written after : Option (List ℕ)) (e : Exit) (acts items : List Act) → acts ≡ items → acts_in text ≡ Ok items
    → Performs Was acts new written after e → Applies Was text new written after e
performs_applies Was text new written after e acts items same is_read done = inr (acts, subst (λ (all : List Act). acts_in text ≡ Ok all) (sym same) is_read, done)

-- the same at a desk, by what is so of each state at which it was
pub performed : {S : Type 0} (g : Ghosts S) (old new : DeskState S) (text : List ℕ) (written after : Option (List ℕ)) (e : Exit) (acts items : List Act) → acts ≡ items → acts_in text ≡ Ok items → (o : ActsOutcome)
    → Reports (answer_lines (answers_of o)) (exit_of_acts o) written after e → FromEach g old new (λ t. ActsCameTo t acts o (state g new.connection)) → Applies (WasAt g old new) text (state g new.connection) written after e
performed g old new text written after e acts items same is_read o reported came =
    performs_applies (WasAt g old new) text (state g new.connection) written after e acts items same is_read (record { outcome = o; reported = reported; came = λ s was. came s was.0 was.1 })

-- the text that was read is the one that the reader reports
pub text_applies : {S : Type 0} (g : Ghosts S) (remaining : Option (List ℕ)) (text : List ℕ) (old new : Held S) (written after : Option (List ℕ)) (e : Exit) → IfSome remaining (λ bytes. text ≡ bytes)
    → TextEnds text (state g old) (state g new) written after e → ApplyEnds g remaining old new written after e
text_applies g None text old new written after e is ends = tt
text_applies g (Some bytes) text old new written after e is ends = inr (subst (λ (it : List ℕ). TextEnds it (state g old) (state g new) written after e) is ends)
