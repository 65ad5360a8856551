-- The decision that adds a record: its row, its content and the office's day.
use Rattle.std.proofs.Common.{◌≡◌, ◌≤◌, ◌<◌, ◌+◌, ℕ, suc, List, [], ◌∷◌, length, Option, Some, None, ℤ, Vec, Global, refl, sym, ap, ◌∙◌, subst, arith}
use Rattle.std.specs.FinMap.{insert}
use Rattle.office_base.specs.declared.refusal.Refusal.{Refusal}
use Rattle.office_records.specs.Conditions.{first_of, conditions_of_add_record}
use Rattle.office_records.specs.Effects.{added_record}
use Rattle.office_records.specs.Rows.{put_record}
use Rattle.office_records.specs.Lists.{put}
use Rattle.office_records.specs.Sound as tree
use Rattle.office_records.specs.Tree.{TreeState}
use Rattle.office_records.specs.declared.head.Record.{Record}
use Rattle.office_records.specs.declared.status.Status.TheVariants.{Here}
use Rattle.office_records.proofs.LastingRows.{keeps_next_head}
use Rattle.office_records.proofs.Keeping.{IsSound-add_record}
use Rattle.office_records.proofs.Putting.{put_next}
use Rattle.office_rules.specs.Acts.{IsChangeTo}
use Rattle.office_rules.specs.Conditions.{dated, refusals_of_add_record, same_record}
use Rattle.office_rules.specs.Effects.{new_head, with_new_record, with_tree}
use Rattle.office_rules.specs.State.{with_contents, Office, ByteMap}
use Rattle.office_rules.specs.Steps.{by_same_record, step_add_record}
use Rattle.office_rules.specs.Writes.{CanWrite, all_writes, write_office}
use Rattle.office_rules.specs.declared.answer.Answer.TheVariants.{Number, Refused}
use Rattle.office_rules.specs.declared.change.Change.{Change}
use Rattle.office_rules.specs.NewRecords.{NewRecord}
use Rattle.office_rules.specs.declared.rows.RowWrite.{RowWrite}
use Rattle.office_rules.specs.declared.rows.RowWrite.TheVariants as row_write
use Rattle.office_rules.proofs.Accepted.{dated_accepted}
use Rattle.office_machine.specs.DayWrites.{day_writes}
use Rattle.office_machine.proofs.Decisions.{refused_step, accepted_change}
use Rattle.office_machine.proofs.DayWrites.{day_led, days_follow, few_days}

-- the table's answer depends on the tree, the class and the schedule alone
pub same_addition : (t u : TreeState) (name : List ℕ) (aggregation : ℕ) (class own_class schedule own_schedule : Option (List ℕ)) → t ≡ u → class ≡ own_class → schedule ≡ own_schedule
    → first_of (conditions_of_add_record t name aggregation class schedule) ≡ first_of (conditions_of_add_record u name aggregation own_class own_schedule)
same_addition t u name aggregation class own_class schedule own_schedule trees classes schedules = λ i. first_of (conditions_of_add_record (trees i) name aggregation (classes i) (schedules i))

-- a record that was not added before is refused by its table
pub addition_refused : (s : Office) (day : ℤ) (new : NewRecord) (refusal : Refusal) → same_record s new ≡ None → first_of (refusals_of_add_record s day new) ≡ Some refusal
    → (contents : ByteMap) → step_add_record (with_contents s contents) day new ≡ (Refused refusal, with_contents s contents)
addition_refused s day new refusal none table contents =
    ap (λ (o : Option ℕ). by_same_record o (with_contents s contents) day new) none
    ∙ refused_step (refusals_of_add_record s day new) refusal (with_contents s contents) (Number (suc (length s.tree.records))) (with_new_record (with_contents s contents) day new) table

-- the row of a record, its content and the day
abbrev pub addition_writes : Office → ℕ → Record → Vec ℕ Global → ℤ → List RowWrite
addition_writes s r head bytes day = row_write.Record r head Here ∷ row_write.Content r bytes ∷ day_writes s day

-- the tree with the next row put in is the tree with the record added
next_put : (t : TreeState) (r : ℕ) (head new : Record) → r ≡ length t.records + 1 → length t.statuses ≡ length t.records → head ≡ new → put_record t r head Here ≡ added_record t new
next_put t r head new next representing is =
    let also : r ≡ length t.statuses + 1 = omega arith in
    let heads = (λ j. put t.records (next j) (is j)) ∙ put_next t.records new in
    let statuses = ap (λ (k : ℕ). put t.statuses k Here) also ∙ put_next t.statuses Here in
    λ j. record t { records = heads j; statuses = statuses j }

pub record_added : (s : Office) (t : TreeState) (day : ℤ) (new : NewRecord) (r : ℕ) (head : Record) (bytes : Vec ℕ Global) (change : Change)
    → t ≡ s.tree → same_record s new ≡ None → first_of (dated s day (conditions_of_add_record t new.ref_text new.aggregation new.class new.schedule)) ≡ None → tree.IsSound t
    → r ≡ length t.records + 1 → head ≡ new_head day new → bytes.items ≡ new.content → change.answer ≡ Number r → change.writes.items ≡ addition_writes s r head bytes day
    → IsChangeTo s (λ contents. step_add_record (with_contents s contents) day new) change
record_added s t day new r head bytes change same none table sound next is copied done written =
    let accepted = subst (λ (u : TreeState). first_of (dated s day (conditions_of_add_record u new.ref_text new.aggregation new.class new.schedule)) ≡ None) same table in
    let sound_now = subst tree.IsSound same sound in
    let number = subst (λ (u : TreeState). r ≡ length u.records + 1) same next in
    let number_suc : suc (length s.tree.records) ≡ r = omega (arith, number) in
    let kept = IsSound-add_record s.tree (new_head day new) sound_now (dated_accepted s day (conditions_of_add_record s.tree new.ref_text new.aggregation new.class new.schedule) accepted).1 in
    let puts = next_put s.tree r head (new_head day new) number sound_now.statuses is in
    let low : 0 < r = omega (arith, number) in
    let last : r ≤ length s.tree.records + 1 = omega (arith, number) in
    let fits : CanWrite s (addition_writes s r head bytes day) = ((low, last, subst tree.IsSound (sym puts) kept, keeps_next_head s.tree.records r head number), (tt, days_follow s (write_office (row_write.Record r head Here) s) day)) in
    let days = few_days s day in
    let few : length change.writes.items ≤ 6 = rw written (omega (arith, days)) in
    subst (λ (o : Option ℕ). IsChangeTo s (λ contents. by_same_record o (with_contents s contents) day new) change) (sym none)
    (accepted_change s (refusals_of_add_record s day new) (Number (suc (length s.tree.records))) (λ contents. with_new_record (with_contents s contents) day new) change accepted
    (ap Number number_suc ∙ sym done) refl few (subst (CanWrite s) (sym written) fits)
    (λ contents. ap (λ ws. all_writes ws (with_contents s contents)) written ∙ day_led s day (all_writes (row_write.Record r head Here ∷ row_write.Content r bytes ∷ []) (with_contents s contents)) refl ∙ (λ j. with_contents (with_tree s day (puts j)) (insert contents (sym number_suc j) (copied j)))))
