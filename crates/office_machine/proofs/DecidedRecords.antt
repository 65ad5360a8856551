-- Decisions that write the row of one record or one aggregation, and the office's day.
use Rattle.std.proofs.Common.{◌≡◌, ◌≤◌, ◌+◌, ℕ, Bool, true, List, ◌∷◌, length, Option, Some, None, ℤ, refl, sym, ap, ◌∙◌, subst, arith}
use Rattle.std.specs.Prelude.{not}
use Rattle.std.specs.Option.{option_map}
use Rattle.office_base.specs.declared.refusal.Refusal.{Refusal}
use Rattle.office_records.specs.Conditions.{first_of, conditions_of_confirm, conditions_of_receipt, conditions_of_review, conditions_of_set_record_schedule, lacks_schedule}
use Rattle.office_records.specs.Effects.{receipted, with_head}
use Rattle.office_records.specs.Lasting.{HeadStays}
use Rattle.office_records.specs.Lists.{numbered, or_else, put}
use Rattle.office_records.specs.Rows.{put_record}
use Rattle.office_records.specs.Sound as tree
use Rattle.office_records.specs.Tree.{TreeState, due_of, has_record}
use Rattle.office_records.specs.declared.action.Action.{Action}
use Rattle.office_records.specs.declared.head.Confirmation.{Confirmation}
use Rattle.office_records.specs.declared.head.Record.{Record}
use Rattle.office_records.specs.declared.status.Status.{Status}
use Rattle.office_records.specs.declared.status.Status.TheVariants.{Received}
use Rattle.office_records.proofs.Accepting.{none_holds, neither, not_false}
use Rattle.office_records.proofs.Amending.{IsSound-confirm, IsSound-receipt, IsSound-review, IsSound-set_record_schedule}
use Rattle.office_records.proofs.LastingRows.{keeps_head}
use Rattle.office_records.proofs.Places.{numbered_within}
use Rattle.office_records.proofs.Putting.{put-edited, put_edited_to, put_same}
use Rattle.office_rules.specs.Acts.{IsChangeTo}
use Rattle.office_rules.specs.Conditions.{dated, refusals_of_confirm, refusals_of_receipt, refusals_of_review, refusals_of_set_record_schedule}
use Rattle.office_rules.specs.Effects.{with_tree}
use Rattle.office_rules.specs.State.{with_contents, Office, with_office}
use Rattle.office_rules.specs.Steps.{stepped, step_confirm, step_receipt, step_review, step_set_record_schedule}
use Rattle.office_rules.specs.Writes.{CanWrite, all_writes, write, write_office}
use Rattle.office_rules.specs.declared.answer.Answer.TheVariants.{Done}
use Rattle.office_rules.specs.declared.change.Change.{Change}
use Rattle.office_rules.specs.declared.rows.RowWrite.{RowWrite}
use Rattle.office_rules.specs.declared.rows.RowWrite.TheVariants as row_write
use Rattle.office_rules.proofs.Accepted.{dated_accepted}
use Rattle.office_machine.specs.DayWrites.{day_writes}
use Rattle.office_machine.proofs.Decisions.{accepted_change}
use Rattle.office_machine.proofs.DayWrites.{day_led, days_follow, few_days}

-- ---- what an accepted act says of the tree

-- the tree's own conditions do not hold, where those of the dated table do not
pub accepted_in : (s : Office) (day : ℤ) (conditions : List (Refusal × Bool)) (answer : Option Refusal) → answer ≡ first_of (dated s day conditions) → answer ≡ None → first_of conditions ≡ None
accepted_in s day conditions answer is none = (dated_accepted s day conditions (sym is ∙ none)).1

-- a record whose schedule may be set is there
pub record_to_schedule : (t : TreeState) (r : ℕ) (schedule : Option (List ℕ)) → first_of (conditions_of_set_record_schedule t r schedule) ≡ None → has_record t r ≡ true
record_to_schedule t r schedule accepted =
    not_false (has_record t r) (neither (not (has_record t r)) (lacks_schedule t schedule) (none_holds (conditions_of_set_record_schedule t r schedule) accepted).0).0

-- and one that may be confirmed
pub record_to_confirm : (t : TreeState) (day : ℤ) (r : ℕ) (named : Action) → first_of (conditions_of_confirm t day r named) ≡ None → has_record t r ≡ true
record_to_confirm t day r named accepted = not_false (has_record t r) (none_holds (conditions_of_confirm t day r named) accepted).0

-- and one that may be reviewed
pub record_to_review : (t : TreeState) (day : ℤ) (r : ℕ) (schedule : Option (List ℕ)) → first_of (conditions_of_review t day r schedule) ≡ None → has_record t r ≡ true
record_to_review t day r schedule accepted =
    not_false (has_record t r) (neither (not (has_record t r)) (lacks_schedule t schedule) (none_holds (conditions_of_review t day r schedule) accepted).0).0

-- and one of which a receipt may be reported
pub record_to_receipt : (t : TreeState) (r : ℕ) (digest : List ℕ) → first_of (conditions_of_receipt t r digest) ≡ None → has_record t r ≡ true
record_to_receipt t r digest accepted = not_false (has_record t r) (none_holds (conditions_of_receipt t r digest) accepted).0

-- ---- the row of a record

-- a row of a record that is there, and the day
abbrev pub head_writes : Office → ℕ → Record → Status → ℤ → List RowWrite
head_writes s r head status day = row_write.Record r head status ∷ day_writes s day

-- the tree with the row put in is the tree with the head changed
head_put : (t : TreeState) (r : ℕ) (edit : Record → Record) (old head : Record) (status : Status) → numbered t.records r ≡ Some old → numbered t.statuses r ≡ Some status → head ≡ edit old
    → record t { records = put t.records r head; statuses = put t.statuses r status } ≡ with_head t r edit
head_put t r edit old head status there representing is =
    λ i. record t { records = (ap (put t.records r) is ∙ put-edited t.records r edit old there) i; statuses = put_same t.statuses r status representing i }

-- a row put in place of the one of a record that is there, which makes a sound tree of the tree
row_changed : (s : Office) (day : ℤ) (r : ℕ) (next : TreeState) (old head : Record) (status : Status) (conditions : List (Refusal × Bool)) (change : Change)
    → first_of conditions ≡ None → numbered s.tree.records r ≡ Some old → HeadStays old head → put_record s.tree r head status ≡ next → tree.IsSound next
    → change.answer ≡ Done → change.writes.items ≡ head_writes s r head status day
    → IsChangeTo s (λ contents. stepped conditions (with_contents s contents) Done (with_office (with_contents s contents) (with_tree s day next))) change
row_changed s day r next old head status conditions change accepted there stays puts sound done written =
    let within = numbered_within s.tree.records r old there in
    let last : r ≤ length s.tree.records + 1 = omega (arith, within.1) in
    let fits : CanWrite s (head_writes s r head status day) = ((within.0, last, subst tree.IsSound (sym puts) sound, keeps_head s.tree.records r old head there stays), days_follow s (write_office (row_write.Record r head status) s) day) in
    let days = few_days s day in
    let few : length change.writes.items ≤ 6 = rw written (omega (arith, days)) in
    accepted_change s conditions Done (λ contents. with_office (with_contents s contents) (with_tree s day next)) change accepted (sym done) refl few
    (subst (CanWrite s) (sym written) fits)
    (λ contents. ap (λ ws. all_writes ws (with_contents s contents)) written ∙ day_led s day (write (row_write.Record r head status) (with_contents s contents)) refl ∙ ap (λ t. with_contents (with_tree s day t) contents) puts)

pub head_changed : (s : Office) (day : ℤ) (r : ℕ) (edit : Record → Record) (old head : Record) (status : Status) (conditions : List (Refusal × Bool)) (change : Change)
    → first_of conditions ≡ None → numbered s.tree.records r ≡ Some old → numbered s.tree.statuses r ≡ Some status → head ≡ edit old → HeadStays old (edit old) → tree.IsSound (with_head s.tree r edit)
    → change.answer ≡ Done → change.writes.items ≡ head_writes s r head status day
    → IsChangeTo s (λ contents. stepped conditions (with_contents s contents) Done (with_office (with_contents s contents) (with_tree s day (with_head s.tree r edit)))) change
head_changed s day r edit old head status conditions change accepted there representing is stays sound done written =
    row_changed s day r (with_head s.tree r edit) old head status conditions change accepted there (subst (HeadStays old) (sym is) stays) (head_put s.tree r edit old head status there representing is) sound done written

-- what a decision reads of a record that is there: its head and its status
pub record IsRead (t : TreeState) (r : ℕ) (old : Record) (status : Status) : Type 0 where
  pub sound : tree.IsSound t
  pub there : numbered t.records r ≡ Some old
  pub representing : numbered t.statuses r ≡ Some status

pub scheduled : (s : Office) (t : TreeState) (day : ℤ) (r : ℕ) (schedule : Option (List ℕ)) (old head : Record) (status : Status) (change : Change)
    → t ≡ s.tree → first_of (dated s day (conditions_of_set_record_schedule t r schedule)) ≡ None → IsRead t r old status → head ≡ record old { schedule = schedule }
    → change.answer ≡ Done → change.writes.items ≡ head_writes s r head status day
    → IsChangeTo s (λ contents. step_set_record_schedule (with_contents s contents) day r schedule) change
scheduled s t day r schedule old head status change same table reads is done written =
    let accepted = subst (λ (u : TreeState). first_of (dated s day (conditions_of_set_record_schedule u r schedule)) ≡ None) same table in
    let read = subst (λ (u : TreeState). IsRead u r old status) same reads in
    let sound = IsSound-set_record_schedule s.tree r schedule read.sound (dated_accepted s day (conditions_of_set_record_schedule s.tree r schedule) accepted).1 in
    head_changed s day r (λ it. record it { schedule = schedule }) old head status (refusals_of_set_record_schedule s day r schedule) change accepted read.there read.representing is (record { ref_text = refl; aggregation = refl; added = refl }) sound done written

-- the confirmation of a record with that due day
abbrev pub confirming : Action → ℤ → List ℕ → Option ℤ → Option Confirmation
confirming named day by due = option_map (λ it. record { action = named; due = it; day = day; by = by }) due

pub confirmed_on : (s : Office) (t : TreeState) (day : ℤ) (r : ℕ) (named : Action) (by : List ℕ) (old head : Record) (status : Status) (change : Change)
    → t ≡ s.tree → first_of (dated s day (conditions_of_confirm t day r named)) ≡ None → IsRead t r old status
    → head ≡ record old { confirmation = confirming named day by (due_of t r) }
    → change.answer ≡ Done → change.writes.items ≡ head_writes s r head status day
    → IsChangeTo s (λ contents. step_confirm (with_contents s contents) day r named by) change
confirmed_on s t day r named by old head status change same table reads is done written =
    let accepted = subst (λ (u : TreeState). first_of (dated s day (conditions_of_confirm u day r named)) ≡ None) same table in
    let read = subst (λ (u : TreeState). IsRead u r old status) same reads in
    let head_is = subst (λ (u : TreeState). head ≡ record old { confirmation = confirming named day by (due_of u r) }) same is in
    let sound = IsSound-confirm s.tree day r named by read.sound (dated_accepted s day (conditions_of_confirm s.tree day r named) accepted).1 in
    head_changed s day r (λ it. record it { confirmation = confirming named day by (due_of s.tree r) }) old head status
    (refusals_of_confirm s day r named) change accepted read.there read.representing head_is (record { ref_text = refl; aggregation = refl; added = refl }) sound done written

pub reviewed_on : (s : Office) (t : TreeState) (day : ℤ) (r : ℕ) (schedule : Option (List ℕ)) (by : List ℕ) (old head : Record) (status : Status) (change : Change)
    → t ≡ s.tree → first_of (dated s day (conditions_of_review t day r schedule)) ≡ None → IsRead t r old status
    → head ≡ record old { review = Some (record { day = day; by = by }); schedule = or_else schedule old.schedule }
    → change.answer ≡ Done → change.writes.items ≡ head_writes s r head status day
    → IsChangeTo s (λ contents. step_review (with_contents s contents) day r schedule by) change
reviewed_on s t day r schedule by old head status change same table reads is done written =
    let accepted = subst (λ (u : TreeState). first_of (dated s day (conditions_of_review u day r schedule)) ≡ None) same table in
    let read = subst (λ (u : TreeState). IsRead u r old status) same reads in
    let sound = IsSound-review s.tree day r schedule by read.sound (dated_accepted s day (conditions_of_review s.tree day r schedule) accepted).1 in
    head_changed s day r (λ it. record it { review = Some (record { day = day; by = by }); schedule = or_else schedule it.schedule }) old head status
    (refusals_of_review s day r schedule) change accepted read.there read.representing is (record { ref_text = refl; aggregation = refl; added = refl }) sound done written

-- the tree with the row put in is the tree with the receipt
receipt_put : (t : TreeState) (day : ℤ) (r : ℕ) (by : List ℕ) (old head : Record) → tree.IsSound t → numbered t.records r ≡ Some old → head ≡ record old { receipt = Some (record { day = day; by = by }) }
    → put_record t r head Received ≡ receipted t day r by
receipt_put t day r by old head sound there is =
    let change : Record → Record = λ it. record it { receipt = Some (record { day = day; by = by }) } in
    let within = numbered_within t.records r old there in
    let last : r ≤ length t.statuses = rw sound.statuses within.1 in
    λ i. record t { records = (ap (put t.records r) is ∙ put-edited t.records r change old there) i; statuses = put_edited_to t.statuses r Received last i }

pub received_on : (s : Office) (t : TreeState) (day : ℤ) (r : ℕ) (digest by : List ℕ) (old head : Record) (change : Change)
    → t ≡ s.tree → first_of (dated s day (conditions_of_receipt t r digest)) ≡ None → tree.IsSound t → numbered t.records r ≡ Some old
    → head ≡ record old { receipt = Some (record { day = day; by = by }) }
    → change.answer ≡ Done → change.writes.items ≡ head_writes s r head Received day
    → IsChangeTo s (λ contents. step_receipt (with_contents s contents) day r digest by) change
received_on s t day r digest by old head change same table sound there is done written =
    let accepted = subst (λ (u : TreeState). first_of (dated s day (conditions_of_receipt u r digest)) ≡ None) same table in
    let own_sound = subst (λ (u : TreeState). tree.IsSound u) same sound in
    let own_there = subst (λ (u : TreeState). numbered u.records r ≡ Some old) same there in
    let next_sound = IsSound-receipt s.tree day r digest by own_sound (dated_accepted s day (conditions_of_receipt s.tree r digest) accepted).1 in
    row_changed s day r (receipted s.tree day r by) old head Received (refusals_of_receipt s day r digest) change accepted own_there (subst (HeadStays old) (sym is) (record { ref_text = refl; aggregation = refl; added = refl }))
    (receipt_put s.tree day r by old head own_sound own_there is) next_sound done written
