-- The rules of four eyes that the office itself decides: what one name did keeps it from another step. A name is known
-- in the office by what it signs. Source: own.
use Rattle.std.specs.Prelude.{ℕ, ◌+◌, Bool, false, not, ◌&&◌, ◌||◌, List, length, Option, Some, None, ℤ, pos, ◌+ℤ◌, int_lt}
use Rattle.std.specs.FinMap.{get}
use Rattle.std.specs.List.{find, list_any}
use Rattle.std.specs.Option.{is_some, option_and_then, option_map}
use Rattle.std.specs.Str.{bytes_eq}
use Rattle.office_records.specs.Disposal.{confirmation_of, is_ended}
use Rattle.office_records.specs.Lists.{is_some_and, numbered, numbers_after}
use Rattle.office_records.specs.Tree.{TreeState, status_of}
use Rattle.office_records.specs.declared.head.Receipt.{Receipt}
use Rattle.office_records.specs.declared.head.Review.{Review}
use Rattle.office_rules.specs.Outcomes.{is_sending}
use Rattle.office_rules.specs.Runs.{open_run, opened_by}
use Rattle.office_rules.specs.State.{Office}
use Rattle.office_rules.specs.declared.act.Act.{Act}
use Rattle.office_rules.specs.declared.act.Act.TheVariants as act
use Rattle.office_access.specs.Kinds.{is_decision, is_making, kind_of, opening_day, received_record, same_kind}
use Rattle.office_access.specs.Rights.{may_carry_out}
use Rattle.office_access.specs.declared.grants.Grants.{Grants}
use Rattle.office_access.specs.declared.kind.Kind.TheVariants as kind
use Rattle.office_access.specs.declared.rule.Rule.{Rule}
use Rattle.office_access.specs.declared.rule.Rule.TheVariants as rule
use Rattle.office_access.specs.declared.rule.Rules.{Rules}
use Rattle.office_access.specs.declared.trace.Trace.{Trace}
use Rattle.office_access.specs.declared.trace.Trace.TheVariants as trace

-- ---- who did what, by the office

-- who opened the run that is open
abbrev pub opener_of : Office → Option (List ℕ)
opener_of s = option_map (opened_by s) (open_run s)

-- the run sent the record
abbrev pub is_sent_in : Office → ℕ → ℕ → Bool
is_sent_in s r run = is_some_and (get s.entries (run, r)) (λ entry. is_sending entry.outcome)

-- who opened the run of that number
abbrev pub run_opener : Office → ℕ → Option (List ℕ)
run_opener s run = option_map (λ it. it.by) (numbered s.runs run)

-- the run that sent the record, and who opened it
abbrev pub sending_run : Office → ℕ → Option ℕ
sending_run s r = find (is_sent_in s r) (numbers_after 0 (length s.runs))

abbrev pub sender_of : Office → ℕ → Option (List ℕ)
sender_of s r = option_and_then (run_opener s) (sending_run s r)

-- the name opened the run that is open
abbrev pub is_opener : Office → List ℕ → Bool
is_opener s signs = is_some_and (opener_of s) (bytes_eq signs)

-- a run is open, and the name opened it or may carry it out
abbrev pub has_part : Office → List ℕ → Grants → Bool
has_part s signs grants =
    is_some (opener_of s)
    && (is_opener s signs || may_carry_out grants)

-- the last review of the record, and its receipt
abbrev pub review_of : TreeState → ℕ → Option Review
review_of tree r = option_and_then (λ head. head.review) (numbered tree.records r)

abbrev pub receipt_of : TreeState → ℕ → Option Receipt
receipt_of tree r = option_and_then (λ head. head.receipt) (numbered tree.records r)

-- the record is not ended
abbrev pub is_left : TreeState → ℕ → Bool
is_left tree r = not (is_some_and (status_of tree r) is_ended)

-- a day less than that many days before another
abbrev pub is_within : ℕ → ℤ → ℤ → Bool
is_within days day before = int_lt day (before +ℤ pos days)

-- what a name did about a record: it confirmed the record last; or recorded its event, or reviewed it, in the days
-- before a day; or filed its receipt. It does not matter whether a confirmation counts just now
abbrev pub has_trace : TreeState → List ℕ → Trace → ℕ → Bool
has_trace tree signs trace.Confirmation r =
    is_left tree r && is_some_and (confirmation_of tree r) (λ it. bytes_eq it.by signs)
has_trace tree signs (trace.Change days day) r =
    is_left tree r
    && (is_some_and (get tree.events r) (λ it. bytes_eq it.by signs && is_within days day it.day)
    || is_some_and (review_of tree r) (λ it. bytes_eq it.by signs && is_within days day it.day))
has_trace tree signs trace.Receipt r =
    is_left tree r && is_some_and (receipt_of tree r) (λ it. bytes_eq it.by signs)

-- the name did so about one of the records
abbrev pub has_trace_anywhere : TreeState → List ℕ → Trace → Bool
has_trace_anywhere tree signs trace = list_any (has_trace tree signs trace) (numbers_after 0 (length tree.records))

-- ---- the rules

-- each rule, if it is on, with the acts from which it keeps a name
abbrev pub forbids : Rules → Office → List ℕ → Grants → Act → Rule → Bool
-- a step of the run that the name opened
forbids rules s signs grants a rule.OpenerDoesNotCarryOut =
    rules.opener_does_not_carry_out && same_kind (kind_of a) kind.RunStep && is_opener s signs
-- to open a run while a record that the name confirmed is left; and to decide, while the name has a part in a run
forbids rules s signs grants a rule.ConfirmerDoesNotOpen =
    rules.confirmer_does_not_open
    && (is_some (opening_day a) && has_trace_anywhere s.tree signs trace.Confirmation
    || is_decision a && has_part s signs grants)
-- to open a run while a record is left that the name changed in the days before; and to decide, or to make something
-- with a schedule, a class or an early day, while the name has a part in a run
forbids rules s signs grants a rule.ChangerDoesNotOpen =
    is_some_and rules.changer_does_not_open (λ days.
    is_some_and (opening_day a) (λ day. has_trace_anywhere s.tree signs (trace.Change days day))
    || (is_decision a || is_making a) && has_part s signs grants)
-- the receipt of a record that was sent by a run of the name
forbids rules s signs grants a rule.SenderDoesNotReceive =
    rules.sender_does_not_receive
    && is_some_and (option_and_then (sender_of s) (received_record a)) (bytes_eq signs)
-- to open a run while a record is left of which the name filed the receipt; and a receipt, while it has a part in a run
forbids rules s signs grants a rule.ReceiverDoesNotOpen =
    rules.receiver_does_not_open
    && (is_some (opening_day a) && has_trace_anywhere s.tree signs trace.Receipt
    || is_some (received_record a) && has_part s signs grants)
