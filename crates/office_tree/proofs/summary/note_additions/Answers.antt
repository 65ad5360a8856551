use Rattle.std.proofs.Common.{◌≡◌, ℕ, ◌+◌, ◌-◌, ◌<◌, Bool, not, List, [], ◌∷◌, ◌++◌, length, get_or, take, Some, sym, ap, subst, ◌∙◌, arith}
use Rattle.std.proofs.lemmas.List.{length-take-le, take_all, take_more}
use Rattle.office_records.specs.Lists.{numbered}
use Rattle.office_tree.specs.Summaries.{AreAdded, AreSummaries}
use Rattle.office_records.specs.declared.head.Record.{Record}
use Rattle.office_records.specs.declared.status.Status.{Status}
use Rattle.office_records.specs.declared.status.Status.TheVariants.{Here}
use Rattle.office_tree.specs.declared.summary.AggregationSummary.{AggregationSummary}
use Rattle.office_records.proofs.Places.{numbered_read}
use Rattle.office_tree.proofs.SummariesNoted.{rows, summaries_of_rows, fresh_summaries, noted_summaries, summaries_few}
use Rattle.office_tree.proofs.summary.note_additions.Goals as goal

-- what is read at a place is the record of the next number
read_at : (records : List Record) (i : ℕ) (head : Record) → i < length records → head ≡ get_or records i head → numbered records (i + 1) ≡ Some head
read_at records i head h at =
    let same : i ≡ i + 1 - 1 = omega arith in
    numbered_read records (i + 1) head (omega arith) (omega (arith, h)) (at ∙ ap (λ k. get_or records k head) same)

pub loop-i-init : goal.loop-i-init
loop-i-init c = subst (λ (summaries : List AggregationSummary). AreSummaries (rows c.args.aggregations.now [] []) summaries) (sym c.requires.fresh) (fresh_summaries c.args.aggregations.now)

pub note_addition-requires-clause-low : goal.note_addition-requires-clause-low
note_addition-requires-clause-low c =
    (c.requires.containers (c.loop-i.i + 1) c.index-records-i.result (read_at c.args.records.now c.loop-i.i c.index-records-i.result c.loop-i-test.true c.index-records-i.is)).0

pub note_addition-requires-clause-high : goal.note_addition-requires-clause-high
note_addition-requires-clause-high c =
    (c.requires.containers (c.loop-i.i + 1) c.index-records-i.result (read_at c.args.records.now c.loop-i.i c.index-records-i.result c.loop-i-test.true c.index-records-i.is)).1

pub note_addition-requires-clause-few : goal.note_addition-requires-clause-few
note_addition-requires-clause-few c =
    let i = c.loop-i.i in
    summaries_few (rows c.args.aggregations.now (take i c.args.records.now) (take i c.args.statuses.now)) c.loop-i.summaries 200_000 c.loop-i.invariant
    (omega (arith, length-take-le i c.args.records.now c.loop-i.auto.i-end, c.loop-i.auto.i-end, c.requires.few))

pub loop-i-preserved : goal.loop-i-preserved
loop-i-preserved c =
    let i = c.loop-i.i in
    let aggregations = c.args.aggregations.now in
    let records = c.args.records.now in
    let statuses = c.args.statuses.now in
    let head = c.index-records-i.result in
    let status : Status = get_or statuses i Here in
    let old = c.loop-i.summaries in
    let new = c.note_addition.new.summaries in
    let high : i < length statuses = omega (arith, c.loop-i-test.true, c.requires.statuses) in
    let beside : length (take i statuses) ≡ length (take i records) =
    omega (arith, length-take-le i records c.loop-i.auto.i-end, length-take-le i statuses (omega (arith, high))) in
    let added = subst (λ (b : Bool). AreAdded aggregations head.aggregation head.added (not b) old new) c.is_ended-is_active.ensures c.note_addition.ensures in
    let more_records : take i records ++ head ∷ [] ≡ take (i + 1) records = ap (λ (x : Record). take i records ++ x ∷ []) c.index-records-i.is ∙ sym (take_more records i head c.loop-i-test.true) in
    let more_statuses : take i statuses ++ status ∷ [] ≡ take (i + 1) statuses = sym (take_more statuses i Here high) in
    let P : List Record → List Status → Type 0 = λ xs ys. AreSummaries (rows aggregations xs ys) new in
    subst (P (take (i + 1) records)) more_statuses
    (subst (λ (xs : List Record). P xs (take i statuses ++ status ∷ [])) more_records
    (noted_summaries aggregations (take i records) (take i statuses) head status old new beside added c.loop-i.invariant))

pub returns : goal.returns
returns c tree same_aggregations same_records same_statuses =
    let i = c.loop-i.i in
    let records = take_all i c.args.records.now c.loop-i-test.false in
    let statuses = take_all i c.args.statuses.now (omega (arith, c.loop-i-test.false, c.requires.statuses)) in
    summaries_of_rows tree c.args.aggregations.now (take i c.args.records.now) (take i c.args.statuses.now) c.loop-i.summaries same_aggregations (same_records ∙ sym records) (same_statuses ∙ sym statuses) c.loop-i.invariant
