-- What is cached of aggregations is right with no records, and stays so as records are noted one after another.
use Rattle.std.proofs.Common.{◌≡◌, ℕ, zero, suc, ◌+◌, ◌-◌, ◌<◌, ◌≤◌, ◌==◌, ◌&&◌, true, false, cond, not, List, [], ◌∷◌, ◌++◌, length, map, get_or, Some, None, slice_get, refl, sym, ap, subst, ◌∙◌, arith}
use Rattle.std.proofs.Math.Bool.{and-false}
use Rattle.std.specs.FinMap.{empty}
use Rattle.office_records.specs.Disposal.{is_ended}
use Rattle.office_records.specs.Lasting.{HeadStays}
use Rattle.office_records.specs.Lists.{numbered, later, put}
use Rattle.office_records.specs.Rows.{put_record}
use Rattle.office_tree.specs.Summaries.{AreAdded, AreAfterStatusChange, AreSummaries, added_to, is_in_chain}
use Rattle.office_records.specs.Tree.{TreeState, last_addition}
use Rattle.office_records.specs.declared.aggregation.Aggregation.{Aggregation}
use Rattle.office_records.specs.declared.head.Record.{Record}
use Rattle.office_records.specs.declared.status.Status.{Status}
use Rattle.office_records.specs.declared.status.Status.TheVariants.{Ended}
use Rattle.office_tree.specs.declared.summary.AggregationSummary.{AggregationSummary}
use Rattle.office_tree.proofs.AdditionsPut.{last_addition_put, last_addition_push}
use Rattle.office_records.proofs.Places.{numbered_within, numbered_or}
use Rattle.office_records.proofs.Putting.{put_past, put_next}
use Rattle.office_tree.proofs.SummaryLemmas.{records-next, active-next_beside, records-put, active-put, records_few, active_few}

-- a tree of these rows alone, with no schedules and no classes
abbrev pub rows : List Aggregation → List Record → List Status → TreeState
rows aggregations records statuses = record { schedules = empty; classes = empty; aggregations = aggregations; records = records; statuses = statuses; events = empty }

-- what is kept does not speak of schedules and classes
pub summaries_of_rows : (tree : TreeState) (aggregations : List Aggregation) (records : List Record) (statuses : List Status) (summaries : List AggregationSummary) → tree.aggregations ≡ aggregations → tree.records ≡ records → tree.statuses ≡ statuses
    → AreSummaries (rows aggregations records statuses) summaries → AreSummaries tree summaries
summaries_of_rows tree aggregations records statuses summaries same_aggregations same_records same_statuses are =
    let P : TreeState → Type 0 = λ it. AreSummaries it summaries in
    let own = subst P (λ t. rows (sym same_aggregations t) (sym same_records t) (sym same_statuses t)) are in
    record {
      count = own.count;
      each = λ a it at. let h = own.each a it at in record { last_addition = h.last_addition; records = h.records; active = h.active };
    }

-- ---- no records

-- what is cached of an aggregation that no record is below
abbrev pub fresh : AggregationSummary
fresh = record { last_addition = None; records = 0; active = 0 }

slice_get-fresh : (xs : List Aggregation) (i : ℕ) (it : AggregationSummary) → slice_get (map (λ _. fresh) xs) i ≡ Some it → it ≡ fresh
slice_get-fresh [] i it e = absurd cc
slice_get-fresh (x ∷ xs) zero it e = cc
slice_get-fresh (x ∷ xs) (suc i) it e = slice_get-fresh xs i it e

numbered-fresh : (xs : List Aggregation) (a : ℕ) (it : AggregationSummary) → numbered (map (λ _. fresh) xs) a ≡ Some it → it ≡ fresh
numbered-fresh xs zero it e = absurd cc
numbered-fresh xs (suc i) it e = slice_get-fresh xs i it e

length-fresh : (xs : List Aggregation) → length (map (λ _. fresh) xs) ≡ length xs
length-fresh [] = refl
length-fresh (x ∷ xs) = ap suc (length-fresh xs)

no_addition : (a : ℕ) → last_addition [] a ≡ None
unfolding last_addition
no_addition a = refl

pub fresh_summaries : (aggregations : List Aggregation) → AreSummaries (rows aggregations [] []) (map (λ _. fresh) aggregations)
fresh_summaries aggregations = record {
  count = length-fresh aggregations;
  each = λ a it at. let is = numbered-fresh aggregations a it at in record {
    last_addition = ap (λ (x : AggregationSummary). x.last_addition) is ∙ sym (no_addition a);
    records = ap (λ (x : AggregationSummary). x.records) is;
    active = ap (λ (x : AggregationSummary). x.active) is;
  };
}

-- no more are kept than there are records
pub summaries_few : (tree : TreeState) (summaries : List AggregationSummary) (n : ℕ) → AreSummaries tree summaries → length tree.records ≤ n → (a : ℕ) (it : AggregationSummary) → numbered summaries a ≡ Some it → (it.records ≤ n) × (it.active ≤ n)
summaries_few tree summaries n are few a it at =
    let h = are.each a it at in
    let most = records_few tree a in
    (omega (arith, h.records, most, few), omega (arith, h.active, active_few tree a, most, few))

-- ---- one record more

-- what is cached is right of the tree with a record more once its addition is noted
pub summaries_next : (tree : TreeState) (q : ℕ) (head : Record) (status : Status) (old new : List AggregationSummary) → length tree.statuses ≡ length tree.records → q ≡ length tree.records + 1
    → AreAdded tree.aggregations head.aggregation head.added (not (is_ended status)) old new → AreSummaries tree old → AreSummaries (put_record tree q head status) new
summaries_next tree q head status old new beside q_is added are = record {
  count = added.count ∙ are.count;
  each = λ a it at.
      let within = numbered_within new a it at in
      let was : AggregationSummary = get_or old (a - 1) it in
      let there : numbered old a ≡ Some was = numbered_or old a it within.0 (omega (arith, within.1, added.count)) in
      let both : Some it ≡ Some (added_to tree.aggregations head.aggregation head.added (not (is_ended status)) a was) = sym at ∙ added.each a was there in
      let is : it ≡ added_to tree.aggregations head.aggregation head.added (not (is_ended status)) a was = cc both in
      let summary = are.each a was there in
      record {
        last_addition = ap (λ (x : AggregationSummary). x.last_addition) is
            ∙ ap (λ o. cond (head.aggregation == a) (later o head.added) o) summary.last_addition
            ∙ sym (last_addition_push tree.records head a)
            ∙ ap (λ records. last_addition records a) (sym (put_past tree.records q head (omega (arith, q_is))));
        records = ap (λ (x : AggregationSummary). x.records) is
            ∙ ap (λ n. n + cond (is_in_chain tree.aggregations head.aggregation a) 1 0) summary.records
            ∙ sym (records-next tree q head status a q_is);
        active = ap (λ (x : AggregationSummary). x.active) is
            ∙ ap (λ n. n + cond (is_in_chain tree.aggregations head.aggregation a && not (is_ended status)) 1 0) summary.active
            ∙ sym (active-next_beside tree q head status a beside q_is);
      };
}

pushed : (aggregations : List Aggregation) (records : List Record) (statuses : List Status) (head : Record) (status : Status) → length statuses ≡ length records
    → put_record (rows aggregations records statuses) (length records + 1) head status ≡ rows aggregations (records ++ head ∷ []) (statuses ++ status ∷ [])
pushed aggregations records statuses head status beside =
    let next : put statuses (length records + 1) status ≡ statuses ++ status ∷ [] = ap (λ n. put statuses (n + 1) status) (sym beside) ∙ put_next statuses status in
    (λ t. rows aggregations (put_next records head t) (next t))

-- so it is of rows alone
pub noted_summaries : (aggregations : List Aggregation) (records : List Record) (statuses : List Status) (head : Record) (status : Status) (old new : List AggregationSummary) → length statuses ≡ length records
    → AreAdded aggregations head.aggregation head.added (not (is_ended status)) old new → AreSummaries (rows aggregations records statuses) old → AreSummaries (rows aggregations (records ++ head ∷ []) (statuses ++ status ∷ [])) new
noted_summaries aggregations records statuses head status old new beside added are =
    let P : TreeState → Type 0 = λ tree. AreSummaries tree new in
    subst P (pushed aggregations records statuses head status beside) (summaries_next (rows aggregations records statuses) (length records + 1) head status old new beside refl added are)

-- ---- a record that turns

-- what is cached is right of the tree with a record's row in place of the old one once its turn is noted
pub summaries_put : (tree : TreeState) (q : ℕ) (head : Record) (status : Status) (old new : List AggregationSummary) (row : Record) (was : Status) → numbered tree.records q ≡ Some row → HeadStays row head → numbered tree.statuses q ≡ Some was
    → AreAfterStatusChange tree.aggregations row.aggregation (not (is_ended was)) (not (is_ended status)) old new → AreSummaries tree old → AreSummaries (put_record tree q head status) new
summaries_put tree q head status old new row was there stays status_there turned are = record {
  count = turned.count ∙ are.count;
  each = λ a it at.
      let within = numbered_within new a it at in
      let before : AggregationSummary = get_or old (a - 1) it in
      let placed : numbered old a ≡ Some before = numbered_or old a it within.0 (omega (arith, within.1, turned.count)) in
      let next = turned.each a before placed in
      let both : Some it ≡ Some next.0 = sym at ∙ next.1 in
      let is : it ≡ next.0 = cc both in
      let summary = are.each a before placed in
      record {
        last_addition = ap (λ (x : AggregationSummary). x.last_addition) is ∙ next.2.last_addition ∙ summary.last_addition ∙ sym (last_addition_put tree.records q head row a there stays.aggregation stays.added);
        records = ap (λ (x : AggregationSummary). x.records) is ∙ next.2.records ∙ summary.records ∙ ap length (sym (records-put tree q head status a row there stays));
        active = omega (arith, ap (λ (x : AggregationSummary). x.active) is, next.2.active, summary.active, active-put tree q head status a row was there stays status_there);
      };
}

-- one is kept of a record that is not ended
pub summaries_some : (tree : TreeState) (q : ℕ) (summaries : List AggregationSummary) (row : Record) (was : Status) → numbered tree.records q ≡ Some row → numbered tree.statuses q ≡ Some was → AreSummaries tree summaries
    → (a : ℕ) (it : AggregationSummary) → numbered summaries a ≡ Some it → (is_in_chain tree.aggregations row.aggregation a && not (is_ended was)) ≡ true → 0 < it.active
summaries_some tree q summaries row was there status_there are a it at on =
    let one : cond {A = ℕ} (is_in_chain tree.aggregations row.aggregation a && not (is_ended was)) 1 0 ≡ 1 = ap (λ t. cond {A = ℕ} t 1 0) on in
    let none : cond {A = ℕ} (is_in_chain tree.aggregations row.aggregation a && false) 1 0 ≡ 0 = ap (λ t. cond {A = ℕ} t 1 0) (and-false (is_in_chain tree.aggregations row.aggregation a)) in
    omega (arith, one, none, (are.each a it at).active, active-put tree q row Ended a row was there (record { ref_text = refl; aggregation = refl; added = refl }) status_there)
