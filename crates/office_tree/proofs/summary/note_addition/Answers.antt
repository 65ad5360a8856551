use Rattle.std.proofs.Common.{◌≡◌, inl, inr, ℕ, ◌+◌, ◌-◌, ◌<◌, ◌≤◌, ◌==◌, Bool, true, false, cond, ◌&&◌, List, length, get_or, set, Some, ℤ, refl, sym, ap, subst, ◌∙◌, arith}
use Rattle.std.proofs.Math.ListN.{length-set}
use Rattle.std.specs.List.{All}
use Rattle.office_records.specs.Lists.{numbered, later}
use Rattle.office_tree.specs.Summaries.{added_to, is_in_chain}
use Rattle.office_records.specs.declared.aggregation.Aggregation.{Aggregation}
use Rattle.office_tree.specs.declared.summary.AggregationSummary.{AggregationSummary}
use Rattle.office_tree.proofs.ChainCounts.{chain_within, times_chain}
use Rattle.office_records.proofs.Places.{numbered_or}
use Rattle.office_tree.proofs.SummarySteps.{times, came, is_equal, not_equal, same_or_not, numbered-set, numbered-set_other}
use Rattle.office_tree.proofs.summary.note_addition.Goals as goal
use Rattle.office_tree.proofs.summary.note_addition.Goals.{then-is_active, else-is_active}

-- the numbers are those of aggregations
pub add_records-requires-clause-within : goal.add_records-requires-clause-within
add_records-requires-clause-within c =
    let within : List ℕ → Type 0 = λ numbers. All (λ b. (0 < b) × (b ≤ length c.args.summaries.now)) numbers in
    subst within (sym (c.as_slice.ensures.value ∙ c.chain_of-numbers.ensures))
    (chain_within c.args.aggregations.now c.requires.forest c.args.aggregation (length c.args.summaries.now) c.requires.low (omega arith))

pub add_active-requires-clause-within : goal.add_active-requires-clause-within
add_active-requires-clause-within c =
    let within : List ℕ → Type 0 = λ numbers. All (λ b. (0 < b) × (b ≤ length c.add_records.new.summaries)) numbers in
    subst within (sym (c.as_slice-then-is_active.ensures.value ∙ c.chain_of-numbers.ensures))
    (chain_within c.args.aggregations.now c.requires.forest c.args.aggregation (length c.add_records.new.summaries) c.requires.low (omega arith))

pub add_active-requires-clause-few : goal.add_active-requires-clause-few
add_active-requires-clause-few c a it there =
    let from = came (λ n (it : AggregationSummary). record it { records = it.records + n }) c.args.summaries.now c.add_records.new.summaries c.as_slice.result.now a it c.add_records.auto.summaries c.add_records.ensures there in
    omega (arith, (c.requires.few a from.it from.there).1, ap (λ (x : AggregationSummary). x.active) from.is)

-- so many records more, active or not
abbrev counted : ℕ → Bool → AggregationSummary → AggregationSummary
counted n is_active it = record it { records = it.records + n; active = it.active + cond is_active n 0 }

both_on : (b l : Bool) → cond {A = ℕ} l (cond b 1 0) 0 ≡ cond (b && l) 1 0
both_on true true = refl
both_on true false = refl
both_on false true = refl
both_on false false = refl

-- a summary is as it is to be once its records are counted and, at its own aggregation, the last addition is noted
noted : (aggregations : List Aggregation) (aggregation : ℕ) (day : ℤ) (is_active : Bool) (a n : ℕ) (it : AggregationSummary) → n ≡ cond (is_in_chain aggregations aggregation a) 1 0 → (here : Bool) → (aggregation == a) ≡ here
    → record (counted n is_active it) { last_addition = cond here (later it.last_addition day) it.last_addition } ≡ added_to aggregations aggregation day is_active a it
noted aggregations aggregation day is_active a n it once here is =
    let active : cond {A = ℕ} is_active n 0 ≡ cond (is_in_chain aggregations aggregation a && is_active) 1 0 = ap (λ k. cond {A = ℕ} is_active k 0) once ∙ both_on (is_in_chain aggregations aggregation a) is_active in
    (λ t. record { last_addition = cond (sym is t) (later it.last_addition day) it.last_addition; records = it.records + once t; active = it.active + active t })

-- what is there once the last addition is written
written : (aggregations : List Aggregation) (aggregation : ℕ) (day : ℤ) (is_active : Bool) (a n : ℕ) (it : AggregationSummary) (mid : List AggregationSummary) (d : AggregationSummary) (last : ℤ) → 0 < aggregation → aggregation ≤ length mid → n ≡ cond (is_in_chain aggregations aggregation a) 1 0
    → numbered mid a ≡ Some (counted n is_active it) → Some last ≡ later (get_or mid (aggregation - 1) d).last_addition day
    → numbered (set mid (aggregation - 1) (record (get_or mid (aggregation - 1) d) { last_addition = Some last })) a ≡ Some (added_to aggregations aggregation day is_active a it)
written aggregations aggregation day is_active a n it mid d last low high once there latest =
    elim (same_or_not a aggregation) [
      | inl same ↦
          let read : Some (get_or mid (aggregation - 1) d) ≡ Some (counted n is_active it) = sym (numbered_or mid aggregation d low high) ∙ ap (numbered mid) (sym same) ∙ there in
          let was : get_or mid (aggregation - 1) d ≡ counted n is_active it = cc read in
          ap (numbered (set mid (aggregation - 1) (record (get_or mid (aggregation - 1) d) { last_addition = Some last }))) same
          ∙ numbered-set mid aggregation (record (get_or mid (aggregation - 1) d) { last_addition = Some last }) low high
          ∙ ap (λ last. Some (record (get_or mid (aggregation - 1) d) { last_addition = last })) latest
          ∙ ap (λ (x : AggregationSummary). Some (record x { last_addition = later x.last_addition day })) was
          ∙ ap Some (noted aggregations aggregation day is_active a n it once true (is_equal aggregation a (sym same)))
      | inr other ↦
          numbered-set_other mid aggregation (record (get_or mid (aggregation - 1) d) { last_addition = Some last }) a low high other
          ∙ there
          ∙ ap Some (noted aggregations aggregation day is_active a n it once false (not_equal aggregation a (λ e. other (sym e))))
    ]

not_active : (is_active : Bool) (n active : ℕ) → is_active ≡ false → active ≡ active + cond is_active n 0
not_active is_active n active off = let none : cond is_active n 0 ≡ 0 = ap (λ t. cond t n 0) off in omega (arith, none)

pub returns : goal.returns
returns c =
    let aggregations = c.args.aggregations.now in
    let aggregation = c.args.aggregation in
    let once : (a : ℕ) → times c.as_slice.result.now a ≡ cond (is_in_chain aggregations aggregation a) 1 0 =
    (λ a. ap (λ numbers. times numbers a) (c.as_slice.ensures.value ∙ c.chain_of-numbers.ensures) ∙ times_chain aggregations c.requires.forest aggregation a c.requires.low) in
    let mid : (a : ℕ) (it : AggregationSummary) → numbered c.args.summaries.now a ≡ Some it → numbered c.if-is_active.summaries a ≡ Some (counted (times c.as_slice.result.now a) c.args.is_active it) =
    (λ a it there. elim c.if-is_active.branch [
      | then-is_active w ↦
          let same : times w.as_slice-then-is_active.result.now a ≡ cond c.args.is_active (times c.as_slice.result.now a) 0 =
          ap (λ numbers. times numbers a) (w.as_slice-then-is_active.ensures.value ∙ sym c.as_slice.ensures.value) ∙ ap (λ t. cond t (times c.as_slice.result.now a) 0) (sym w.if-is_active.true) in
          ap (λ summaries. numbered summaries a) w.summaries-is
          ∙ w.add_active.ensures a (record it { records = it.records + times c.as_slice.result.now a }) (c.add_records.ensures a it there)
          ∙ ap (λ n. Some (record it { records = it.records + times c.as_slice.result.now a; active = it.active + n })) same
      | else-is_active w ↦
          ap (λ summaries. numbered summaries a) w.summaries-is
          ∙ c.add_records.ensures a it there
          ∙ ap (λ n. Some (record it { records = it.records + times c.as_slice.result.now a; active = n })) (not_active c.args.is_active (times c.as_slice.result.now a) it.active w.if-is_active.false)
    ]) in
    record {
      count = length-set c.if-is_active.summaries (aggregation - 1) (record (get_or c.if-is_active.summaries (aggregation - 1) c.index-summaries-aggregation.result) { last_addition = Some c.later.result }) ∙ c.if-is_active.auto.summaries ∙ c.add_records.auto.summaries;
      each = λ a it there. written aggregations aggregation c.args.day c.args.is_active a (times c.as_slice.result.now a) it c.if-is_active.summaries c.index-summaries-aggregation.result c.later.result c.requires.low (omega arith) (once a) (mid a it there) c.later.ensures;
    }
