use Rattle.std.proofs.Common.{◌≡◌, ℕ, ◌+◌, ◌-◌, ◌<◌, ◌≤◌, Bool, true, false, cond, not, ◌&&◌, List, length, refl, sym, ap, subst, ◌∙◌, arith}
use Rattle.std.specs.Bool.{beq}
use Rattle.std.specs.List.{All}
use Rattle.office_tree.specs.Summaries.{is_in_chain}
use Rattle.office_tree.proofs.ChainCounts.{chain_within, times_chain}
use Rattle.office_tree.proofs.SummarySteps.{times}
use Rattle.office_tree.proofs.summary.note_status_change.Goals as goal

-- the numbers are those of aggregations
pub add_active-requires-clause-within : goal.add_active-requires-clause-within
add_active-requires-clause-within c =
    let within : List ℕ → Type 0 = λ numbers. All (λ b. (0 < b) × (b ≤ length c.args.summaries.now)) numbers in
    subst within (sym (c.as_slice.ensures.value ∙ c.chain_of-numbers.ensures))
    (chain_within c.args.aggregations.now c.requires.forest c.args.aggregation (length c.args.summaries.now) c.requires.low (omega arith))

pub take_active-requires-clause-within : goal.take_active-requires-clause-within
take_active-requires-clause-within c =
    let within : List ℕ → Type 0 = λ numbers. All (λ b. (0 < b) × (b ≤ length c.args.summaries.now)) numbers in
    subst within (sym (c.as_slice-else-is_active.ensures.value ∙ c.chain_of-numbers.ensures))
    (chain_within c.args.aggregations.now c.requires.forest c.args.aggregation (length c.args.summaries.now) c.requires.low (omega arith))

-- where the two tests differ
other_active : (was is : Bool) → beq was is ≡ false → was ≡ not is
other_active true true e = absurd cc
other_active true false e = refl
other_active false true e = refl
other_active false false e = absurd cc

-- one is there to be taken
one_there : (n active : ℕ) (b was : Bool) → n ≡ cond b 1 0 → was ≡ true → ((b && was) ≡ true → 0 < active) → n ≤ active
one_there n active true was is on some = omega (arith, is, some on)
one_there n active false was is on some = omega (arith, is)

-- the record was not active, and is
more_active : (n active : ℕ) (b was is : Bool) → n ≡ cond b 1 0 → was ≡ not is → is ≡ true → active + n + cond (b && was) 1 0 ≡ active + cond (b && is) 1 0
more_active n active true was is once other on =
    let left : cond {A = ℕ} was 1 0 ≡ 0 = ap (λ t. cond {A = ℕ} t 1 0) (other ∙ ap not on) in
    let right : cond {A = ℕ} is 1 0 ≡ 1 = ap (λ t. cond {A = ℕ} t 1 0) on in
    omega (arith, once, left, right)
more_active n active false was is once other on = omega (arith, once)

-- the record was active, and is not
less_active : (n active : ℕ) (b was is : Bool) → n ≡ cond b 1 0 → was ≡ not is → is ≡ false → n ≤ active → active - n + cond (b && was) 1 0 ≡ active + cond (b && is) 1 0
less_active n active true was is once other off some =
    let left : cond {A = ℕ} was 1 0 ≡ 1 = ap (λ t. cond {A = ℕ} t 1 0) (other ∙ ap not off) in
    let right : cond {A = ℕ} is 1 0 ≡ 0 = ap (λ t. cond {A = ℕ} t 1 0) off in
    omega (arith, once, left, right, some)
less_active n active false was is once other off some = omega (arith, once)

pub take_active-requires-clause-some : goal.take_active-requires-clause-some
take_active-requires-clause-some c a it there =
    let once = ap (λ numbers. times numbers a) (c.as_slice-else-is_active.ensures.value ∙ c.chain_of-numbers.ensures) ∙ times_chain c.args.aggregations.now c.requires.forest c.args.aggregation a c.requires.low in
    let was : c.args.was_active ≡ true = other_active c.args.was_active c.args.is_active c.if-was_active-is_active.false ∙ ap not c.if-is_active.false in
    one_there (times c.as_slice-else-is_active.result.now a) it.active (is_in_chain c.args.aggregations.now c.args.aggregation a) c.args.was_active once was (c.requires.some a it there)

pub returns-then-is_active : goal.returns-then-is_active
returns-then-is_active c =
    let once : (a : ℕ) → times c.as_slice.result.now a ≡ cond (is_in_chain c.args.aggregations.now c.args.aggregation a) 1 0 =
    (λ a. ap (λ numbers. times numbers a) (c.as_slice.ensures.value ∙ c.chain_of-numbers.ensures) ∙ times_chain c.args.aggregations.now c.requires.forest c.args.aggregation a c.requires.low) in
    record {
      count = c.add_active.auto.summaries;
      each = λ a it there. (
        record it { active = it.active + times c.as_slice.result.now a },
        c.add_active.ensures a it there,
        record {
          last_addition = refl;
          records = refl;
          active = more_active (times c.as_slice.result.now a) it.active (is_in_chain c.args.aggregations.now c.args.aggregation a) c.args.was_active c.args.is_active (once a) (other_active c.args.was_active c.args.is_active c.if-was_active-is_active.false) c.if-is_active.true;
        },
      );
    }

pub returns-else-is_active : goal.returns-else-is_active
returns-else-is_active c = record {
  count = c.take_active.auto.summaries;
  each = λ a it there.
      let once = ap (λ numbers. times numbers a) (c.as_slice-else-is_active.ensures.value ∙ c.chain_of-numbers.ensures) ∙ times_chain c.args.aggregations.now c.requires.forest c.args.aggregation a c.requires.low in
      let other = other_active c.args.was_active c.args.is_active c.if-was_active-is_active.false in
      let some = one_there (times c.as_slice-else-is_active.result.now a) it.active (is_in_chain c.args.aggregations.now c.args.aggregation a) c.args.was_active once (other ∙ ap not c.if-is_active.false) (c.requires.some a it there) in (
        record it { active = it.active - times c.as_slice-else-is_active.result.now a },
        c.take_active.ensures a it there,
        record {
          last_addition = refl;
          records = refl;
          active = less_active (times c.as_slice-else-is_active.result.now a) it.active (is_in_chain c.args.aggregations.now c.args.aggregation a) c.args.was_active c.args.is_active once other c.if-is_active.false some;
        },
      );
}
