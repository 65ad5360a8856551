-- What becomes of the contents of records.
use Rattle.std.proofs.Common.{◌≡◌, ◌≢◌, ℕ, suc, ◌≤◌, ◌==◌, true, false, cond, List, [], ◌∷◌, length, Option, Some, None, refl, sym, ap, ◌∙◌, arith, unwrap_or, is_none, inl, inr, ℤ}
use Rattle.std.proofs.lemmas.Bool.{cases_eq}
use Rattle.std.proofs.lemmas.Bool.Decides.{nat_tests}
use Rattle.std.specs.Cmp.{nat_cmp_total}
use Rattle.std.specs.FinMap.{get, get-insert, get-remove}
use Rattle.std.specs.Ordering.{nat_cmp, eq_by_cmp}
use Rattle.office_records.specs.Lists.{is_some_and}
use Rattle.office_base.specs.declared.refusal.Refusal.TheVariants.{NoRun}
use Rattle.office_rules.specs.declared.outcome.Outcome.{Outcome}
use Rattle.office_rules.specs.declared.outcome.Outcome.TheVariants as outcome
use Rattle.office_rules.specs.Disposing.{outcome_of}
use Rattle.office_rules.specs.Effects.{with_new_record}
use Rattle.office_rules.specs.Meanings.{ended_by}
use Rattle.office_rules.specs.NewRecords.{NewRecord}
use Rattle.office_rules.specs.Runs.{open_run, next_ready, run_step, step_at, step_of, with_outcomes, contents_with, closed}
use Rattle.office_rules.specs.State.{State, ByteMap}
use Rattle.office_rules.specs.Steps.{stepped, step_run_step, answer_in, answer_at}
use Rattle.office_rules.specs.declared.answer.Answer.{Answer}
use Rattle.office_rules.specs.declared.answer.Answer.TheVariants as answer

same_test : (r c : ℕ) → eq_by_cmp nat_cmp r c ≡ (c == r)
same_test r c = elim (cases_eq r c) [
  | inl same ↦ let a : eq_by_cmp nat_cmp r c ≡ true = grind (arith, nat_tests) in let b : (c == r) ≡ true = grind (arith, nat_tests) in a ∙ sym b
  | inr other ↦ let a : eq_by_cmp nat_cmp r c ≡ false = grind (arith, nat_tests) in let b : (c == r) ≡ false = grind (arith, nat_tests) in a ∙ sym b
]

pub get-removed : (contents : ByteMap) (c r : ℕ) (o : Outcome) → ended_by (answer.Step c o) ≡ Some c → get (contents_with contents c (Some o)) r ≡ cond (c == r) None (get contents r)
get-removed contents c r outcome.Sent e = absurd cc
get-removed contents c r outcome.Skipped e = absurd cc
get-removed contents c r outcome.Destroyed e = get-remove nat_cmp_total contents c r ∙ ap (λ b. cond b None (get contents r)) (same_test r c)
get-removed contents c r outcome.Transferred e = get-remove nat_cmp_total contents c r ∙ ap (λ b. cond b None (get contents r)) (same_test r c)

-- the content of r, without what this answer reports to be ended
abbrev pub left_by : State → ℕ → Answer → Option (List ℕ)
left_by s r reported = cond (is_some_and (ended_by reported) (λ e. e == r)) None (get s.contents r)

by_outcome : (s : State) (c r : ℕ) (o : Option Outcome) → get (contents_with s.contents c o) r ≡ left_by s r (answer.Step c (unwrap_or o outcome.Skipped))
by_outcome s c r None = refl
by_outcome s c r (Some outcome.Sent) = refl
by_outcome s c r (Some outcome.Skipped) = refl
by_outcome s c r (Some outcome.Destroyed) = get-removed s.contents c r outcome.Destroyed refl
by_outcome s c r (Some outcome.Transferred) = get-removed s.contents c r outcome.Transferred refl

by_next : (s : State) (run r : ℕ) (next : Option ℕ) → get (step_at s run next).contents r ≡ left_by s r (answer_at s.office run next)
unfolding closed with_outcomes
by_next s run r None = refl
by_next s run r (Some c) = by_outcome s c r (outcome_of s.office c)

by_open : (s : State) (r : ℕ) (o : Option ℕ) → get (stepped ((NoRun, is_none o) ∷ []) s (answer_in s.office o) (step_of s o)).1.contents r ≡ left_by s r (stepped ((NoRun, is_none o) ∷ []) s (answer_in s.office o) (step_of s o)).0
unfolding run_step
by_open s r None = refl
by_open s r (Some run) = by_next s run r (next_ready s.office run)

-- a step takes away the content of what it ends, and no other
pub step_contents : (s : State) (r : ℕ) → get (step_run_step s).1.contents r ≡ left_by s r (step_run_step s).0
step_contents s r = by_open s r (open_run s.office)

-- what an outcome does to another record's content
pub contents_other : (contents : ByteMap) (c r : ℕ) (o : Option Outcome) → c ≢ r → get (contents_with contents c o) r ≡ get contents r
contents_other contents c r None h = refl
contents_other contents c r (Some outcome.Sent) h = refl
contents_other contents c r (Some outcome.Skipped) h = refl
contents_other contents c r (Some outcome.Destroyed) h = let other : (c == r) ≡ false = grind (arith, nat_tests) in get-removed contents c r outcome.Destroyed refl ∙ ap (λ b. cond b None (get contents r)) other
contents_other contents c r (Some outcome.Transferred) h = let other : (c == r) ≡ false = grind (arith, nat_tests) in get-removed contents c r outcome.Transferred refl ∙ ap (λ b. cond b None (get contents r)) other

-- a new record's content is under its number
pub content_added : (s : State) (day : ℤ) (new : NewRecord) → get (with_new_record s day new).contents (suc (length s.office.tree.records)) ≡ Some new.content
content_added s day new =
    let n : ℕ = suc (length s.office.tree.records) in
    let same : eq_by_cmp nat_cmp n n ≡ true = grind (arith, nat_tests) in
    get-insert nat_cmp_total s.contents n new.content n ∙ ap (λ b. cond b (Some new.content) (get s.contents n)) same

later_number : (r n : ℕ) → r ≤ n → eq_by_cmp nat_cmp r (suc n) ≡ false
later_number r n h = grind (arith, nat_tests)

pub content_stays : (s : State) (day : ℤ) (new : NewRecord) (r : ℕ) → r ≤ length s.office.tree.records → get (with_new_record s day new).contents r ≡ get s.contents r
content_stays s day new r h =
    get-insert nat_cmp_total s.contents (suc (length s.office.tree.records)) new.content r
    ∙ ap (λ b. cond b (Some new.content) (get s.contents r)) (later_number r (length s.office.tree.records) h)
