use Rattle.std.proofs.Common.{◌≡◌, ◌∙◌, List, ℕ, Option, length, map, rules, ap, sym, subst}
use Rattle.std.proofs.lemmas.List.Elements.{All-map, All-nil, All-push, All-weaker}
use Rattle.std.proofs.lemmas.Map.Iter.{iter_end}
use Rattle.std.specs.Borrow.{Bor}
use Rattle.std.specs.BTreeMap.{keys}
use Rattle.std.specs.FinMap.{empty, from_entries, get}
use Rattle.std.specs.List.{All}
use Rattle.std.specs.Map.Iter.{deref}
use Rattle.std.specs.Prelude.{IsSome}
use Rattle.office_tree.specs.ClassIndex.{HaveNumbers, NumberMap}
use Rattle.office_records.specs.Tree.{code_cmp}
use Rattle.office_records.specs.declared.class.Class.{Class}
use Rattle.office_tree.proofs.Codes.{code_all}
use Rattle.office_tree.proofs.Listed.{numbers_none, stays_named}
use Rattle.office_records.proofs.Plan.{get_is}
use Rattle.office_tree.proofs.class_index.numbered_classes.Goals as goal

pub loop-code-init : goal.loop-code-init
loop-code-init c = record {
  named = All-nil (λ (code : Bor (List ℕ)). IsSome (get (from_entries {R = code_cmp} c.new-class_index.result.numbers.entries) code.now));
  numbers = subst (λ (numbers : NumberMap). HaveNumbers empty numbers (length c.new-class_index.result.class_lists.first.items)) (sym c.new-class_index.ensures.numbers) (subst (λ (n : ℕ). HaveNumbers empty empty n) (sym (ap length c.new-class_index.ensures.first)) numbers_none);
  class = c.new-class_index.ensures.class;
}

pub loop-code-preserved : goal.loop-code-preserved
loop-code-preserved c =
    let old = from_entries {R = code_cmp} c.loop-code.class_index.numbers.entries in
    let new = from_entries {R = code_cmp} c.add_class.new.self.numbers.entries in
    record {
      named =
          All-push (λ (code : Bor (List ℕ)). IsSome (get new code.now)) c.loop-code.yielded c.in-Some.code
          (All-weaker (λ (code : Bor (List ℕ)). IsSome (get old code.now)) (λ (code : Bor (List ℕ)). IsSome (get new code.now)) (λ code there. stays_named old new code.now c.add_class.ensures.kept there) c.loop-code.yielded c.loop-code.invariant.named)
          c.in_ok-add_class.ensures.named;
      numbers = c.add_class.ensures.numbers empty c.loop-code.invariant.numbers;
      class = c.add_class.ensures.class ∙ c.loop-code.invariant.class;
    }

pub returns-clause-numbers : goal.returns-clause-numbers
returns-clause-numbers c =
    let numbers = from_entries {R = code_cmp} c.loop-code.class_index.numbers.entries in
    let shown : map deref c.loop-code.yielded ≡ keys c.args.classes.now = search (rules, iter_end) in
    let IsNamed : List ℕ → Type 0 = λ code. IsSome (get numbers code) in
    let all : All IsNamed (keys c.args.classes.now) = subst (All IsNamed) shown (All-map IsNamed deref c.loop-code.yielded c.loop-code.invariant.named) in
    record {
      each = λ code there. code_all IsNamed c.args.classes.now.entries code all (subst (λ (o : Option Class). IsSome o) (get_is c.args.classes.now.entries code) there);
      within = c.loop-code.invariant.numbers.within;
    }
