use Rattle.std.proofs.Common.{◌≡◌, ◌+◌, ◌∙◌, ℕ, length, ap, sym, subst, arith}
use Rattle.std.specs.Prelude.{IsSome}
use Rattle.std.specs.FinMap.{from_entries, get, insert}
use Rattle.std.specs.Option.{is_some}
use Rattle.std.specs.Prelude.{false}
use Rattle.office_tree.specs.ClassIndex.{HaveNumbers, NumberMap}
use Rattle.office_records.specs.Tree.{code_cmp}
use Rattle.office_tree.proofs.Listed.{numbered_new, numbers_kept, numbers_next}
use Rattle.office_records.proofs.Inserting.{inserted}
use Rattle.office_records.proofs.Plan.{contains_is}
use Rattle.office_tree.proofs.class_index.ClassIndex.add_class.Goals as goal

-- the numbers with the new one
more : (c : goal.After-add_class) → from_entries {R = code_cmp} c.insert.new.self.entries ≡ insert (from_entries {R = code_cmp} c.args.self.now.numbers.entries) c.args.code.now (c.len-number.result + 1)
more c =
    inserted c.args.self.now.numbers.entries c.insert.new.self.entries c.in_ok-copy.field-0 (c.len-number.result + 1) c.in_ok-insert.ensures.updates.0
    ∙ ap (λ k. insert (from_entries {R = code_cmp} c.args.self.now.numbers.entries) k (c.len-number.result + 1)) c.in_ok-copy.ensures

fresh : (c : goal.After-add_class) → is_some (get (from_entries {R = code_cmp} c.args.self.now.numbers.entries) c.args.code.now) ≡ false
fresh c = contains_is c.args.self.now.numbers.entries c.args.code.now ∙ sym c.contains_key.ensures ∙ c.if-contains_key.false

pub returns-then-contains_key-clause-named : goal.returns-then-contains_key-clause-named
returns-then-contains_key-clause-named c = contains_is c.args.self.now.numbers.entries c.args.code.now ∙ sym c.contains_key.ensures ∙ c.if-contains_key.true

pub returns-clause-named : goal.returns-clause-named
returns-clause-named c =
    subst (λ (numbers : NumberMap). IsSome (get numbers c.args.code.now)) (sym (more c)) (numbered_new (from_entries {R = code_cmp} c.args.self.now.numbers.entries) c.args.code.now (c.len-number.result + 1))

pub returns-clause-kept : goal.returns-clause-kept
returns-clause-kept c = λ q n e.
    ap (λ (numbers : NumberMap). get numbers q) (more c)
    ∙ numbers_kept (from_entries {R = code_cmp} c.args.self.now.numbers.entries) c.args.code.now (c.len-number.result + 1) q n (fresh c) e

pub returns-clause-numbers : goal.returns-clause-numbers
returns-clause-numbers c = λ classes right.
    let first = c.args.self.now.class_lists.first.items in
    let number : c.len-number.result + 1 ≡ length first + 1 = omega (arith, c.len-number.ensures, ap length c.make_class_room.ensures.first) in
    let count : length first + 1 ≡ length c.add_class.new.self.first.items = omega (arith, c.add_class.ensures.classes, ap length c.make_class_room.ensures.first) in
    let next = numbers_next classes (from_entries {R = code_cmp} c.args.self.now.numbers.entries) (length first) (c.len-number.result + 1) c.args.code.now number right in
    subst (λ (n : ℕ). HaveNumbers classes (from_entries {R = code_cmp} c.insert.new.self.entries) n) count
    (subst (λ (numbers : NumberMap). HaveNumbers classes numbers (length first + 1)) (sym (more c)) next)
