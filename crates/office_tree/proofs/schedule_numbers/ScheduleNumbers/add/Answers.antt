use Rattle.std.proofs.Common.{◌≡◌, ◌∷◌, ◌++◌, ◌+◌, [], List, ℕ, Some, arith, ap, sym, subst, ◌∙◌, length}
use Rattle.std.specs.FinMap.{from_entries, insert}
use Rattle.office_records.specs.Lists.{numbered}
use Rattle.office_records.specs.Tree.{code_cmp}
use Rattle.office_tree.proofs.Codes.{code_added}
use Rattle.office_records.proofs.Inserting.{inserted}
use Rattle.office_tree.proofs.RefIndexes.{numbered_kept, numbered_last}
use Rattle.office_tree.proofs.schedule_numbers.ScheduleNumbers.add.Goals as goal

-- the codes with the new one
pushed : (c : goal.In_ok-push) → c.self.inside.codes.items ++ c.args.code.now ∷ [] ≡ c.push.new.self.items
pushed c = ap (λ code. c.self.inside.codes.items ++ code ∷ []) (sym c.in_ok-copy.ensures) ∙ ap (λ codes. codes ++ c.in_ok-copy.copy ∷ []) (sym c.try_reserve.ensures.items) ∙ sym c.in_ok-push.ensures.items

pub invariant_of-self-2 : goal.invariant_of-self-2
invariant_of-self-2 c =
    let put = inserted c.self.inside.numbers.entries c.insert.new.self.entries c.in_ok-copy-2.field-0 (c.len-plan.result + 1) c.in_ok-insert.ensures.updates.0 in
    let next : c.len-plan.result + 1 ≡ length c.self.inside.codes.items + 1 = omega (arith, c.len-plan.ensures, ap length c.try_reserve.ensures.items) in
    let index =
    put
    ∙ ap (λ k. insert (from_entries {R = code_cmp} c.self.inside.numbers.entries) k (c.len-plan.result + 1)) c.in_ok-copy-2.ensures
    ∙ ap (insert (from_entries {R = code_cmp} c.self.inside.numbers.entries) c.args.code.now) next in
    code_added _ _ c.self.inside.codes.items c.push.new.self.items c.args.code.now c.self.invariant index (pushed c)

pub returns-clause-among : goal.returns-clause-among
returns-clause-among c =
    (length c.self.inside.codes.items + 1, subst (λ (codes : List (List ℕ)). numbered codes (length c.self.inside.codes.items + 1) ≡ Some c.args.code.now) (pushed c) (numbered_last c.self.inside.codes.items c.args.code.now (length c.self.inside.codes.items + 1) (omega arith)))

pub returns-clause-stay : goal.returns-clause-stay
returns-clause-stay c = λ n code e.
    subst (λ (codes : List (List ℕ)). numbered codes n ≡ Some code) (pushed c) (numbered_kept c.self.inside.codes.items c.args.code.now code n (ap (λ codes. numbered codes n) c.self.view_is ∙ e))
