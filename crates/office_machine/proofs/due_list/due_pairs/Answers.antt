use Rattle.std.proofs.Common.{◌≡◌, ◌+◌, sym, subst, refl, length, arith}
use Rattle.std.specs.BTreeSet.{contains}
use Rattle.office_machine.specs.Selections.{due_selected}
use Rattle.office_machine.proofs.DueLists.{AreFound, pair_cmp, found_none, found_more, found_all}
use Rattle.office_machine.proofs.due_list.due_pairs.Goals as goal
use Rattle.office_machine.proofs.due_list.due_pairs.Goals.{in-Some+in_ok-insert, in_default}

pub loop-before-preserved : goal.loop-before-preserved
loop-before-preserved c =
    let here = due_selected c.args.selection.now c.args.tree.now in
    let n = c.loop-before.before in
    let had = contains pair_cmp c.loop-before.pairs in
    elim c.match-due_selected.branch [
      | in-Some+in_ok-insert w ↦
          subst (λ pairs. AreFound here (n + 1) (contains pair_cmp pairs)) (sym w.pairs-is)
          (found_more here n (n + 1) refl w.in-Some.due (contains pair_cmp w.insert.new.self) had (sym w.in-Some.ensures) w.in_ok-insert.ensures.updates.0 c.loop-before.invariant)
      | in_default w ↦
          subst (λ pairs. AreFound here (n + 1) (contains pair_cmp pairs)) (sym w.pairs-is)
          (found_none here n (n + 1) refl had (sym w.in_default.ensures) c.loop-before.invariant)
    ]

pub returns : goal.returns
returns c =
    let all : c.loop-before.before ≡ length c.args.tree.now.records = omega (arith, c.loop-before-test.false, c.loop-before.auto.before-end, c.record_count-before-end.ensures.count) in
    found_all c.args.selection.now c.args.tree.now c.loop-before.before c.loop-before.pairs all c.loop-before.invariant
