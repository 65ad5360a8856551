use Rattle.std.proofs.Common.{◌≡◌, ◌+◌, ◌++◌, ◌<◌, false, length, map, ap, ◌∙◌, sym, add-one, arith}
use Rattle.std.proofs.lemmas.List.{get_or_read}
use Rattle.office_rules.proofs.Listing.{is_spent_by}
use Rattle.office_rules.specs.Runs.{spent_list}
use Rattle.office_machine.proofs.SpentByEntries.{spent_after, spent_at_first, spent_next, unspent_next, spent_where_found, unspent_where_none}
use Rattle.office_machine.proofs.run_certificate.spent_list.Goals as goal
use Rattle.office_machine.proofs.run_certificate.spent_list.Goals.{then-index+then-spent+in_ok-push, else-index, else-index-via-then-index+else-spent, else-index-via-else-index}

pub loop-before-init : goal.loop-before-init
loop-before-init c =
    let entries = map (λ entry. entry.now) c.args.entries.now in
    ap (λ so_far. so_far ++ spent_after c.args.tree.now entries 0) c.new-spent.ensures.items ∙ spent_at_first c.args.tree.now entries

pub loop-before-preserved : goal.loop-before-preserved
loop-before-preserved c =
    let tree = c.args.tree.now in
    let entries = map (λ entry. entry.now) c.args.entries.now in
    let before = c.loop-before.before in
    let left : before < length tree.aggregations = omega (arith, c.loop-before-test.true, c.aggregation_count-before-end.ensures.count) in
    let marked : before < length c.in_ok-marks.marks.items = omega (arith, left, c.in_ok-marks.ensures.count) in
    let is = get_or_read c.in_ok-marks.marks.items before c.index.result.now marked c.index.ensures false ∙ c.in_ok-marks.ensures.each before marked in
    elim c.if-index.branch [
      | then-index+then-spent+in_ok-push w ↦
          let passes = sym w.if-spent.true ∙ spent_where_found tree entries (before + 1) c.index.result.now is w.spent.result w.spent.ensures w.if-index.true in
          ap (λ so_far. so_far ++ spent_after tree entries (before + 1)) (ap (λ spent. spent.items) w.spent-is ∙ w.in_ok-push.ensures.items)
          ∙ spent_next tree entries c.loop-before.spent.items (spent_list tree entries) before (before + 1) (add-one _) left passes c.loop-before.invariant
      | else-index w ↦
          let fails : false ≡ is_spent_by tree entries (before + 1) = elim w.else-index.branch [
            | else-index-via-then-index+else-spent w' ↦ sym w'.if-spent.false ∙ spent_where_found tree entries (before + 1) c.index.result.now is w'.spent.result w'.spent.ensures w'.if-index.true
            | else-index-via-else-index w' ↦ sym w'.if-index.false ∙ unspent_where_none tree entries (before + 1) c.index.result.now is w'.if-index.false
          ] in
          ap (λ spent. spent.items ++ spent_after tree entries (before + 1)) w.spent-is
          ∙ unspent_next tree entries c.loop-before.spent.items (spent_list tree entries) before (before + 1) (add-one _) left fails c.loop-before.invariant
    ]
