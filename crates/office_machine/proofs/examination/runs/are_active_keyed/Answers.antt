use Rattle.std.proofs.Common.{◌≡◌, ◌+◌, ◌<◌, ◌≤◌, ◌∙◌, Some, length, not, arith, sym}
use Rattle.office_records.specs.Disposal.{is_ended}
use Rattle.office_records.specs.Lists.{numbered}
use Rattle.office_records.proofs.Placed.{numbered_there}
use Rattle.office_records.proofs.Places.{numbered_at}
use Rattle.office_machine.proofs.ActiveKeys.{IsKeyed, goes_with_key, key_goes, none_gone}
use Rattle.office_machine.proofs.RunTests.{numbers_all, passing}
use Rattle.office_machine.proofs.examination.runs.are_active_keyed.Goals as goal

pub loop-before-init : goal.loop-before-init
loop-before-init c = none_gone c.args.tree.now.statuses c.args.keys.now c.requires.active

pub returns-then-not-is_key_at-clause-no : goal.returns-then-not-is_key_at-clause-no
returns-then-not-is_key_at-clause-no c reported all =
    let statuses = c.args.tree.now.statuses in
    let n = c.loop-before.before in
    let found = passing (λ status. not (is_ended status)) (numbered statuses (n + 1)) (sym c.is_active.ensures ∙ c.if-not-is_active.false) in
    let there = all (n + 1) found.0 found.1 found.2 in
    c.is_key_at.ensures.no c.if-not-is_key_at.true (goes_with_key statuses c.args.keys.now c.requires.active c.requires.ascend n c.loop-before.at c.loop-before.invariant there)

pub returns-clause-yes : goal.returns-clause-yes
returns-clause-yes c reported =
    let statuses = c.args.tree.now.statuses in
    let all : length statuses ≤ c.loop-before.before = omega (arith, c.loop-before-test.false, c.record_count-before-end.ensures.count, c.sound.ensures.statuses) in
    numbers_all (IsKeyed c.args.keys.now) statuses c.loop-before.before all c.loop-before.invariant.keyed

pub loop-before-preserved : goal.loop-before-preserved
loop-before-preserved c =
    let statuses = c.args.tree.now.statuses in
    let n = c.loop-before.before in
    let within : n < length statuses = omega (arith, c.loop-before-test.true, c.record_count-before-end.ensures.count, c.sound.ensures.statuses) in
    let found = numbered_there statuses n within in
    let there : numbered statuses (n + 1) ≡ Some found.0 = numbered_at statuses (n + 1) n (omega arith) ∙ found.1 in
    key_goes statuses c.args.keys.now c.requires.active c.requires.ascend n c.loop-before.at found.0 c.loop-before.invariant there (c.is_key_at.ensures.yes c.if-not-is_key_at.false)
