use Rattle.std.proofs.Common.{◌≡◌, ◌+◌, ◌-◌, ◌<◌, length, take, drop, Some, None, rules, arith}
use Rattle.std.specs.List.{position}
use Rattle.std.proofs.lemmas.Grind.{common_steps}
use Rattle.office_plan.proofs.FirstLine.{is_feed, lines-feed, lines-alone}
use Rattle.office_plan.proofs.lines.next_line.Goals as goal

pub returns-in-Some-clause-first : goal.returns-in-Some-clause-first
returns-in-Some-clause-first c =
    let rest = c.args.rest.now in
    let end = c.in-Some.end in
    let found : position is_feed rest ≡ Some end = search rules in
    let after : take (length rest - (end + 1)) (drop (end + 1) rest) ≡ drop (end + 1) rest = grind (arith, common_steps) in
    rw (after, c.without_return.ensures) (lines-feed rest end found)

pub returns-in-None-clause-first : goal.returns-in-None-clause-first
returns-in-None-clause-first c =
    let none : position is_feed c.args.rest.now ≡ None = search rules in
    let some : 0 < length c.args.rest.now = search rules in
    lines-alone c.args.rest.now some none
