use Rattle.std.proofs.Common.{◌-◌, ◌<◌, ◌∙◌, length, set, take, false, ap, arith}
use Rattle.std.proofs.Math.Seq.{take-set-lt}
use Rattle.std.proofs.lemmas.List.{length-take-le}
use Rattle.office_tree.proofs.candidates.CandidateSet.remove.Goals as goal

pub returns-then-is_none : goal.returns-then-is_none
returns-then-is_none c =
    let inside = c.self.inside in
    let within : c.args.record_no - 1 < inside.count =
    omega (arith, c.requires.low, c.requires.high, ap length c.self.view_is, length-take-le inside.count inside.flags c.self.invariant.1) in
    ap (take inside.count) c.clear.ensures
    ∙ take-set-lt inside.count inside.flags (c.args.record_no - 1) false within
    ∙ ap (λ x. set x (c.args.record_no - 1) false) c.self.view_is

pub returns-else-is_none : goal.returns-else-is_none
returns-else-is_none c =
    let inside = c.self.inside in
    let within : c.args.record_no - 1 < inside.count =
    omega (arith, c.requires.low, c.requires.high, ap length c.self.view_is, length-take-le inside.count inside.flags c.self.invariant.1) in
    ap (take inside.count) c.clear.ensures
    ∙ take-set-lt inside.count inside.flags (c.args.record_no - 1) false within
    ∙ ap (λ x. set x (c.args.record_no - 1) false) c.self.view_is
