use Rattle.std.proofs.Common.{◌-◌, ◌<◌, ◌∙◌, length, set, take, true, ap, arith}
use Rattle.std.proofs.Math.Seq.{take-set-lt}
use Rattle.std.proofs.lemmas.List.{length-take-le}
use Rattle.office_tree.proofs.candidates.CandidateSet.insert.Goals as goal

pub returns : goal.returns
returns c =
    let inside = c.self.inside in
    let within : c.args.record_no - 1 < inside.count =
    omega (arith, c.requires.low, c.requires.high, ap length c.self.view_is, length-take-le inside.count inside.flags c.self.invariant.1) in
    ap (take inside.count) c.set.ensures
    ∙ take-set-lt inside.count inside.flags (c.args.record_no - 1) true within
    ∙ ap (λ x. set x (c.args.record_no - 1) true) c.self.view_is
