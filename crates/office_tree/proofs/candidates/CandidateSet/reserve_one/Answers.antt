use Rattle.std.proofs.Common.{◌++◌, ◌∷◌, [], ◌∙◌, false, ap, arith, rules}
use Rattle.office_tree.proofs.FlagLemmas.{take_same, take_next}
use Rattle.office_tree.proofs.candidates.CandidateSet.reserve_one.Goals as goal

pub returns-in_err-make_room-2-clause-err : goal.returns-in_err-make_room-2-clause-err
returns-in_err-make_room-2-clause-err c =
    let same = take_same c.self.inside.count c.make_room-2.new.self c.self.inside.flags c.make_room-2.ensures.same
    (omega (arith, c.self.invariant.1, c.make_room-2.ensures.grows)) c.self.invariant.1 ∙ c.self.view_is in
    search (rules, same)

pub returns-clause-ok : goal.returns-clause-ok
returns-clause-ok c =
    take_next c.self.inside.count c.self.inside.flags c.make_room-2.new.self c.make_room-2.ensures.same
    c.self.invariant.1 c.in_ok-make_room-2.ensures.room (c.self.invariant.3 c.self.inside.count (omega arith))
    ∙ ap (λ x. x ++ false ∷ []) c.self.view_is
