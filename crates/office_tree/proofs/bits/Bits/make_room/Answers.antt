use Rattle.std.proofs.Common.{◌∙◌, length, ap, arith}
use Rattle.std.proofs.lemmas.List.{length_push}
use Rattle.office_tree.specs.Flags.{flag_at}
use Rattle.office_tree.specs.Levels.{bits_of}
use Rattle.office_tree.proofs.BitsLemmas.{length-bits_of, flag_at-push}
use Rattle.office_tree.proofs.bits.Bits.make_room.Goals as goal

pub returns-in_ok-push-clause-room : goal.returns-in_ok-push-clause-room
returns-in_ok-push-clause-room c =
    omega (arith, length-bits_of c.self.inside.words.items, length-bits_of c.push.new.self.items, ap length c.in_ok-push.ensures.items, length_push c.self.inside.words.items 0, ap length c.self.view_is, c.requires)

pub returns-in_ok-push-clause-same : goal.returns-in_ok-push-clause-same
returns-in_ok-push-clause-same c k =
    ap (λ x. flag_at (bits_of x) k) c.in_ok-push.ensures.items
    ∙ flag_at-push c.self.inside.words.items k
    ∙ ap (λ x. flag_at x k) c.self.view_is

pub returns-in_ok-push-clause-grows : goal.returns-in_ok-push-clause-grows
returns-in_ok-push-clause-grows c =
    omega (arith, length-bits_of c.self.inside.words.items, length-bits_of c.push.new.self.items, ap length c.in_ok-push.ensures.items, length_push c.self.inside.words.items 0, ap length c.self.view_is)

pub returns-in_ok-push-clause-little : goal.returns-in_ok-push-clause-little
returns-in_ok-push-clause-little c =
    omega (arith, length-bits_of c.self.inside.words.items, length-bits_of c.push.new.self.items, ap length c.in_ok-push.ensures.items, length_push c.self.inside.words.items 0, c.len.ensures, c.self.inside.words.ok.0, c.if-index-len.true)

pub returns-else-index-len-clause-room : goal.returns-else-index-len-clause-room
returns-else-index-len-clause-room c =
    omega (arith, length-bits_of c.self.inside.words.items, ap length c.self.view_is, c.len.ensures, c.self.inside.words.ok.0, c.if-index-len.false)
