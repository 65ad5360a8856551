use Rattle.std.proofs.Common.{◌≡◌, ◌+◌, ◌-◌, ◌∙◌, length, sym, ap, arith}
use Rattle.office_tree.specs.Flags.{flag_at}
use Rattle.office_tree.specs.Marks.{mark_at}
use Rattle.office_tree.proofs.record_caches.RecordCaches.make_room.Goals as goal

pub invariant_of-self-2 : goal.invariant_of-self-2
invariant_of-self-2 c =
    let was = c.args.self.now.marked in
    let now = c.make_room_for.new.self in
    record {
      marked = record {
        room = omega (arith, was.room, ap length c.try_reserve.ensures.items, c.make_room_for.ensures.grows);
        same = λ k.
            let at : k + 1 - 1 ≡ k = omega arith in
            ap (flag_at now) (sym at)
            ∙ c.make_room_for.ensures.same (k + 1)
            ∙ ap (flag_at c.args.self.now.candidates) at
            ∙ was.same k
            ∙ ap (λ x. mark_at x k) (sym c.try_reserve.ensures.items);
      };
    }
