use Rattle.std.proofs.Common.{◌-◌, ◌∙◌, List, ℕ, length, ap, refl, set, sym, arith}
use Rattle.office_records.specs.Lists.{put}
use Rattle.office_records.proofs.Putting.{length-put, put_within}
use Rattle.office_tree.proofs.Relinked.{class_lists_off, class_lists_same, next_within, previous_within, unheaded}
use Rattle.office_tree.proofs.class_lists.ClassLists.take_off.Goals as goal

pub link_over-requires-clause-nexts : goal.link_over-requires-clause-nexts
link_over-requires-clause-nexts c =
    let s = c.args.self.now in
    previous_within s.first.items s.next.items s.previous.items s.class.items c.args.self.now.linked c.args.record_no c.previous-previous.result c.previous-previous.ensures

pub write-requires : goal.write-requires
write-requires c =
    let s = c.args.self.now in
    let high = previous_within s.first.items s.next.items s.previous.items s.class.items c.args.self.now.linked c.args.record_no c.previous-previous.result c.previous-previous.ensures in
    let same = ap length c.link_over.ensures.next ∙ length-put s.next.items c.previous-previous.result c.next-next.result high in
    omega (arith, same, c.requires.high, c.args.self.now.linked.next_count)

pub write-requires-2 : goal.write-requires-2
write-requires-2 c =
    let s = c.args.self.now in
    next_within s.first.items s.next.items s.previous.items s.class.items c.args.self.now.linked c.args.record_no c.next-next.result c.next-next.ensures

pub write-requires-3 : goal.write-requires-3
write-requires-3 c =
    let s = c.args.self.now in
    let high = next_within s.first.items s.next.items s.previous.items s.class.items c.args.self.now.linked c.args.record_no c.next-next.result c.next-next.ensures in
    let same = ap length c.write-2.ensures ∙ length-put s.previous.items c.next-next.result c.previous-previous.result high in
    omega (arith, same, c.requires.high, c.args.self.now.linked.previous_count)

pub invariant_of-self : goal.invariant_of-self
invariant_of-self c =
    let s = c.args.self.now in
    let r = c.args.record_no in
    let p = c.previous-previous.result in
    let q = c.next-next.result in
    let firsts = unheaded s.first.items c.link_over.new.first.items c.class-class.result p q (c.args.self.now.linked.within r c.class-class.result c.class-class.ensures) c.link_over.ensures.head c.link_over.ensures.same in
    let off = class_lists_off s.first.items s.next.items s.previous.items s.class.items c.args.self.now.linked r c.class-class.result p q c.class-class.ensures c.previous-previous.ensures c.next-next.ensures c.link_over.new.first.items firsts in
    record {
      linked = class_lists_same c.link_over.new.first.items (put (put s.next.items p q) r 0) (put (put s.previous.items q p) r 0) (put s.class.items r 0) c.link_over.new.first.items c.write.new.numbers.items c.write-3.new.numbers.items (set s.class.items (r - 1) 0)
          refl
          (c.write.ensures ∙ ap (λ (its : List ℕ). put its r 0) c.link_over.ensures.next)
          (c.write-3.ensures ∙ ap (λ (its : List ℕ). put its r 0) c.write-2.ensures)
          (sym (put_within s.class.items r (r - 1) 0 (omega (arith, c.requires.low)) c.requires.high))
          off;
    }

pub returns-clause-classes : goal.returns-clause-classes
returns-clause-classes c =
    let s = c.args.self.now in
    (unheaded s.first.items c.link_over.new.first.items c.class-class.result c.previous-previous.result c.next-next.result (c.args.self.now.linked.within c.args.record_no c.class-class.result c.class-class.ensures) c.link_over.ensures.head c.link_over.ensures.same).count

pub returns-clause-class : goal.returns-clause-class
returns-clause-class c = sym (put_within c.args.self.now.class.items c.args.record_no (c.args.record_no - 1) 0 (omega (arith, c.requires.low)) c.requires.high)
