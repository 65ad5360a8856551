use Rattle.std.proofs.Common.{◌-◌, ◌∙◌, length, ap, set, sym, arith}
use Rattle.office_records.specs.Lists.{put}
use Rattle.office_tree.proofs.Prefixed.{class_lists_on}
use Rattle.office_records.proofs.Places.{numbered_within}
use Rattle.office_records.proofs.Putting.{length-put, put_within}
use Rattle.office_tree.proofs.Relinked.{first_within, class_lists_same}
use Rattle.office_tree.proofs.class_lists.ClassLists.put_on.Goals as goal

pub write-requires-2 : goal.write-requires-2
write-requires-2 c =
    let high = numbered_within c.args.self.now.class.items c.args.record_no 0 c.requires.off in
    omega (arith, high.1, c.args.self.now.linked.next_count)

pub write-requires-3 : goal.write-requires-3
write-requires-3 c =
    let s = c.args.self.now in
    let high = first_within s.first.items s.next.items s.previous.items s.class.items c.args.self.now.linked c.args.class c.first-next.result c.first-next.ensures in
    omega (arith, high, c.args.self.now.linked.previous_count)

pub index_mut-requires : goal.index_mut-requires
index_mut-requires c =
    let high = numbered_within c.args.self.now.class.items c.args.record_no 0 c.requires.off in
    omega (arith, high.0, high.1)

pub invariant_of-self : goal.invariant_of-self
invariant_of-self c =
    let s = c.args.self.now in
    let r = c.args.record_no in
    let k = c.args.class in
    let f = c.first-next.result in
    let high = numbered_within s.class.items r 0 c.requires.off in
    record {
      linked = class_lists_same (put s.first.items k r) (put s.next.items r f) (put s.previous.items f r) (put s.class.items r k) c.write.new.numbers.items c.write-2.new.numbers.items c.write-3.new.numbers.items (set s.class.items (r - 1) k)
          c.write.ensures c.write-2.ensures c.write-3.ensures
          (sym (put_within s.class.items r (r - 1) k (omega (arith, high.0)) high.1))
          (class_lists_on s.first.items s.next.items s.previous.items s.class.items c.args.self.now.linked r k f c.requires.off c.requires.low c.first-next.ensures);
    }

pub returns-clause-classes : goal.returns-clause-classes
returns-clause-classes c = ap length c.write.ensures ∙ length-put c.args.self.now.first.items c.args.class c.args.record_no c.requires.high

pub returns-clause-class : goal.returns-clause-class
returns-clause-class c =
    let s = c.args.self.now in
    let r = c.args.record_no in
    let high = numbered_within s.class.items r 0 c.requires.off in
    sym (put_within s.class.items r (r - 1) c.args.class (omega (arith, high.0)) high.1)
