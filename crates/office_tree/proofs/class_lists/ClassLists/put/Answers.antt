use Rattle.std.proofs.Common.{◌∙◌, List, ℕ, Some, ap, sym}
use Rattle.office_records.specs.Lists.{numbered, put}
use Rattle.office_tree.proofs.Puts.{put_here, put_twice}
use Rattle.office_records.proofs.Putting.{put_same}
use Rattle.office_tree.proofs.class_lists.ClassLists.put.Goals as goal

pub returns-then-class-clause-class : goal.returns-then-class-clause-class
returns-then-class-clause-class c = sym (put_same c.args.self.now.class.items c.args.record_no c.args.class (c.class.ensures ∙ ap Some c.if-class.true))

pub put_on-requires-clause-off : goal.put_on-requires-clause-off
put_on-requires-clause-off c = ap (λ (its : List ℕ). numbered its c.args.record_no) c.take_off.ensures.class ∙ put_here c.args.self.now.class.items c.args.record_no 0 c.requires.low c.requires.high

pub returns-then-class-ne0-clause-class : goal.returns-then-class-ne0-clause-class
returns-then-class-ne0-clause-class c =
    let r = c.args.record_no in
    c.put_on.ensures.class ∙ (ap (λ (its : List ℕ). put its r c.args.class) c.take_off.ensures.class ∙ put_twice c.args.self.now.class.items r 0 c.args.class c.requires.high)
