use Rattle.std.proofs.Common.{◌-◌, sym, arith}
use Rattle.office_records.proofs.Putting.{put_within}
use Rattle.office_tree.proofs.class_lists.write.Goals as goal

pub returns-then-n-ne0 : goal.returns-then-n-ne0
returns-then-n-ne0 c = sym (put_within c.args.numbers.now.items c.args.n (c.args.n - 1) c.args.x (omega arith) c.requires)
