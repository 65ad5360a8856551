use Rattle.std.proofs.Common.{◌∙◌, ◌-◌, sym, arith}
use Rattle.office_records.proofs.Putting.{put_past, put_within}
use Rattle.office_tree.proofs.row_puts.put_row.Goals as goal

pub returns-then-at-len-clause-ok : goal.returns-then-at-len-clause-ok
returns-then-at-len-clause-ok g c = sym (put_within c.args.rows.now.items c.args.number (c.args.number - 1) c.args.row (omega arith) (omega arith))

pub returns-in_ok-push-clause-ok : goal.returns-in_ok-push-clause-ok
returns-in_ok-push-clause-ok g c = c.in_ok-push.ensures.items ∙ sym (put_past c.args.rows.now.items c.args.number c.args.row (omega arith))
