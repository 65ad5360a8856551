use Rattle.std.proofs.Common.{arith}
use Rattle.office_journal.proofs.Put.{puts_pair}
use Rattle.office_journal.proofs.preceding.put_file.Goals as goal

pub returns : goal.returns
returns c =
    puts_pair c.args.members.now c.key.new.self c.begin_object.new.self c.put_text.new.members c.put_number.new.members c.end_object.new.self _ _ _ _ _
    c.in_ok-key.ensures.room.0 c.in_ok-key.ensures.ok c.in_ok-begin_object.ensures.room.0 c.in_ok-begin_object.ensures.ok
    c.in_ok-put_text.ensures c.in_ok-put_number.ensures (omega arith) (omega arith) c.in_ok-end_object.ensures.room.0 c.in_ok-end_object.ensures.ok
