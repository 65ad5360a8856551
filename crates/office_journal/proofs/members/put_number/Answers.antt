use Rattle.std.proofs.Common.{arith}
use Rattle.std.specs.Fmt.{decimal}
use Rattle.json.specs.Json as json
use Rattle.json.proofs.Printed.Decimals.{IsNumber-decimal}
use Rattle.office_journal.proofs.Put.{puts_one}
use Rattle.office_journal.proofs.members.put_number.Goals as goal

pub returns : goal.returns
returns c =
    puts_one c.args.members.now c.key.new.self c.u64.new.self c.args.name.now (json.number (decimal c.args.number))
    c.in_ok-key.ensures.room.0 c.in_ok-u64.ensures.room.0 c.in_ok-key.ensures.ok c.in_ok-u64.ensures.ok
    (IsNumber-decimal c.args.number c.ranges.number.fits) (omega arith)
