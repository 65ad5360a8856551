use Rattle.std.proofs.Common.{ap}
use Rattle.office_tree.specs.Levels.{bits_of}
use Rattle.office_tree.proofs.bits.Bits.new.Goals as goal

pub returns : goal.returns
unfolding bits_of
returns c = ap bits_of c.new.ensures.items
