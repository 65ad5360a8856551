-- Where nothing went out, the first bytes of any text did, which are none.
use Rattle.std.proofs.Common.{arith, sym, ℕ, List, append-nil, Option, Some, None}
use Rattle.office_base.specs.Output.{AppendsSome}

pub none_some : (old : Option (List ℕ)) (bytes : List ℕ) → AppendsSome old old bytes
none_some None bytes = record { count = 0; within = omega arith; out = tt }
none_some (Some xs) bytes = record { count = 0; within = omega arith; out = sym (append-nil xs) }
