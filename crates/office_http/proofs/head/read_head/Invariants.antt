use Rattle.std.proofs.Common.{◌≤◌, ◌-◌, length}
use Rattle.std.specs.Io.KnownBytes.{Consumes}
use Rattle.std.specs.Vec.{vec_capacity}
use Rattle.office_http.proofs.head.read_head.Given as goal

abbrev pub invariant-loop-head : goal.invariant-loop-head
invariant-loop-head g l =
    (length l.buf.items ≤ 16_384) × Consumes (g.R.Read.remaining l.initial.reader) (g.R.Read.remaining l.reader) l.buf.items × (16_384 ≤ vec_capacity l.buf)

abbrev pub decreases-loop-head : goal.decreases-loop-head
decreases-loop-head g l = 16_384 - length l.buf.items
