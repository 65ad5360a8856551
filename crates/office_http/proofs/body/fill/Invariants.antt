use Rattle.std.proofs.Common.{◌≡◌, ◌-◌, ◌≤◌, ◌++◌, List, ℕ, length}
use Rattle.std.specs.Io.KnownBytes.{Consumes}
use Rattle.std.specs.Vec.{vec_capacity}
use Rattle.office_http.proofs.body.fill.Given as goal

abbrev pub invariant-loop-reader : goal.invariant-loop-reader
invariant-loop-reader g l =
    ((piece : List ℕ) × (l.buf.items ≡ l.initial.buf.items ++ piece) × Consumes (g.R.Read.remaining l.initial.reader) (g.R.Read.remaining l.reader) piece) × (l.end ≤ vec_capacity l.buf)

abbrev pub decreases-loop-reader : goal.decreases-loop-reader
decreases-loop-reader g l = l.end - length l.buf.items
