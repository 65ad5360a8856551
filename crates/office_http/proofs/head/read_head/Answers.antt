use Rattle.std.proofs.Common.{◌≤◌, length, refl, arith}
use Rattle.office_http.proofs.HeadLemmas.{missing_ever, missing_long, reads_none}
use Rattle.office_http.proofs.head.read_head.Goals as goal

pub returns-in-Invalid : goal.returns-in-Invalid
returns-in-Invalid g c =
    let some = rw c.as_slice.ensures.value at c.in-Invalid.ensures.some refl in
    let never = rw c.as_slice.ensures.value at c.in-Invalid.ensures.parsed in
    let read = c.loop-head.invariant.1 in
    reads_none _ _ _ _ read (missing_ever _ _ c.loop-head.buf.items read some never)

pub returns-then-len-ge-LONGEST_HEAD : goal.returns-then-len-ge-LONGEST_HEAD
returns-then-len-ge-LONGEST_HEAD g c =
    let read = c.loop-head.invariant.1 in
    let long : 16_384 ≤ length c.loop-head.buf.items = omega (arith, c.if-len-ge-LONGEST_HEAD.true, c.len.ensures) in
    reads_none _ _ _ _ read (missing_long _ _ c.loop-head.buf.items read long (rw c.as_slice.ensures.value at c.in-Partial.ensures.parsed))
