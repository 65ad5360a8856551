use Rattle.std.proofs.Common.{◌≡◌, ◌*◌, ◌+◌, ◌<◌, length, refl, arith}
use Rattle.std.proofs.lemmas.List.Elements.{All-replicate}
use Rattle.office_rules.proofs.DigestDigits.{with_byte, written_all, written_more, written_none}
use Rattle.office_rules.proofs.digest.digest_of_digits.Goals as goal

pub loop-i-init : goal.loop-i-init
loop-i-init c = ((refl, All-replicate (λ b. b < 256) 32 0 (omega arith)), written_none)

pub byte_of-requires-clause-high : goal.byte_of-requires-clause-high
byte_of-requires-clause-high c =
    let test = c.loop-i-test.true in
    let many : length c.args.text.now ≡ 64 = c.requires.long in
    c.requires.digits (2 * c.loop-i.i) 0 (omega (arith, many, test))

pub byte_of-requires-clause-low : goal.byte_of-requires-clause-low
byte_of-requires-clause-low c =
    let test = c.loop-i-test.true in
    let many : length c.args.text.now ≡ 64 = c.requires.long in
    c.requires.digits (2 * c.loop-i.i + 1) 0 (omega (arith, many, test))

pub loop-i-preserved : goal.loop-i-preserved
loop-i-preserved c =
    let test = c.loop-i-test.true in
    let formed = c.loop-i.invariant.0 in
    let long : length c.loop-i.digest ≡ 32 = formed.0 in
    let many : length c.args.text.now ≡ 64 = c.requires.long in
    (with_byte c.loop-i.digest c.loop-i.i c.byte_of.result c.byte_of.type_inv formed, written_more c.loop-i.digest c.args.text.now c.loop-i.i c.byte_of.result (omega (arith, long, test)) (omega (arith, many, test)) c.byte_of.ensures c.loop-i.invariant.1)

pub returns-clause-exact : goal.returns-clause-exact
returns-clause-exact c =
    let long : length c.loop-i.digest ≡ 32 = c.loop-i.invariant.0.0 in
    let many : length c.args.text.now ≡ 64 = c.requires.long in
    let last = c.loop-i-test.false in
    let end = c.loop-i.auto.i-end in
    let is : c.loop-i.i ≡ 32 = omega (arith, last, end) in
    written_all c.loop-i.digest c.args.text.now c.loop-i.i (omega (arith, long, is)) (omega (arith, many, is)) c.loop-i.invariant.1
