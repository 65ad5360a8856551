use Rattle.std.proofs.Common.{rules, arith, ◌≡◌, Bool, true, false, not, Ok}
use Rattle.std.specs.Fmt.{decimal}
use Rattle.std.specs.Str.{bytes_eq}
use Rattle.std.proofs.lemmas.Fmt.{parse-decimal}
use Rattle.std.proofs.lemmas.Slice.Eq.{bytes_eq-Decides}
use Rattle.office_store.proofs.stored.hold_rows.read_number.Goals as goal

-- a test does not both fail and hold
not_both : (b : Bool) → true ≡ not b → b ≡ true → ⊥
not_both true fails _ = absurd cc
not_both false _ holds = absurd cc

pub returns-in_default-clause-damaged : goal.returns-in_default-clause-damaged
returns-in_default-clause-damaged c =
    λ _ number few is. c.in_default.not-Ok number (parse-decimal 32 number c.args.text.now c.parse.result few.1 (omega arith) is c.parse.ensures.value.0)

pub returns-then-ne-clause-damaged : goal.returns-then-ne-clause-damaged
returns-then-ne-clause-damaged c =
    λ _ number few is.
    let parsed : c.parse.result ≡ Ok number = parse-decimal 32 number c.args.text.now c.parse.result few.1 (omega arith) is c.parse.ensures.value.0 in
    let written : c.as_str.result.now ≡ decimal c.in-Ok.number = search rules in
    let same : c.as_str.result.now ≡ c.args.text.now = cc in
    not_both (bytes_eq c.as_str.result.now c.args.text.now) c.if-ne.ensures ((bytes_eq-Decides c.as_str.result.now c.args.text.now).1 same)

pub returns-then-number-eq0-clause-damaged : goal.returns-then-number-eq0-clause-damaged
returns-then-number-eq0-clause-damaged c =
    λ _ number few is.
    let parsed : c.parse.result ≡ Ok number = parse-decimal 32 number c.args.text.now c.parse.result few.1 (omega arith) is c.parse.ensures.value.0 in
    let found : c.parse.result ≡ Ok c.in-Ok.number = search rules in
    let zero : c.in-Ok.number ≡ 0 = search rules in
    let same : c.in-Ok.number ≡ number = cc in
    let some = few.0 in
    omega (arith, some, zero, same)
