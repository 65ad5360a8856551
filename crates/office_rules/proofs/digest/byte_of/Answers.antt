use Rattle.std.proofs.Common.{◌*◌, ◌+◌, refl}
use Rattle.office_rules.proofs.DigestDigits.{byte_written}
use Rattle.office_rules.proofs.digest.byte_of.Goals as goal

pub returns : goal.returns
returns c =
    byte_written c.digit_value.result c.digit_value-2.result c.args.high c.args.low (c.digit_value.result * 16 + c.digit_value-2.result)
    c.digit_value-2.ensures.small c.digit_value.ensures.written c.digit_value-2.ensures.written refl
