use Rattle.std.proofs.Common.{◌≡◌, ◌*◌, take}
use Rattle.hex.specs.Hex.{encode_lower}
use Rattle.office_records.specs.Forms.{IsDigest}
use Rattle.office_rules.proofs.digest.digest_of_digits.Given as goal

-- the bytes so far are those that the digits so far write
abbrev pub invariant-loop-i : goal.invariant-loop-i
invariant-loop-i l = IsDigest l.digest × (encode_lower (take l.i l.digest) ≡ take (2 * l.i) l.text)
