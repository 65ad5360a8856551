use Rattle.std.proofs.Common.{◌≡◌, take}
use Rattle.office_store.proofs.encoded_write.encode_all.Given as goal

abbrev pub invariant-loop-write : goal.invariant-loop-write
invariant-loop-write l = l.encoded.items ≡ take l.write-index l.writes
