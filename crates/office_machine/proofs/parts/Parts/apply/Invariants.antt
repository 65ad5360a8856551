use Rattle.std.proofs.Common.{◌≡◌}
use Rattle.office_rules.specs.Writes.{all_office_writes, AllFollow}
use Rattle.office_machine.proofs.parts.Parts.apply.Given as goal

-- what is left needs no memory, and leads to where all the writes lead
abbrev pub invariant-loop-write : goal.invariant-loop-write
invariant-loop-write l = record {
  follow : AllFollow l.self l.write-iterator.rest.items;
  left : all_office_writes l.write-iterator.rest.items l.self ≡ all_office_writes l.fn.change.writes.items l.fn.self;
}
