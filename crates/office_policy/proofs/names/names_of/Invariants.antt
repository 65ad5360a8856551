use Rattle.std.proofs.Common.{◌≡◌, [], map, take}
use Rattle.std.specs.List.{fold}
use Rattle.office_settings.specs.Files.{holder_of}
use Rattle.office_policy.specs.Granted.{with_new}
use Rattle.office_policy.proofs.names.names_of.Given as goal

-- the names of the lines before a place
abbrev pub invariant-loop-entry : goal.invariant-loop-entry
invariant-loop-entry l =
    map (λ w. w.now) l.names.items ≡ fold (λ names entry. with_new names (holder_of entry.line)) [] (take l.entry-index l.entries)
