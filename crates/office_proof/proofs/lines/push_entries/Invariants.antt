use Rattle.std.proofs.Common.{◌≡◌, ◌++◌, take, map}
use Rattle.std.specs.List.{flat_map}
use Rattle.std.specs.String.{string_bytes}
use Rattle.office_records.specs.Lists.{numbered}
use Rattle.office_rules.specs.Certificates.{entry_words, lines_text, made_of}
use Rattle.office_proof.proofs.lines.push_entries.Given as goal

-- the lines of the entries so far
abbrev pub invariant-loop-entry : goal.invariant-loop-entry
invariant-loop-entry l = string_bytes l.text ≡ string_bytes l.initial.text ++ lines_text (flat_map (λ e. made_of (entry_words e) (numbered l.tree.records e.record_no)) (map (λ entry. entry.now) (take l.entry-index l.entries)))
