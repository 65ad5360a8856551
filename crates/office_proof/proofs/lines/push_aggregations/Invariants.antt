use Rattle.std.proofs.Common.{◌≡◌, ℕ, ◌++◌, take}
use Rattle.std.specs.List.{flat_map}
use Rattle.std.specs.String.{string_bytes}
use Rattle.office_records.specs.Lists.{numbered}
use Rattle.office_rules.specs.Certificates.{aggregation_words, lines_text, made_of}
use Rattle.office_proof.proofs.lines.push_aggregations.Given as goal

-- the lines of the aggregations so far
abbrev pub invariant-loop-number : goal.invariant-loop-number
invariant-loop-number l = string_bytes l.text ≡ string_bytes l.initial.text ++ lines_text (flat_map (λ (a : ℕ). made_of (aggregation_words a) (numbered l.tree.aggregations a)) (take l.number-index l.spent))
