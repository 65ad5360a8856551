use Rattle.std.proofs.Common.{◌≡◌, ◌∙◌, sym, ap, arith, length, map, List, ℕ, Bor}
use Rattle.std.specs.List.{slice_split}
use Rattle.std.proofs.lemmas.List.{length-map}
use Rattle.office_evidence.proofs.Kept.{all_lines, many_lines}
use Rattle.office_evidence.proofs.Splitting.{text_lines}
use Rattle.office_evidence.proofs.reading.parse.Goals as goal

pub returns-then-len-lt3-clause-every : goal.returns-then-len-lt3-clause-every
returns-then-len-lt3-clause-every c d is =
    let lines = c.in_ok-lines.ensures ∙ ap (slice_split _) is.same ∙ text_lines d is.formed in
    let many : length c.in_ok-lines.lines.items ≡ length (all_lines d) = sym (length-map c.in_ok-lines.lines.items (λ (line : Bor (List ℕ)). line.now)) ∙ ap length lines in
    absurd (omega (arith, many, many_lines d, c.if-len-lt3.true, c.len.ensures))

pub returns-clause-every : goal.returns-clause-every
returns-clause-every c d is =
    let lines = c.in_ok-lines.ensures ∙ ap (slice_split _) is.same ∙ text_lines d is.formed in
    c.certificate_of.ensures.every d is.formed (ap (map (λ (line : Bor (List ℕ)). line.now)) c.deref.ensures.value ∙ lines)
