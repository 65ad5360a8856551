use Rattle.std.proofs.Common.{◌≡◌, ◌∙◌, sym, ap, arith, length, map, List, ℕ, Bor}
use Rattle.std.specs.List.{slice_split}
use Rattle.std.proofs.lemmas.List.{length-map}
use Rattle.office_evidence.proofs.Splitting.{spent_words}
use Rattle.office_evidence.proofs.lines.read_spent.Goals as goal

pub returns-then-len-ne3-clause-every : goal.returns-then-len-ne3-clause-every
returns-then-len-ne3-clause-every c it formed same =
    let words = c.in_ok-words.ensures ∙ ap (slice_split _) same ∙ spent_words it formed in
    let many : length c.in_ok-words.words.items ≡ 3 = sym (length-map c.in_ok-words.words.items (λ (word : Bor (List ℕ)). word.now)) ∙ ap length words in
    absurd (c.if-len-ne3.true (omega (arith, c.len.ensures, c.in_ok-words.words.ok.0, many)))

pub returns-clause-every : goal.returns-clause-every
returns-clause-every c it formed same =
    let words = c.in_ok-words.ensures ∙ ap (slice_split _) same ∙ spent_words it formed in
    c.spent_of.ensures.every it formed (ap (map (λ (word : Bor (List ℕ)). word.now)) c.deref.ensures.value ∙ words)
