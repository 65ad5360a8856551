use Rattle.std.proofs.Common.{◌≡◌, ◌∙◌, subst, ◌++◌, [], ◌∷◌, List, ℕ, OnOk, codes}
use Rattle.std.specs.Fmt.{decimal}
use Rattle.std.specs.String.{string_bytes}
use Rattle.office_rules.specs.Certificates.{lines_text, tabbed}
use Rattle.office_evidence.proofs.written.push_aggregation.Goals as goal

pub returns : goal.returns
returns c =
    let number : c.as_str.result.now ≡ decimal c.args.it.now.number = c.as_str.ensures.value ∙ c.in_ok-number.ensures in
    let ref_text : c.text.result.now ≡ c.args.it.now.ref_text = c.text.ensures.value in
    subst (λ (ws : List (List ℕ)). OnOk c.push_words.result (string_bytes c.push_words.new.text ≡ string_bytes c.args.text.now ++ lines_text (tabbed ws ∷ [])))
    (λ i. codes "AGGREGATION" ∷ number i ∷ ref_text i ∷ []) c.push_words.ensures
