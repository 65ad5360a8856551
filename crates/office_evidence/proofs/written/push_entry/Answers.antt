use Rattle.std.proofs.Common.{◌≡◌, ◌++◌, [], ◌∷◌, List, ℕ, OnOk, codes, unwrap_or, subst}
use Rattle.std.specs.Fmt.{decimal}
use Rattle.std.specs.String.{string_bytes}
use Rattle.hex.specs.Hex.{encode_lower}
use Rattle.office_rules.specs.Certificates.{date_text, lines_text, tabbed}
use Rattle.office_rules.specs.Outcomes.{outcome_word}
use Rattle.office_evidence.proofs.written.push_entry.Goals as goal

pub returns : goal.returns
returns c =
    let line = c.args.line.now in
    let number : string_bytes c.in_ok-number_word.field-0 ≡ decimal line.record_no = c.in_ok-number_word.ensures in
    let due : string_bytes c.in_ok-due_word.field-0 ≡ date_text line.due = c.in_ok-due_word.ensures in
    let size : string_bytes c.in_ok-number_word-2.field-0 ≡ decimal line.length = c.in_ok-number_word-2.ensures in
    let digest : string_bytes c.in_ok-encode.field-0 ≡ encode_lower line.digest = c.in_ok-encode.ensures in
    subst (λ (ws : List (List ℕ)). OnOk c.push_reported.result (string_bytes c.push_reported.new.text ≡ string_bytes c.args.text.now ++ lines_text (tabbed ws ∷ [])))
    (λ i. codes "ENTRY" ∷ number i ∷ outcome_word line.outcome ∷ line.ref_text ∷ line.class ∷ line.schedule ∷ due i ∷ unwrap_or line.hold (codes "-") ∷ line.confirmed_by ∷ size i ∷ digest i ∷ [])
    c.push_reported.ensures
