use Rattle.std.proofs.Common.{◌∙◌, ap, sym, ◌++◌, [], ◌∷◌, List, ℕ, codes, map, length}
use Rattle.std.specs.Fmt.{decimal}
use Rattle.std.specs.String.{string_bytes}
use Rattle.office_rules.specs.Certificates.{lines_text, tabbed}
use Rattle.office_rules.specs.Outcomes.{is_ending, is_sending, is_skipping}
use Rattle.office_evidence.specs.Parsed.{columns_of, count_in, parsed, spent_columns}
use Rattle.office_evidence.specs.declared.parsed.EntryLine.{EntryLine}
use Rattle.office_evidence.specs.declared.parsed.SpentLine.{SpentLine}
use Rattle.office_evidence.proofs.Joining.{text_is}
use Rattle.office_evidence.proofs.parsed.ParsedCertificate.text.Goals as goal

pub returns : goal.returns
returns c =
    c.in_ok-seal.ensures
    ∙ text_is (parsed c.args.self.now) _ _ _ _ _ _
    c.new-text.ensures.bytes
    c.in_ok-push_run.ensures
    (c.in_ok-push_counts.ensures
    ∙ ap (λ (es : List EntryLine). string_bytes c.push_run.new.text ++ lines_text ((codes "ENDED " ++ count_in is_ending es) ∷ (codes "SENT " ++ count_in is_sending es) ∷ (codes "SKIPPED " ++ count_in is_skipping es) ∷ [])) c.deref.ensures.value)
    (c.in_ok-push_entries.ensures ∙ ap (λ (es : List EntryLine). string_bytes c.push_counts.new.text ++ lines_text (map (λ line. tabbed (columns_of line)) es)) c.deref-2.ensures.value)
    (c.in_ok-push_number.ensures ∙ ap (λ (n : ℕ). string_bytes c.push_entries.new.text ++ lines_text ((codes "SPENT " ++ decimal n) ∷ [])) (c.len.ensures ∙ sym c.deref-3.ensures.len ∙ ap length c.deref-3.ensures.value))
    (c.in_ok-push_aggregations.ensures ∙ ap (λ (es : List SpentLine). string_bytes c.push_number.new.text ++ lines_text (map (λ it. tabbed (spent_columns it)) es)) c.deref-3.ensures.value)
