-- Texts of lines one after the other, and words that are joined by tabs.
use Rattle.std.proofs.Common.{◌≡◌, ◌∙◌, sym, ap, refl, ℕ, List, [], ◌∷◌, ◌++◌, map, append_assoc, append-nil, Bor}
use Rattle.std.specs.List.{join_by}
use Rattle.std.proofs.lemmas.List.Concat.{flat_map-append}
use Rattle.office_rules.specs.Certificates.{lines_text, tabbed}

pub joined_is : (words : List (Bor (List ℕ))) → join_by (λ word. word.now) (9 ∷ []) words ≡ tabbed (map (λ word. word.now) words)
joined_is [] = refl
joined_is (x ∷ []) = append-nil x.now
joined_is (x ∷ y ∷ rest) = ap (λ t. x.now ++ 9 ∷ t) (joined_is (y ∷ rest))

-- lines after lines
pub more_lines : (old mid new : List ℕ) (before after : List (List ℕ)) → mid ≡ old ++ lines_text before → new ≡ mid ++ lines_text after → new ≡ old ++ lines_text (before ++ after)
more_lines old mid new before after first second =
    second
    ∙ ap (λ t. t ++ lines_text after) first
    ∙ append_assoc old (lines_text before) (lines_text after)
    ∙ ap (λ t. old ++ t) (sym (flat_map-append (λ line. line ++ 10 ∷ []) before after))

-- a line that reports the same
pub reported_as : (old new kind reported same : List ℕ) → new ≡ old ++ lines_text ((kind ++ reported) ∷ []) → reported ≡ same → new ≡ old ++ lines_text ((kind ++ same) ∷ [])
reported_as old new kind reported same pushed e = pushed ∙ ap (λ t. old ++ lines_text ((kind ++ t) ∷ [])) e

pub three_lines : (old one two three : List ℕ) (a b c : List ℕ) → one ≡ old ++ lines_text (a ∷ []) → two ≡ one ++ lines_text (b ∷ []) → three ≡ two ++ lines_text (c ∷ []) → three ≡ old ++ lines_text (a ∷ b ∷ c ∷ [])
three_lines old one two three a b c first second third =
    more_lines old two three (a ∷ b ∷ []) (c ∷ []) (more_lines old one two (a ∷ []) (b ∷ []) first second) third
