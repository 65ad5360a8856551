-- Which lines of a certificate are those of its entries and of its spent aggregations, and what its first lines report.
use Rattle.std.proofs.Common.{◌≡◌, ℕ, ◌≤◌, arith, Bool, true, false, cond, List, [], ◌∷◌, ◌++◌, codes, filter, get_or, length, map, refl, ap, ◌∙◌, append-nil}
use Rattle.std.specs.Prelude.{nat_eq}
use Rattle.std.specs.Fmt.{decimal}
use Rattle.std.specs.List.{starts_with}
use Rattle.std.proofs.lemmas.List.Elements.{filter-append}
use Rattle.office_rules.specs.Certificates.{date_text, tabbed}
use Rattle.office_rules.specs.Outcomes.{is_ending, is_sending, is_skipping}
use Rattle.office_evidence.specs.Parsed.{Certificate, columns_of, count_in, lines_of, seal_of, spent_columns}
use Rattle.office_evidence.specs.declared.parsed.EntryLine.{EntryLine}
use Rattle.office_evidence.specs.declared.parsed.SpentLine.{SpentLine}

all_kept : {A : Type 0} (p : List ℕ → Bool) (f : A → List ℕ) → ((x : A) → p (f x) ≡ true) → (xs : List A) → filter p (map f xs) ≡ map f xs
all_kept p f each [] = refl
all_kept p f each (x ∷ xs) = ap (λ b. cond b (f x ∷ filter p (map f xs)) (filter p (map f xs))) (each x) ∙ ap (λ (ls : List (List ℕ)). f x ∷ ls) (all_kept p f each xs)

none_kept : {A : Type 0} (p : List ℕ → Bool) (f : A → List ℕ) → ((x : A) → p (f x) ≡ false) → (xs : List A) → filter p (map f xs) ≡ []
none_kept p f each [] = refl
none_kept p f each (x ∷ xs) = ap (λ b. cond b (f x ∷ filter p (map f xs)) (filter p (map f xs))) (each x) ∙ none_kept p f each xs

-- the lines of a certificate's text, parted at its line feeds
abbrev pub all_lines : Certificate → List (List ℕ)
all_lines c = (lines_of c ++ seal_of c ∷ []) ++ [] ∷ []

joined : (p : List ℕ → Bool) (a b d : List (List ℕ)) (kept rest : List (List ℕ)) → filter p a ≡ kept → filter p b ≡ rest → filter p d ≡ [] → filter p ((a ++ b) ++ d) ≡ kept ++ rest
joined p a b d kept rest first second third =
    filter-append p (a ++ b) d
    ∙ ap (λ (ls : List (List ℕ)). filter p (a ++ b) ++ ls) third
    ∙ append-nil (filter p (a ++ b))
    ∙ filter-append p a b
    ∙ (λ i. first i ++ second i)

abbrev heads_of : Certificate → List (List ℕ) → List (List ℕ)
heads_of c more =
    (codes "CERTIFICATE " ++ decimal c.run)
    ∷ (codes "DAY " ++ date_text c.day)
    ∷ (codes "BY " ++ c.by)
    ∷ (codes "ENDED " ++ count_in is_ending c.entries)
    ∷ (codes "SENT " ++ count_in is_sending c.entries)
    ∷ (codes "SKIPPED " ++ count_in is_skipping c.entries)
    ∷ more

abbrev pub is_entry_line : List ℕ → Bool
is_entry_line line = starts_with nat_eq line (codes "ENTRY")

abbrev pub is_spent_line : List ℕ → Bool
is_spent_line line = starts_with nat_eq line (codes "AGGREGATION")

pub kept_entries : (c : Certificate) → filter is_entry_line (all_lines c) ≡ map (λ line. tabbed (columns_of line)) c.entries
unfolding lines_of
kept_entries c =
    let f : EntryLine → List ℕ = λ line. tabbed (columns_of line) in
    let g : SpentLine → List ℕ = λ it. tabbed (spent_columns it) in
    let spent = (codes "SPENT " ++ decimal (length c.spent)) ∷ map g c.spent in
    let first : filter is_entry_line (heads_of c (map f c.entries)) ≡ map f c.entries = all_kept is_entry_line f (λ x. refl) c.entries in
    let second : filter is_entry_line spent ≡ [] = none_kept is_entry_line g (λ x. refl) c.spent in
    let last : filter is_entry_line ([] ∷ []) ≡ [] = refl in
    let sealing : filter is_entry_line (seal_of c ∷ []) ≡ [] = refl in
    joined is_entry_line (heads_of c (map f c.entries) ++ spent) (seal_of c ∷ []) ([] ∷ []) (map f c.entries) []
    (filter-append is_entry_line (heads_of c (map f c.entries)) spent ∙ (λ i. first i ++ second i) ∙ append-nil (map f c.entries)) sealing last
    ∙ append-nil (map f c.entries)

pub kept_spent : (c : Certificate) → filter is_spent_line (all_lines c) ≡ map (λ it. tabbed (spent_columns it)) c.spent
unfolding lines_of
kept_spent c =
    let f : EntryLine → List ℕ = λ line. tabbed (columns_of line) in
    let g : SpentLine → List ℕ = λ it. tabbed (spent_columns it) in
    let spent = (codes "SPENT " ++ decimal (length c.spent)) ∷ map g c.spent in
    let first : filter is_spent_line (heads_of c (map f c.entries)) ≡ [] = none_kept is_spent_line f (λ x. refl) c.entries in
    let second : filter is_spent_line spent ≡ map g c.spent = all_kept is_spent_line g (λ x. refl) c.spent in
    let last : filter is_spent_line ([] ∷ []) ≡ [] = refl in
    let sealing : filter is_spent_line (seal_of c ∷ []) ≡ [] = refl in
    joined is_spent_line (heads_of c (map f c.entries) ++ spent) (seal_of c ∷ []) ([] ∷ []) (map g c.spent) []
    (filter-append is_spent_line (heads_of c (map f c.entries)) spent ∙ (λ i. first i ++ second i)) sealing last
    ∙ append-nil (map g c.spent)

-- ---- the first three lines

pub first_line : (c : Certificate) (d : List ℕ) → get_or (all_lines c) 0 d ≡ codes "CERTIFICATE" ++ 32 ∷ decimal c.run
unfolding lines_of
first_line c d = refl

pub second_line : (c : Certificate) (d : List ℕ) → get_or (all_lines c) 1 d ≡ codes "DAY" ++ 32 ∷ date_text c.day
unfolding lines_of
second_line c d = refl

pub third_line : (c : Certificate) (d : List ℕ) → get_or (all_lines c) 2 d ≡ codes "BY" ++ 32 ∷ c.by
unfolding lines_of
third_line c d = refl

pub many_lines : (c : Certificate) → 3 ≤ length (all_lines c)
unfolding lines_of
many_lines c = omega arith
