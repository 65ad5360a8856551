-- The lines of a certificate that was read, one after the other.
use Rattle.std.proofs.lemmas.List.{take_more, map-append}
use Rattle.std.proofs.Common.{◌≡◌, ◌∙◌, ◌<◌, ◌+◌, get_or, take, sym, ap, ℕ, Bool, List, [], ◌∷◌, ◌++◌, map, length, filter, count_by, codes}
use Rattle.std.proofs.lemmas.List.Sums.{length-filter}
use Rattle.std.specs.Fmt.{decimal}
use Rattle.office_proof.proofs.Texts.{more_lines}
use Rattle.office_rules.specs.Certificates.{date_text, lines_text, sealed, tabbed}
use Rattle.office_rules.specs.Outcomes.{is_ending, is_sending, is_skipping}
use Rattle.office_rules.specs.declared.outcome.Outcome.{Outcome}
use Rattle.office_evidence.specs.Parsed.{Certificate, columns_of, count_in, lines_of, spent_columns, text_of}
use Rattle.office_evidence.specs.declared.parsed.EntryLine.{EntryLine}

pub counted_is : (test : Outcome → Bool) (entries : List EntryLine) → count_by (λ line. test line.outcome) entries ≡ length (filter (λ line. test line.outcome) entries)
counted_is test entries = sym (length-filter (λ line. test line.outcome) entries)

-- what is appended part by part is the text
pub text_is : (c : Certificate) (start with_run with_counts with_entries with_count body : List ℕ)
    → start ≡ []
    → with_run ≡ start ++ lines_text ((codes "CERTIFICATE " ++ decimal c.run) ∷ (codes "DAY " ++ date_text c.day) ∷ (codes "BY " ++ c.by) ∷ [])
    → with_counts ≡ with_run ++ lines_text ((codes "ENDED " ++ count_in is_ending c.entries) ∷ (codes "SENT " ++ count_in is_sending c.entries) ∷ (codes "SKIPPED " ++ count_in is_skipping c.entries) ∷ [])
    → with_entries ≡ with_counts ++ lines_text (map (λ line. tabbed (columns_of line)) c.entries)
    → with_count ≡ with_entries ++ lines_text ((codes "SPENT " ++ decimal (length c.spent)) ∷ [])
    → body ≡ with_count ++ lines_text (map (λ it. tabbed (spent_columns it)) c.spent)
    → sealed body ≡ text_of c
unfolding text_of lines_of
text_is c start with_run with_counts with_entries with_count body empty first second third fourth fifth =
    let heading = (codes "CERTIFICATE " ++ decimal c.run) ∷ (codes "DAY " ++ date_text c.day) ∷ (codes "BY " ++ c.by) ∷ [] in
    let counts = (codes "ENDED " ++ count_in is_ending c.entries) ∷ (codes "SENT " ++ count_in is_sending c.entries) ∷ (codes "SKIPPED " ++ count_in is_skipping c.entries) ∷ [] in
    let listed = map (λ line. tabbed (columns_of line)) c.entries in
    let many = (codes "SPENT " ++ decimal (length c.spent)) ∷ [] in
    let ending = map (λ it. tabbed (spent_columns it)) c.spent in
    let counted_lines = more_lines start with_run with_counts heading counts first second in
    let listed_lines = more_lines start with_counts with_entries (heading ++ counts) listed counted_lines third in
    let many_lines = more_lines with_entries with_count body many ending fourth fifth in
    let lines = more_lines start with_entries body ((heading ++ counts) ++ listed) (many ++ ending) listed_lines many_lines in
    ap sealed (lines ∙ ap (λ t. t ++ lines_text (((heading ++ counts) ++ listed) ++ (many ++ ending))) empty)

-- one line more of a list
pub one_more_line : {A : Type 0} (f : A → List ℕ) (xs : List A) (i : ℕ) (x : A) (old mid new : List ℕ) → i < length xs → x ≡ get_or xs i x → mid ≡ old ++ lines_text (map f (take i xs)) → new ≡ mid ++ lines_text (f x ∷ [])
    → new ≡ old ++ lines_text (map f (take (i + 1) xs))
one_more_line f xs i x old mid new within is so_far pushed =
    let more : take (i + 1) xs ≡ take i xs ++ x ∷ [] = take_more xs i x within ∙ ap (λ y. take i xs ++ y ∷ []) (sym is) in
    more_lines old mid new (map f (take i xs)) (f x ∷ []) so_far pushed
    ∙ ap (λ (ls : List (List ℕ)). old ++ lines_text ls) (sym (ap (map f) more ∙ map-append f (take i xs) (x ∷ [])))
