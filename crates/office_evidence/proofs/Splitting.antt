-- The text of a certificate, parted at its line feeds, gives its lines; the line of an entry, parted at its tabs, its words.
use Rattle.std.proofs.Common.{◌≡◌, ◌≢◌, ◌==◌, ℕ, true, false, List, [], ◌∷◌, ◌++◌, filter, map, length, codes, refl, sym, ap, ◌∙◌, append_assoc, arith}
use Rattle.std.proofs.lemmas.Bool.Decides.{nat_tests}
use Rattle.std.proofs.lemmas.List.Concat.{flat_map-append}
use Rattle.std.proofs.lemmas.List.Elements.{All-nil, All-cons, All-append, All-head, All-map, All-tail, All-weaker, All-from_recursion}
use Rattle.std.proofs.lemmas.List.Splits.{slice_split_at, slice_split_none}
use Rattle.std.specs.Fmt.{decimal}
use Rattle.std.specs.List.{All, AllByRecursion, slice_split}
use Rattle.hex.specs.Hex.{encode_lower}
use Rattle.sha2.specs.Sha256.{sha256}
use Rattle.office_proof.specs.Meanings.{IsOneColumn, IsOneLine}
use Rattle.office_proof.proofs.Columns.{code_column, date_column, decimal_column, digest_column, hold_column, line_from_column, literal_column, text_column}
use Rattle.office_rules.specs.Certificates.{date_text, lines_text, tabbed}
use Rattle.office_rules.specs.Outcomes.{is_ending, is_sending, is_skipping, outcome_word}
use Rattle.office_rules.specs.declared.outcome.Outcome.{Outcome}
use Rattle.office_rules.specs.declared.outcome.Outcome.TheVariants.{Destroyed, Transferred, Sent, Skipped}
use Rattle.office_evidence.specs.Parsed.{Certificate, IsWellFormedCertificate, IsWellFormedLine, IsWellFormedSpent, columns_of, count_in, lines_of, seal_of, spent_columns, text_of}
use Rattle.office_evidence.specs.declared.parsed.EntryLine.{EntryLine}
use Rattle.office_evidence.specs.declared.parsed.SpentLine.{SpentLine}

-- ---- parted

same_byte : (v : ℕ) → (v == v) ≡ true
same_byte v = grind (arith, nat_tests)

other_byte : (v b : ℕ) → b ≢ v → (b == v) ≡ false
other_byte v b h = grind (arith, nat_tests)

lacking : (v : ℕ) (word : List ℕ) → All (λ b. b ≢ v) word → All (λ b. (b == v) ≡ false) word
lacking v word none = All-weaker (λ b. b ≢ v) (λ b. (b == v) ≡ false) (other_byte v) word none

no_tab : (word : List ℕ) → IsOneColumn word → All (λ b. b ≢ 9) word
no_tab word one = All-weaker (λ b. (b ≢ 9) × (b ≢ 10)) (λ b. b ≢ 9) (λ b p. p.0) word one

pub split_tabbed : (word : List ℕ) (words : List (List ℕ)) → All IsOneColumn (word ∷ words) → slice_split (λ b. b == 9) (tabbed (word ∷ words)) ≡ word ∷ words
split_tabbed word [] one = slice_split_none (λ b. b == 9) word (lacking 9 word (no_tab word (All-head IsOneColumn word [] one)))
split_tabbed word (next ∷ words) one =
    slice_split_at (λ b. b == 9) word 9 (tabbed (next ∷ words)) (lacking 9 word (no_tab word (All-head IsOneColumn word (next ∷ words) one))) (same_byte 9)
    ∙ ap (λ (ws : List (List ℕ)). word ∷ ws) (split_tabbed next words (All-tail IsOneColumn word (next ∷ words) one))

split_lines : (lines : List (List ℕ)) → All IsOneLine lines → slice_split (λ b. b == 10) (lines_text lines) ≡ lines ++ [] ∷ []
split_lines [] one = refl
split_lines (line ∷ lines) one =
    ap (slice_split (λ b. b == 10)) (append_assoc line (10 ∷ []) (lines_text lines))
    ∙ slice_split_at (λ b. b == 10) line 10 (lines_text lines) (lacking 10 line (All-head IsOneLine line lines one)) (same_byte 10)
    ∙ ap (λ (ls : List (List ℕ)). line ∷ ls) (split_lines lines (All-tail IsOneLine line lines one))

-- ---- whole

outcome_column : (outcome : Outcome) → IsOneColumn (outcome_word outcome)
outcome_column Destroyed = literal_column (codes "destroyed") refl
outcome_column Transferred = literal_column (codes "transferred") refl
outcome_column Sent = literal_column (codes "sent") refl
outcome_column Skipped = literal_column (codes "skipped") refl

each_column : (line : EntryLine) → IsWellFormedLine line → AllByRecursion IsOneColumn (columns_of line)
each_column line formed = (
  literal_column (codes "ENTRY") refl,
  (
    decimal_column line.record_no,
    (
      outcome_column line.outcome,
      (
        text_column line.ref_text formed.ref_text,
        (
          code_column line.class formed.class,
          (
            code_column line.schedule formed.schedule,
            (
              date_column line.due,
              (
                hold_column line.hold formed.hold.form,
                (
                  text_column line.confirmed_by formed.confirmed_by,
                  (
                    decimal_column line.length,
                    (
                      digest_column line.digest,
                      tt,
                    ),
                  ),
                ),
              ),
            ),
          ),
        ),
      ),
    ),
  ),
)

each_spent : (it : SpentLine) → IsWellFormedSpent it → AllByRecursion IsOneColumn (spent_columns it)
each_spent it formed = (literal_column (codes "AGGREGATION") refl, (decimal_column it.number, (text_column it.ref_text formed.ref_text, tt)))

-- the words of a line
pub line_words : (line : EntryLine) → IsWellFormedLine line → slice_split (λ b. b == 9) (tabbed (columns_of line)) ≡ columns_of line
line_words line formed = split_tabbed _ _ (All-from_recursion IsOneColumn (columns_of line) (each_column line formed))

pub spent_words : (it : SpentLine) → IsWellFormedSpent it → slice_split (λ b. b == 9) (tabbed (spent_columns it)) ≡ spent_columns it
spent_words it formed = split_tabbed _ _ (All-from_recursion IsOneColumn (spent_columns it) (each_spent it formed))

tabbed_line : (words : List (List ℕ)) → AllByRecursion IsOneColumn words → IsOneLine (tabbed words)
tabbed_line [] one = All-nil (λ b. b ≢ 10)
tabbed_line (x ∷ []) one = line_from_column x one.0
tabbed_line (x ∷ y ∷ xs) one =
    All-append (λ b. b ≢ 10) x (9 ∷ tabbed (y ∷ xs)) (line_from_column x one.0) (All-cons (λ b. b ≢ 10) 9 (tabbed (y ∷ xs)) (omega arith) (tabbed_line (y ∷ xs) one.1))

labelled_line : (label word : List ℕ) → IsOneColumn label → IsOneColumn word → IsOneLine (label ++ word)
labelled_line label word label_one word_one = All-append (λ b. b ≢ 10) label word (line_from_column label label_one) (line_from_column word word_one)

six : (a b c d e f : List ℕ) (more : List (List ℕ)) → IsOneLine a → IsOneLine b → IsOneLine c → IsOneLine d → IsOneLine e → IsOneLine f → All IsOneLine more → All IsOneLine (a ∷ b ∷ c ∷ d ∷ e ∷ f ∷ more)
six a b c d e f more ha hb hc hd he hf rest =
    let fs : All IsOneLine (f ∷ more) = All-cons IsOneLine f more hf rest in
    let es : All IsOneLine (e ∷ f ∷ more) = All-cons IsOneLine e (f ∷ more) he fs in
    let ds : All IsOneLine (d ∷ e ∷ f ∷ more) = All-cons IsOneLine d (e ∷ f ∷ more) hd es in
    let cs : All IsOneLine (c ∷ d ∷ e ∷ f ∷ more) = All-cons IsOneLine c (d ∷ e ∷ f ∷ more) hc ds in
    let bs : All IsOneLine (b ∷ c ∷ d ∷ e ∷ f ∷ more) = All-cons IsOneLine b (c ∷ d ∷ e ∷ f ∷ more) hb cs in
    All-cons IsOneLine a (b ∷ c ∷ d ∷ e ∷ f ∷ more) ha bs

lines_whole : (c : Certificate) → IsWellFormedCertificate c → All IsOneLine (lines_of c)
unfolding lines_of
lines_whole c formed =
    let entries = All-map IsOneLine (λ line. tabbed (columns_of line)) c.entries (All-weaker IsWellFormedLine (λ line. IsOneLine (tabbed (columns_of line))) (λ line is. tabbed_line (columns_of line) (each_column line is)) c.entries formed.entries) in
    let spent = All-map IsOneLine (λ it. tabbed (spent_columns it)) c.spent (All-weaker IsWellFormedSpent (λ it. IsOneLine (tabbed (spent_columns it))) (λ it is. tabbed_line (spent_columns it) (each_spent it is)) c.spent formed.spent) in
    All-append IsOneLine
    ((codes "CERTIFICATE " ++ decimal c.run) ∷ (codes "DAY " ++ date_text c.day) ∷ (codes "BY " ++ c.by) ∷ (codes "ENDED " ++ count_in is_ending c.entries) ∷ (codes "SENT " ++ count_in is_sending c.entries) ∷ (codes "SKIPPED " ++ count_in is_skipping c.entries) ∷ map (λ line. tabbed (columns_of line)) c.entries)
    ((codes "SPENT " ++ decimal (length c.spent)) ∷ map (λ it. tabbed (spent_columns it)) c.spent)
    (six (codes "CERTIFICATE " ++ decimal c.run) (codes "DAY " ++ date_text c.day) (codes "BY " ++ c.by) (codes "ENDED " ++ count_in is_ending c.entries) (codes "SENT " ++ count_in is_sending c.entries) (codes "SKIPPED " ++ count_in is_skipping c.entries) (map (λ line. tabbed (columns_of line)) c.entries)
    (labelled_line (codes "CERTIFICATE ") (decimal c.run) (literal_column (codes "CERTIFICATE ") refl) (decimal_column c.run))
    (labelled_line (codes "DAY ") (date_text c.day) (literal_column (codes "DAY ") refl) (date_column c.day))
    (labelled_line (codes "BY ") c.by (literal_column (codes "BY ") refl) (text_column c.by formed.by))
    (labelled_line (codes "ENDED ") (count_in is_ending c.entries) (literal_column (codes "ENDED ") refl) (decimal_column (length (filter (λ line. is_ending line.outcome) c.entries))))
    (labelled_line (codes "SENT ") (count_in is_sending c.entries) (literal_column (codes "SENT ") refl) (decimal_column (length (filter (λ line. is_sending line.outcome) c.entries))))
    (labelled_line (codes "SKIPPED ") (count_in is_skipping c.entries) (literal_column (codes "SKIPPED ") refl) (decimal_column (length (filter (λ line. is_skipping line.outcome) c.entries))))
    entries)
    (All-cons IsOneLine (codes "SPENT " ++ decimal (length c.spent)) (map (λ it. tabbed (spent_columns it)) c.spent) (labelled_line (codes "SPENT ") (decimal (length c.spent)) (literal_column (codes "SPENT ") refl) (decimal_column (length c.spent))) spent)

-- the text, parted at its line feeds
pub text_lines : (c : Certificate) → IsWellFormedCertificate c → slice_split (λ b. b == 10) (text_of c) ≡ (lines_of c ++ seal_of c ∷ []) ++ [] ∷ []
unfolding text_of
text_lines c formed =
    ap (slice_split (λ b. b == 10)) (sym (flat_map-append (λ line. line ++ 10 ∷ []) (lines_of c) (seal_of c ∷ [])))
    ∙ split_lines (lines_of c ++ seal_of c ∷ []) (All-append IsOneLine (lines_of c) (seal_of c ∷ []) (lines_whole c formed) (All-cons IsOneLine (seal_of c) [] sealing (All-nil IsOneLine)))
  where
    sealing : IsOneLine (seal_of c)
    sealing = labelled_line (codes "SHA256 ") (encode_lower (sha256 (lines_text (lines_of c)))) (literal_column (codes "SHA256 ") refl) (digest_column (sha256 (lines_text (lines_of c))))
