-- The lines of a certificate, and the columns of an entry's line, stay whole and can be parted again.
use Rattle.std.proofs.Common.{◌≡◌, ◌≢◌, ◌==◌, ℕ, true, false, List, [], ◌∷◌, ◌++◌, map, length, take, drop, codes, Option, Some, None, refl, sym, ap, subst, ◌∙◌, append_assoc, arith, if◌then◌else◌, ℤ}
use Rattle.std.proofs.lemmas.Bool.Decides.{nat_tests}
use Rattle.std.specs.Fmt.{decimal}
use Rattle.std.specs.List.{All, AllByRecursion, flat_map}
use Rattle.std.proofs.lemmas.List.Elements.{All-nil, All-cons, All-append, All-head, All-tail, All-weaker, All-from_recursion, recursion_from_All}
use Rattle.office_records.specs.Forms.{IsText, IsWellFormedAggregation, IsWellFormedRecord, IsWellFormedTree}
use Rattle.office_records.specs.Lists.{numbered}
use Rattle.office_records.specs.Tree.{TreeState}
use Rattle.office_records.specs.declared.aggregation.Aggregation.{Aggregation}
use Rattle.office_records.specs.declared.head.Record.{Record}
use Rattle.office_rules.specs.Certificates.{tabbed, lines_text, date_text, counted, entry_words, aggregation_words, made_of, certificate_lines}
use Rattle.office_rules.specs.EntryForms.{IsWellFormedEntry}
use Rattle.office_proof.specs.Meanings.{IsOneLine, IsOneColumn, entry_columns, before_first, split_at}
use Rattle.office_rules.specs.Outcomes.{is_ending, is_sending, is_skipping, outcome_word}
use Rattle.office_rules.specs.declared.entry.Entry.{Entry}
use Rattle.office_rules.specs.declared.outcome.Outcome.{Outcome}
use Rattle.office_rules.specs.declared.outcome.Outcome.TheVariants.{Destroyed, Transferred, Sent, Skipped}
use Rattle.office_proof.proofs.Columns.{line_from_column, literal_column, code_column, text_column, decimal_column, date_column, digest_column, hold_column}

-- a fact of the first of a list, beside those of the others
infixr 20 ◌beside◌
◌beside◌ : {A B : Type 0} → A → B → A × B
first beside others = (first, others)

-- ---- the columns of an entry's line

outcome_column : (outcome : Outcome) → IsOneColumn (outcome_word outcome)
outcome_column Destroyed = literal_column (codes "destroyed") refl
outcome_column Transferred = literal_column (codes "transferred") refl
outcome_column Sent = literal_column (codes "sent") refl
outcome_column Skipped = literal_column (codes "skipped") refl

each_column : (e : Entry) (head : Record) → IsWellFormedEntry e → IsWellFormedRecord head → AllByRecursion IsOneColumn (entry_columns e head)
each_column e head entry_well_formed head_well_formed =
    literal_column (codes "ENTRY") refl
    beside decimal_column e.record_no
    beside outcome_column e.outcome
    beside text_column head.ref_text head_well_formed.ref_text
    beside code_column e.class entry_well_formed.class
    beside code_column e.schedule entry_well_formed.schedule
    beside date_column e.due
    beside hold_column e.hold entry_well_formed.hold
    beside text_column e.confirmed_by entry_well_formed.confirmed_by
    beside decimal_column head.length
    beside digest_column head.digest
    beside tt

pub columns_whole : (e : Entry) (head : Record) → IsWellFormedEntry e → IsWellFormedRecord head → All IsOneColumn (entry_columns e head)
columns_whole e head entry_well_formed head_well_formed = All-from_recursion IsOneColumn (entry_columns e head) (each_column e head entry_well_formed head_well_formed)

pub words_joined : (e : Entry) (head : Record) → entry_words e head ≡ tabbed (entry_columns e head)
unfolding entry_words
words_joined e head = refl

-- ---- one line each

tabbed_line : (words : List (List ℕ)) → AllByRecursion IsOneColumn words → IsOneLine (tabbed words)
tabbed_line [] one = All-nil (λ b. b ≢ 10)
tabbed_line (x ∷ []) one = line_from_column x one.0
tabbed_line (x ∷ y ∷ xs) one =
    All-append (λ b. b ≢ 10) x (9 ∷ tabbed (y ∷ xs)) (line_from_column x one.0) (All-cons (λ b. b ≢ 10) 9 (tabbed (y ∷ xs)) (omega arith) (tabbed_line (y ∷ xs) one.1))

entry_line : (e : Entry) (head : Record) → IsWellFormedEntry e → IsWellFormedRecord head → IsOneLine (entry_words e head)
entry_line e head entry_well_formed head_well_formed = subst IsOneLine (sym (words_joined e head)) (tabbed_line (entry_columns e head) (each_column e head entry_well_formed head_well_formed))

aggregation_line : (a : ℕ) (it : Aggregation) → IsWellFormedAggregation it → IsOneLine (aggregation_words a it)
aggregation_line a it formed =
    tabbed_line (codes "AGGREGATION" ∷ decimal a ∷ it.ref_text ∷ []) (literal_column (codes "AGGREGATION") refl beside decimal_column a beside text_column it.ref_text formed.ref_text beside tt)

labelled_line : (label word : List ℕ) → IsOneColumn label → IsOneColumn word → IsOneLine (label ++ word)
labelled_line label word label_one word_one = All-append (λ b. b ≢ 10) label word (line_from_column label label_one) (line_from_column word word_one)

made_lines : {A : Type 0} (make : A → List ℕ) (o : Option A) → ((x : A) → o ≡ Some x → IsOneLine (make x)) → All IsOneLine (made_of make o)
made_lines make None each = All-nil IsOneLine
made_lines make (Some x) each = All-cons IsOneLine (make x) [] (each x refl) (All-nil IsOneLine)

flat_lines : {A : Type 0} (P : A → Type 0) (f : A → List (List ℕ)) → ((x : A) → P x → All IsOneLine (f x)) → (xs : List A) → All P xs → All IsOneLine (flat_map f xs)
flat_lines P f each [] all = All-nil IsOneLine
flat_lines P f each (x ∷ xs) all = All-append IsOneLine (f x) (flat_map f xs) (each x (All-head P x xs all)) (flat_lines P f each xs (All-tail P x xs all))

-- ---- all lines

counted_line : (label : List ℕ) (n : ℕ) → IsOneColumn label → IsOneLine (label ++ decimal n)
counted_line label n one = labelled_line label (decimal n) one (decimal_column n)

entry_lines : (tree : TreeState) (entries : List Entry) → IsWellFormedTree tree → All IsWellFormedEntry entries → All IsOneLine (flat_map (λ e. made_of (entry_words e) (numbered tree.records e.record_no)) entries)
entry_lines tree entries formed each =
    flat_lines IsWellFormedEntry (λ e. made_of (entry_words e) (numbered tree.records e.record_no))
    (λ e entry_well_formed. made_lines (entry_words e) (numbered tree.records e.record_no) (λ head is. entry_line e head entry_well_formed (formed.records e.record_no head is))) entries each

aggregation_lines : (tree : TreeState) (spent : List ℕ) → IsWellFormedTree tree → All IsOneLine (flat_map (λ a. made_of (aggregation_words a) (numbered tree.aggregations a)) spent)
aggregation_lines tree spent formed =
    flat_lines (λ (a : ℕ). Unit {0}) (λ a. made_of (aggregation_words a) (numbered tree.aggregations a))
    (λ a _. made_lines (aggregation_words a) (numbered tree.aggregations a) (λ it is. aggregation_line a it (formed.aggregations a it is))) spent (λ _ _ _. tt)

pub lines_whole : (tree : TreeState) (run : ℕ) (day : ℤ) (by : List ℕ) (entries : List Entry) (spent : List ℕ) → IsWellFormedTree tree → IsText by → All IsWellFormedEntry entries → All IsOneLine (certificate_lines tree run day by entries spent)
unfolding certificate_lines
lines_whole tree run day by entries spent formed by_well_formed each =
    let entry_part = flat_map (λ (e : Entry). made_of (entry_words e) (numbered tree.records e.record_no)) entries in
    let spent_line = codes "SPENT " ++ decimal (length spent) in
    let spent_part = flat_map (λ (a : ℕ). made_of (aggregation_words a) (numbered tree.aggregations a)) spent in
    let rest : All IsOneLine (entry_part ++ spent_line ∷ spent_part) =
    All-append IsOneLine entry_part (spent_line ∷ spent_part) (entry_lines tree entries formed each)
    (All-cons IsOneLine spent_line spent_part (counted_line (codes "SPENT ") (length spent) (literal_column (codes "SPENT ") refl)) (aggregation_lines tree spent formed)) in
    All-from_recursion IsOneLine (certificate_lines tree run day by entries spent)
    (counted_line (codes "CERTIFICATE ") run (literal_column (codes "CERTIFICATE ") refl)
    beside labelled_line (codes "DAY ") (date_text day) (literal_column (codes "DAY ") refl) (date_column day)
    beside labelled_line (codes "BY ") by (literal_column (codes "BY ") refl) (text_column by by_well_formed)
    beside labelled_line (codes "ENDED ") (counted is_ending entries) (literal_column (codes "ENDED ") refl) (decimal_column _)
    beside labelled_line (codes "SENT ") (counted is_sending entries) (literal_column (codes "SENT ") refl) (decimal_column _)
    beside labelled_line (codes "SKIPPED ") (counted is_skipping entries) (literal_column (codes "SKIPPED ") refl) (decimal_column _)
    beside recursion_from_All IsOneLine (entry_part ++ spent_line ∷ spent_part) rest)

-- ---- a line for each entry

lines_of_entries : (tree : TreeState) (heads : ℕ → Record) (entries : List Entry) (rest : List (List ℕ)) → All (λ e. numbered tree.records e.record_no ≡ Some (heads e.record_no)) entries
    → take (length entries) (flat_map (λ e. made_of (entry_words e) (numbered tree.records e.record_no)) entries ++ rest) ≡ map (λ e. entry_words e (heads e.record_no)) entries
lines_of_entries tree heads [] rest there = refl
lines_of_entries tree heads (e ∷ es) rest there =
    let more = flat_map (λ (e : Entry). made_of (entry_words e) (numbered tree.records e.record_no)) es in
    let first = All-head (λ e. numbered tree.records e.record_no ≡ Some (heads e.record_no)) e es there in
    let others = All-tail (λ e. numbered tree.records e.record_no ≡ Some (heads e.record_no)) e es there in
    ap (λ (o : Option Record). take (length (e ∷ es)) ((made_of (entry_words e) o ++ more) ++ rest)) first ∙ ap (λ lines. entry_words e (heads e.record_no) ∷ lines) (lines_of_entries tree heads es rest others)

pub entries_in_order : (tree : TreeState) (run : ℕ) (day : ℤ) (by : List ℕ) (entries : List Entry) (spent : List ℕ) (heads : ℕ → Record) → All (λ e. numbered tree.records e.record_no ≡ Some (heads e.record_no)) entries
    → take (length entries) (drop 6 (certificate_lines tree run day by entries spent)) ≡ map (λ e. entry_words e (heads e.record_no)) entries
unfolding certificate_lines
entries_in_order tree run day by entries spent heads there = lines_of_entries tree heads entries _ there

-- ---- a line for each spent aggregation

-- after the lines of the entries comes the rest
after_entries : (tree : TreeState) (heads : ℕ → Record) (entries : List Entry) (rest : List (List ℕ)) → All (λ e. numbered tree.records e.record_no ≡ Some (heads e.record_no)) entries
    → drop (length entries) (flat_map (λ e. made_of (entry_words e) (numbered tree.records e.record_no)) entries ++ rest) ≡ rest
after_entries tree heads [] rest there = refl
after_entries tree heads (e ∷ es) rest there =
    let more = flat_map (λ (e : Entry). made_of (entry_words e) (numbered tree.records e.record_no)) es in
    let first = All-head (λ e. numbered tree.records e.record_no ≡ Some (heads e.record_no)) e es there in
    let others = All-tail (λ e. numbered tree.records e.record_no ≡ Some (heads e.record_no)) e es there in
    ap (λ (o : Option Record). drop (length (e ∷ es)) ((made_of (entry_words e) o ++ more) ++ rest)) first ∙ after_entries tree heads es rest others

lines_of_spent : (tree : TreeState) (aggregations : ℕ → Aggregation) (spent : List ℕ) → All (λ a. numbered tree.aggregations a ≡ Some (aggregations a)) spent
    → flat_map (λ a. made_of (aggregation_words a) (numbered tree.aggregations a)) spent ≡ map (λ a. aggregation_words a (aggregations a)) spent
lines_of_spent tree aggregations [] there = refl
lines_of_spent tree aggregations (a ∷ rest) there =
    let more = flat_map (λ (a : ℕ). made_of (aggregation_words a) (numbered tree.aggregations a)) rest in
    let first = All-head (λ a. numbered tree.aggregations a ≡ Some (aggregations a)) a rest there in
    let others = All-tail (λ a. numbered tree.aggregations a ≡ Some (aggregations a)) a rest there in
    ap (λ (o : Option Aggregation). made_of (aggregation_words a) o ++ more) first ∙ ap (λ lines. aggregation_words a (aggregations a) ∷ lines) (lines_of_spent tree aggregations rest others)

pub spent_in_order : (tree : TreeState) (run : ℕ) (day : ℤ) (by : List ℕ) (entries : List Entry) (spent : List ℕ) (heads : ℕ → Record) (aggregations : ℕ → Aggregation) → All (λ e. numbered tree.records e.record_no ≡ Some (heads e.record_no)) entries → All (λ a. numbered tree.aggregations a ≡ Some (aggregations a)) spent
    → drop (length entries) (drop 6 (certificate_lines tree run day by entries spent)) ≡ (codes "SPENT " ++ decimal (length spent)) ∷ map (λ a. aggregation_words a (aggregations a)) spent
unfolding certificate_lines
spent_in_order tree run day by entries spent heads aggregations there spent_there =
    after_entries tree heads entries _ there ∙ ap (λ lines. (codes "SPENT " ++ decimal (length spent)) ∷ lines) (lines_of_spent tree aggregations spent spent_there)

-- ---- the first lines

pub head_reported : (tree : TreeState) (run : ℕ) (day : ℤ) (by : List ℕ) (entries : List Entry) (spent : List ℕ)
    → take 6 (certificate_lines tree run day by entries spent)
    ≡ (codes "CERTIFICATE " ++ decimal run) ∷ (codes "DAY " ++ date_text day) ∷ (codes "BY " ++ by) ∷ (codes "ENDED " ++ counted is_ending entries) ∷ (codes "SENT " ++ counted is_sending entries) ∷ (codes "SKIPPED " ++ counted is_skipping entries) ∷ []
unfolding certificate_lines
head_reported tree run day by entries spent = refl

-- ---- parted again

no_tab : (word : List ℕ) → IsOneColumn word → All (λ b. b ≢ 9) word
no_tab word one = All-weaker (λ b. (b ≢ 9) × (b ≢ 10)) (λ b. b ≢ 9) (λ b p. p.0) word one

same_byte : (v : ℕ) → (v == v) ≡ true
same_byte v = grind (arith, nat_tests)

other_byte : (b v : ℕ) → b ≢ v → (b == v) ≡ false
other_byte b v h = grind (arith, nat_tests)

split_word : (v : ℕ) (word rest : List ℕ) → All (λ b. b ≢ v) word → split_at v (word ++ v ∷ rest) ≡ word ∷ split_at v rest
split_word v [] rest none = ap (λ t. if t then [] ∷ split_at v rest else before_first v (split_at v rest)) (same_byte v)
split_word v (b ∷ bs) rest none =
    let others = bs ++ v ∷ rest in
    ap (λ t. if t then [] ∷ split_at v others else before_first b (split_at v others)) (other_byte b v (All-head (λ b. b ≢ v) b bs none)) ∙ ap (before_first b) (split_word v bs rest (All-tail (λ b. b ≢ v) b bs none))

split_last : (v : ℕ) (word : List ℕ) → All (λ b. b ≢ v) word → split_at v word ≡ word ∷ []
split_last v [] none = refl
split_last v (b ∷ bs) none =
    ap (λ t. if t then [] ∷ split_at v bs else before_first b (split_at v bs)) (other_byte b v (All-head (λ b. b ≢ v) b bs none)) ∙ ap (before_first b) (split_last v bs (All-tail (λ b. b ≢ v) b bs none))

split_tabbed : (word : List ℕ) (words : List (List ℕ)) → All IsOneColumn (word ∷ words) → split_at 9 (tabbed (word ∷ words)) ≡ word ∷ words
split_tabbed word [] one = split_last 9 word (no_tab word (All-head IsOneColumn word [] one))
split_tabbed word (next ∷ words) one =
    split_word 9 word (tabbed (next ∷ words)) (no_tab word (All-head IsOneColumn word (next ∷ words) one)) ∙ ap (λ ws. word ∷ ws) (split_tabbed next words (All-tail IsOneColumn word (next ∷ words) one))

pub words_parted : (e : Entry) (head : Record) → IsWellFormedEntry e → IsWellFormedRecord head → split_at 9 (entry_words e head) ≡ entry_columns e head
words_parted e head entry_well_formed head_well_formed = ap (split_at 9) (words_joined e head) ∙ split_tabbed _ _ (columns_whole e head entry_well_formed head_well_formed)

split_lines : (lines : List (List ℕ)) → All IsOneLine lines → split_at 10 (lines_text lines) ≡ lines ++ [] ∷ []
split_lines [] one = refl
split_lines (line ∷ lines) one =
    ap (split_at 10) (append_assoc line (10 ∷ []) (lines_text lines))
    ∙ split_word 10 line (lines_text lines) (All-head IsOneLine line lines one)
    ∙ ap (λ ls. line ∷ ls) (split_lines lines (All-tail IsOneLine line lines one))

pub lines_parted_again : (tree : TreeState) (run : ℕ) (day : ℤ) (by : List ℕ) (entries : List Entry) (spent : List ℕ) → IsWellFormedTree tree → IsText by → All IsWellFormedEntry entries
    → split_at 10 (lines_text (certificate_lines tree run day by entries spent)) ≡ certificate_lines tree run day by entries spent ++ [] ∷ []
lines_parted_again tree run day by entries spent formed by_well_formed each = split_lines (certificate_lines tree run day by entries spent) (lines_whole tree run day by entries spent formed by_well_formed each)
