-- What is appended part by part is the certificate, and what is joined word by word is the line of an entry.
use Rattle.std.proofs.Common.{◌≡◌, ◌∙◌, ap, ℕ, List, [], ◌∷◌, ◌++◌, length, codes, unwrap_or, ℤ}
use Rattle.std.specs.Fmt.{decimal}
use Rattle.std.specs.List.{flat_map}
use Rattle.hex.specs.Hex.{encode_lower}
use Rattle.office_records.specs.Lists.{numbered}
use Rattle.office_records.specs.Tree.{TreeState}
use Rattle.office_records.specs.declared.head.Record.{Record}
use Rattle.office_rules.specs.Certificates.{aggregation_words, certificate_lines, certificate_text, counted, date_text, entry_line, entry_words, lines_text, made_of, sealed, tabbed}
use Rattle.office_rules.specs.Outcomes.{is_ending, is_sending, is_skipping, outcome_word}
use Rattle.office_rules.specs.declared.entry.Entry.{Entry}
use Rattle.office_proof.proofs.Texts.{more_lines}

abbrev reported : Entry → Record → List ℕ → List ℕ → List ℕ → List ℕ → List ℕ
reported e head number due length digest = tabbed (
    codes "ENTRY" ∷ number ∷ outcome_word e.outcome ∷ head.ref_text ∷ e.class ∷ e.schedule ∷ due
    ∷ unwrap_or e.hold (codes "-") ∷ e.confirmed_by ∷ length ∷ digest ∷ []) ++ 10 ∷ []

pub reported_is : (e : Entry) (head : Record) (number due length digest : List ℕ)
    → number ≡ decimal e.record_no → due ≡ date_text e.due → length ≡ decimal head.length → digest ≡ encode_lower head.digest
    → reported e head number due length digest ≡ entry_line e head
unfolding entry_words
reported_is e head number due length digest number_is due_is length_is digest_is =
    ap (λ w. reported e head w due length digest) number_is
    ∙ ap (λ w. reported e head (decimal e.record_no) w length digest) due_is
    ∙ ap (λ w. reported e head (decimal e.record_no) (date_text e.due) w digest) length_is
    ∙ ap (λ w. reported e head (decimal e.record_no) (date_text e.due) (decimal head.length) w) digest_is

pub certificate_is : (tree : TreeState) (run : ℕ) (day : ℤ) (by : List ℕ) (entries : List Entry) (spent : List ℕ) (start with_run with_counts with_entries body : List ℕ)
    → start ≡ []
    → with_run ≡ start ++ lines_text ((codes "CERTIFICATE " ++ decimal run) ∷ (codes "DAY " ++ date_text day) ∷ (codes "BY " ++ by) ∷ [])
    → with_counts ≡ with_run ++ lines_text ((codes "ENDED " ++ counted is_ending entries) ∷ (codes "SENT " ++ counted is_sending entries) ∷ (codes "SKIPPED " ++ counted is_skipping entries) ∷ [])
    → with_entries ≡ with_counts ++ lines_text (flat_map (λ e. made_of (entry_words e) (numbered tree.records e.record_no)) entries)
    → body ≡ with_entries ++ lines_text ((codes "SPENT " ++ decimal (length spent)) ∷ flat_map (λ (a : ℕ). made_of (aggregation_words a) (numbered tree.aggregations a)) spent)
    → sealed body ≡ certificate_text tree run day by entries spent
unfolding certificate_text certificate_lines
certificate_is tree run day by entries spent start with_run with_counts with_entries body empty first second third fourth =
    let heading = (codes "CERTIFICATE " ++ decimal run) ∷ (codes "DAY " ++ date_text day) ∷ (codes "BY " ++ by) ∷ [] in
    let counts = (codes "ENDED " ++ counted is_ending entries) ∷ (codes "SENT " ++ counted is_sending entries) ∷ (codes "SKIPPED " ++ counted is_skipping entries) ∷ [] in
    let listed = flat_map (λ e. made_of (entry_words e) (numbered tree.records e.record_no)) entries in
    let ending = (codes "SPENT " ++ decimal (length spent)) ∷ flat_map (λ (a : ℕ). made_of (aggregation_words a) (numbered tree.aggregations a)) spent in
    let counted_lines = more_lines start with_run with_counts heading counts first second in
    let listed_lines = more_lines start with_counts with_entries (heading ++ counts) listed counted_lines third in
    let lines = more_lines start with_entries body ((heading ++ counts) ++ listed) ending listed_lines fourth in
    ap sealed (lines ∙ ap (λ t. t ++ lines_text (certificate_lines tree run day by entries spent)) empty)
