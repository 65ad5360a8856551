-- The text of a certificate is UTF-8.
use Rattle.std.proofs.Common.{◌≡◌, ℕ, zero, suc, ◌<◌, ◌/◌, ◌%◌, ◌==◌, if◌then◌else◌, Bool, true, false, nat_lt, List, [], ◌∷◌, ◌++◌, map, length, Option, Some, None, IsUtf8, IsAscii, IfSome, All, codes, decimal, ℤ, refl, sym, subst, arith, chars, unwrap_or}
use Rattle.std.specs.Fmt.{digit_glyph, digits, digits_onto}
use Rattle.std.specs.List.{list_all}
use Rattle.std.specs.Str.{is_utf8}
use Rattle.std.proofs.lemmas.Bool.{and_parts}
use Rattle.std.proofs.lemmas.Bool.Decides.{nat_tests}
use Rattle.std.proofs.lemmas.List.Elements.{All-head, All-tail}
use Rattle.std.proofs.lemmas.Str.{IsUtf8-append, IsUtf8-from_ascii, IsUtf8-from_is_utf8, IsUtf8-nil}
use Rattle.std.proofs.lemmas.Str.Ascii.{IsAscii-cons, IsAscii-nil}
use Rattle.hex.specs.Hex.{encode_lower, lower_digits}
use Rattle.hex.proofs.HexLemmas.{IsAscii-encode_with}
use Rattle.sha2.specs.Sha256.{sha256}
use Rattle.office_days.specs.Calendar.{civil}
use Rattle.office_records.specs.Codes.{is_code_byte}
use Rattle.office_records.specs.Forms.{IsCode, IsText}
use Rattle.office_records.specs.TextForms.{is_text_character}
use Rattle.office_rules.specs.Certificates.{date_text, lines_text, tabbed}
use Rattle.office_rules.specs.Outcomes.{is_ending, is_sending, is_skipping, outcome_word}
use Rattle.office_rules.specs.declared.outcome.Outcome.{Outcome}
use Rattle.office_rules.specs.declared.outcome.Outcome.TheVariants as outcome
use Rattle.office_rules.proofs.DateBytes.{date_is_text}
use Rattle.office_evidence.specs.Parsed.{Certificate, IsTextOf, IsWellFormedCertificate, IsWellFormedLine, IsWellFormedSpent, columns_of, count_in, lines_of, spent_columns, text_of}
use Rattle.office_evidence.specs.declared.parsed.EntryLine.{EntryLine}
use Rattle.office_evidence.specs.declared.parsed.SpentLine.{SpentLine}

-- ---- where a test of each byte holds

by_tests : (test : ℕ → Bool) → ((b : ℕ) → test b ≡ true → b < 128) → (word : List ℕ) → list_all test word ≡ true → IsAscii word
by_tests test each [] t = IsAscii-nil
by_tests test each (b ∷ bs) t =
    let parts = and_parts (test b) (list_all test bs) t in
    IsAscii-cons b bs (each b parts.0) (by_tests test each bs parts.1)

low : (b : ℕ) → nat_lt b 128 ≡ true → b < 128
low b t = grind (arith, nat_tests)

-- of a literal, where the test computes
literal : (word : List ℕ) → list_all (λ b. nat_lt b 128) word ≡ true → IsUtf8 word
literal word t = IsUtf8-from_ascii word (by_tests (λ b. nat_lt b 128) low word t)

code_byte : (b : ℕ) → is_code_byte b ≡ true → b < 128
code_byte b t = grind (arith, nat_tests)

code_text : (code : List ℕ) → IsCode code → IsUtf8 code
code_text code formed = IsUtf8-from_ascii code (by_tests is_code_byte code_byte code (and_parts _ _ formed).1)

text_text : (text : List ℕ) → IsText text → IsUtf8 text
text_text text formed = IsUtf8-from_is_utf8 text (and_parts (is_utf8 text) (list_all is_text_character (chars text)) (and_parts _ _ formed).1).0

-- ---- numerals, dates, digests, words

glyph : (d : ℕ) → d < 10 → digit_glyph false d < 128
glyph d h = grind (arith, nat_tests)

by_last : (last : Bool) (here more : List ℕ) → IsAscii here → IsAscii more → IsAscii (if last then here else more)
by_last true here more one rest = one
by_last false here more one rest = rest

digits_ascii : (places n : ℕ) (onto : List ℕ) → IsAscii onto → IsAscii (digits_onto places 10 false n onto)
digits_ascii zero n onto one = one
digits_ascii (suc places) n onto one =
    let here = digit_glyph false (n % 10) ∷ onto in
    let whole : IsAscii here = IsAscii-cons (digit_glyph false (n % 10)) onto (glyph (n % 10) (omega arith)) one in
    by_last (n / 10 == 0) here (digits_onto places 10 false (n / 10) here) whole (digits_ascii places (n / 10) here whole)

number : (n : ℕ) → IsUtf8 (decimal n)
unfolding digits
number n = IsUtf8-from_ascii (decimal n) (digits_ascii 64 n [] IsAscii-nil)

digest_text : (bytes : List ℕ) → IsUtf8 (encode_lower bytes)
digest_text bytes = IsUtf8-from_ascii (encode_lower bytes) (IsAscii-encode_with lower_digits bytes (by_tests (λ b. nat_lt b 128) low lower_digits refl))

date : (day : ℤ) → IsUtf8 (date_text day)
date day = date_is_text (civil day)

outcome_text : (o : Outcome) → IsUtf8 (outcome_word o)
outcome_text outcome.Destroyed = literal (codes "destroyed") refl
outcome_text outcome.Transferred = literal (codes "transferred") refl
outcome_text outcome.Sent = literal (codes "sent") refl
outcome_text outcome.Skipped = literal (codes "skipped") refl

hold_text : (hold : Option (List ℕ)) → IfSome hold IsCode → IsUtf8 (unwrap_or hold (codes "-"))
hold_text None formed = literal (codes "-") refl
hold_text (Some code) formed = code_text code formed

-- ---- words and lines

abbrev AreTexts : List (List ℕ) → Type 0
AreTexts [] = Unit {0}
AreTexts (word ∷ words) = IsUtf8 word × AreTexts words

byte : (b : ℕ) (rest : List ℕ) → b < 128 → IsUtf8 rest → IsUtf8 (b ∷ rest)
byte b rest small text = IsUtf8-append (b ∷ []) rest (IsUtf8-from_ascii (b ∷ []) (IsAscii-cons b [] small IsAscii-nil)) text

tabbed_text : (words : List (List ℕ)) → AreTexts words → IsUtf8 (tabbed words)
tabbed_text [] all = IsUtf8-nil
tabbed_text (x ∷ []) all = all.0
tabbed_text (x ∷ y ∷ xs) all = IsUtf8-append x (9 ∷ tabbed (y ∷ xs)) all.0 (byte 9 (tabbed (y ∷ xs)) (omega arith) (tabbed_text (y ∷ xs) all.1))

lines_utf8 : (lines : List (List ℕ)) → AreTexts lines → IsUtf8 (lines_text lines)
lines_utf8 [] all = IsUtf8-nil
lines_utf8 (x ∷ xs) all = IsUtf8-append (x ++ 10 ∷ []) (lines_text xs) (IsUtf8-append x (10 ∷ []) all.0 (byte 10 [] (omega arith) IsUtf8-nil)) (lines_utf8 xs all.1)

both : (words more : List (List ℕ)) → AreTexts words → AreTexts more → AreTexts (words ++ more)
both [] more all others = others
both (x ∷ xs) more all others = (all.0, both xs more all.1 others)

-- ---- a certificate

columns : (line : EntryLine) → IsWellFormedLine line → AreTexts (columns_of line)
columns line formed = (
  literal (codes "ENTRY") refl,
  (number line.record_no, (outcome_text line.outcome, (text_text line.ref_text formed.ref_text, (code_text line.class formed.class, (code_text line.schedule formed.schedule, (date line.due, (hold_text line.hold formed.hold.form, (text_text line.confirmed_by formed.confirmed_by, (number line.length, (digest_text line.digest, tt)))))))))),
)

entry_lines : (lines : List EntryLine) → All IsWellFormedLine lines → AreTexts (map (λ line. tabbed (columns_of line)) lines)
entry_lines [] all = tt
entry_lines (line ∷ lines) all = (tabbed_text (columns_of line) (columns line (All-head IsWellFormedLine line lines all)), entry_lines lines (All-tail IsWellFormedLine line lines all))

spent_lines : (lines : List SpentLine) → All IsWellFormedSpent lines → AreTexts (map (λ it. tabbed (spent_columns it)) lines)
spent_lines [] all = tt
spent_lines (it ∷ lines) all =
    let formed = All-head IsWellFormedSpent it lines all in
    (tabbed_text (spent_columns it) (literal (codes "AGGREGATION") refl, (number it.number, (text_text it.ref_text formed.ref_text, tt))), spent_lines lines (All-tail IsWellFormedSpent it lines all))

labelled : (label word : List ℕ) → list_all (λ b. nat_lt b 128) label ≡ true → IsUtf8 word → IsUtf8 (label ++ word)
labelled label word t text = IsUtf8-append label word (literal label t) text

all_lines : (c : Certificate) → IsWellFormedCertificate c → AreTexts (lines_of c)
unfolding lines_of
all_lines c formed = (
  labelled (codes "CERTIFICATE ") (decimal c.run) refl (number c.run),
  (
    labelled (codes "DAY ") (date_text c.day) refl (date c.day),
    (
      labelled (codes "BY ") c.by refl (text_text c.by formed.by),
      (
        labelled (codes "ENDED ") (count_in is_ending c.entries) refl (number _),
        (
          labelled (codes "SENT ") (count_in is_sending c.entries) refl (number _),
          (
            labelled (codes "SKIPPED ") (count_in is_skipping c.entries) refl (number _),
            both (map (λ line. tabbed (columns_of line)) c.entries) _ (entry_lines c.entries formed.entries)
                (labelled (codes "SPENT ") (decimal (length c.spent)) refl (number (length c.spent)), spent_lines c.spent formed.spent),
          ),
        ),
      ),
    ),
  ),
)

pub certificate_utf8 : (c : Certificate) (text : List ℕ) → IsTextOf c text → IsUtf8 text
unfolding text_of
certificate_utf8 c text it =
    let body = lines_text (lines_of c) in
    let above = lines_utf8 (lines_of c) (all_lines c it.formed) in
    let seal : IsUtf8 (lines_text ((codes "SHA256 " ++ encode_lower (sha256 body)) ∷ [])) = lines_utf8 ((codes "SHA256 " ++ encode_lower (sha256 body)) ∷ []) (labelled (codes "SHA256 ") (encode_lower (sha256 body)) refl (digest_text (sha256 body)), tt) in
    subst IsUtf8 (sym it.same) (IsUtf8-append body _ above seal)
