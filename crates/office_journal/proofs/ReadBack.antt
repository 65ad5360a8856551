-- A line is read back.
use Rattle.std.proofs.Common.{◌≡◌, ◌∙◌, ℕ, ◌+◌, ◌-◌, ◌^◌, ◌<◌, ◌==◌, ◌||◌, nat_lt, List, [], ◌∷◌, ◌++◌, true, false, Some, option_and_then, refl, sym, ap, ap₂, arith, append_assoc}
use Rattle.std.specs.Prelude.{codes}
use Rattle.std.specs.Fmt.{decimal}
use Rattle.std.specs.Str.{chars}
use Rattle.std.proofs.lemmas.Bool.{and_parts, eqb-false, ltb-false, ltb-true, not-true, or_parts}
use Rattle.std.proofs.lemmas.List.Elements.{recursion_from_All}
use Rattle.std.proofs.lemmas.Str.{encode_ascii, encodes-chars}
use lib.Utf8.{encodes}
use Rattle.hex.specs.Hex.{encode_lower}
use Rattle.json.specs.Json.{document, if_last, max_depth, value}
use Rattle.json.specs.Lex.{between, fresh, lex, punctuate}
use Rattle.json.specs.Print.{escape, escape_byte, print, print_from}
use Rattle.json.specs.Run.{is_plain}
use Rattle.json.specs.Token.{Token, begin_object, end_object, key, number, string}
use Rattle.json.specs.Tree.{depth, members_depth, HasNumbers, MembersHaveNumbers, json_tokens, members_tokens}
use Rattle.json.proofs.Printed.Decimals.{IsNumber-decimal}
use Rattle.json.proofs.Printed.Strings.{escape_byte_plain}
use Rattle.json.proofs.Printed.Trees.{ArePrintable-json_tokens, document-print}
use Rattle.office_journal.specs.declared.head.Head.{Head}
use Rattle.office_journal.specs.Chain.{IsDigest}
use Rattle.office_journal.specs.Lines.{opening}
use Rattle.office_journal.specs.Members.{AreShallow, AreWritable, Field, HaveNumbers, fields_tokens, members_text}
use Rattle.office_journal.specs.Noting.{line_of}
use Rattle.office_journal.specs.ReadBack.{line_object, members_of}
use Rattle.office_journal.specs.Shown.{shown}
use Rattle.office_journal.proofs.Bytes.{all_pass, hex_pass}
use Rattle.office_journal.proofs.Lexed.{lex_shown, low_number}
use Rattle.office_journal.proofs.NumberBytes.{number_bytes}
use Rattle.office_journal.proofs.Quoted.{AreLow, low_shown, shown_chars}

members_are : (fields : List Field) → members_tokens (members_of fields) ≡ fields_tokens fields ++ end_object ∷ []
members_are [] = refl
members_are (field ∷ fields) =
    ap (λ ts. key field.0 ∷ (json_tokens field.1 ++ ts)) (members_are fields)
    ∙ ap (λ ts. key field.0 ∷ ts) (sym (append_assoc (json_tokens field.1) (fields_tokens fields) (end_object ∷ [])))

members_numbers : (fields : List Field) → HaveNumbers fields → MembersHaveNumbers (members_of fields)
members_numbers [] h = tt
members_numbers (field ∷ fields) h = (h.0, members_numbers fields h.1)

object_numbers : (head : Head) (fields : List Field) → head.line < 2 ^ 64 - 1 → HaveNumbers fields → HasNumbers (line_object head fields)
object_numbers head fields room h = (tt, (IsNumber-decimal (head.line + 1) (omega (arith, room)), members_numbers fields h))

-- ---- the text before the members

low_from : (bytes : List ℕ) → all_pass (λ b. nat_lt b 127) bytes ≡ true → AreLow bytes
low_from [] h = tt
low_from (b ∷ bytes) h = let parts = and_parts (nat_lt b 127) (all_pass (λ b. nat_lt b 127) bytes) h in (ltb-true b 127 parts.0, low_from bytes parts.1)

low_append : (a b : List ℕ) → AreLow a → AreLow b → AreLow (a ++ b)
low_append [] b h k = k
low_append (x ∷ a) b h k = (h.0, low_append a b h.1 k)

plain_escape : (bytes : List ℕ) → all_pass is_plain bytes ≡ true → escape bytes ≡ bytes
plain_escape [] h = refl
plain_escape (x ∷ bytes) h =
    let parts = and_parts (is_plain x) (all_pass is_plain bytes) h in
    let stops = or_parts ((x == 34) || (x == 92)) (nat_lt x 32) (not-true _ parts.0) in
    let quotes = or_parts (x == 34) (x == 92) stops.0 in
    ap₂ (λ (a b : List ℕ). a ++ b) (escape_byte_plain x (eqb-false x 34 quotes.0) (eqb-false x 92 quotes.1) (ltb-false x 32 stops.1)) (plain_escape bytes parts.1)

low_text : (a cs : List ℕ) → AreLow a → (encodes (a ++ cs) ≡ a ++ encodes cs) × (shown_chars (a ++ cs) ≡ a ++ shown_chars cs)
low_text [] cs h = (refl, refl)
low_text (b ∷ a) cs h =
    let small : b < 127 = h.0 in
    let later = low_text a cs h.1 in (
      ap (λ x. x ++ encodes (a ++ cs)) (encode_ascii b (omega (arith, small))) ∙ ap (λ xs. b ∷ xs) later.0,
      ap (λ x. x ++ shown_chars (a ++ cs)) (low_shown b small) ∙ ap (λ xs. b ∷ xs) later.1,
    )

low_opening : (head : Head) → IsDigest head.digest → head.line < 2 ^ 64 - 1 → AreLow (opening head.digest (head.line + 1))
low_opening head digest room =
    let begun = codes "{\"before\":\"" in
    let hex = encode_lower head.digest in
    let middle = codes "\",\"line\":" in
    let digits : List ℕ = decimal (head.line + 1) in
    let low_hex = low_from hex (hex_pass (λ b. nat_lt b 127) refl head.digest (recursion_from_All _ _ digest.1)) in
    let low_digits = low_number digits (number_bytes digits (IsNumber-decimal (head.line + 1) (omega (arith, room)))) in
    let before = low_append (begun ++ hex) middle (low_append begun hex (low_from begun refl) low_hex) (low_from middle refl) in
    low_append (((begun ++ hex) ++ middle) ++ digits) (codes ",") (low_append ((begun ++ hex) ++ middle) digits before low_digits) (low_from (codes ",") refl)

-- ---- the text of the object

regroup : (a h m n k t : List ℕ) → ((((a ++ h) ++ m) ++ n) ++ k) ++ t ≡ a ++ (h ++ (m ++ (n ++ (k ++ t))))
regroup a h m n k t = simp append_assoc

printed : (hex dec k : List ℕ) (ts : List Token) → escape hex ≡ hex
    → print (begin_object ∷ key (codes "before") ∷ string hex ∷ key (codes "line") ∷ number dec ∷ key k ∷ ts)
    ≡ codes "{\"before\":\"" ++ (hex ++ (codes "\",\"line\":" ++ (dec ++ (codes "," ++ print (key k ∷ ts)))))
unfolding print_from escape_byte
printed hex dec k ts e =
    let rest = codes ",\"line\":" ++ (dec ++ (codes "," ++ print (key k ∷ ts))) in
    ap (λ (h : List ℕ). codes "{\"before\":\"" ++ ((h ++ 34 ∷ []) ++ rest)) e
    ∙ ap (λ xs. codes "{\"before\":\"" ++ xs) (append_assoc hex (34 ∷ []) rest)

-- the tokens of the members, and the brace behind them
abbrev behind : List Field → List Token
behind fields = fields_tokens fields ++ end_object ∷ []

object_text : (head : Head) (field : Field) (fields : List Field) → IsDigest head.digest
    → print (json_tokens (line_object head (field ∷ fields))) ≡ opening head.digest (head.line + 1) ++ print (behind (field ∷ fields))
object_text head field fields digest =
    let hex = encode_lower head.digest in
    let number_of : List ℕ = decimal (head.line + 1) in
    ap (λ ts. print (begin_object ∷ key (codes "before") ∷ string hex ∷ key (codes "line") ∷ number number_of ∷ ts)) (members_are (field ∷ fields))
    ∙ printed hex number_of field.0 ((json_tokens field.1 ++ fields_tokens fields) ++ end_object ∷ [])
    (plain_escape hex (hex_pass is_plain refl head.digest (recursion_from_All _ _ digest.1)))
    ∙ sym (regroup (codes "{\"before\":\"") hex (codes "\",\"line\":") number_of (codes ",") (print (behind (field ∷ fields))))

-- ---- the line

by_lexemes : (one other : List ℕ) → lex between one ≡ lex between other → document one ≡ document other
by_lexemes one other h = ap (λ ls. option_and_then (λ p. if_last p.0 p.1) (value max_depth (punctuate fresh ls))) h

shown_line : (head : Head) (fields : List Field) → AreLow (opening head.digest (head.line + 1)) → line_of head fields ≡ shown_chars (opening head.digest (head.line + 1) ++ chars (print (behind fields)))
unfolding members_text shown
shown_line head fields low = sym (low_text (opening head.digest (head.line + 1)) (chars (print (behind fields))) low).1

shallow_members : (fields : List Field) → AreShallow fields → members_depth (members_of fields) < max_depth
shallow_members [] h = omega arith
shallow_members (field ∷ fields) h =
    let first : depth field.1 < max_depth = h.0 in
    let rest = shallow_members fields h.1 in
    omega (arith, first, rest)

pub read_back : (head : Head) (field : Field) (fields : List Field) → IsDigest head.digest → head.line < 2 ^ 64 - 1 → AreWritable (field ∷ fields) → AreShallow (field ∷ fields)
    → document (line_of head (field ∷ fields)) ≡ Some (line_object head (field ∷ fields))
read_back head field fields digest room writable shallow =
    let all = field ∷ fields in
    let object = line_object head all in
    let start : List ℕ = opening head.digest (head.line + 1) in
    let low = low_opening head digest room in
    let text = print (behind all) in
    let numbers = object_numbers head all room writable.numbers in
    let same : encodes (start ++ chars text) ≡ print (json_tokens object) =
    (low_text start (chars text) low).0 ∙ ap (λ xs. start ++ xs) (encodes-chars text writable.utf8) ∙ sym (object_text head field fields digest) in
    ap document (shown_line head all low)
    ∙ by_lexemes (shown_chars (start ++ chars text)) (print (json_tokens object))
    (lex_shown false (json_tokens object) (ArePrintable-json_tokens object numbers) (start ++ chars text) same)
    ∙ document-print object numbers (omega (arith, shallow_members all shallow))
