-- What a terminal is shown of the text of tokens has the lexemes of that text.
use Rattle.std.proofs.Common.{◌≡◌, ◌∙◌, ◌⊎◌, inl, inr, ℕ, ◌+◌, ◌<◌, ◌≤◌, ◌==◌, ◌&&◌, ◌||◌, nat_le, cond, Bool, true, false, List, [], ◌∷◌, ◌++◌, length, Some, refl, sym, ap, ap₂, arith, append_assoc, append-nil, length-append}
use Rattle.std.proofs.lemmas.Bool.{and_parts, eqb-true, leb-true, or_cases}
use Rattle.std.proofs.lemmas.Str.{len_utf8_bounds, length-encode}
use lib.Utf8.{encode, encodes}
use Rattle.json.specs.Lex.{Lexeme, between, colon, comma, lex, string_token, token}
use Rattle.json.specs.Print.{ArePrintable, IsPrintable, begins, ends, escape, print_from, quoted, token_text}
use Rattle.json.specs.Text.{content}
use Rattle.json.specs.Token.{Token, bad, begin_array, begin_object, boolean, end_array, end_object, key, null, number, string}
use Rattle.json.specs.Word.{ends_word, is_operator, is_space, word}
use Rattle.json.proofs.Printed.Numbers.{in_word-ended, lex-number}
use Rattle.json.proofs.Printed.Strings.{content-escape, lex-escape}
use Rattle.office_journal.proofs.NumberBytes.{all_of_number, is_of_number, number_bytes}
use Rattle.office_journal.proofs.Quoted.{AreLow, Passes, low_first, shown_chars, text}

-- ---- what follows a value

-- nothing, or a byte that ends a word
record Ends (rest : List ℕ) (b : ℕ) (more : List ℕ) : Type 0 where
  is : rest ≡ b ∷ more
  low : b < 127
  stops : (is_operator b || is_space b) ≡ true

abbrev AfterValue : List ℕ → Type 0
AfterValue rest = (rest ≡ []) ⊎ ((b : ℕ) × (more : List ℕ) × Ends rest b more)

comma_first : (more : List ℕ) → AfterValue (44 ∷ more)
comma_first more = inr (44, more, record { is = refl; low = omega arith; stops = refl })

after_value : (ts : List Token) → AfterValue (print_from true ts)
unfolding print_from
after_value [] = inl refl
after_value (begin_object ∷ ts) = comma_first _
after_value (end_object ∷ ts) = inr (125, print_from true ts, record { is = refl; low = omega arith; stops = refl })
after_value (begin_array ∷ ts) = comma_first _
after_value (end_array ∷ ts) = inr (93, print_from true ts, record { is = refl; low = omega arith; stops = refl })
after_value (key s ∷ ts) = comma_first _
after_value (string s ∷ ts) = comma_first _
after_value (number s ∷ ts) = comma_first _
after_value (boolean b ∷ ts) = comma_first _
after_value (null ∷ ts) = comma_first _
after_value (bad ∷ ts) = comma_first _

no_chars : (cs : List ℕ) → encodes cs ≡ [] → cs ≡ []
no_chars [] e = refl
no_chars (c ∷ cs) e =
    let none : length (encode c) + length (encodes cs) ≡ 0 = sym (length-append (encode c) (encodes cs)) ∙ ap length e in
    absurd (omega (arith, none, length-encode c, (len_utf8_bounds c).0))

ended : (rest : List ℕ) → AfterValue rest → ends_word rest ≡ true
ended rest (inl none) = ap ends_word none
ended rest (inr (b, more, h)) = ap ends_word h.is ∙ h.stops

shown_ended : (rest cs : List ℕ) → AfterValue rest → encodes cs ≡ rest → ends_word (shown_chars cs) ≡ true
shown_ended rest cs (inl none) e = ap (λ xs. ends_word (shown_chars xs)) (no_chars cs (e ∙ none))
shown_ended rest cs (inr (b, more, h)) e = ap ends_word (low_first (b ∷ []) more cs (h.low, tt) (e ∙ h.is)).shows ∙ h.stops

-- ---- a text in quotes

lex_quoted : (s r : List ℕ) → lex between (quoted s ++ r) ≡ token (string s) ∷ lex between r
unfolding lex
lex_quoted s r =
    ap (λ l. lex between (34 ∷ l)) (append_assoc (escape s) (34 ∷ []) r)
    ∙ ap₂ (λ o l. token (string_token o) ∷ l) (content-escape s r) (lex-escape s r)

-- the characters of a text in quotes, and of the rest behind it
record Quoted (cs s rest : List ℕ) : Type 0 where
  left : List ℕ
  same : encodes left ≡ rest
  lexed : lex between (shown_chars cs) ≡ token (string s) ∷ lex between (shown_chars left)

lex_spelt : (spelt s r : List ℕ) → Passes spelt s → lex between (34 ∷ (spelt ++ 34 ∷ r)) ≡ token (string s) ∷ lex between r
unfolding lex content
lex_spelt spelt s r p =
    ap₂ (λ o l. token (string_token o) ∷ l) (p.read (34 ∷ r) ∙ ap Some (append-nil s)) (p.lexed (34 ∷ r))

quoted_shown : (s rest cs : List ℕ) → encodes cs ≡ quoted s ++ rest → Quoted cs s rest
quoted_shown s rest cs e =
    let open_quote = low_first (34 ∷ []) (escape s ++ 34 ∷ rest) cs (omega arith, tt) (e ∙ ap (λ xs. 34 ∷ xs) (append_assoc (escape s) (34 ∷ []) rest)) in
    let t = text s open_quote.left rest open_quote.same in
    let close_quote = low_first (34 ∷ []) rest t.left (omega arith, tt) t.same in
    record {
      left = close_quote.left;
      same = close_quote.same;
      lexed =
          ap (lex between) (open_quote.shows ∙ ap (λ xs. 34 ∷ xs) (t.shows ∙ ap (λ xs. t.spelt ++ xs) close_quote.shows))
          ∙ lex_spelt t.spelt s (shown_chars close_quote.left) t.passes;
    }

-- ---- a number

low_by : (b : ℕ) → is_of_number b ≡ true → b < 127
low_by b h = by (or_cases (nat_le 43 b && nat_le b 69) (b == 101) h)
  where
    by : (nat_le 43 b && nat_le b 69) ≡ true ⊎ (b == 101) ≡ true → b < 127
    by (inl range) = let high : b ≤ 69 = leb-true b 69 (and_parts (nat_le 43 b) (nat_le b 69) range).1 in omega (arith, high)
    by (inr e) = let same : b ≡ 101 = eqb-true b 101 e in omega (arith, same)

pub low_number : (s : List ℕ) → all_of_number s ≡ true → AreLow s
low_number [] h = tt
low_number (b ∷ s) h = let parts = and_parts (is_of_number b) (all_of_number s) h in (low_by b parts.0, low_number s parts.1)

-- ---- one token

lex_true : (r : List ℕ) → ends_word r ≡ true → lex between (116 ∷ 114 ∷ 117 ∷ 101 ∷ r) ≡ token (boolean true) ∷ lex between r
unfolding lex word
lex_true r h = ap₂ (λ b l. token (cond b (boolean true) bad) ∷ l) h (in_word-ended r h)

lex_false : (r : List ℕ) → ends_word r ≡ true → lex between (102 ∷ 97 ∷ 108 ∷ 115 ∷ 101 ∷ r) ≡ token (boolean false) ∷ lex between r
unfolding lex word
lex_false r h = ap₂ (λ b l. token (cond b (boolean false) bad) ∷ l) h (in_word-ended r h)

lex_null : (r : List ℕ) → ends_word r ≡ true → lex between (110 ∷ 117 ∷ 108 ∷ 108 ∷ r) ≡ token null ∷ lex between r
unfolding lex word
lex_null r h = ap₂ (λ b l. token (cond b null bad) ∷ l) h (in_word-ended r h)

-- what comes first is lexed alike, and so is the rest
abbrev Alike : List ℕ → List ℕ → Type 0
Alike cs rest = lex between (shown_chars cs) ≡ lex between rest

abbrev Later : List ℕ → Type 0
Later rest = (cs : List ℕ) → encodes cs ≡ rest → Alike cs rest

low_token : (bytes : List ℕ) (lexeme : Lexeme) (rest cs : List ℕ) → AreLow bytes → ((r : List ℕ) → ends_word r ≡ true → lex between (bytes ++ r) ≡ lexeme ∷ lex between r)
    → AfterValue rest → encodes cs ≡ bytes ++ rest → Later rest → Alike cs (bytes ++ rest)
low_token bytes lexeme rest cs low lexes after e later =
    let l = low_first bytes rest cs low e in
    ap (lex between) l.shows ∙ lexes (shown_chars l.left) (shown_ended rest l.left after l.same) ∙ ap (λ xs. lexeme ∷ xs) (later l.left l.same)
    ∙ sym (lexes rest (ended rest after))

-- a byte that is a lexeme whatever follows
mark : (b : ℕ) (lexeme : Lexeme) (rest cs : List ℕ) → b < 127 → ((r : List ℕ) → lex between (b ∷ r) ≡ lexeme ∷ lex between r)
    → encodes cs ≡ b ∷ rest → Later rest → Alike cs (b ∷ rest)
mark b lexeme rest cs low lexes e later =
    let l = low_first (b ∷ []) rest cs (low, tt) e in
    ap (lex between) l.shows ∙ lexes (shown_chars l.left) ∙ ap (λ xs. lexeme ∷ xs) (later l.left l.same) ∙ sym (lexes rest)

token_shown : (t : Token) (ts : List Token) (cs : List ℕ) → IsPrintable t → encodes cs ≡ token_text t ++ print_from (ends t) ts
    → Later (print_from (ends t) ts) → Alike cs (token_text t ++ print_from (ends t) ts)
unfolding lex
token_shown begin_object ts cs h e later = mark 123 (token begin_object) (print_from false ts) cs (omega arith) (λ r. refl) e later
token_shown end_object ts cs h e later = mark 125 (token end_object) (print_from true ts) cs (omega arith) (λ r. refl) e later
token_shown begin_array ts cs h e later = mark 91 (token begin_array) (print_from false ts) cs (omega arith) (λ r. refl) e later
token_shown end_array ts cs h e later = mark 93 (token end_array) (print_from true ts) cs (omega arith) (λ r. refl) e later
token_shown (key s) ts cs h e later =
    let rest = print_from false ts in
    let k = quoted_shown s (58 ∷ rest) cs (e ∙ append_assoc (quoted s) (58 ∷ []) rest) in
    k.lexed ∙ ap (λ xs. token (string s) ∷ xs) (mark 58 colon rest k.left (omega arith) (λ r. refl) k.same later)
    ∙ sym (ap (lex between) (append_assoc (quoted s) (58 ∷ []) rest) ∙ lex_quoted s (58 ∷ rest))
token_shown (string s) ts cs h e later =
    let rest = print_from true ts in
    let k = quoted_shown s rest cs e in
    k.lexed ∙ ap (λ xs. token (string s) ∷ xs) (later k.left k.same) ∙ sym (lex_quoted s rest)
token_shown (number s) ts cs h e later =
    low_token s (token (number s)) (print_from true ts) cs (low_number s (number_bytes s h)) (λ r ends. lex-number s r h ends) (after_value ts) e later
token_shown (boolean true) ts cs h e later =
    low_token (116 ∷ 114 ∷ 117 ∷ 101 ∷ []) (token (boolean true)) (print_from true ts) cs (omega arith, (omega arith, (omega arith, (omega arith, tt)))) lex_true (after_value ts) e later
token_shown (boolean false) ts cs h e later =
    low_token (102 ∷ 97 ∷ 108 ∷ 115 ∷ 101 ∷ []) (token (boolean false)) (print_from true ts) cs (omega arith, (omega arith, (omega arith, (omega arith, (omega arith, tt))))) lex_false (after_value ts) e later
token_shown null ts cs h e later =
    low_token (110 ∷ 117 ∷ 108 ∷ 108 ∷ []) (token null) (print_from true ts) cs (omega arith, (omega arith, (omega arith, (omega arith, tt)))) lex_null (after_value ts) e later
token_shown bad ts cs h e later = absurd h

-- ---- all tokens

separated : (b : Bool) (rest cs : List ℕ) → encodes cs ≡ cond b (44 ∷ []) [] ++ rest → Later rest → Alike cs (cond b (44 ∷ []) [] ++ rest)
unfolding lex
separated true rest cs e later = mark 44 comma rest cs (omega arith) (λ r. refl) e later
separated false rest cs e later = later cs e

pub lex_shown : (a : Bool) (ts : List Token) → ArePrintable ts → Later (print_from a ts)
unfolding print_from ArePrintable
lex_shown a [] h cs e = ap (λ xs. lex between (shown_chars xs)) (no_chars cs e)
lex_shown a (t ∷ ts) h cs e =
    separated (a && begins t) (token_text t ++ print_from (ends t) ts) cs e
    (λ ds k. token_shown t ts ds h.0 k (lex_shown (ends t) ts h.1))
