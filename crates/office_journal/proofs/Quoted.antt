-- A text in quotes, as a terminal may show it, is read as that text.
use Rattle.std.proofs.Common.{◌≡◌, ◌≢◌, ◌∙◌, ◌⊎◌, inl, inr, ℕ, zero, suc, ◌+◌, ◌*◌, ◌/◌, ◌%◌, ◌<◌, ◌≤◌, nat_lt, cond, Bool, true, false, List, [], ◌∷◌, ◌++◌, length, get_or, drop, Option, Some, None, option_and_then, refl, sym, ap, ap₂, subst, arith, append_assoc, length-append}
use Rattle.std.specs.List.{flat_map}
use Rattle.std.specs.Char.{digit_char, digit_value}
use Rattle.std.proofs.lemmas.Bool.{cases_eq, cases_lt, le-ltb, lt-leb, lt-ltb, ltb-false, ltb-true, ne_eqb}
use Rattle.std.proofs.lemmas.Str.{cons_from_encodes, digit_value-digit_char, encode_ascii, len_utf8_bounds, length-encode}
use lib.Dec.{ltb}
use lib.Utf8.{encode, encodes, next}
use Rattle.json.specs.Lex.{Lexeme, Mode, in_string, lex, lex_byte, operator, space, other}
use Rattle.json.specs.Print.{escape, escape_byte}
use Rattle.json.specs.Text.{after_high, code_unit, content, is_high_surrogate, is_low_surrogate, plain, prepend, short_escape}
use Rattle.json.specs.Word.{is_operator, is_space}
use Rattle.json.proofs.Printed.Strings.{escape_byte_plain}
use Rattle.office_journal.specs.Shown.{escaped, is_hiding, shown_char}
use Rattle.office_journal.proofs.ShownText.{hiding_fits}

abbrev pub shown_chars : List ℕ → List ℕ
shown_chars cs = flat_map shown_char cs

-- ---- bytes that are shown as they are

abbrev pub AreLow : List ℕ → Type 0
AreLow [] = Unit {0}
AreLow (b ∷ rest) = (b < 127) × AreLow rest

low_not_hiding : (b : ℕ) → b < 127 → is_hiding b ≡ false
low_not_hiding b h = by (is_hiding b) refl
  where
    by : (t : Bool) → is_hiding b ≡ t → t ≡ false
    by false e = refl
    by true e = let fit = hiding_fits b e in let above = fit.0 in absurd (omega (arith, h, above))

pub low_shown : (b : ℕ) → b < 127 → shown_char b ≡ b ∷ []
low_shown b h = ap (λ t. cond t (escaped b) (encode b)) (low_not_hiding b h) ∙ encode_ascii b (omega (arith, h))

-- the characters of some bytes and of the rest of a text
pub record Left (cs bytes rest : List ℕ) : Type 0 where
  pub left : List ℕ
  pub same : encodes left ≡ rest
  pub shows : shown_chars cs ≡ bytes ++ shown_chars left

pub low_first : (bytes rest cs : List ℕ) → AreLow bytes → encodes cs ≡ bytes ++ rest → Left cs bytes rest
low_first [] rest cs h e = record { left = cs; same = e; shows = refl }
low_first (b ∷ bytes) rest cs h e =
    let small : b < 127 = h.0 in
    let cut = cons_from_encodes cs (bytes ++ rest) b (e ∙ ap (λ x. x ++ (bytes ++ rest)) (sym (encode_ascii b (omega (arith, small))))) in
    let later = low_first bytes rest cut.0 h.1 cut.2 in
    record {
      left = later.left;
      same = later.same;
      shows = ap shown_chars cut.1 ∙ ap (λ x. x ++ shown_chars cut.0) (low_shown b small) ∙ ap (λ xs. b ∷ xs) later.shows;
    }

-- ---- what both readers of JSON make of bytes in a text

pub record Passes (bytes meant : List ℕ) : Type 0 where
  pub read : (r : List ℕ) → content plain (bytes ++ r) ≡ prepend meant (content plain r)
  pub lexed : (r : List ℕ) → lex in_string (bytes ++ r) ≡ lex in_string r

prepend_none : (o : Option (List ℕ)) → o ≡ prepend [] o
prepend_none None = refl
prepend_none (Some s) = refl

prepend_both : (a b : List ℕ) (o : Option (List ℕ)) → prepend a (prepend b o) ≡ prepend (a ++ b) o
prepend_both a b None = refl
prepend_both a b (Some s) = ap Some (sym (append_assoc a b s))

passes_none : Passes [] []
passes_none = record { read = λ r. prepend_none (content plain r); lexed = λ r. refl }

passes_then : (x y a b : List ℕ) → Passes x a → Passes y b → Passes (x ++ y) (a ++ b)
passes_then x y a b p q = record {
  read = λ r.
      ap (content plain) (append_assoc x y r) ∙ p.read (y ++ r) ∙ ap (prepend a) (q.read r) ∙ prepend_both a b (content plain r);
  lexed = λ r. ap (lex in_string) (append_assoc x y r) ∙ p.lexed (y ++ r) ∙ q.lexed r;
}

stays_inside : (o s : Bool) (x : ℕ) (r : List ℕ) (k : Mode → List Lexeme) → lex_byte in_string (cond o operator (cond s space other)) x r k ≡ k in_string
stays_inside true s x r k = refl
stays_inside false true x r k = refl
stays_inside false false x r k = refl

plain_byte : (x : ℕ) → x ≢ 34 → x ≢ 92 → 32 ≤ x → Passes (x ∷ []) (x ∷ [])
unfolding content lex
plain_byte x q b l = record {
  read = λ r. rw (ne_eqb x 34 q, ne_eqb x 92 b, le-ltb x 32 l);
  lexed = λ r. rw (ne_eqb x 34 q, ne_eqb x 92 b) (stays_inside (is_operator x) (is_space x) x r (λ m. lex m r));
}

abbrev AreHigh : List ℕ → Type 0
AreHigh [] = Unit {0}
AreHigh (b ∷ rest) = (127 ≤ b) × AreHigh rest

high_bytes : (bytes : List ℕ) → AreHigh bytes → Passes bytes bytes
high_bytes [] h = passes_none
high_bytes (b ∷ bytes) h =
    let high : 127 ≤ b = h.0 in
    passes_then (b ∷ []) bytes (b ∷ []) bytes (plain_byte b (λ e. omega (arith, e, high)) (λ e. omega (arith, e, high)) (omega (arith, high)))
    (high_bytes bytes h.1)

-- ---- four digits

unit_by : (a b c d p q r s : ℕ) → digit_value p ≡ a → digit_value q ≡ b → digit_value r ≡ c → digit_value s ≡ d
    → nat_lt a 16 ≡ true → nat_lt b 16 ≡ true → nat_lt c 16 ≡ true → nat_lt d 16 ≡ true
    → code_unit p q r s ≡ Some (a * 4096 + b * 256 + c * 16 + d)
unfolding code_unit
unit_by a b c d p q r s e1 e2 e3 e4 l1 l2 l3 l4 = rw (e1, e2, e3, e4, l1, l2, l3, l4) refl

value : (k : ℕ) → k < 16 → digit_value (digit_char k) ≡ k
value k h = digit_value-digit_char k (omega (arith, h))

unit : (c : ℕ) → c < 55296
    → code_unit (digit_char (c / 4096)) (digit_char (c / 256 % 16)) (digit_char (c / 16 % 16)) (digit_char (c % 16)) ≡ Some c
unit c h =
    let one : c / 4096 < 16 = omega (arith, h) in
    let two : c / 256 % 16 < 16 = omega arith in
    let three : c / 16 % 16 < 16 = omega arith in
    let four : c % 16 < 16 = omega arith in
    let sum : c / 4096 * 4096 + c / 256 % 16 * 256 + c / 16 % 16 * 16 + c % 16 ≡ c = omega arith in
    unit_by (c / 4096) (c / 256 % 16) (c / 16 % 16) (c % 16) _ _ _ _ (value _ one) (value _ two) (value _ three) (value _ four)
    (lt-ltb _ 16 one) (lt-ltb _ 16 two) (lt-ltb _ 16 three) (lt-ltb _ 16 four)
    ∙ ap Some sum

digit_passes : (k : ℕ) → k < 16 → Passes (digit_char k ∷ []) (digit_char k ∷ [])
digit_passes k h = by (nat_lt k 10) refl
  where
    by : (t : Bool) → nat_lt k 10 ≡ t → Passes (cond t (48 + k) (87 + k) ∷ []) (cond t (48 + k) (87 + k) ∷ [])
    by true e =
        let low : k < 10 = ltb-true k 10 e in
        plain_byte (48 + k) (λ f. omega (arith, f, low)) (λ f. omega (arith, f, low)) (omega arith)
    by false e =
        let high : 10 ≤ k = ltb-false k 10 e in
        plain_byte (87 + k) (λ f. omega (arith, f, high)) (λ f. omega (arith, f, high)) (omega arith)

abbrev if_unit : List ℕ → ℕ → Option (List ℕ)
if_unit r u = cond (is_high_surrogate u) (content (after_high u) r) (cond (is_low_surrogate u) None (prepend (encode u) (content plain r)))

no_surrogate : (r : List ℕ) (c : ℕ) → c < 55296 → if_unit r c ≡ prepend (encode c) (content plain r)
no_surrogate r c h = rw (lt-leb 55296 c h, lt-leb 56320 c (omega (arith, h))) refl

escaped_passes : (c : ℕ) → c < 55296 → Passes (escaped c) (encode c)
unfolding content lex
escaped_passes c h =
    let one = digit_char (c / 4096) in
    let two = digit_char (c / 256 % 16) in
    let three = digit_char (c / 16 % 16) in
    let four = digit_char (c % 16) in
    record {
      read = λ r. ap (option_and_then (if_unit r)) (unit c h) ∙ no_surrogate r c h;
      lexed = λ r.
          (digit_passes (c / 4096) (omega (arith, h))).lexed (two ∷ three ∷ four ∷ r)
          ∙ (digit_passes (c / 256 % 16) (omega arith)).lexed (three ∷ four ∷ r)
          ∙ (digit_passes (c / 16 % 16) (omega arith)).lexed (four ∷ r)
          ∙ (digit_passes (c % 16) (omega arith)).lexed r;
    }

-- ---- a character from DEL on

choose : (t : Bool) (x y : List ℕ) → AreHigh x → AreHigh y → AreHigh (cond t x y)
choose true x y h k = h
choose false x y h k = k

-- the bytes of a character that has more than one, and more than two
abbrev after_two : ℕ → List ℕ
after_two c = cond (ltb c 65536) ((224 + c / 4096) ∷ next (c / 64) ∷ next c ∷ []) ((240 + c / 262144) ∷ next (c / 4096) ∷ next (c / 64) ∷ next c ∷ [])

abbrev after_one : ℕ → List ℕ
after_one c = cond (ltb c 2048) ((192 + c / 64) ∷ next c ∷ []) (after_two c)

high_encode : (c : ℕ) → 127 ≤ c → AreHigh (encode c)
unfolding encode
high_encode c h =
    let last : AreHigh (next c ∷ []) = (omega arith, tt) in
    let third : AreHigh (next (c / 64) ∷ next c ∷ []) = (omega arith, last) in
    let second : AreHigh (next (c / 4096) ∷ next (c / 64) ∷ next c ∷ []) = (omega arith, third) in
    choose (ltb c 128) (c ∷ []) (after_one c) (omega (arith, h), tt)
    (choose (ltb c 2048) ((192 + c / 64) ∷ next c ∷ []) (after_two c) (omega arith, last)
    (choose (ltb c 65536) ((224 + c / 4096) ∷ next (c / 64) ∷ next c ∷ []) ((240 + c / 262144) ∷ next (c / 4096) ∷ next (c / 64) ∷ next c ∷ [])
    (omega arith, third) (omega arith, second)))

char_passes : (c : ℕ) → 127 ≤ c → Passes (shown_char c) (encode c)
char_passes c h = by (is_hiding c) refl
  where
    by : (t : Bool) → is_hiding c ≡ t → Passes (cond t (escaped c) (encode c)) (encode c)
    by true e = escaped_passes c (hiding_fits c e).1
    by false e = high_bytes (encode c) (high_encode c h)

-- ---- a byte below DEL

record IsByte (x : ℕ) : Type 0 where
  first : ℕ
  rest : List ℕ
  is : escape_byte x ≡ first ∷ rest
  low : AreLow (escape_byte x)
  passes : Passes (escape_byte x) (x ∷ [])

-- a letter behind a backslash means it
lettered : (x l : ℕ) → escape_byte x ≡ 92 ∷ l ∷ [] → l < 127 → l ≢ 117 → short_escape l ≡ Some x → IsByte x
unfolding content lex
lettered x l is small plain_letter short = record {
  first = 92;
  rest = l ∷ [];
  is = is;
  low = subst AreLow (sym is) (omega arith, (small, tt));
  passes = subst (λ xs. Passes xs (x ∷ [])) (sym is) (record { read = λ r. rw (ne_eqb l 117 plain_letter, short) refl; lexed = λ r. refl });
}

low_digit : (k : ℕ) → k < 16 → digit_char k < 127
low_digit k h = by (nat_lt k 10) refl
  where
    by : (t : Bool) → nat_lt k 10 ≡ t → cond t (48 + k) (87 + k) < 127
    by true e = omega (arith, h)
    by false e = omega (arith, h)

low_escaped : (x : ℕ) → x < 32 → AreLow (escaped x)
low_escaped x h = (
  omega arith,
  (omega arith, (low_digit (x / 4096) (omega (arith, h)), (low_digit (x / 256 % 16) (omega arith), (low_digit (x / 16 % 16) (omega arith), (low_digit (x % 16) (omega arith), tt))))),
)

-- the two digits behind \u00
control_is : (x : ℕ) → x < 32 → 92 ∷ 117 ∷ 48 ∷ 48 ∷ digit_char (x / 16) ∷ digit_char (x % 16) ∷ [] ≡ escaped x
control_is x h =
    let none : 0 ≡ x / 4096 = omega (arith, h) in
    let zero_two : 0 ≡ x / 256 % 16 = omega (arith, h) in
    let two : x / 16 ≡ x / 16 % 16 = omega (arith, h) in
    ap (λ k. 92 ∷ 117 ∷ digit_char k ∷ 48 ∷ digit_char (x / 16) ∷ digit_char (x % 16) ∷ []) none
    ∙ ap (λ k. 92 ∷ 117 ∷ digit_char (x / 4096) ∷ digit_char k ∷ digit_char (x / 16) ∷ digit_char (x % 16) ∷ []) zero_two
    ∙ ap (λ k. 92 ∷ 117 ∷ digit_char (x / 4096) ∷ digit_char (x / 256 % 16) ∷ digit_char k ∷ digit_char (x % 16) ∷ []) two

-- a byte that has no letter of its own
unlettered : (x : ℕ) → x < 127 → x ≢ 34 → x ≢ 92 → x ≢ 8 → x ≢ 12 → x ≢ 10 → x ≢ 13 → x ≢ 9 → IsByte x
unfolding escape_byte
unlettered x h a b c d e f g = by (cases_lt x 32)
  where
    spelt : escape_byte x ≡ cond (nat_lt x 32) (92 ∷ 117 ∷ 48 ∷ 48 ∷ digit_char (x / 16) ∷ digit_char (x % 16) ∷ []) (x ∷ [])
    spelt = rw (ne_eqb x 34 a, ne_eqb x 92 b, ne_eqb x 8 c, ne_eqb x 12 d, ne_eqb x 10 e, ne_eqb x 13 f, ne_eqb x 9 g) refl

    by : (x < 32) ⊎ (32 ≤ x) → IsByte x
    by (inl small) =
        let is : escape_byte x ≡ escaped x = spelt ∙ ap (λ t. cond t (92 ∷ 117 ∷ 48 ∷ 48 ∷ digit_char (x / 16) ∷ digit_char (x % 16) ∷ []) (x ∷ [])) (lt-ltb x 32 small) ∙ control_is x small in
        record {
          first = 92;
          rest = 117 ∷ digit_char (x / 4096) ∷ digit_char (x / 256 % 16) ∷ digit_char (x / 16 % 16) ∷ digit_char (x % 16) ∷ [];
          is = is;
          low = subst AreLow (sym is) (low_escaped x small);
          passes = subst (λ xs. Passes xs (x ∷ [])) (sym is) (subst (Passes (escaped x)) (encode_ascii x (omega (arith, small))) (escaped_passes x (omega (arith, small))));
        }
    by (inr high) =
        let is : escape_byte x ≡ x ∷ [] = escape_byte_plain x a b high in
        record { first = x; rest = []; is = is; low = subst AreLow (sym is) (h, tt); passes = subst (λ xs. Passes xs (x ∷ [])) (sym is) (plain_byte x a b high) }

unless : (x k : ℕ) → IsByte k → (x ≢ k → IsByte x) → IsByte x
unless x k here there = by (cases_eq x k)
  where
    by : (x ≡ k) ⊎ (x ≢ k) → IsByte x
    by (inl e) = subst IsByte (sym e) here
    by (inr e) = there e

byte : (x : ℕ) → x < 127 → IsByte x
unfolding escape_byte short_escape
byte x h =
    unless x 34 (lettered 34 34 refl (omega arith) (λ e. omega (arith, e)) refl) (λ a.
    unless x 92 (lettered 92 92 refl (omega arith) (λ e. omega (arith, e)) refl) (λ b.
    unless x 8 (lettered 8 98 refl (omega arith) (λ e. omega (arith, e)) refl) (λ c.
    unless x 12 (lettered 12 102 refl (omega arith) (λ e. omega (arith, e)) refl) (λ d.
    unless x 10 (lettered 10 110 refl (omega arith) (λ e. omega (arith, e)) refl) (λ e.
    unless x 13 (lettered 13 114 refl (omega arith) (λ e. omega (arith, e)) refl) (λ f.
    unless x 9 (lettered 9 116 refl (omega arith) (λ e. omega (arith, e)) refl) (λ g. unlettered x h a b c d e f g)))))))

-- ---- what an escaped text is of

record Behind (bytes after s rest : List ℕ) : Type 0 where
  more : List ℕ
  is : s ≡ bytes ++ more
  then : after ≡ escape more ++ 34 ∷ rest

low_head : (e t u : List ℕ) (y f : ℕ) (g : List ℕ) → e ≡ f ∷ g → AreLow e → y ∷ u ≡ e ++ t → y < 127
low_head e t u y f g is low same =
    let both : AreLow (f ∷ g) = subst AreLow is low in
    let small : f < 127 = both.0 in
    let head : y ≡ f = ap (λ xs. get_or xs 0 0) (same ∙ ap (λ xs. xs ++ t) is) in
    omega (arith, small, head)

unescaped : (bytes after s rest : List ℕ) → AreHigh bytes → bytes ++ after ≡ escape s ++ 34 ∷ rest → Behind bytes after s rest
unescaped [] after s rest h e = record { more = s; is = refl; then = e }
unescaped (y ∷ bytes) after [] rest h e =
    let high : 127 ≤ y = h.0 in
    let head : y ≡ 34 = ap (λ xs. get_or xs 0 0) e in
    absurd (omega (arith, high, head))
unescaped (y ∷ bytes) after (x ∷ s) rest h e =
    by (cases_lt x 127) (λ k. unescaped bytes after s rest h.1 k)
  where
    by : (x < 127) ⊎ (127 ≤ x) → (bytes ++ after ≡ escape s ++ 34 ∷ rest → Behind bytes after s rest) → Behind (y ∷ bytes) after (x ∷ s) rest
    by (inl small) later =
        let b = byte x small in
        let low = low_head (escape_byte x) (escape s ++ 34 ∷ rest) (bytes ++ after) y b.first b.rest b.is b.low (e ∙ append_assoc (escape_byte x) (escape s) (34 ∷ rest)) in
        let high : 127 ≤ y = h.0 in
        absurd (omega (arith, low, high))
    by (inr high) later =
        let is : escape_byte x ≡ x ∷ [] = escape_byte_plain x (λ k. omega (arith, k, high)) (λ k. omega (arith, k, high)) (omega (arith, high)) in
        let same : y ∷ (bytes ++ after) ≡ x ∷ (escape s ++ 34 ∷ rest) = e ∙ ap (λ xs. (xs ++ escape s) ++ 34 ∷ rest) is in
        let r = later (ap (drop 1) same) in
        record { more = r.more; is = ap₂ (λ z zs. z ∷ zs) (sym (ap (λ xs. get_or xs 0 0) same)) r.is; then = r.then }

-- ---- a whole text

pub record Text (cs s rest : List ℕ) : Type 0 where
  pub left : List ℕ
  pub same : encodes left ≡ 34 ∷ rest
  pub spelt : List ℕ
  pub shows : shown_chars cs ≡ spelt ++ shown_chars left
  pub passes : Passes spelt s

text_low : (x : ℕ) (s cs rest : List ℕ) → x < 127 → encodes cs ≡ (escape_byte x ++ escape s) ++ 34 ∷ rest
    → ((ds : List ℕ) → encodes ds ≡ escape s ++ 34 ∷ rest → Text ds s rest) → Text cs (x ∷ s) rest
text_low x s cs rest small e later =
    let b = byte x small in
    let l = low_first (escape_byte x) (escape s ++ 34 ∷ rest) cs b.low (e ∙ append_assoc (escape_byte x) (escape s) (34 ∷ rest)) in
    let t = later l.left l.same in
    record {
      left = t.left;
      same = t.same;
      spelt = escape_byte x ++ t.spelt;
      shows = l.shows ∙ ap (λ xs. escape_byte x ++ xs) t.shows ∙ sym (append_assoc (escape_byte x) t.spelt (shown_chars t.left));
      passes = passes_then (escape_byte x) t.spelt (x ∷ []) s b.passes t.passes;
    }

text_then : (c : ℕ) (more ds rest s : List ℕ) → 127 ≤ c → s ≡ encode c ++ more → Text ds more rest → Text (c ∷ ds) s rest
text_then c more ds rest s above is t = record {
  left = t.left;
  same = t.same;
  spelt = shown_char c ++ t.spelt;
  shows = ap (λ xs. shown_char c ++ xs) t.shows ∙ sym (append_assoc (shown_char c) t.spelt (shown_chars t.left));
  passes = subst (Passes (shown_char c ++ t.spelt)) (sym is) (passes_then (shown_char c) t.spelt (encode c) more (char_passes c above) t.passes);
}

text_high : (x : ℕ) (s cs rest : List ℕ) → 127 ≤ x → encodes cs ≡ escape (x ∷ s) ++ 34 ∷ rest
    → ((more ds : List ℕ) → length more ≤ length s → encodes ds ≡ escape more ++ 34 ∷ rest → Text ds more rest) → Text cs (x ∷ s) rest
text_high x s [] rest high e later =
    let is : escape_byte x ≡ x ∷ [] = escape_byte_plain x (λ k. omega (arith, k, high)) (λ k. omega (arith, k, high)) (omega (arith, high)) in
    let none : 0 ≡ suc (length (escape s ++ 34 ∷ rest)) = ap length (e ∙ ap (λ xs. (xs ++ escape s) ++ 34 ∷ rest) is) in
    absurd (omega (arith, none))
text_high x s (c ∷ ds) rest high e later =
    let is : escape_byte x ≡ x ∷ [] = escape_byte_plain x (λ k. omega (arith, k, high)) (λ k. omega (arith, k, high)) (omega (arith, high)) in
    let same : encode c ++ encodes ds ≡ x ∷ (escape s ++ 34 ∷ rest) = e ∙ ap (λ xs. (xs ++ escape s) ++ 34 ∷ rest) is in
    let above : 127 ≤ c = by same (cases_lt c 127) in
    let u = unescaped (encode c) (encodes ds) (x ∷ s) rest (high_encode c above) e in
    let size : suc (length s) ≡ length (encode c) + length u.more = ap length u.is ∙ length-append (encode c) u.more in
    text_then c u.more ds rest (x ∷ s) above u.is (later u.more ds (omega (arith, size, length-encode c, (len_utf8_bounds c).0)) u.then)
  where
    by : encode c ++ encodes ds ≡ x ∷ (escape s ++ 34 ∷ rest) → (c < 127) ⊎ (127 ≤ c) → 127 ≤ c
    by same (inl small) =
        let head : c ≡ x = ap (λ xs. get_or xs 0 0) (ap (λ xs. xs ++ encodes ds) (sym (encode_ascii c (omega (arith, small)))) ∙ same) in
        omega (arith, head, high)
    by same (inr above) = above

text_by : (n : ℕ) (s cs rest : List ℕ) → length s ≤ n → encodes cs ≡ escape s ++ 34 ∷ rest → Text cs s rest
text_by n [] cs rest fit e = record { left = cs; same = e; spelt = []; shows = refl; passes = passes_none }
text_by zero (x ∷ s) cs rest fit e = absurd (omega (arith, fit))
text_by (suc n) (x ∷ s) cs rest fit e =
    by (cases_lt x 127) (λ ds. text_by n s ds rest (omega (arith, fit))) (λ more ds small. text_by n more ds rest (omega (arith, fit, small)))
  where
    by : (x < 127) ⊎ (127 ≤ x) → ((ds : List ℕ) → encodes ds ≡ escape s ++ 34 ∷ rest → Text ds s rest)
        → ((more ds : List ℕ) → length more ≤ length s → encodes ds ≡ escape more ++ 34 ∷ rest → Text ds more rest) → Text cs (x ∷ s) rest
    by (inl small) one many = text_low x s cs rest small e one
    by (inr high) one many = text_high x s cs rest high e many

-- the characters of an escaped text, and of a quote and the rest behind it
pub text : (s cs rest : List ℕ) → encodes cs ≡ escape s ++ 34 ∷ rest → Text cs s rest
text s cs rest e = text_by (length s) s cs rest (omega arith) e
