-- The text of tokens is closed by its last brace, and has no line feed.
use Rattle.std.proofs.Common.{◌≡◌, ◌≢◌, ◌∙◌, ◌⊎◌, inl, inr, ℕ, suc, ◌+◌, ◌/◌, ◌%◌, ◌<◌, ◌≤◌, ◌==◌, ◌&&◌, ◌||◌, nat_le, nat_lt, cond, Bool, true, false, List, [], ◌∷◌, ◌++◌, refl, sym, ap, arith, append_assoc}
use Rattle.std.specs.Char.{digit_char}
use Rattle.std.proofs.lemmas.Bool.{eqb-true, leb-true, ltb-true, ltb-false, and_from, and_parts, or_cases}
use Rattle.json.specs.Json.{Json, null, boolean, number, string, array, object, Items, no_items, item, Members, no_members, member}
use Rattle.json.specs.Token.{Token}
use Rattle.json.specs.Token as token
use Rattle.json.specs.Tree.{json_tokens, items_tokens, members_tokens, HasNumbers, ItemsHaveNumbers, MembersHaveNumbers}
use Rattle.json.specs.Print.{escape_letter, escape_byte, escape, quoted, token_text, begins, ends, print_from, IsNumber}
use Rattle.office_journal.specs.Members.{Field, HaveNumbers, fields_tokens}
use Rattle.office_journal.proofs.NumberBytes.{all_of_number, is_of_number, number_bytes}
use Rattle.office_journal.proofs.Scanned.{off, good, out, within, is_inert, all_inert, inert, inerts, inert_if, inert_low, inert_letter, begins_text, ends_text, in_text, behind, opens, shuts, shuts_last}

-- ---- a text in quotes

pub inert_digit : (k : ℕ) → k < 16 → is_inert (digit_char k) ≡ true
inert_digit k h = by (nat_lt k 10) refl
  where
    by : (e : Bool) → nat_lt k 10 ≡ e → is_inert (cond e (48 + k) (87 + k)) ≡ true
    by true e = let low : k < 10 = ltb-true k 10 e in inert_low (48 + k) (omega arith) (omega (arith, low))
    by false e = let high : 10 ≤ k = ltb-false k 10 e in inert_letter (87 + k) (omega (arith, high)) (omega (arith, h))

letter_by : (a b c d e : Bool) → (cond a 98 (cond b 102 (cond c 110 (cond d 114 (cond e 116 0)))) == 10) ≡ false
letter_by true b c d e = refl
letter_by false true c d e = refl
letter_by false false true d e = refl
letter_by false false false true e = refl
letter_by false false false false true = refl
letter_by false false false false false = refl

-- the letter behind a backslash is no line feed
letter : (x : ℕ) → (escape_letter x == 10) ≡ false
letter x = by ((x == 34) || (x == 92)) refl
  where
    neither : (x == 34) ≡ true ⊎ (x == 92) ≡ true → x ≢ 10
    neither (inl e) f = omega (arith, eqb-true x 34 e, f)
    neither (inr e) f = omega (arith, eqb-true x 92 e, f)

    by : (q : Bool) → ((x == 34) || (x == 92)) ≡ q → (cond q x (cond (x == 8) 98 (cond (x == 12) 102 (cond (x == 10) 110 (cond (x == 13) 114 (cond (x == 9) 116 0))))) == 10) ≡ false
    by true e = off x 10 (neither (or_cases (x == 34) (x == 92) e))
    by false e = letter_by (x == 8) (x == 12) (x == 10) (x == 13) (x == 9)

-- a byte without a letter is none of those that have one
plain_by : (x : ℕ) → nat_lt 0 (escape_letter x) ≡ false → (x ≢ 10) × (x ≢ 34) × (x ≢ 92)
plain_by x h = (λ e. none 10 e refl, λ e. none 34 e refl, λ e. none 92 e refl)
  where
    none : (c : ℕ) → x ≡ c → nat_lt 0 (escape_letter c) ≡ true → ⊥
    none c e on = let both : nat_lt 0 (escape_letter c) ≡ false = ap (λ k. nat_lt 0 (escape_letter k)) (sym e) ∙ h in absurd cc

escapes_by : (d x : ℕ) (rest : List ℕ) (has low : Bool) → nat_lt 0 (escape_letter x) ≡ has → nat_lt x 32 ≡ low
    → good (within d) (cond has (92 ∷ escape_letter x ∷ []) (cond low (92 ∷ 117 ∷ 48 ∷ 48 ∷ digit_char (x / 16) ∷ digit_char (x % 16) ∷ []) (x ∷ [])) ++ rest)
    ≡ good (within d) rest
escapes_by d x rest true low e f = behind d (escape_letter x) rest (letter x)
escapes_by d x rest false true e f =
    let small : x < 32 = ltb-true x 32 f in
    let one = inert_digit (x / 16) (omega (arith, small)) in
    let two = inert_digit (x % 16) (omega arith) in
    behind d 117 (48 ∷ 48 ∷ digit_char (x / 16) ∷ digit_char (x % 16) ∷ rest) refl
    ∙ inerts d true (48 ∷ 48 ∷ []) (digit_char (x / 16) ∷ digit_char (x % 16) ∷ rest) refl
    ∙ inert d (digit_char (x / 16)) true false (digit_char (x % 16) ∷ rest) one
    ∙ inert d (digit_char (x % 16)) true false rest two
escapes_by d x rest false false e f = let no = plain_by x e in in_text d x rest no.0 no.1 no.2

escapes : (d x : ℕ) (rest : List ℕ) → good (within d) (escape_byte x ++ rest) ≡ good (within d) rest
unfolding escape_byte
escapes d x rest = escapes_by d x rest (nat_lt 0 (escape_letter x)) (nat_lt x 32) refl refl

escaped_text : (d : ℕ) (s rest : List ℕ) → good (within d) (escape s ++ rest) ≡ good (within d) rest
escaped_text d [] rest = refl
escaped_text d (x ∷ s) rest =
    ap (good (within d)) (append_assoc (escape_byte x) (escape s) rest) ∙ escapes d x (escape s ++ rest) ∙ escaped_text d s rest

pub quoted_text : (d : ℕ) (s rest : List ℕ) → good (out d) (quoted s ++ rest) ≡ good (out d) rest
quoted_text d s rest =
    begins_text d ((escape s ++ 34 ∷ []) ++ rest) ∙ ap (good (within d)) (append_assoc (escape s) (34 ∷ []) rest)
    ∙ escaped_text d s (34 ∷ rest) ∙ ends_text d rest

-- ---- a number

inert_byte : (b : ℕ) → is_of_number b ≡ true → is_inert b ≡ true
inert_byte b h = by (or_cases (nat_le 43 b && nat_le b 69) (b == 101) h)
  where
    by : (nat_le 43 b && nat_le b 69) ≡ true ⊎ (b == 101) ≡ true → is_inert b ≡ true
    by (inl range) =
        let parts = and_parts (nat_le 43 b) (nat_le b 69) range in
        let low : 43 ≤ b = leb-true 43 b parts.0 in
        let high : b ≤ 69 = leb-true b 69 parts.1 in
        inert_if b (λ e. omega (arith, e, low)) (λ e. omega (arith, e, low)) (λ e. omega (arith, e, high)) (λ e. omega (arith, e, high)) (λ e. omega (arith, e, high))
    by (inr e) = ap is_inert (eqb-true b 101 e)

inert_number : (s : List ℕ) → all_of_number s ≡ true → all_inert s ≡ true
inert_number [] h = refl
inert_number (b ∷ s) h =
    let parts = and_parts (is_of_number b) (all_of_number s) h in
    and_from (is_inert b) (all_inert s) (inert_byte b parts.0) (inert_number s parts.1)

pub number_text : (d : ℕ) (s rest : List ℕ) → IsNumber s → good (out d) (s ++ rest) ≡ good (out d) rest
number_text d s rest h = inerts d false s rest (inert_number s (number_bytes s h))

-- ---- tokens

comma : (d : ℕ) (b : Bool) (rest : List ℕ) → good (out d) (cond b (44 ∷ []) [] ++ rest) ≡ good (out d) rest
comma d true rest = inerts d false (44 ∷ []) rest refl
comma d false rest = refl

-- the comma before a token is passed
lead : (d : ℕ) (a : Bool) (t : Token) (ts : List Token) → good (out d) (print_from a (t ∷ ts)) ≡ good (out d) (token_text t ++ print_from (ends t) ts)
unfolding print_from
lead d a t ts = comma d (a && begins t) (token_text t ++ print_from (ends t) ts)

key_token : (d : ℕ) (a : Bool) (k : List ℕ) (ts : List Token) → good (out d) (print_from a (token.key k ∷ ts)) ≡ good (out d) (print_from false ts)
key_token d a k ts =
    lead d a (token.key k) ts ∙ ap (good (out d)) (append_assoc (quoted k) (58 ∷ []) (print_from false ts))
    ∙ quoted_text d k (58 ∷ print_from false ts) ∙ inerts d false (58 ∷ []) (print_from false ts) refl

-- what follows a value follows it in the state before it
mutual
  json_text : (d : ℕ) (a : Bool) (j : Json) (ts : List Token) → HasNumbers j → good (out d) (print_from a (json_tokens j ++ ts)) ≡ good (out d) (print_from true ts)
  json_text d a null ts h = lead d a token.null ts ∙ inerts d false (110 ∷ 117 ∷ 108 ∷ 108 ∷ []) (print_from true ts) refl
  json_text d a (boolean true) ts h = lead d a (token.boolean true) ts ∙ inerts d false (116 ∷ 114 ∷ 117 ∷ 101 ∷ []) (print_from true ts) refl
  json_text d a (boolean false) ts h = lead d a (token.boolean false) ts ∙ inerts d false (102 ∷ 97 ∷ 108 ∷ 115 ∷ 101 ∷ []) (print_from true ts) refl
  json_text d a (number s) ts h = lead d a (token.number s) ts ∙ number_text d s (print_from true ts) h
  json_text d a (string s) ts h = lead d a (token.string s) ts ∙ quoted_text d s (print_from true ts)
  json_text d a (array js) ts h =
      lead d a token.begin_array (items_tokens js ++ ts) ∙ inerts d false (91 ∷ []) (print_from false (items_tokens js ++ ts)) refl
      ∙ items_text d false js ts h
  json_text d a (object ms) ts h =
      lead d a token.begin_object (members_tokens ms ++ ts) ∙ opens d (print_from false (members_tokens ms ++ ts))
      ∙ members_text d false ms ts h

  items_text : (d : ℕ) (a : Bool) (js : Items) (ts : List Token) → ItemsHaveNumbers js → good (out d) (print_from a (items_tokens js ++ ts)) ≡ good (out d) (print_from true ts)
  items_text d a no_items ts h = lead d a token.end_array ts ∙ inerts d false (93 ∷ []) (print_from true ts) refl
  items_text d a (item j js) ts h =
      ap (λ xs. good (out d) (print_from a xs)) (append_assoc (json_tokens j) (items_tokens js) ts)
      ∙ json_text d a j (items_tokens js ++ ts) h.0 ∙ items_text d true js ts h.1

  members_text : (d : ℕ) (a : Bool) (ms : Members) (ts : List Token) → MembersHaveNumbers ms
      → good (out (suc d)) (print_from a (members_tokens ms ++ ts)) ≡ good (out d) (print_from true ts)
  members_text d a no_members ts h = lead (suc d) a token.end_object ts ∙ shuts d (print_from true ts)
  members_text d a (member k j ms) ts h =
      key_token (suc d) a k ((json_tokens j ++ members_tokens ms) ++ ts)
      ∙ ap (λ xs. good (out (suc d)) (print_from false xs)) (append_assoc (json_tokens j) (members_tokens ms) ts)
      ∙ json_text (suc d) false j (members_tokens ms ++ ts) h.0 ∙ members_text d true ms ts h.1

-- ---- the members of a line

end_text : (a : Bool) → good (out 0) (print_from a (token.end_object ∷ [])) ≡ true
unfolding print_from
end_text true = shuts_last
end_text false = shuts_last

pub fields_text : (a : Bool) (fields : List Field) → HaveNumbers fields → good (out 0) (print_from a (fields_tokens fields ++ token.end_object ∷ [])) ≡ true
fields_text a [] h = end_text a
fields_text a (field ∷ fields) h =
    key_token 0 a field.0 ((json_tokens field.1 ++ fields_tokens fields) ++ token.end_object ∷ [])
    ∙ ap (λ xs. good (out 0) (print_from false xs)) (append_assoc (json_tokens field.1) (fields_tokens fields) (token.end_object ∷ []))
    ∙ json_text 0 false field.1 (fields_tokens fields ++ token.end_object ∷ []) h.0 ∙ fields_text true fields h.1
