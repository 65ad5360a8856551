-- What is shown of a text closes its braces as the text does.
use Rattle.std.proofs.Common.{◌≡◌, ◌∙◌, ◌⊎◌, inl, inr, ℕ, zero, suc, ◌+◌, ◌/◌, ◌%◌, ◌<◌, ◌≤◌, ◌==◌, ◌&&◌, ◌||◌, cond, Bool, true, false, List, [], ◌∷◌, ◌++◌, length, refl, sym, ap, arith}
use Rattle.std.specs.List.{flat_map}
use Rattle.std.specs.Char.{digit_char}
use Rattle.std.specs.Str.{IsUtf8, chars}
use Rattle.std.proofs.lemmas.Bool.{leb-true, and_parts, or_cases}
use Rattle.std.proofs.lemmas.Str.{encodes-chars}
use lib.Dec.{ltb}
use lib.Utf8.{encode, encodes, next}
use Rattle.office_journal.specs.Journals.{after_byte}
use Rattle.office_journal.specs.Shown.{escaped, is_from_to, is_hiding, shown, shown_char}
use Rattle.office_journal.proofs.Scanned.{good, at, out, is_inert, all_inert, inert, inerts, inert_high, step, deep, behind}
use Rattle.office_journal.proofs.Tokens.{inert_digit}

-- ---- texts that count alike wherever a brace is open

abbrev Alike : List ℕ → List ℕ → Type 0
Alike xs ys = ((d : ℕ) (q e : Bool) → good (at (suc d) q e) xs ≡ good (at (suc d) q e) ys) × ((length xs == 0) ≡ (length ys == 0))

filled : (b : ℕ) (rest : List ℕ) → (length (b ∷ rest) == 0) ≡ false
filled b rest = grind arith

by_depth : (xs ys : List ℕ) → Alike xs ys → (k : ℕ) (q e : Bool)
    → cond (k == 0) (length xs == 0) (good (at k q e) xs) ≡ cond (k == 0) (length ys == 0) (good (at k q e) ys)
by_depth xs ys h zero q e = h.1
by_depth xs ys h (suc k) q e =
    ap (λ c. cond c (length xs == 0) (good (at (suc k) q e) xs)) (deep k) ∙ h.0 k q e
    ∙ sym (ap (λ c. cond c (length ys == 0) (good (at (suc k) q e) ys)) (deep k))

alike_more : (b : ℕ) (xs ys : List ℕ) → Alike xs ys → Alike (b ∷ xs) (b ∷ ys)
alike_more b xs ys h = (
  λ d q e.
      let m = after_byte (at (suc d) q e) b in
      ap (λ x. cond (b == 10) false x) (by_depth xs ys h m.depth m.quoted m.escaped),
  filled b xs ∙ sym (filled b ys),
)

alike_append : (a xs ys : List ℕ) → Alike xs ys → Alike (a ++ xs) (a ++ ys)
alike_append [] xs ys h = h
alike_append (b ∷ a) xs ys h = alike_more b (a ++ xs) (a ++ ys) (alike_append a xs ys h)

-- ---- a character that is escaped

both : (x y : Bool) → x ≡ true → y ≡ true → (x && y) ≡ true
both true y e f = f
both false y e f = absurd cc

choose : (t : Bool) (x y : List ℕ) → all_inert x ≡ true → all_inert y ≡ true → all_inert (cond t x y) ≡ true
choose true x y h k = h
choose false x y h k = k

one_inert : (a : ℕ) (rest : List ℕ) → 126 ≤ a → all_inert rest ≡ true → all_inert (a ∷ rest) ≡ true
one_inert a rest h k = both (is_inert a) (all_inert rest) (inert_high a h) k

-- the bytes of a character that has more than one, and more than two
abbrev after_two : ℕ → List ℕ
after_two c = cond (ltb c 65536) ((224 + c / 4096) ∷ next (c / 64) ∷ next c ∷ []) ((240 + c / 262144) ∷ next (c / 4096) ∷ next (c / 64) ∷ next c ∷ [])

abbrev after_one : ℕ → List ℕ
after_one c = cond (ltb c 2048) ((192 + c / 64) ∷ next c ∷ []) (after_two c)

high_encode : (c : ℕ) → 126 < c → all_inert (encode c) ≡ true
unfolding encode
high_encode c h =
    let zero_more : all_inert [] ≡ true = refl in
    let last : all_inert (next c ∷ []) ≡ true = one_inert (next c) [] (omega arith) zero_more in
    let third : all_inert (next (c / 64) ∷ next c ∷ []) ≡ true = one_inert (next (c / 64)) (next c ∷ []) (omega arith) last in
    let second : all_inert (next (c / 4096) ∷ next (c / 64) ∷ next c ∷ []) ≡ true = one_inert (next (c / 4096)) (next (c / 64) ∷ next c ∷ []) (omega arith) third in
    choose (ltb c 128) (c ∷ []) (after_one c) (one_inert c [] (omega (arith, h)) zero_more)
    (choose (ltb c 2048) ((192 + c / 64) ∷ next c ∷ []) (after_two c) (one_inert (192 + c / 64) (next c ∷ []) (omega arith) last)
    (choose (ltb c 65536) ((224 + c / 4096) ∷ next (c / 64) ∷ next c ∷ []) ((240 + c / 262144) ∷ next (c / 4096) ∷ next (c / 64) ∷ next c ∷ [])
    (one_inert (224 + c / 4096) (next (c / 64) ∷ next c ∷ []) (omega arith) third)
    (one_inert (240 + c / 262144) (next (c / 4096) ∷ next (c / 64) ∷ next c ∷ []) (omega arith) second)))

encode_some : (c : ℕ) → (length (encode c) == 0) ≡ false
unfolding encode
encode_some c =
    by (ltb c 128) (ltb c 2048) (ltb c 65536)
  where
    by : (t u v : Bool)
        → (length (cond t (c ∷ []) (cond u ((192 + c / 64) ∷ next c ∷ []) (cond v ((224 + c / 4096) ∷ next (c / 64) ∷ next c ∷ []) ((240 + c / 262144) ∷ next (c / 4096) ∷ next (c / 64) ∷ next c ∷ [])))) == 0) ≡ false
    by true u v = filled c []
    by false true v = filled (192 + c / 64) (next c ∷ [])
    by false false true = filled (224 + c / 4096) (next (c / 64) ∷ next c ∷ [])
    by false false false = filled (240 + c / 262144) (next (c / 4096) ∷ next (c / 64) ∷ next c ∷ [])

some_append : (a rest : List ℕ) → (length a == 0) ≡ false → (length (a ++ rest) == 0) ≡ false
some_append [] rest h = absurd cc
some_append (b ∷ a) rest h = filled b (a ++ rest)

inerts_any : (d : ℕ) (q e : Bool) (bytes rest : List ℕ) → (length bytes == 0) ≡ false → all_inert bytes ≡ true
    → good (at (suc d) q e) (bytes ++ rest) ≡ good (at (suc d) q false) rest
inerts_any d q e [] rest some h = absurd cc
inerts_any d q e (b ∷ bytes) rest some h =
    let parts = and_parts (is_inert b) (all_inert bytes) h in
    inert d b q e (bytes ++ rest) parts.0 ∙ inerts d q bytes rest parts.1

behind_any : (d : ℕ) (q e : Bool) (rest : List ℕ) → good (at (suc d) q e) (92 ∷ 117 ∷ rest) ≡ good (at (suc d) q false) rest
behind_any d q true rest = step (at (suc d) q true) (at (suc d) q false) 92 (117 ∷ rest) refl refl (deep d) ∙ inert d 117 q false rest refl
behind_any d true false rest = behind d 117 rest refl
behind_any d false false rest = step (out d) (out d) 92 (117 ∷ rest) refl refl (deep d) ∙ inert d 117 false false rest refl

escaped_any : (d c : ℕ) (q e : Bool) (rest : List ℕ) → c < 65536 → good (at (suc d) q e) (escaped c ++ rest) ≡ good (at (suc d) q false) rest
escaped_any d c q e rest h =
    let one = digit_char (c / 4096) in
    let two = digit_char (c / 256 % 16) in
    let three = digit_char (c / 16 % 16) in
    let four = digit_char (c % 16) in
    behind_any d q e (one ∷ two ∷ three ∷ four ∷ rest)
    ∙ inert d one q false (two ∷ three ∷ four ∷ rest) (inert_digit (c / 4096) (omega (arith, h)))
    ∙ inert d two q false (three ∷ four ∷ rest) (inert_digit (c / 256 % 16) (omega arith))
    ∙ inert d three q false (four ∷ rest) (inert_digit (c / 16 % 16) (omega arith))
    ∙ inert d four q false rest (inert_digit (c % 16) (omega arith))

-- ---- which are escaped

ranged : (low high c : ℕ) → is_from_to low high c ≡ true → (low ≤ c) × (c ≤ high)
ranged low high c h = let parts = and_parts _ _ h in (leb-true low c parts.0, leb-true c high parts.1)

abbrev Fits : ℕ → Type 0
Fits c = (126 < c) × (c < 55296)

fits : (low high c : ℕ) → 126 < low → high < 55296 → is_from_to low high c ≡ true → Fits c
fits low high c l h e = let r = ranged low high c e in let from = r.0 in let to = r.1 in (omega (arith, l, from), omega (arith, h, to))

fits_one : (x y : Bool) (c : ℕ) → (x ≡ true → Fits c) → (y ≡ true → Fits c) → (x || y) ≡ true → Fits c
fits_one x y c f g h = by (or_cases x y h)
  where
    by : (x ≡ true) ⊎ (y ≡ true) → Fits c
    by (inl e) = f e
    by (inr e) = g e

pub hiding_fits : (c : ℕ) → is_hiding c ≡ true → Fits c
hiding_fits c =
    let one = is_from_to 0x7f 0x9f c in
    let two = is_from_to 0x61c 0x61c c in
    let three = is_from_to 0x200e 0x200f c in
    let four = is_from_to 0x2028 0x202e c in
    let five = is_from_to 0x2066 0x2069 c in
    fits_one one (two || (three || (four || five))) c (fits 0x7f 0x9f c (omega arith) (omega arith))
    (fits_one two (three || (four || five)) c (fits 0x61c 0x61c c (omega arith) (omega arith))
    (fits_one three (four || five) c (fits 0x200e 0x200f c (omega arith) (omega arith))
    (fits_one four five c (fits 0x2028 0x202e c (omega arith) (omega arith)) (fits 0x2066 0x2069 c (omega arith) (omega arith)))))

-- ---- all characters

below : (c : ℕ) → c < 55296 → c < 65536
below c h = omega (arith, h)

by_char : (c : ℕ) (h : Bool) (xs ys : List ℕ) → is_hiding c ≡ h → Alike xs ys → Alike (cond h (escaped c) (encode c) ++ xs) (encode c ++ ys)
by_char c false xs ys e alike = alike_append (encode c) xs ys alike
by_char c true xs ys e alike =
    let fit = hiding_fits c e in (
      λ d q s.
          escaped_any d c q s xs (below c fit.1) ∙ alike.0 d q false ∙ sym (inerts_any d q s (encode c) ys (encode_some c) (high_encode c fit.0)),
      filled 92 (117 ∷ digit_char (c / 4096) ∷ digit_char (c / 256 % 16) ∷ digit_char (c / 16 % 16) ∷ digit_char (c % 16) ∷ xs)
          ∙ sym (some_append (encode c) ys (encode_some c)),
    )

alike_chars : (cs : List ℕ) → Alike (flat_map shown_char cs) (encodes cs)
alike_chars [] = (λ d q e. refl, refl)
alike_chars (c ∷ cs) = by_char c (is_hiding c) (flat_map shown_char cs) (encodes cs) refl (alike_chars cs)

pub shown_good : (d : ℕ) (text : List ℕ) → IsUtf8 text → good (out d) (shown text) ≡ good (out d) text
unfolding shown
shown_good d text h = (alike_chars (chars text)).0 d false false ∙ ap (good (out d)) (encodes-chars text h)
