-- Braces and quotes over the text of a line, in which no byte is a line feed.
use Rattle.std.proofs.Common.{◌≡◌, ◌≢◌, ◌∙◌, ℕ, suc, ◌+◌, ◌-◌, ◌<◌, ◌≤◌, ◌==◌, ◌&&◌, not, cond, Bool, true, false, List, [], ◌∷◌, ◌++◌, length, refl, ap, arith}
use Rattle.office_journal.proofs.Bytes.{all_pass}
use Rattle.office_journal.specs.declared.nesting.Nesting.{Nesting}
use Rattle.office_journal.specs.Journals.{after_byte, closes}

-- the last of the bytes, and none before it, closes the brace that is open alone, and none is a line feed
abbrev pub good : Nesting → List ℕ → Bool
good n [] = false
good n (b ∷ rest) =
    cond (b == 10) false (cond ((after_byte n b).depth == 0) (length rest == 0) (good (after_byte n b) rest))

abbrev pub at : ℕ → Bool → Bool → Nesting
at depth quoted escaped = record { depth = depth; quoted = quoted; escaped = escaped }

-- outside of a text, in one, and behind a backslash in one
abbrev pub out : ℕ → Nesting
out d = at (suc d) false false

abbrev pub within : ℕ → Nesting
within d = at (suc d) true false

-- ---- what it says

closes_by : (n : Nesting) (b : ℕ) (rest : List ℕ) (feed last : Bool) → ((after_byte n b).depth == 0) ≡ last
    → (good (after_byte n b) rest ≡ true → closes (after_byte n b) rest ≡ true)
    → cond feed false (cond last (length rest == 0) (good (after_byte n b) rest)) ≡ true → closes n (b ∷ rest) ≡ true
closes_by n b rest true last is later h = absurd cc
closes_by n b rest false true is later h = ap (λ e. cond e (length rest == 0) (closes (after_byte n b) rest)) is ∙ h
closes_by n b rest false false is later h = ap (λ e. cond e (length rest == 0) (closes (after_byte n b) rest)) is ∙ later h

pub good_closes : (n : Nesting) (bytes : List ℕ) → good n bytes ≡ true → closes n bytes ≡ true
good_closes n [] h = h
good_closes n (b ∷ rest) h =
    closes_by n b rest (b == 10) ((after_byte n b).depth == 0) refl (good_closes (after_byte n b) rest) h

-- no byte is a line feed
abbrev pub NoFeed : List ℕ → Type 0
NoFeed [] = Unit {0}
NoFeed (b ∷ rest) = ((b == 10) ≡ false) × NoFeed rest

none_left : (rest : List ℕ) → (length rest == 0) ≡ true → NoFeed rest
none_left [] h = tt
none_left (b ∷ rest) h = absurd (omega (arith, equal (length (b ∷ rest)) 0 h))
  where
    equal : (x y : ℕ) → (x == y) ≡ true → x ≡ y
    equal x y e = grind arith

feeds_by : (n : Nesting) (b : ℕ) (rest : List ℕ) (feed last : Bool) → (b == 10) ≡ feed
    → (good (after_byte n b) rest ≡ true → NoFeed rest)
    → cond feed false (cond last (length rest == 0) (good (after_byte n b) rest)) ≡ true → NoFeed (b ∷ rest)
feeds_by n b rest true last is later h = absurd cc
feeds_by n b rest false true is later h = (is, none_left rest h)
feeds_by n b rest false false is later h = (is, later h)

pub good_feeds : (n : Nesting) (bytes : List ℕ) → good n bytes ≡ true → NoFeed bytes
good_feeds n [] h = tt
good_feeds n (b ∷ rest) h =
    feeds_by n b rest (b == 10) ((after_byte n b).depth == 0) refl (good_feeds (after_byte n b) rest) h

-- ---- one byte

pub deep : (d : ℕ) → (suc d == 0) ≡ false
deep d = grind arith

pub step : (n m : Nesting) (b : ℕ) (rest : List ℕ) → (b == 10) ≡ false → after_byte n b ≡ m → (m.depth == 0) ≡ false
    → good n (b ∷ rest) ≡ good m rest
step n m b rest feed is deep =
    ap (λ e. cond e false (cond ((after_byte n b).depth == 0) (length rest == 0) (good (after_byte n b) rest))) feed
    ∙ ap (λ (k : Nesting). cond (k.depth == 0) (length rest == 0) (good k rest)) is
    ∙ ap (λ e. cond e (length rest == 0) (good m rest)) deep

-- a byte that is no line feed, no quote, no backslash and no brace
abbrev pub is_inert : ℕ → Bool
is_inert b = not (b == 10) && (not (b == 34) && (not (b == 92) && (not (b == 123) && not (b == 125))))

record IsInert (b : ℕ) : Type 0 where
  feed : (b == 10) ≡ false
  quote : (b == 34) ≡ false
  backslash : (b == 92) ≡ false
  open_brace : (b == 123) ≡ false
  close_brace : (b == 125) ≡ false

inert_parts : (b : ℕ) (f q s o c : Bool) → (b == 10) ≡ f → (b == 34) ≡ q → (b == 92) ≡ s → (b == 123) ≡ o → (b == 125) ≡ c
    → (not f && (not q && (not s && (not o && not c)))) ≡ true → IsInert b
inert_parts b false false false false false f q s o c h = record { feed = f; quote = q; backslash = s; open_brace = o; close_brace = c }
inert_parts b true q s o c e1 e2 e3 e4 e5 h = absurd cc
inert_parts b false true s o c e1 e2 e3 e4 e5 h = absurd cc
inert_parts b false false true o c e1 e2 e3 e4 e5 h = absurd cc
inert_parts b false false false true c e1 e2 e3 e4 e5 h = absurd cc
inert_parts b false false false false true e1 e2 e3 e4 e5 h = absurd cc

inert_of : (b : ℕ) → is_inert b ≡ true → IsInert b
inert_of b h = inert_parts b (b == 10) (b == 34) (b == 92) (b == 123) (b == 125) refl refl refl refl refl h

after_inert : (d b : ℕ) (q e : Bool) → IsInert b → after_byte (at (suc d) q e) b ≡ at (suc d) q false
after_inert d b q true i = refl
after_inert d b true false i = ap (λ x. at (suc d) (not x) (b == 92)) i.quote ∙ ap (at (suc d) true) i.backslash
after_inert d b false false i =
    ap (λ x. cond x (at (suc d) true false) (cond (b == 123) (at (suc d + 1) false false) (cond (b == 125) (at (suc d - 1) false false) (out d)))) i.quote
    ∙ ap (λ x. cond x (at (suc d + 1) false false) (cond (b == 125) (at (suc d - 1) false false) (out d))) i.open_brace
    ∙ ap (λ x. cond x (at (suc d - 1) false false) (out d)) i.close_brace

pub inert : (d b : ℕ) (q e : Bool) (rest : List ℕ) → is_inert b ≡ true
    → good (at (suc d) q e) (b ∷ rest) ≡ good (at (suc d) q false) rest
inert d b q e rest h =
    let i = inert_of b h in
    step (at (suc d) q e) (at (suc d) q false) b rest i.feed (after_inert d b q e i) (deep d)

abbrev pub all_inert : List ℕ → Bool
all_inert = all_pass is_inert

pub inerts : (d : ℕ) (q : Bool) (bytes rest : List ℕ) → all_inert bytes ≡ true → good (at (suc d) q false) (bytes ++ rest) ≡ good (at (suc d) q false) rest
inerts d q [] rest h = refl
inerts d q (b ∷ bytes) rest h =
    let both = parts (is_inert b) (all_inert bytes) h in
    inert d b q false (bytes ++ rest) both.0 ∙ inerts d q bytes rest both.1
  where
    parts : (x y : Bool) → (x && y) ≡ true → (x ≡ true) × (y ≡ true)
    parts true y h = (refl, h)
    parts false y h = absurd cc

pub off : (a b : ℕ) → a ≢ b → (a == b) ≡ false
off a b h = grind arith

all_off : (f q s o c : Bool) → f ≡ false → q ≡ false → s ≡ false → o ≡ false → c ≡ false
    → (not f && (not q && (not s && (not o && not c)))) ≡ true
all_off false false false false false e1 e2 e3 e4 e5 = refl
all_off true q s o c e1 e2 e3 e4 e5 = absurd cc
all_off false true s o c e1 e2 e3 e4 e5 = absurd cc
all_off false false true o c e1 e2 e3 e4 e5 = absurd cc
all_off false false false true c e1 e2 e3 e4 e5 = absurd cc
all_off false false false false true e1 e2 e3 e4 e5 = absurd cc

pub inert_if : (b : ℕ) → b ≢ 10 → b ≢ 34 → b ≢ 92 → b ≢ 123 → b ≢ 125 → is_inert b ≡ true
inert_if b f q s o c =
    all_off (b == 10) (b == 34) (b == 92) (b == 123) (b == 125) (off b 10 f) (off b 34 q) (off b 92 s) (off b 123 o) (off b 125 c)

pub inert_low : (b : ℕ) → 48 ≤ b → b < 92 → is_inert b ≡ true
inert_low b l h =
    inert_if b (λ e. omega (arith, e, l)) (λ e. omega (arith, e, l)) (λ e. omega (arith, e, h)) (λ e. omega (arith, e, h)) (λ e. omega (arith, e, h))

pub inert_letter : (b : ℕ) → 97 ≤ b → b < 123 → is_inert b ≡ true
inert_letter b l h =
    inert_if b (λ e. omega (arith, e, l)) (λ e. omega (arith, e, l)) (λ e. omega (arith, e, l)) (λ e. omega (arith, e, h)) (λ e. omega (arith, e, h))

pub inert_high : (b : ℕ) → 126 ≤ b → is_inert b ≡ true
inert_high b h =
    inert_if b (λ e. omega (arith, e, h)) (λ e. omega (arith, e, h)) (λ e. omega (arith, e, h)) (λ e. omega (arith, e, h)) (λ e. omega (arith, e, h))

-- ---- quotes, and what is in them

pub begins_text : (d : ℕ) (rest : List ℕ) → good (out d) (34 ∷ rest) ≡ good (within d) rest
begins_text d rest = step (out d) (within d) 34 rest refl refl (deep d)

pub ends_text : (d : ℕ) (rest : List ℕ) → good (within d) (34 ∷ rest) ≡ good (out d) rest
ends_text d rest = step (within d) (out d) 34 rest refl refl (deep d)

-- a byte of a text that is no line feed, no quote and no backslash
pub in_text : (d b : ℕ) (rest : List ℕ) → b ≢ 10 → b ≢ 34 → b ≢ 92 → good (within d) (b ∷ rest) ≡ good (within d) rest
in_text d b rest f q s =
    step (within d) (within d) b rest (off b 10 f)
    (ap (λ x. at (suc d) (not x) (b == 92)) (off b 34 q) ∙ ap (at (suc d) true) (off b 92 s)) (deep d)

-- a backslash, and the byte after it
pub behind : (d b : ℕ) (rest : List ℕ) → (b == 10) ≡ false → good (within d) (92 ∷ b ∷ rest) ≡ good (within d) rest
behind d b rest f =
    step (within d) (at (suc d) true true) 92 (b ∷ rest) refl refl (deep d)
    ∙ step (at (suc d) true true) (within d) b rest f refl (deep d)

-- ---- braces

pub opens : (d : ℕ) (rest : List ℕ) → good (out d) (123 ∷ rest) ≡ good (out (suc d)) rest
opens d rest = step (out d) (out (suc d)) 123 rest refl (ap (λ k. at k false false) (more d)) (deep (suc d))
  where
    more : (d : ℕ) → suc d + 1 ≡ suc (suc d)
    more d = omega arith

pub shuts : (d : ℕ) (rest : List ℕ) → good (out (suc d)) (125 ∷ rest) ≡ good (out d) rest
shuts d rest = step (out (suc d)) (out d) 125 rest refl (ap (λ k. at k false false) (less d)) (deep d)
  where
    less : (d : ℕ) → suc (suc d) - 1 ≡ suc d
    less d = omega arith

pub shuts_last : good (out 0) (125 ∷ []) ≡ true
shuts_last = refl
