-- The words of a text up to a place, and those of the rest.
use Rattle.std.proofs.Common.{◌≡◌, ◌∙◌, ◌+◌, ◌-◌, ◌<◌, ◌≤◌, ℕ, List, [], ◌∷◌, ◌++◌, length, take, drop, get_or, cond, Bool, true, false, refl, sym, ap, arith, append_assoc, add-one, drop-cons, length-drop, slice_range}
use Rattle.std.proofs.lemmas.List.{get_or-drop, take_more}
use Rattle.office_settings.specs.Tokens.{closed, is_blank, tokens_from}

-- ---- the next byte

rest_at : (text : List ℕ) (i b : ℕ) → i < length text → b ≡ get_or text i 0 → drop i text ≡ b ∷ drop (i + 1) text
rest_at text i b low at = rw (at, add-one i) (drop-cons text i 0 low)

by_byte : (token : List ℕ) (b : ℕ) (rest : List ℕ) (blank : Bool) → is_blank b ≡ blank
    → tokens_from token (b ∷ rest) ≡ cond blank (closed token (tokens_from [] rest)) (tokens_from (token ++ b ∷ []) rest)
by_byte token b rest blank e = ap (λ k. cond k (closed token (tokens_from [] rest)) (tokens_from (token ++ b ∷ []) rest)) e

closed-append : (token : List ℕ) (others : List (List ℕ)) → closed token others ≡ closed token [] ++ others
closed-append [] others = refl
closed-append (b ∷ token) others = refl

-- the word between two places has one byte more
range_more : (text : List ℕ) (start i b : ℕ) → start ≤ i → i < length text → b ≡ get_or text i 0
    → slice_range text start (i + 1) ≡ slice_range text start i ++ b ∷ []
range_more text start i b low within at =
    let next : (i + 1) - start ≡ (i - start) + 1 = omega arith in
    let room : i - start < length (drop start text) = let gone = length-drop start text in omega (arith, gone) in
    let here : get_or (drop start text) (i - start) 0 ≡ b =
    get_or-drop start text (i - start) 0 ∙ ap (λ k. get_or text k 0) (sum start i low) ∙ sym at in
    ap (λ n. take n (drop start text)) next ∙ take_more (drop start text) (i - start) 0 room
    ∙ ap (λ k. take (i - start) (drop start text) ++ k ∷ []) here
  where
    sum : (a b : ℕ) → a ≤ b → a + (b - a) ≡ b
    sum a b h = omega arith

-- no byte
range_none : (text : List ℕ) (i : ℕ) → slice_range text i i ≡ []
range_none text i = let none : i - i ≡ 0 = omega arith in ap (λ k. take k (drop i text)) none

-- ---- the words so far

pub record AreCut (text : List ℕ) (cut : List (List ℕ)) (start i : ℕ) : Type 0 where
  pub order : start ≤ i
  pub rest : cut ++ tokens_from (slice_range text start i) (drop i text) ≡ tokens_from [] text

pub none_cut : (text : List ℕ) → AreCut text [] 0 0
none_cut text = record { order = omega arith; rest = refl }

-- a byte of a word
pub byte_cut : (text : List ℕ) (cut : List (List ℕ)) (start i b : ℕ) → i < length text → b ≡ get_or text i 0 → is_blank b ≡ false
    → AreCut text cut start i → AreCut text cut start (i + 1)
byte_cut text cut start i b within at off done = record {
  order = let before = done.order in omega (arith, before);
  rest =
      ap (λ w. cut ++ tokens_from w (drop (i + 1) text)) (range_more text start i b done.order within at)
      ∙ ap (λ ws. cut ++ ws) (sym (by_byte (slice_range text start i) b (drop (i + 1) text) false off))
      ∙ ap (λ xs. cut ++ tokens_from (slice_range text start i) xs) (sym (rest_at text i b within at))
      ∙ done.rest;
}

-- a blank
pub blank_cut : (text : List ℕ) (cut more : List (List ℕ)) (start i b : ℕ) → i < length text → b ≡ get_or text i 0 → is_blank b ≡ true
    → more ≡ cut ++ closed (slice_range text start i) [] → AreCut text cut start i → AreCut text more (i + 1) (i + 1)
blank_cut text cut more start i b within at on is done = record {
  order = omega arith;
  rest =
      ap (λ w. more ++ tokens_from w (drop (i + 1) text)) (range_none text (i + 1))
      ∙ ap (λ ws. ws ++ tokens_from [] (drop (i + 1) text)) is
      ∙ append_assoc cut (closed (slice_range text start i) []) (tokens_from [] (drop (i + 1) text))
      ∙ ap (λ ws. cut ++ ws) (sym (closed-append (slice_range text start i) (tokens_from [] (drop (i + 1) text))))
      ∙ ap (λ ws. cut ++ ws) (sym (by_byte (slice_range text start i) b (drop (i + 1) text) true on))
      ∙ ap (λ xs. cut ++ tokens_from (slice_range text start i) xs) (sym (rest_at text i b within at))
      ∙ done.rest;
}

-- the end
pub all_cut : (text : List ℕ) (cut more : List (List ℕ)) (start i : ℕ) → drop i text ≡ [] → more ≡ cut ++ closed (slice_range text start i) []
    → AreCut text cut start i → more ≡ tokens_from [] text
all_cut text cut more start i none is done = is ∙ ap (λ xs. cut ++ tokens_from (slice_range text start i) xs) (sym none) ∙ done.rest
