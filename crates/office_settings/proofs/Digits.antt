-- A number read digit by digit.
use Rattle.std.proofs.Common.{◌≡◌, ◌∙◌, ◌+◌, ◌-◌, ◌*◌, ◌<◌, ◌≤◌, ◌&&◌, nat_le, ℕ, List, [], ◌∷◌, length, drop, get_or, cond, Bool, true, false, Some, None, refl, sym, ap, arith, add-one, drop-cons}
use Rattle.office_settings.specs.Numbers.{bounded, number_between, number_from, number_in}

rest_at : (text : List ℕ) (i b : ℕ) → i < length text → b ≡ get_or text i 0 → drop i text ≡ b ∷ drop (i + 1) text
rest_at text i b low at = rw (at, add-one i) (drop-cons text i 0 low)

-- the digits before a place are read, and those of the rest are left
pub record AreRead (token : List ℕ) (most number i : ℕ) : Type 0 where
  pub fits : number ≤ most
  pub value : number_from number (drop i token) ≡ number_in token

pub none_read : (token : List ℕ) (most : ℕ) → 0 < length token → AreRead token most 0 0
none_read [] most some = absurd (omega (arith, some))
none_read (b ∷ rest) most some = record { fits = omega arith; value = refl }

by_byte : (n b : ℕ) (rest : List ℕ) (digit : Bool) → (nat_le 48 b && nat_le b 57) ≡ digit → number_from n (b ∷ rest) ≡ cond digit (number_from (10 * n + (b - 48)) rest) None
by_byte n b rest digit e = ap (λ d. cond d (number_from (10 * n + (b - 48)) rest) None) e

is_digit : (b : ℕ) → 48 ≤ b → b ≤ 57 → (nat_le 48 b && nat_le b 57) ≡ true
is_digit b low high = grind arith

no_digit_below : (b : ℕ) → b < 48 → (nat_le 48 b && nat_le b 57) ≡ false
no_digit_below b low = grind arith

no_digit_above : (b : ℕ) → 57 < b → (nat_le 48 b && nat_le b 57) ≡ false
no_digit_above b high = grind arith

left_at : (token : List ℕ) (n i b : ℕ) → i < length token → b ≡ get_or token i 0 → number_from n (drop i token) ≡ number_in token → number_from n (b ∷ drop (i + 1) token) ≡ number_in token
left_at token n i b within at value = ap (number_from n) (sym (rest_at token i b within at)) ∙ value

-- one digit more
pub digit_read : (token : List ℕ) (most n m i b : ℕ) → i < length token → b ≡ get_or token i 0 → 48 ≤ b → b ≤ 57 → m ≡ n * 10 + (b - 48) → m ≤ most
    → AreRead token most n i → AreRead token most m (i + 1)
digit_read token most n m i b within at low high is fits done = record {
  fits = fits;
  value =
      ap (λ k. number_from k (drop (i + 1) token)) (is ∙ turned n (b - 48))
      ∙ sym (by_byte n b (drop (i + 1) token) true (is_digit b low high)) ∙ left_at token n i b within at done.value;
}
  where
    turned : (n d : ℕ) → n * 10 + d ≡ 10 * n + d
    turned n d = omega arith

-- a byte that is no digit
pub none_below : (token : List ℕ) (least most n i b : ℕ) → i < length token → b ≡ get_or token i 0 → b < 48 → AreRead token most n i → None ≡ number_between least most token
unfolding number_between
none_below token least most n i b within at low done =
    ap (bounded least most) (sym (by_byte n b (drop (i + 1) token) false (no_digit_below b low)) ∙ left_at token n i b within at done.value)

pub none_above : (token : List ℕ) (least most n i b : ℕ) → i < length token → b ≡ get_or token i 0 → 57 < b → AreRead token most n i → None ≡ number_between least most token
unfolding number_between
none_above token least most n i b within at high done =
    ap (bounded least most) (sym (by_byte n b (drop (i + 1) token) false (no_digit_above b high)) ∙ left_at token n i b within at done.value)

-- a number that is too great stays so
grows_by : (least most n b : ℕ) (rest : List ℕ) (digit : Bool) → most < n → ((m : ℕ) → most < m → bounded least most (number_from m rest) ≡ None)
    → bounded least most (cond digit (number_from (10 * n + (b - 48)) rest) None) ≡ None
grows_by least most n b rest true over later = later (10 * n + (b - 48)) (omega (arith, over))
grows_by least most n b rest false over later = refl

over_none : (least most n : ℕ) → most < n → bounded least most (Some n) ≡ None
over_none least most n over = by (nat_le least n) (nat_le n most) (too_great n most over)
  where
    too_great : (a b : ℕ) → b < a → nat_le a b ≡ false
    too_great a b h = grind arith

    by : (low high : Bool) → high ≡ false → cond (low && high) (Some n) None ≡ None
    by true true h = absurd cc
    by true false h = refl
    by false high h = refl

pub stays_over : (least most n : ℕ) (rest : List ℕ) → most < n → bounded least most (number_from n rest) ≡ None
stays_over least most n [] over = over_none least most n over
stays_over least most n (b ∷ rest) over = grows_by least most n b rest (nat_le 48 b && nat_le b 57) over (λ m more. stays_over least most m rest more)

pub none_over : (token : List ℕ) (least most n m i b : ℕ) → i < length token → b ≡ get_or token i 0 → 48 ≤ b → b ≤ 57 → m ≡ n * 10 + (b - 48) → most < m
    → AreRead token most n i → None ≡ number_between least most token
unfolding number_between
none_over token least most n m i b within at low high is over done =
    sym (stays_over least most m (drop (i + 1) token) over)
    ∙ ap (λ k. bounded least most (number_from k (drop (i + 1) token))) (is ∙ turned n (b - 48))
    ∙ ap (bounded least most) (sym (by_byte n b (drop (i + 1) token) true (is_digit b low high)) ∙ left_at token n i b within at done.value)
  where
    turned : (n d : ℕ) → n * 10 + d ≡ 10 * n + d
    turned n d = omega arith

-- all digits
pub all_read : (token : List ℕ) (most n i : ℕ) → drop i token ≡ [] → AreRead token most n i → Some n ≡ number_in token
all_read token most n i none done = ap (number_from n) (sym none) ∙ done.value
