-- The bytes that a number of JSON is written with.
use Rattle.std.proofs.Common.{◌≡◌, ◌∙◌, ◌⊎◌, inl, inr, ℕ, suc, ◌+◌, ◌≤◌, ◌==◌, ◌&&◌, ◌||◌, nat_le, cond, Bool, true, false, List, [], ◌∷◌, drop, Option, Some, None, option_and_then, refl, ap, subst, arith}
use Rattle.std.specs.List.{prefix_len}
use Rattle.std.specs.Char.{is_ascii_digit}
use Rattle.std.proofs.lemmas.Bool.{and_from, and_parts, eqb-true, le-leb, leb-true, or_cases, or_left}
use Rattle.json.specs.Print.{IsNumber}
use Rattle.json.specs.Word.{head, after_digits, after_minus, after_sign, after_whole, after_fraction, after_exponent, after_number}
use Rattle.office_journal.proofs.Bytes.{all_pass}

-- digits, signs, a point and an e; and some bytes between them
abbrev pub is_of_number : ℕ → Bool
is_of_number b = (nat_le 43 b && nat_le b 69) || (b == 101)

abbrev pub all_of_number : List ℕ → Bool
all_of_number = all_pass is_of_number

-- a text has only such bytes if what is left of it has only such bytes
abbrev Skips : List ℕ → List ℕ → Type 0
Skips t r = all_of_number r ≡ true → all_of_number t ≡ true

abbrev Leaves : List ℕ → Option (List ℕ) → Type 0
Leaves t None = Unit {0}
Leaves t (Some r) = Skips t r

further : (t u : List ℕ) (o : Option (List ℕ)) → Skips t u → Leaves u o → Leaves t o
further t u None e h = tt
further t u (Some r) e h = λ rest. e (h rest)

either : (t : List ℕ) (b : Bool) (x y : Option (List ℕ)) → (b ≡ true → Leaves t x) → Leaves t y → Leaves t (cond b x y)
either t true x y p q = p refl
either t false x y p q = q

one : (c : ℕ) (t : List ℕ) → is_of_number c ≡ true → (head t == c) ≡ true → Skips t (drop 1 t)
one c [] i e = λ rest. refl
one c (x ∷ xs) i e = λ rest. and_from (is_of_number x) (all_of_number xs) (ap is_of_number (eqb-true x c e) ∙ i) rest

either_one : (a b : ℕ) (t : List ℕ) → is_of_number a ≡ true → is_of_number b ≡ true → (head t == a) ≡ true ⊎ (head t == b) ≡ true → Skips t (drop 1 t)
either_one a b t p q (inl e) = one a t p e
either_one a b t p q (inr e) = one b t q e

optional : (t : List ℕ) (b : Bool) → (b ≡ true → Skips t (drop 1 t)) → Skips t (cond b (drop 1 t) t)
optional t true f = f refl
optional t false f = λ rest. rest

digits_at : (x : ℕ) (xs : List ℕ) (n : ℕ) (b : Bool) → (b ≡ true → is_of_number x ≡ true) → Skips xs (drop n xs) → Skips (x ∷ xs) (drop (cond b (1 + n) 0) (x ∷ xs))
digits_at x xs n false i later = λ rest. rest
digits_at x xs n true i later = λ rest.
    let more : 1 + n ≡ suc n = omega arith in
    and_from (is_of_number x) (all_of_number xs) (i refl) (later (subst (λ k. all_of_number (drop k (x ∷ xs)) ≡ true) more rest))

digit : (x : ℕ) → is_ascii_digit x ≡ true → is_of_number x ≡ true
digit x h =
    let both = and_parts _ _ h in
    let low : 48 ≤ x = leb-true 48 x both.0 in
    let high : x ≤ 57 = leb-true x 57 both.1 in
    or_left (nat_le 43 x && nat_le x 69) (x == 101) (and_from _ _ (le-leb 43 x (omega (arith, low))) (le-leb x 69 (omega (arith, high))))

digit_run : (t : List ℕ) → Skips t (drop (prefix_len is_ascii_digit t) t)
digit_run [] = λ rest. refl
digit_run (x ∷ xs) = digits_at x xs (prefix_len is_ascii_digit xs) (is_ascii_digit x) (digit x) (digit_run xs)

digits : (t : List ℕ) → Leaves t (after_digits t)
digits t = either t (prefix_len is_ascii_digit t == 0) None (Some (drop (prefix_len is_ascii_digit t) t)) (λ e. tt) (digit_run t)

whole : (t : List ℕ) → Leaves t (after_whole t)
whole t = either t (head t == 48) (Some (drop 1 t)) (after_digits t) (one 48 t refl) (digits t)

fraction : (t : List ℕ) → Leaves t (after_fraction t)
fraction t =
    either t (head t == 46) (after_digits (drop 1 t)) (Some t)
    (λ e. further t (drop 1 t) (after_digits (drop 1 t)) (one 46 t refl e) (digits (drop 1 t))) (λ rest. rest)

exponent : (t : List ℕ) → Leaves t (after_exponent t)
exponent t =
    let u = drop 1 t in
    either t ((head t == 101) || (head t == 69)) (after_digits (after_sign u)) (Some t)
    (λ e. further t u (after_digits (after_sign u)) (either_one 101 69 t refl refl (or_cases (head t == 101) (head t == 69) e))
    (further u (after_sign u) (after_digits (after_sign u))
    (optional u ((head u == 45) || (head u == 43)) (λ s. either_one 45 43 u refl refl (or_cases (head u == 45) (head u == 43) s)))
    (digits (after_sign u)))) (λ rest. rest)

then : (t : List ℕ) (f : List ℕ → Option (List ℕ)) → ((u : List ℕ) → Leaves u (f u)) → (o : Option (List ℕ)) → Leaves t o → Leaves t (option_and_then f o)
then t f g None h = tt
then t f g (Some r) h = further t r (f r) h (g r)

leaves_number : (t : List ℕ) → Leaves t (after_number t)
unfolding after_number
leaves_number t =
    then t after_exponent exponent (option_and_then after_fraction (after_whole (after_minus t)))
    (then t after_fraction fraction (after_whole (after_minus t))
    (further t (after_minus t) (after_whole (after_minus t)) (optional t (head t == 45) (one 45 t refl)) (whole (after_minus t))))

pub number_bytes : (s : List ℕ) → IsNumber s → all_of_number s ≡ true
number_bytes s h = by (after_number s) (leaves_number s) h
  where
    by : (o : Option (List ℕ)) → Leaves s o → o ≡ Some [] → all_of_number s ≡ true
    by None l e = absurd cc
    by (Some r) l e = let none : r ≡ [] = cc in l (ap all_of_number none)
