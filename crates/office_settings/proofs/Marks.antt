-- The place of a mark among words.
use Rattle.std.proofs.Common.{◌≡◌, ◌∙◌, ◌+◌, ◌<◌, ◌≤◌, nat_lt, ℕ, List, [], ◌∷◌, length, map, take, drop, not, cond, Bool, Some, None, Ok, Err, true, false, refl, ap, arith}
use Rattle.std.specs.Str.{bytes_eq}
use Rattle.std.proofs.lemmas.List.{drop-map, length-map, take-map}
use Rattle.office_settings.specs.declared.wrong.Wrong.TheVariants.{NothingFollows}
use Rattle.office_settings.specs.Statements.{parted, parted_at}
use Rattle.std.specs.List.{list_all, position, prefix_len}
use Rattle.std.proofs.lemmas.List.Folds.{list_all-map}

prefix_len-map : {X : Type 0} (q : List ℕ → Bool) (f : X → List ℕ) (xs : List X) → prefix_len q (map f xs) ≡ prefix_len (λ x. q (f x)) xs
prefix_len-map q f [] = refl
prefix_len-map q f (x ∷ xs) = ap (λ n. cond (q (f x)) (1 + n) 0) (prefix_len-map q f xs)

pub position-map : {X : Type 0} (p : List ℕ → Bool) (f : X → List ℕ) (xs : List X) → position p (map f xs) ≡ position (λ x. p (f x)) xs
position-map p f xs =
    ap (λ n. cond (nat_lt n (length (map f xs))) (Some n) None) (prefix_len-map (λ x. not (p x)) f xs)
    ∙ ap (λ k. cond (nat_lt (prefix_len (λ x. not (p (f x))) xs) k) (Some (prefix_len (λ x. not (p (f x))) xs)) None) (length-map xs f)

pub list_all_map : {X : Type 0} (p : List ℕ → Bool) (f : X → List ℕ) (xs : List X) → list_all p (map f xs) ≡ list_all (λ x. p (f x)) xs
list_all_map p f xs = list_all-map p f xs

some_at : {X : Type 0} (f : X → List ℕ) (tokens : List X) (n : ℕ) → n + 1 < length tokens
    → parted_at (map f tokens) (Some n) ≡ Ok (record { before = map f (take n tokens); after = map f (drop (n + 1) tokens) })
some_at f tokens n low =
    let test : nat_lt (n + 1) (length (map f tokens)) ≡ true = ap (nat_lt (n + 1)) (length-map tokens f) ∙ below (n + 1) (length tokens) low in
    ap (λ b. cond b (Ok (record { before = take n (map f tokens); after = drop (n + 1) (map f tokens) })) (Err NothingFollows)) test
    ∙ ap (λ (xs : List (List ℕ)). Ok (record { before = xs; after = drop (n + 1) (map f tokens) })) (take-map f n tokens)
    ∙ ap (λ (xs : List (List ℕ)). Ok (record { before = map f (take n tokens); after = xs })) (drop-map f (n + 1) tokens)
  where
    below : (a b : ℕ) → a < b → nat_lt a b ≡ true
    below a b h = grind arith

-- words that a mark parts
pub parted_some : {X : Type 0} (f : X → List ℕ) (mark : List ℕ) (tokens : List X) (n : ℕ) → position (λ w. bytes_eq (f w) mark) tokens ≡ Some n → n + 1 < length tokens
    → parted mark (map f tokens) ≡ Ok (record { before = map f (take n tokens); after = map f (drop (n + 1) tokens) })
unfolding parted
parted_some f mark tokens n h low = ap (parted_at (map f tokens)) (position-map (λ w. bytes_eq w mark) f tokens ∙ h) ∙ some_at f tokens n low

-- words without the mark
pub parted_none : {X : Type 0} (f : X → List ℕ) (mark : List ℕ) (tokens : List X) → position (λ w. bytes_eq (f w) mark) tokens ≡ None
    → parted mark (map f tokens) ≡ Ok (record { before = map f tokens; after = [] })
unfolding parted
parted_none f mark tokens h = ap (parted_at (map f tokens)) (position-map (λ w. bytes_eq w mark) f tokens ∙ h)

last_at : {X : Type 0} (f : X → List ℕ) (tokens : List X) (n : ℕ) → length tokens ≤ n + 1 → parted_at (map f tokens) (Some n) ≡ Err NothingFollows
last_at f tokens n high =
    let test : nat_lt (n + 1) (length (map f tokens)) ≡ false = ap (nat_lt (n + 1)) (length-map tokens f) ∙ above (n + 1) (length tokens) high in
    ap (λ b. cond b (Ok (record { before = take n (map f tokens); after = drop (n + 1) (map f tokens) })) (Err NothingFollows)) test
  where
    above : (a b : ℕ) → b ≤ a → nat_lt a b ≡ false
    above a b h = grind arith

-- words that end with the mark
pub parted_last : {X : Type 0} (f : X → List ℕ) (mark : List ℕ) (tokens : List X) (n : ℕ) → position (λ w. bytes_eq (f w) mark) tokens ≡ Some n → length tokens ≤ n + 1
    → parted mark (map f tokens) ≡ Err NothingFollows
unfolding parted
parted_last f mark tokens n h high = ap (parted_at (map f tokens)) (position-map (λ w. bytes_eq w mark) f tokens ∙ h) ∙ last_at f tokens n high
