-- What stands before the first byte of a kind.
use Rattle.std.proofs.Common.{◌≡◌, ◌≤◌, nat_lt, ℕ, List, length, take, cond, Bool, true, false, Option, Some, None, refl, sym, ap, arith}
use Rattle.std.specs.List.{before_first, position, position_or_len}
use Rattle.std.proofs.lemmas.List.{take_all}

some_by : (p : ℕ → Bool) (xs : List ℕ) (n m : ℕ) (e : Bool) → cond e (Some m) None ≡ Some n → n ≡ m
some_by p xs n m true h = cc
some_by p xs n m false h = absurd cc

pub before_at : (p : ℕ → Bool) (xs : List ℕ) (n : ℕ) → position p xs ≡ Some n → take n xs ≡ before_first p xs
before_at p xs n h = ap (λ k. take k xs) (some_by p xs n (position_or_len p xs) (nat_lt (position_or_len p xs) (length xs)) h)

none_by : (n m : ℕ) (e : Bool) → nat_lt m n ≡ e → (let r : Option ℕ = cond e (Some m) None in r) ≡ None → n ≤ m
none_by n m true is h = absurd cc
none_by n m false is h = above m n is
  where
    above : (a b : ℕ) → nat_lt a b ≡ false → b ≤ a
    above a b k = grind arith

pub before_none : (p : ℕ → Bool) (xs : List ℕ) → position p xs ≡ None → xs ≡ before_first p xs
before_none p xs h =
    sym (take_all (position_or_len p xs) xs (none_by (length xs) (position_or_len p xs) (nat_lt (position_or_len p xs) (length xs)) refl h))
