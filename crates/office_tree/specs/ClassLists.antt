-- The records of each class, doubly linked, so that one is moved without the others and those of a class are gone
-- through alone. Source: own.
use Rattle.std.specs.Prelude.{◌≡◌, ◌<◌, ◌≤◌, ℕ, zero, suc, List, [], ◌∷◌, length, Some, unwrap_or}
use Rattle.std.specs.Global.{Vec}
use Rattle.office_records.specs.Lists.{numbered}
use Rattle.office_tree.specs.Rooms.{HasRoom}

-- the next of a record; 0 for none
abbrev pub next_of : List ℕ → ℕ → ℕ
next_of next r = unwrap_or (numbered next r) 0

-- at most so many of the records from one on
abbrev pub listed : List ℕ → ℕ → ℕ → List ℕ
listed next zero at = []
listed next (suc most) zero = []
listed next (suc most) (suc n) = suc n ∷ listed next most (next_of next (suc n))

-- the records from one on along its list
abbrev pub rest : List ℕ → ℕ → List ℕ
rest next at = listed next (suc (length next)) at

-- for each class the first record on its list, for each record the next and the previous on its list, and the class of
-- that list; 0 for none
pub record AreClassLists (first next previous class : List ℕ) : Type 0 where
  pub next_count : length next ≡ length class
  pub previous_count : length previous ≡ length class
  -- a record is on the list of a class that is there, or on none
  pub within : (r c : ℕ) → numbered class r ≡ Some c → c ≤ length first
  pub off : (r : ℕ) → numbered class r ≡ Some 0 → (numbered next r ≡ Some 0) × (numbered previous r ≡ Some 0)
  -- the first on a list is the one with none before it
  pub firsts : (c r : ℕ) → numbered first c ≡ Some r → 0 < r
      → (numbered class r ≡ Some c) × (numbered previous r ≡ Some 0)
  pub heads : (r c : ℕ) → numbered class r ≡ Some c → 0 < c → numbered previous r ≡ Some 0 → numbered first c ≡ Some r
  -- next and previous are each other's inverse, on one list
  pub nexts : (r q : ℕ) → numbered next r ≡ Some q → 0 < q
      → (numbered previous q ≡ Some r) × (numbered class q ≡ numbered class r)
  pub previouses : (r p : ℕ) → numbered previous r ≡ Some p → 0 < p
      → (numbered next p ≡ Some r) × (numbered class p ≡ numbered class r)
  -- and no list runs in a circle: from the next on there are fewer
  pub falls : (r q : ℕ) → numbered next r ≡ Some q → 0 < q → length (rest next q) < length (rest next r)

-- there is room for one record more
abbrev pub HaveRoom : Vec ℕ → Vec ℕ → Vec ℕ → Type 0
HaveRoom next previous class = HasRoom next × HasRoom previous × HasRoom class
