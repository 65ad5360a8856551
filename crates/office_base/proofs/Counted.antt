-- Numbered rows, one by one.
use Rattle.std.proofs.Common.{◌≡◌, ◌≢◌, ◌+◌, ℕ, zero, suc, List, [], ◌∷◌, ◌++◌, length, refl, sym, ap, ◌∙◌, subst, append_assoc, arith}
use Rattle.office_base.specs.Rows.{numbered_from, numbered_rows}

numbered_from-push : {A : Type 0} (n : ℕ) (xs : List A) (x : A) → numbered_from n (xs ++ x ∷ []) ≡ numbered_from n xs ++ (suc (n + length xs), x) ∷ []
numbered_from-push n [] x = let e : n ≡ n + 0 = omega arith in ap (λ k. (suc k, x) ∷ []) e
numbered_from-push n (y ∷ ys) x =
    let e : suc (suc n + length ys) ≡ suc (n + suc (length ys)) = omega arith in
    ap (λ rest. (suc n, y) ∷ rest) (numbered_from-push (suc n) ys x ∙ ap (λ k. numbered_from (suc n) ys ++ (k, x) ∷ []) e)

-- one more thing has the next number
pub numbered_rows-push : {A : Type 0} (xs : List A) (x : A) (k : ℕ) → k ≡ suc (length xs) → numbered_rows (xs ++ x ∷ []) ≡ numbered_rows xs ++ (k, x) ∷ []
numbered_rows-push xs x k e = numbered_from-push 0 xs x ∙ ap (λ m. numbered_rows xs ++ (m, x) ∷ []) (let f : suc (0 + length xs) ≡ k = omega arith in f)

next_from : {A : Type 0} (n : ℕ) (xs ys : List A) (k : ℕ) (y : A) (rest : List (ℕ × A)) → numbered_from n xs ≡ numbered_from n ys ++ (k, y) ∷ rest → k ≡ suc (n + length ys)
next_from n [] [] k y rest e = absurd cc
next_from n [] (b ∷ ys) k y rest e = absurd cc
next_from {A} n (a ∷ xs) [] k y rest e = let f : (suc n, a) ≡ (k, y) = cc in let h : suc n ≡ k = ap (λ (p : ℕ × A). p.0) f in omega arith
next_from n (a ∷ xs) (b ∷ ys) k y rest e =
    let f : numbered_from (suc n) xs ≡ numbered_from (suc n) ys ++ (k, y) ∷ rest = cc in
    let g : k ≡ suc (suc n + length ys) = next_from (suc n) xs ys k y rest f in
    omega arith

-- what follows the rows of a list in a table by number has the next number
pub next_number : {A : Type 0} (xs ys : List A) (k : ℕ) (y : A) (rest : List (ℕ × A)) → numbered_rows xs ≡ numbered_rows ys ++ (k, y) ∷ rest → k ≡ suc (length ys)
next_number xs ys k y rest e = let g : k ≡ suc (0 + length ys) = next_from 0 xs ys k y rest e in omega arith

-- the same of a table that begins with the rows of a list and one more
pub next_number_of : {A : Type 0} (xs ys : List A) (k : ℕ) (y : A) (rest : List (ℕ × A)) → numbered_rows xs ≡ (numbered_rows ys ++ (k, y) ∷ []) ++ rest → k ≡ suc (length ys)
next_number_of xs ys k y rest e = next_number xs ys k y rest (e ∙ append_assoc (numbered_rows ys) ((k, y) ∷ []) rest)

value_from : {A : Type 0} (n : ℕ) (xs : List A) (done : List (ℕ × A)) (k : ℕ) (y : A) (rest : List (ℕ × A)) → numbered_from n xs ≡ done ++ (k, y) ∷ rest → (pre : List A) × (post : List A) × (xs ≡ pre ++ y ∷ post)
value_from n [] [] k y rest e = absurd cc
value_from n [] (d ∷ done) k y rest e = absurd cc
value_from {A} n (x ∷ xs) [] k y rest e =
    let f : (suc n, x) ≡ (k, y) = cc in
    ([], xs, λ i. ap (λ (p : ℕ × A). p.1) f i ∷ xs)
value_from n (x ∷ xs) (d ∷ done) k y rest e =
    let f = value_from (suc n) xs done k y rest (cc) in
    (x ∷ f.0, f.1, ap (λ zs. x ∷ zs) f.2)

-- a row of a table by number is one of the list's
pub value_of_row : {A : Type 0} (xs : List A) (done : List (ℕ × A)) (k : ℕ) (y : A) (rest : List (ℕ × A)) → numbered_rows xs ≡ (done ++ (k, y) ∷ []) ++ rest → (pre : List A) × (post : List A) × (xs ≡ pre ++ y ∷ post)
value_of_row xs done k y rest e = value_from 0 xs done k y rest (e ∙ append_assoc done ((k, y) ∷ []) rest)
