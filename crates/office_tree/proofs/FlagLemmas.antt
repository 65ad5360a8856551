-- The first flags of a list, where another has the same.
use Rattle.std.proofs.Common.{◌≡◌, ℕ, ◌+◌, ◌<◌, ◌≤◌, ◌++◌, ◌∷◌, [], Bool, false, List, length, take, sym, ◌∙◌, ap, arith, ext_get_or}
use Rattle.std.proofs.lemmas.List.{get_or-take, length-take-le, take_more}
use Rattle.office_tree.specs.Flags.{flag_at}

pub take_same : (n : ℕ) (xs ys : List Bool) → ((k : ℕ) → flag_at xs k ≡ flag_at ys k) → n ≤ length xs → n ≤ length ys → take n xs ≡ take n ys
take_same n xs ys same xs_in ys_in =
    ext_get_or false _ _ (length-take-le n xs xs_in ∙ sym (length-take-le n ys ys_in))
    (λ k within.
    let small : k < n = omega (arith, within, length-take-le n xs xs_in) in
    get_or-take n xs k false small ∙ same k ∙ sym (get_or-take n ys k false small))

-- one more of the same flags, which is not set
pub take_next : (n : ℕ) (xs ys : List Bool) → ((k : ℕ) → flag_at ys k ≡ flag_at xs k) → n ≤ length xs → n < length ys → flag_at xs n ≡ false
    → take (n + 1) ys ≡ take n xs ++ false ∷ []
take_next n xs ys same xs_in ys_in off =
    take_more ys n false ys_in
    ∙ ap (λ x. take n ys ++ x ∷ []) (same n ∙ off)
    ∙ ap (λ x. x ++ false ∷ []) (take_same n ys xs same (omega arith) xs_in)
