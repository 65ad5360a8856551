-- The first word of a line that a beginning of it has.
use Rattle.std.proofs.Common.{◌≡◌, ◌∙◌, ◌+◌, ℕ, suc, List, [], ◌∷◌, ◌++◌, take, cond, not, ◌==◌, Bool, true, false, refl, sym, ap, subst, arith, append-nil, append_assoc}
use Rattle.std.specs.List.{before_first, position_or_len}
use Rattle.office_settings.specs.Tokens.{closed, is_blank, tokens_from, tokens_in}

-- ---- up to a remark

record Goes (part whole : List ℕ) : Type 0 where
  on : List ℕ
  is : whole ≡ part ++ on

take_more : (n x : ℕ) (xs : List ℕ) → take (1 + n) (x ∷ xs) ≡ x ∷ take n xs
take_more n x xs = let e : 1 + n ≡ suc n = omega arith in ap (λ k. take k (x ∷ xs)) e

by_remark : (x n m : ℕ) (xs ys : List ℕ) (e : Bool) → Goes (take n xs) (take m ys)
    → Goes (take (cond (not e) (1 + n) 0) (x ∷ xs)) (take (cond (not e) (1 + m) 0) (x ∷ ys))
by_remark x n m xs ys true h = record { on = []; is = refl }
by_remark x n m xs ys false h = record { on = h.on; is = take_more m x ys ∙ ap (λ (bs : List ℕ). x ∷ bs) h.is ∙ ap (λ (bs : List ℕ). bs ++ h.on) (sym (take_more n x xs)) }

goes : (p : ℕ → Bool) (part more : List ℕ) → Goes (before_first p part) (before_first p (part ++ more))
goes p [] more = record { on = before_first p more; is = refl }
goes p (x ∷ xs) more = by_remark x (position_or_len p xs) (position_or_len p (xs ++ more)) xs (xs ++ more) (p x) (goes p xs more)

-- ---- words

pub record BeginsWith (token : List ℕ) (tokens : List (List ℕ)) : Type 0 where
  pub on : List ℕ
  pub rest : List (List ℕ)
  pub is : tokens ≡ (token ++ on) ∷ rest

-- a word that has begun is the first
by_next : (b c : ℕ) (token rest : List ℕ) (e : Bool) → BeginsWith (b ∷ token ++ c ∷ []) (tokens_from (b ∷ token ++ c ∷ []) rest)
    → BeginsWith (b ∷ token) (cond e (closed (b ∷ token) (tokens_from [] rest)) (tokens_from (b ∷ token ++ c ∷ []) rest))
by_next b c token rest true h = record { on = []; rest = tokens_from [] rest; is = ap (λ (w : List ℕ). w ∷ tokens_from [] rest) (sym (append-nil (b ∷ token))) }
by_next b c token rest false h = record { on = c ∷ h.on; rest = h.rest; is = h.is ∙ ap (λ (w : List ℕ). w ∷ h.rest) (append_assoc (b ∷ token) (c ∷ []) h.on) }

begun : (b : ℕ) (token text : List ℕ) → BeginsWith (b ∷ token) (tokens_from (b ∷ token) text)
begun b token [] = record { on = []; rest = []; is = ap (λ (w : List ℕ). w ∷ []) (sym (append-nil (b ∷ token))) }
begun b token (c ∷ rest) = by_next b c token rest (is_blank c) (begun b (token ++ c ∷ []) rest)

-- nothing has begun
at_end : (token more first : List ℕ) (others : List (List ℕ)) → closed token [] ≡ first ∷ others → BeginsWith first (tokens_from token more)
at_end [] more first others h = absurd cc
at_end (b ∷ token) more first others h =
    let same : b ∷ token ≡ first = cc in
    subst (λ (w : List ℕ). BeginsWith w (tokens_from (b ∷ token) more)) same (begun b token more)

at_blank : (token first : List ℕ) (part whole others : List (List ℕ)) → closed token part ≡ first ∷ others
    → (part ≡ first ∷ others → BeginsWith first whole) → BeginsWith first (closed token whole)
at_blank [] first part whole others h next = next h
at_blank (b ∷ token) first part whole others h next =
    let same : b ∷ token ≡ first = cc in
    record { on = []; rest = whole; is = ap (λ (w : List ℕ). w ∷ whole) (same ∙ sym (append-nil first)) }

by_blank : (token first part more : List ℕ) (c : ℕ) (others : List (List ℕ)) (e : Bool)
    → cond e (closed token (tokens_from [] part)) (tokens_from (token ++ c ∷ []) part) ≡ first ∷ others
    → (tokens_from [] part ≡ first ∷ others → BeginsWith first (tokens_from [] (part ++ more)))
    → (tokens_from (token ++ c ∷ []) part ≡ first ∷ others → BeginsWith first (tokens_from (token ++ c ∷ []) (part ++ more)))
    → BeginsWith first (cond e (closed token (tokens_from [] (part ++ more))) (tokens_from (token ++ c ∷ []) (part ++ more)))
by_blank token first part more c others true h new same = at_blank token first (tokens_from [] part) (tokens_from [] (part ++ more)) others h new
by_blank token first part more c others false h new same = same h

first_from : (token part more first : List ℕ) (others : List (List ℕ)) → tokens_from token part ≡ first ∷ others
    → BeginsWith first (tokens_from token (part ++ more))
first_from token [] more first others h = at_end token more first others h
first_from token (c ∷ part) more first others h =
    by_blank token first part more c others (is_blank c) h (first_from [] part more first others) (first_from (token ++ c ∷ []) part more first others)

-- the first word of a line begins with that of a beginning of the line
pub first_word : (part more first : List ℕ) (others : List (List ℕ)) → tokens_in part ≡ first ∷ others → BeginsWith first (tokens_in (part ++ more))
first_word part more first others h =
    let on = goes (λ b. b == 35) part more in
    subst (λ (text : List ℕ). BeginsWith first (tokens_from [] text)) (sym on.is) (first_from [] (before_first (λ b. b == 35) part) on.on first others h)
