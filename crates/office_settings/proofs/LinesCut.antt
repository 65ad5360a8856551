-- The lines of a beginning of a text: those of the text, but that the last of them may be cut.
use Rattle.std.proofs.Common.{◌≡◌, ℕ, List, [], ◌∷◌, ◌++◌, cond, Bool, true, false, refl, ap}
use Rattle.std.specs.List.{onto_first, slice_split}

pub record AreCutLines (lines part : List (List ℕ)) : Type 0 where
  pub front : List (List ℕ)
  pub cut : List ℕ
  pub more : List ℕ
  pub below : List (List ℕ)
  pub are : lines ≡ front ++ (cut ++ more) ∷ below
  pub begin_so : part ≡ front ++ cut ∷ []

record HasFirst (lines : List (List ℕ)) : Type 0 where
  first : List ℕ
  rest : List (List ℕ)
  is : lines ≡ first ∷ rest

by_first : (x : ℕ) (lines : List (List ℕ)) (e : Bool) → HasFirst lines → HasFirst (cond e ([] ∷ lines) (onto_first x lines))
by_first x lines true h = record { first = []; rest = lines; is = refl }
by_first x lines false h = record { first = x ∷ h.first; rest = h.rest; is = ap (onto_first x) h.is }

has_first : (p : ℕ → Bool) (xs : List ℕ) → HasFirst (slice_split p xs)
has_first p [] = record { first = []; rest = []; is = refl }
has_first p (x ∷ xs) = by_first x (slice_split p xs) (p x) (has_first p xs)

onto_line : (x : ℕ) (front : List (List ℕ)) (cut more : List ℕ) (below lines part : List (List ℕ))
    → lines ≡ front ++ (cut ++ more) ∷ below → part ≡ front ++ cut ∷ [] → AreCutLines (onto_first x lines) (onto_first x part)
onto_line x [] cut more below lines part l p =
    record { front = []; cut = x ∷ cut; more = more; below = below; are = ap (onto_first x) l; begin_so = ap (onto_first x) p }
onto_line x (f ∷ fs) cut more below lines part l p =
    record { front = (x ∷ f) ∷ fs; cut = cut; more = more; below = below; are = ap (onto_first x) l; begin_so = ap (onto_first x) p }

by_byte : (x : ℕ) (lines part : List (List ℕ)) (e : Bool) → AreCutLines lines part
    → AreCutLines (cond e ([] ∷ lines) (onto_first x lines)) (cond e ([] ∷ part) (onto_first x part))
by_byte x lines part true h = record {
  front = [] ∷ h.front;
  cut = h.cut;
  more = h.more;
  below = h.below;
  are = ap (λ (ls : List (List ℕ)). [] ∷ ls) h.are;
  begin_so = ap (λ (ls : List (List ℕ)). [] ∷ ls) h.begin_so;
}
by_byte x lines part false h = onto_line x h.front h.cut h.more h.below lines part h.are h.begin_so

from_first : (lines : List (List ℕ)) → HasFirst lines → AreCutLines lines ([] ∷ [])
from_first lines h = record { front = []; cut = []; more = h.first; below = h.rest; are = h.is; begin_so = refl }

pub cut_lines : (p : ℕ → Bool) (part rest : List ℕ) → AreCutLines (slice_split p (part ++ rest)) (slice_split p part)
cut_lines p [] rest = from_first (slice_split p rest) (has_first p rest)
cut_lines p (x ∷ xs) rest = by_byte x (slice_split p (xs ++ rest)) (slice_split p xs) (p x) (cut_lines p xs rest)
