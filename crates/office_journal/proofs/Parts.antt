-- Parts at the front of a text.
use Rattle.std.proofs.Common.{◌≡◌, ◌∙◌, ◌==◌, ℕ, List, [], ◌∷◌, ◌++◌, length, take, drop, cond, Bool, true, false, Option, Some, None, refl, sym, ap, arith}
use Rattle.std.specs.Option.{option_and_then}
use Rattle.std.specs.Str.{bytes_eq}
use Rattle.std.proofs.lemmas.Slice.Eq.{bytes_eq-Decides}
use Rattle.std.proofs.lemmas.List.{take-append-drop}
use Rattle.std.proofs.Math.Seq.{take-append_seam}
use Rattle.office_journal.specs.Journals.{rest_after}

same : (b : ℕ) → (b == b) ≡ true
same b = grind arith

equal : (b c : ℕ) → (b == c) ≡ true → b ≡ c
equal b c h = grind arith

pub rest_after-append : (part rest : List ℕ) → rest_after part (part ++ rest) ≡ Some rest
rest_after-append [] rest = refl
rest_after-append (b ∷ part) rest = ap (λ e. cond e (rest_after part (part ++ rest)) None) (same b) ∙ rest_after-append part rest

some_by : (b c : ℕ) (part text rest : List ℕ) (e : Bool) → (b == c) ≡ e → (rest_after part text ≡ Some rest → text ≡ part ++ rest)
    → cond e (rest_after part text) None ≡ Some rest → c ∷ text ≡ (b ∷ part) ++ rest
some_by b c part text rest true is tail k = let head = equal b c is in let more = tail k in cc
some_by b c part text rest false is tail k = absurd cc

pub rest_after-some : (part text rest : List ℕ) → rest_after part text ≡ Some rest → text ≡ part ++ rest
rest_after-some [] text rest h = cc
rest_after-some (b ∷ part) [] rest h = absurd cc
rest_after-some (b ∷ part) (c ∷ text) rest h = some_by b c part text rest (b == c) refl (rest_after-some part text rest) h

parts_by : (a b text : List ℕ) (e : Bool) → rest_after (a ++ b) text ≡ option_and_then (rest_after b) (rest_after a text)
    → cond e (rest_after (a ++ b) text) None ≡ option_and_then (rest_after b) (cond e (rest_after a text) None)
parts_by a b text true h = h
parts_by a b text false h = refl

-- a part and then another
pub rest_after-parts : (a b text : List ℕ) → rest_after (a ++ b) text ≡ option_and_then (rest_after b) (rest_after a text)
rest_after-parts [] b text = refl
rest_after-parts (x ∷ a) b [] = refl
rest_after-parts (x ∷ a) b (c ∷ text) = parts_by a b text (x == c) (rest_after-parts a b text)

-- what `strip_prefix` finds
pub stripped : (part text : List ℕ) → bytes_eq (take (length part) text) part ≡ true → rest_after part text ≡ Some (drop (length part) text)
stripped part text h =
    let front : take (length part) text ≡ part = (bytes_eq-Decides (take (length part) text) part).0 h in
    let whole : text ≡ part ++ drop (length part) text = sym (take-append-drop (length part) text) ∙ ap (λ xs. xs ++ drop (length part) text) front in
    ap (rest_after part) whole ∙ rest_after-append part (drop (length part) text)

pub not_stripped : (part text : List ℕ) → bytes_eq (take (length part) text) part ≡ false → rest_after part text ≡ None
not_stripped part text h = by (rest_after part text) refl
  where
    by : (r : Option (List ℕ)) → rest_after part text ≡ r → r ≡ None
    by None e = refl
    by (Some rest) e =
        let whole = rest_after-some part text rest e in
        let front : take (length part) text ≡ part = ap (take (length part)) whole ∙ take-append_seam part rest in
        let on = (bytes_eq-Decides (take (length part) text) part).1 front in
        absurd cc
