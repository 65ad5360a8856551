-- Lists of lists.
use Rattle.std.proofs.Common.{◌≡◌, ◌∙◌, ◌<◌, ◌||◌, ℕ, Bool, List, [], ◌∷◌, ◌++◌, length, map, refl, sym, ap, arith}
use Rattle.std.specs.List.{flat_map, fold, list_any}
use Rattle.std.proofs.lemmas.List.{map-append}
use Rattle.office_access.specs.declared.class_pattern.ClassPattern.{ClassPattern}
use Rattle.std.specs.Option.{option_to_list}
use Rattle.office_policy.specs.Classes.{limit_of, pattern_of}

pub flat_map_map : {X Y A : Type 0} (g : Y → List A) (f : X → Y) (xs : List X) → flat_map g (map f xs) ≡ flat_map (λ x. g (f x)) xs
flat_map_map g f [] = refl
flat_map_map g f (x ∷ xs) = ap (λ rest. g (f x) ++ rest) (flat_map_map g f xs)

pub fold_map : {X Y A : Type 0} (g : A → Y → A) (f : X → Y) (a : A) (xs : List X) → fold g a (map f xs) ≡ fold (λ b x. g b (f x)) a xs
fold_map g f a [] = refl
fold_map g f a (x ∷ xs) = fold_map g f (g a (f x)) xs

-- the limit of one or more classes
pub limit_some : {X : Type 0} (f : X → List ℕ) (classes : List X) → 0 < length classes → limit_of (map f classes) ≡ flat_map (λ w. option_to_list (pattern_of (f w))) classes ∷ []
limit_some f [] some = absurd (omega (arith, some))
limit_some f (x ∷ xs) some = ap (λ rest. (option_to_list (pattern_of (f x)) ++ rest) ∷ []) (flat_map_map (λ token. option_to_list (pattern_of token)) f xs)

-- a limit comes behind others
pub limit_pushed : {X L : Type 0} (f : X → List ℕ) (h : L → List ClassPattern) (old new : List L) (limit : L) (classes : List X) → new ≡ old ++ limit ∷ []
    → h limit ≡ flat_map (λ w. option_to_list (pattern_of (f w))) classes → 0 < length classes → map h new ≡ map h old ++ limit_of (map f classes)
limit_pushed f h old new limit classes is same some =
    ap (map h) is ∙ map-append h old (limit ∷ []) ∙ ap (λ patterns. map h old ++ patterns ∷ []) same
    ∙ ap (λ limits. map h old ++ limits) (sym (limit_some f classes some))

pub list_any_map : {X Y : Type 0} (p : Y → Bool) (f : X → Y) (xs : List X) → list_any p (map f xs) ≡ list_any (λ x. p (f x)) xs
list_any_map p f [] = refl
list_any_map p f (x ∷ xs) = ap (λ rest. p (f x) || rest) (list_any_map p f xs)
