-- Steps of a reader that goes on only where it was given something.
use Rattle.std.proofs.Common.{◌≡◌, ℕ, zero, suc, List, [], ◌∷◌, get_or, map, Option, Some, None, Result, Ok, Err, refl, sym, ap, subst, ◌∙◌, Bor}
use Rattle.std.specs.Option.{ok_or}
use Rattle.std.specs.Option.{option_copied}
use Rattle.std.specs.Prelude.{IfOk, IsErrAnd, MatchResult}
use Rattle.office_evidence.specs.Reading.{Gives}
use Rattle.office_evidence.specs.declared.words.Unread.{Unread}
use Rattle.office_evidence.specs.declared.words.Unread.TheVariants.{Memory}

-- a word, by the words
pub word_at : (words : List (Bor (List ℕ))) (ws : List (List ℕ)) (k : ℕ) (d : Bor (List ℕ)) → map (λ (word : Bor (List ℕ)). word.now) words ≡ ws → (get_or words k d).now ≡ get_or ws k d.now
word_at words ws k d same = at words k ∙ ap (λ (xs : List (List ℕ)). get_or xs k d.now) same
  where
    at : (words : List (Bor (List ℕ))) (k : ℕ) → (get_or words k d).now ≡ get_or (map (λ (word : Bor (List ℕ)). word.now) words) k d.now
    at [] k = refl
    at (x ∷ xs) zero = refl
    at (x ∷ xs) (suc k) = at xs k

module _ {A : Type 0} where
  -- what is there is no error, and is what is gone on with
  pub no_error : (o : Option A) (x : A) (r : Result A Unread) (e other : Unread) → o ≡ Some x → r ≡ ok_or o other → r ≡ Err e → ⊥
  no_error o x r e other is value was = let no : Ok x ≡ Err e = sym (value ∙ ap (λ (p : Option A). ok_or p other) is) ∙ was in absurd cc

  pub goes_on : (o : Option A) (x y : A) (r : Result A Unread) (other : Unread) → o ≡ Some x → r ≡ ok_or o other → r ≡ Ok y → y ≡ x
  goes_on o x y r other is value was = let same : Ok x ≡ Ok y = sym (value ∙ ap (λ (p : Option A). ok_or p other) is) ∙ was in cc

  -- what is given
  pub given : (r : Result A Unread) (x y : A) → Gives r x → r ≡ Ok y → y ≡ x
  given r x y gives was = subst (λ (p : Result A Unread). Gives p x) was gives

  pub memory : (r : Result A Unread) (x : A) (e : Unread) → Gives r x → r ≡ Err e → e ≡ Memory
  memory r x e gives was = subst (λ (p : Result A Unread). Gives p x) was gives

  -- an error that is passed on
  pub passed_on : (r : Result A Unread) (x : A) (e : Unread) → IsErrAnd r (λ f. f ≡ e) → e ≡ Memory → Gives r x
  passed_on (Ok y) x e err is = absurd err
  passed_on (Err f) x e err is = err ∙ is

  -- the same of what is given up to something else
  pub passed_any : (P : A → Type 0) (r : Result A Unread) (e : Unread) → IsErrAnd r (λ f. f ≡ e) → e ≡ Memory → MatchResult r P (λ f. f ≡ Memory)
  passed_any P (Ok y) e err is = absurd err
  passed_any P (Err f) e err is = err ∙ is

  pub memory_any : (P : A → Type 0) (r : Result A Unread) (e : Unread) → MatchResult r P (λ f. f ≡ Memory) → r ≡ Err e → e ≡ Memory
  memory_any P r e gives was = subst (λ (p : Result A Unread). MatchResult p P (λ f. f ≡ Memory)) was gives

  pub given_any : (P : A → Type 0) (r : Result A Unread) (y : A) → MatchResult r P (λ f. f ≡ Memory) → r ≡ Ok y → P y
  given_any P r y gives was = subst (λ (p : Result A Unread). MatchResult p P (λ f. f ≡ Memory)) was gives

  -- what is there is given
  pub gives_it : (o : Option A) (x : A) (r : Result A Unread) (other : Unread) → o ≡ Some x → r ≡ ok_or o other → Gives r x
  gives_it o x r other is value = subst (λ (p : Result A Unread). Gives p x) (sym (value ∙ ap (λ (p : Option A). ok_or p other) is)) refl

-- what is so of all that may be given is so of what is given
pub given_so : {A : Type 0} (P : A → Type 0) (r : Result A Unread) (x : A) → IfOk r P → r ≡ Ok x → P x
given_so P r x so was = subst (λ p. IfOk p P) was so

-- what is there behind a reference
there_behind : (o : Option (Bor (List ℕ))) (t : List ℕ) → option_copied o ≡ Some t → (b : Bor (List ℕ)) × (o ≡ Some b) × (b.now ≡ t)
there_behind None t is = absurd cc
there_behind (Some b) t is = (b, refl, cc)

pub copied_error : (o : Option (Bor (List ℕ))) (t : List ℕ) (r : Result (Bor (List ℕ)) Unread) (e other : Unread) → option_copied o ≡ Some t → r ≡ ok_or o other → r ≡ Err e → ⊥
copied_error o t r e other is value was = let b = there_behind o t is in no_error o b.0 r e other b.1 value was

pub copied_on : (o : Option (Bor (List ℕ))) (t : List ℕ) (y : Bor (List ℕ)) (r : Result (Bor (List ℕ)) Unread) (other : Unread) → option_copied o ≡ Some t → r ≡ ok_or o other → r ≡ Ok y → y.now ≡ t
copied_on o t y r other is value was = let b = there_behind o t is in ap (λ (x : Bor (List ℕ)). x.now) (goes_on o b.0 y r other b.1 value was) ∙ b.2
