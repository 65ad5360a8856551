-- Names that sign the same text are one name.
use Rattle.std.proofs.Common.{◌≡◌, ◌⊎◌, inl, inr, ℕ, Bool, true, false, cond, not, ◌&&◌, ◌||◌, List, [], ◌∷◌, Option, Some, None, refl, sym, ap, ◌∙◌}
use Rattle.std.specs.List.{find, list_all, list_any}
use Rattle.std.specs.Str.{bytes_eq}
use Rattle.std.proofs.lemmas.Bool.{and_parts}
use Rattle.std.proofs.lemmas.Slice.Eq.{bytes_eq-Decides}
use Rattle.office_access.specs.Settings.{Settings, are_apart, goes_by, grants_by, grants_of, is_apart, is_taken, person_named, signature_by, signs}
use Rattle.office_access.specs.declared.grants.Grants.{Grants}
use Rattle.office_access.specs.declared.person.Person.{Person}
use Rattle.office_access.specs.declared.person.SignIn.{SignIn}

is_one : (xs ys : List ℕ) → xs ≡ ys → bytes_eq xs ys ≡ true
is_one xs ys h = (bytes_eq-Decides xs ys).1 h

-- the person is one of the list
abbrev IsIn : Person → List Person → Type 0
IsIn p [] = ⊥
IsIn p (q ∷ rest) = (q ≡ p) ⊎ IsIn p rest

found : (name : List ℕ) (people : List Person) (p : Person) → find (λ person. bytes_eq person.name name) people ≡ Some p → IsIn p people × (p.name ≡ name)
found name [] p h = absurd cc
found name (q ∷ rest) p h = at (bytes_eq q.name name) refl h (λ e. found name rest p e)
  where
    at : (b : Bool) → bytes_eq q.name name ≡ b → cond b (Some q) (find (λ person. bytes_eq person.name name) rest) ≡ Some p → (find (λ person. bytes_eq person.name name) rest ≡ Some p → IsIn p rest × (p.name ≡ name)) → IsIn p (q ∷ rest) × (p.name ≡ name)
    at true is e more =
        let one : q ≡ p = cc in
        (inl one, ap (λ (x : Person). x.name) (sym one) ∙ (bytes_eq-Decides q.name name).0 is)
    at false is e more = let there = more e in (inr there.0, there.1)

all_at : (test : Person → Bool) (people : List Person) (p : Person) → list_all test people ≡ true → IsIn p people → test p ≡ true
all_at test [] p h there = absurd there
all_at test (q ∷ rest) p h there =
    elim there [
      | inl one ↦ ap test (sym one) ∙ (and_parts (test q) (list_all test rest) h).0
      | inr more ↦ all_at test rest p (and_parts (test q) (list_all test rest) h).1 more
    ]

any_at : (test : Person → Bool) (people : List Person) (p : Person) → test p ≡ true → IsIn p people → list_any test people ≡ true
any_at test [] p h there = absurd there
any_at test (q ∷ rest) p h there =
    elim there [
      | inl one ↦ ap (λ b. b || list_any test rest) (ap test one ∙ h)
      | inr more ↦ or_later (test q) (list_any test rest) (any_at test rest p h more)
    ]
  where
    or_later : (a b : Bool) → b ≡ true → (a || b) ≡ true
    or_later true b h = refl
    or_later false b h = h

-- ---- two persons that sign the same

not_apart : (p q : Person) → is_apart p q ≡ true → q.signs ≡ p.signs → ⊥
not_apart p q h one = off (goes_by p.name q) (bytes_eq q.name p.signs) (bytes_eq q.signs p.signs) (is_one q.signs p.signs one) h
  where
    off : (a b c : Bool) → c ≡ true → (not a && not (b || c)) ≡ true → ⊥
    off true b c is h = absurd cc
    off false true c is h = absurd cc
    off false false true is h = absurd cc
    off false false false is h = absurd cc

one_person : (people : List Person) (p q : Person) → are_apart people ≡ true → IsIn p people → IsIn q people → p.signs ≡ q.signs → p.name ≡ q.name
one_person [] p q apart there other one = absurd there
one_person (x ∷ rest) p q apart there other one =
    let parts = and_parts (list_all (is_apart x) rest) (are_apart rest) apart in
    elim there [
      | inl first ↦ elim other [
        | inl second ↦ ap (λ (y : Person). y.name) (sym first ∙ second)
        | inr later ↦ absurd (not_apart x q (all_at (is_apart x) rest q parts.0 later) (sym one ∙ ap (λ (y : Person). y.signs) (sym first)))
      ]
      | inr sooner ↦ elim other [
        | inl second ↦ absurd (not_apart x p (all_at (is_apart x) rest p parts.0 sooner) (one ∙ ap (λ (y : Person). y.signs) (sym second)))
        | inr later ↦ one_person rest p q parts.1 sooner later one
      ]
    ]

-- a name with the rights of every other name is the signature of none
not_taken : (settings : Settings) (name : SignIn) (p : Person) (grants : Grants) → IsIn p settings.people → p.signs ≡ name.name → grants_by settings name None ≡ Some grants → ⊥
not_taken settings name p grants there one h =
    taken (list_any (goes_by name.name) settings.people) (list_any (bytes_eq name.look) settings.taken) settings.others grants
    (any_at (goes_by name.name) settings.people p (goes (bytes_eq p.name name.name) (bytes_eq p.signs name.name) (is_one p.signs name.name one)) there) h
  where
    goes : (a b : Bool) → b ≡ true → (a || b) ≡ true
    goes true b h = refl
    goes false b h = h

    taken : (a b : Bool) (o : Option Grants) (g : Grants) → a ≡ true → cond (a || b) None o ≡ Some g → ⊥
    taken true b o g is h = absurd cc
    taken false b o g is h = absurd cc

one_by : (settings : Settings) (one other : SignIn) (o : Option Person) (p : Option Person) (first second : Grants) → person_named settings one.name ≡ o → person_named settings other.name ≡ p
    → are_apart settings.people ≡ true → grants_by settings one o ≡ Some first → grants_by settings other p ≡ Some second
    → signature_by one.name o ≡ signature_by other.name p → one.name ≡ other.name
one_by settings one other None None first second a b apart g h same = same
one_by settings one other None (Some q) first second a b apart g h same =
    absurd (not_taken settings one q first (found other.name settings.people q b).0 (sym same) g)
one_by settings one other (Some p) None first second a b apart g h same =
    absurd (not_taken settings other p second (found one.name settings.people p a).0 same h)
one_by settings one other (Some p) (Some q) first second a b apart g h same =
    let here = found one.name settings.people p a in
    let there = found other.name settings.people q b in
    sym here.1 ∙ one_person settings.people p q apart here.0 there.0 same ∙ there.1

pub one_name : (settings : Settings) (one other : SignIn) (first second : Grants) → are_apart settings.people ≡ true → grants_of settings one ≡ Some first → grants_of settings other ≡ Some second
    → signs settings one ≡ signs settings other → one.name ≡ other.name
one_name settings one other first second = one_by settings one other (person_named settings one.name) (person_named settings other.name) first second refl refl
