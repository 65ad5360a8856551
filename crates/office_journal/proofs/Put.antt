-- Members that are written one after another.
use Rattle.std.proofs.Common.{◌≡◌, ◌∙◌, ◌<◌, ℕ, List, [], ◌∷◌, ◌++◌, sym, ap, append_assoc, append-nil, arith}
use Rattle.std.proofs.lemmas.Grind.{flat_map-append}
use Rattle.json.specs.Json.{Json, max_depth, member, no_members, object}
use Rattle.json.specs.Token.{Token, key, begin_object, end_object}
use Rattle.json.specs.Tree.{depth, json_tokens, HasNumbers}
use Rattle.json.specs.Written.{Written}
use Rattle.office_journal.specs.Members.{AreShallow, Field, HaveNumbers, Puts, field_tokens, fields_tokens}

both_numbers : (xs ys : List Field) → HaveNumbers xs → HaveNumbers ys → HaveNumbers (xs ++ ys)
both_numbers [] ys h k = k
both_numbers (x ∷ xs) ys h k = (h.0, both_numbers xs ys h.1 k)

both_shallow : (xs ys : List Field) → AreShallow xs → AreShallow ys → AreShallow (xs ++ ys)
both_shallow [] ys h k = k
both_shallow (x ∷ xs) ys h k = (h.0, both_shallow xs ys h.1 k)

pub puts_then : (a b c : Written) (xs ys : List Field) → Puts a b xs → Puts b c ys → Puts a c (xs ++ ys)
puts_then a b c xs ys h k = record {
  before = k.before ∙ h.before;
  tokens =
      k.tokens ∙ ap (λ ts. ts ++ fields_tokens ys) h.tokens ∙ append_assoc a.tokens (fields_tokens xs) (fields_tokens ys)
      ∙ ap (λ ts. a.tokens ++ ts) (sym (flat_map-append field_tokens xs ys));
  numbers = both_numbers xs ys h.numbers k.numbers;
  shallow = both_shallow xs ys h.shallow k.shallow;
}

-- a member, its name and then its value
pub puts_one : (a b c : Written) (name : List ℕ) (j : Json) → b.before ≡ a.before → c.before ≡ b.before
    → b.tokens ≡ a.tokens ++ key name ∷ [] → c.tokens ≡ b.tokens ++ json_tokens j → HasNumbers j → depth j < max_depth → Puts a c ((name, j) ∷ [])
puts_one a b c name j e f g h numbers shallow = record {
  before = f ∙ e;
  tokens =
      h ∙ ap (λ ts. ts ++ json_tokens j) g ∙ append_assoc a.tokens (key name ∷ []) (json_tokens j)
      ∙ ap (λ ts. a.tokens ++ key name ∷ ts) (sym (append-nil (json_tokens j)));
  numbers = (numbers, tt);
  shallow = (shallow, tt);
}

then_tokens : (ts more xs ys zs : List Token) → xs ≡ ts ++ more → ys ≡ xs ++ zs → ys ≡ ts ++ (more ++ zs)
then_tokens ts more xs ys zs h k = k ∙ ap (λ x. x ++ zs) h ∙ append_assoc ts more zs

-- an object of two members, between its braces
pub puts_pair : (a b c d e f : Written) (name one other : List ℕ) (x y : Json) → b.before ≡ a.before → b.tokens ≡ a.tokens ++ key name ∷ []
    → c.before ≡ b.before → c.tokens ≡ b.tokens ++ begin_object ∷ [] → Puts c d ((one, x) ∷ []) → Puts d e ((other, y) ∷ [])
    → depth x < 127 → depth y < 127
    → f.before ≡ e.before → f.tokens ≡ e.tokens ++ end_object ∷ [] → Puts a f ((name, object (member one x (member other y no_members))) ∷ [])
puts_pair a b c d e f name one other x y b1 b2 c1 c2 first second low high f1 f2 =
    let named = key name ∷ [] in
    let open_brace = named ++ begin_object ∷ [] in
    let left = fields_tokens ((one, x) ∷ []) in
    let right = fields_tokens ((other, y) ∷ []) in
    let three = then_tokens a.tokens named b.tokens c.tokens (begin_object ∷ []) b2 c2 in
    let four = then_tokens a.tokens open_brace c.tokens d.tokens left three first.tokens in
    let five = then_tokens a.tokens (open_brace ++ left) d.tokens e.tokens right four second.tokens in
    let six = then_tokens a.tokens ((open_brace ++ left) ++ right) e.tokens f.tokens (end_object ∷ []) five f2 in
    record {
      before = f1 ∙ second.before ∙ first.before ∙ c1 ∙ b1;
      tokens = six ∙ ap (λ ts. a.tokens ++ key name ∷ begin_object ∷ ts) (flat (json_tokens x) (json_tokens y) one other);
      numbers = ((first.numbers.0, (second.numbers.0, tt)), tt);
      shallow = (omega (arith, low, high), tt);
    }
  where
    flat : (xs ys : List Token) (k l : List ℕ)
        → ((key k ∷ (xs ++ [])) ++ (key l ∷ (ys ++ []))) ++ end_object ∷ [] ≡ (key k ∷ (xs ++ key l ∷ (ys ++ end_object ∷ []))) ++ []
    flat xs ys k l =
        ap (λ us. key k ∷ ((us ++ key l ∷ (ys ++ [])) ++ end_object ∷ [])) (append-nil xs)
        ∙ ap (λ us. key k ∷ ((xs ++ key l ∷ us) ++ end_object ∷ [])) (append-nil ys)
        ∙ ap (λ us. key k ∷ us) (append_assoc xs (key l ∷ ys) (end_object ∷ []) ∙ sym (append-nil (xs ++ key l ∷ (ys ++ end_object ∷ []))))

-- ---- all of them

pub all_tokens : (first last : Written) (fields : List Field) → first.tokens ≡ [] → Puts first last fields → last.tokens ≡ fields_tokens fields
all_tokens first last fields none p = p.tokens ∙ ap (λ ts. ts ++ fields_tokens fields) none
