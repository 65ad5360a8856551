-- A text that can be read with one level more around it.
use Rattle.std.proofs.Common.{◌≡◌, ◌∙◌, ℕ, ◌-◌, ◌<◌, ◌≤◌, Bool, true, false, List, [], Option, Some, None, refl, sym, ap, subst, arith, append-nil}
use Rattle.std.specs.Prelude.{IsSome, IsTrue, option_map, ◌↔◌}
use Rattle.std.proofs.lemmas.Bool.{true≢false}
use Rattle.json.specs.Json.{Json, document, max_depth, value}
use Rattle.json.specs.Lex.{tokens}
use Rattle.json.specs.Token.{Token}
use Rattle.json.specs.Tree.{depth, json_tokens}
use Rattle.json.proofs.Found.{Some_inj, one_reading}
use Rattle.json.proofs.Nesting.{value-depth}
use Rattle.json.proofs.Printed.Trees.{value-json_tokens}
use Rattle.json.proofs.Unique.Spelling.{tokens-document}
use Rattle.office_journal.specs.Members.{HasRoom, IsRead}

spelt : (text : List ℕ) (j : Json) (d : ℕ) → document text ≡ Some j → depth j ≤ d → value d (tokens text) ≡ Some (j, [])
spelt text j d e fit = ap (value d) (tokens-document text j e ∙ sym (append-nil (json_tokens j))) ∙ value-json_tokens j d [] fit

some_of : {A : Type 0} (o : Option A) (a : A) → o ≡ Some a → IsSome o
some_of o a e = subst IsSome (sym e) refl

pub room_of : (text : List ℕ) → IsRead text → HasRoom text
room_of text (j, e, unique, shallow) = some_of _ [] (ap (option_map (λ p. p.1)) (spelt text j (max_depth - 1) e (omega (arith, shallow))))

pub depth_of : (text : List ℕ) (j : Json) → document text ≡ Some j → HasRoom text → depth j < max_depth
depth_of text j e h = by (value (max_depth - 1) (tokens text)) refl h
  where
    by : (o : Option (Json × List Token)) → value (max_depth - 1) (tokens text) ≡ o → IsSome (option_map (λ p. p.1) o) → depth j < max_depth
    by None k some = absurd cc
    by (Some x) k some =
        let same : x ≡ (j, []) = Some_inj x (j, []) (one_reading (max_depth - 1) (depth j) (tokens text) x (j, []) k (spelt text j (depth j) e (omega arith))) in
        let small = value-depth (max_depth - 1) (tokens text) [] j (k ∙ ap Some same) in
        omega (arith, small)

pub no_room : (room : Bool) (text : List ℕ) → room ≡ false → (IsTrue room ↔ HasRoom text) → IsRead text → ⊥
no_room room text off h read = true≢false (sym (h.1 (room_of text read)) ∙ off)

pub room_depth : (room : Bool) (text : List ℕ) (j : Json) → room ≡ true → (IsTrue room ↔ HasRoom text) → document text ≡ Some j → depth j < max_depth
room_depth room text j on h e = depth_of text j e (h.0 on)
