-- What is after the bytes that a text begins with.
use Rattle.std.proofs.Common.{◌≡◌, ◌∙◌, ℕ, eqb, Bool, true, false, cond, List, length, drop, Bor, Option, Some, None, MatchOption, option_map, ap, subst, sym}
use Rattle.std.specs.List.{starts_with}
use Rattle.std.specs.Str.{IsCharBoundary}
use Rattle.std.specs.Str.Pattern.{FindsTextPrefix, StripsPrefix}
use Rattle.std.proofs.lemmas.Str.Pattern.{starts_text}
use Rattle.office_json.specs.Targets.{after}

pub stripped : (r : Option (Bor (List ℕ))) (n s : List ℕ) → MatchOption r (FindsTextPrefix n s None) (λ x. StripsPrefix (FindsTextPrefix n) s x.now) → option_map (λ x. x.now) r ≡ after n s
unfolding after
stripped None n s h =
    let starts : false ≡ starts_with eqb s n = starts_text false n s h in
    ap (λ (b : Bool). cond b (Some (drop (length n) s)) None) starts
stripped (Some x) n s h =
    let k : h.0 ≡ length n = h.1.0 in
    let boundary : IsCharBoundary s h.0 = subst (λ (i : ℕ). IsCharBoundary s i) (sym k) h.1.2 in
    let starts : true ≡ starts_with eqb s n = starts_text true n s (h.0, h.1, boundary) in
    let rest : x.now ≡ drop (length n) s = h.2 ∙ ap (λ (i : ℕ). drop i s) k in
    let some : List ℕ → Option (List ℕ) = λ bytes. Some bytes in
    ap some rest ∙ ap (λ (b : Bool). cond b (Some (drop (length n) s)) None) starts
