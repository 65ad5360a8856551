-- The item at a place, where the text of each is what a list has.
use Rattle.std.proofs.Common.{◌≡◌, sym, ap, ◌∙◌, ℕ, List, [], Bor, Option, Some, None, unwrap_or}
use Rattle.std.specs.Option.{option_map}

pub text_at : (found : Option (Bor (List ℕ))) (other text : Bor (List ℕ)) (named : Option (List ℕ)) → option_map (λ s. s.now) found ≡ named → other.now ≡ [] → text ≡ unwrap_or found other → text.now ≡ unwrap_or named []
text_at None other text named e none is = rw (sym e) (ap (λ (s : Bor (List ℕ)). s.now) is ∙ none)
text_at (Some s) other text named e none is = rw (sym e) (ap (λ (s : Bor (List ℕ)). s.now) is)
