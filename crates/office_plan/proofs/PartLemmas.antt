-- What is made of two parts.
use Rattle.std.proofs.Common.{◌≡◌, Result, sym, ap, ◌∙◌}
use Rattle.office_base.specs.declared.refusal.Refusal.{Refusal}
use Rattle.office_plan.specs.Parts.{both, made}

pub both-same : {A B : Type 0} (x x' : Result A Refusal) (y y' : Result B Refusal) → x ≡ x' → y ≡ y' → both x y ≡ both x' y'
both-same {A} {B} x x' y y' e f = ap (λ (z : Result A Refusal). both z y) e ∙ ap (λ (z : Result B Refusal). both x' z) f

-- what was read of both parts is what is made of them
pub made-both : {A B C : Type 0} (f : A × B → C) (x x' : Result A Refusal) (y y' : Result B Refusal) (read taken : Result (A × B) Refusal) → read ≡ taken → read ≡ both x y → x ≡ x' → y ≡ y' → made f taken ≡ made f (both x' y')
made-both f x x' y y' read taken e is ex ey = ap (made f) (sym e ∙ is ∙ both-same x x' y y' ex ey)
