-- What holds of each thing in a map of codes, after a thing is put in or changed.
use Rattle.std.proofs.Common.{◌≡◌, ℕ, List, Bool, true, false, cond, Option, Some, None, refl, sym, subst, ◌∙◌}
use Rattle.std.specs.Option.{option_map}
use Rattle.std.specs.Ordering.{eq_by_cmp}
use Rattle.std.specs.Cmp.Lexicographic.{nat_list_cmp_total}
use Rattle.std.specs.FinMap.{FinMap, get, insert, get-insert}
use Rattle.office_records.specs.Lists.{amended}
use Rattle.office_records.specs.Tree.{code_cmp}
use Rattle.office_records.proofs.Inserting.{same_code, get-amended}

abbrev pub OfEach : {V : Type 0} → FinMap code_cmp V → (List ℕ → V → Type 0) → Type 0
OfEach {V} things P = (code : List ℕ) (it : V) → get things code ≡ Some it → P code it

of_each_by : {V : Type 0} (P : List ℕ → V → Type 0) (things : FinMap code_cmp V) (k q : List ℕ) (new : Option V) (it : V) (b : Bool) → OfEach things P → ((x : V) → new ≡ Some x → P k x)
    → eq_by_cmp code_cmp q k ≡ b → cond b new (get things q) ≡ Some it → P q it
of_each_by P things k q new it true each one tie is = subst (λ c. P c it) (sym (same_code q k tie)) (one it is)
of_each_by P things k q new it false each one tie is = each q it is

-- it holds of each with a new thing of which it holds
pub OfEach-insert : {V : Type 0} (P : List ℕ → V → Type 0) (things : FinMap code_cmp V) (k : List ℕ) (v : V) → OfEach things P → P k v → OfEach (insert things k v) P
OfEach-insert P things k v each one q it is =
    of_each_by P things k q (Some v) it (eq_by_cmp code_cmp q k) each (λ x e. let same : v ≡ x = cc in subst (P k) same one) refl (sym (get-insert nat_list_cmp_total things k v q) ∙ is)

changed : {V : Type 0} (P : List ℕ → V → Type 0) (k : List ℕ) (change : V → V) (o : Option V) (x : V) → ((y : V) → o ≡ Some y → P k (change y)) → option_map change o ≡ Some x → P k x
changed P k change None x keeps is = absurd cc
changed P k change (Some y) x keeps is = let same : change y ≡ x = cc in subst (P k) same (keeps y refl)

-- and of each with a thing changed, where it holds of the changed thing
pub OfEach-amended : {V : Type 0} (P : List ℕ → V → Type 0) (things : FinMap code_cmp V) (k : List ℕ) (change : V → V) → OfEach things P → ((y : V) → get things k ≡ Some y → P k (change y)) → OfEach (amended things k change) P
OfEach-amended P things k change each keeps q it is =
    of_each_by P things k q (option_map change (get things k)) it (eq_by_cmp code_cmp q k) each (λ x. changed P k change (get things k) x keeps) refl (sym (get-amended things k change q) ∙ is)
