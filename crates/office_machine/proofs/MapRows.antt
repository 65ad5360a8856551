-- Rows of entries and of keys, one by one.
use Rattle.std.proofs.Common.{◌≡◌, ℕ, List, [], ◌∷◌, ◌++◌, refl, sym, ap, subst, ◌∙◌}
use Rattle.std.proofs.lemmas.List.{map-append}
use Rattle.std.proofs.lemmas.List.Elements.{All-from_recursion}
use Rattle.std.specs.List.{All}
use Rattle.std.specs.List.Sorted.{IsStrictlySortedBy}
use Rattle.std.specs.Map.{keys_of}
use Rattle.std.specs.Ordering.{nat_cmp}
use Rattle.std.specs.declared.cmp.Ordering.{Ordering}
use Rattle.std.specs.declared.cmp.Ordering.TheVariants.{Less}
use Rattle.office_rules.specs.declared.entry.Entry.{Entry}
use Rattle.office_base.proofs.Ascending.{above_prefix}
use Rattle.office_rules.specs.Loading.{entry_rows}
use Rattle.office_rules.specs.State.{entry_cmp}
use Rattle.office_machine.specs.Keys.{bare_rows}

pub keys_of_none : (keys : List ℕ) → keys_of (bare_rows keys) ≡ keys
keys_of_none [] = refl
keys_of_none (k ∷ ks) = ap (λ rest. k ∷ rest) (keys_of_none ks)

-- in rows whose keys ascend, that of a row is above those before it
pub next_above : {K V : Type 0} (R : K → K → Ordering) (done : List (K × V)) (k : K) (v : V) (rest : List (K × V)) → IsStrictlySortedBy R (keys_of (done ++ (k, v) ∷ rest)) → All (λ q. R q k ≡ Less) (keys_of done)
next_above R done k v rest ascend = All-from_recursion (λ q. R q k ≡ Less) (keys_of done) (above_prefix R done k v rest ascend)

-- the same of keys alone
pub next_key : (done : List ℕ) (k : ℕ) (rest : List ℕ) → IsStrictlySortedBy nat_cmp (done ++ k ∷ rest) → All (λ q. nat_cmp q k ≡ Less) done
next_key done k rest ascend =
    let keys = sym (keys_of_none (done ++ k ∷ rest)) ∙ ap keys_of (map-append (λ q. (q, [])) done (k ∷ rest)) in
    subst (All (λ q. nat_cmp q k ≡ Less)) (keys_of_none done)
    (next_above nat_cmp (bare_rows done) k [] (bare_rows rest) (subst (λ ks. IsStrictlySortedBy nat_cmp ks) keys ascend))

-- the same of entries under their runs and records
pub next_entry : (done : List Entry) (e : Entry) (rest : List Entry) → IsStrictlySortedBy entry_cmp (keys_of (entry_rows (done ++ e ∷ rest))) → All (λ q. entry_cmp q (e.run, e.record_no) ≡ Less) (keys_of (entry_rows done))
next_entry done e rest ascend =
    next_above entry_cmp (entry_rows done) (e.run, e.record_no) e (entry_rows rest)
    (subst (λ es. IsStrictlySortedBy entry_cmp (keys_of es)) (map-append (λ f. ((f.run, f.record_no), f)) done (e ∷ rest)) ascend)
