-- The exit of a `?` that may be Damaged.
use Rattle.std.proofs.Common.{◌≡◌, Result, Ok, Err, sym, ap, ◌∙◌, subst}
use Rattle.std.specs.Result.{IsErrAnd}
use Rattle.std.proofs.lemmas.Result.{err_from_is_err_and}
use Rattle.office_base.specs.declared.build.Rebuild.{Rebuild}
use Rattle.office_base.specs.declared.build.Rebuild.TheVariants.{Damaged}
use Rattle.office_base.specs.Rows.{OnDamaged}

pub damaged_exit : {X P Q : Type 0} (r : Result X Rebuild) (e : Rebuild) → IsErrAnd r (λ y. y ≡ e) → (e ≡ Damaged → P) → (P → Q) → OnDamaged r Q
damaged_exit {X} {P} {Q} r e is reported so =
    let p = err_from_is_err_and r is in
    subst (λ (x : Result X Rebuild). OnDamaged x Q) (sym p.1) (λ d. so (reported (sym p.2 ∙ d)))

-- the answer of a call, passed on
pub damaged_so : {X P Q : Type 0} (r : Result X Rebuild) → OnDamaged r P → (P → Q) → OnDamaged r Q
damaged_so (Ok x) reported so = reported
damaged_so (Err e) reported so = λ d. so (reported d)
