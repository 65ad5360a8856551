-- Tables that were read whole, of which no `office` row came.
use Rattle.std.proofs.Common.{◌≡◌, ◌≢◌, inl, ℤ, [], ◌∷◌, false, refl, subst, sym}
use Rattle.sqlite.specs.Held.{Held, state}
use Rattle.sqlite.specs.State.{HasCleanDisk}
use Rattle.sqlite_trees.specs.declared.store.Store.{Ghosts}
use Rattle.office_rules.specs.Tables.{TableLists, no_rows}
use Rattle.office_store.specs.Calling.{IsAdopted, IsNotAdopted}
use Rattle.office_store.specs.declared.fault.Fault.TheVariants as fault

-- there is none of which `office` has not one row
pub not_of_none : {S : Type 0} (g : Ghosts S) (conn store back : Held S) (had has : TableLists) → back ≡ store → back.in_transaction ≡ false → had ≡ no_rows → IsAdopted g conn store had has → ((day : ℤ) → has.days ≢ day ∷ [])
    → IsNotAdopted g conn fault.Damaged back no_rows ⊥
not_of_none g conn store back had has is ended none it no_day = record {
  ended = ended;
  faults = λ wrong. cc;
  mixed = λ named clean has is differs. inl refl;
  clean = λ clean. it.clean (subst (λ h. HasCleanDisk (state g h)) is clean);
  shield = λ shielded. subst (λ h. (state g h).IsShielded) (sym is) (it.shield shielded);
  left = λ ed clean rest.
      let taken = it.taken ed (subst (λ h. HasCleanDisk (state g h)) is clean) rest in
      let office = (taken.read none).office in
      record {
        damaged = λ wrong fresh. absurd (no_day office.0 office.1);
        form = λ wrong all. no_day office.0 office.1;
        version = λ wrong. absurd (no_day office.0 office.1);
        this_version = λ wrong other. no_day office.0 office.1;
        kept = λ other. absurd (no_day office.0 office.1);
        leaves = λ db may. absurd (no_day office.0 office.1);
      };
}
