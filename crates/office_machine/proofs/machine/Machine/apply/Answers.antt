use Rattle.std.proofs.Common.{Result, Ok, Err, sym, ap, ◌∙◌, subst, OnOk, OnErr}
use Rattle.std.proofs.lemmas.Result.{on_ok_weaker, on_err_weaker}
use Rattle.office_rules.specs.Acts.{CanBeMade}
use Rattle.office_rules.specs.Sound.{IsSoundOffice}
use Rattle.office_rules.specs.State.{Office}
use Rattle.office_rules.specs.Writes.{CanWrite, all_office_writes}
use Rattle.office_machine.proofs.machine.Machine.apply.Goals as goal

either : {T E : Type 0} (P : Type 0) (r : Result T E) → OnOk r P → OnErr r P → P
either P (Ok x) ok err = ok
either P (Err e) ok err = err

pub apply-requires : goal.apply-requires
unfolding CanBeMade
apply-requires c = subst (λ (s : Office). CanWrite s c.args.change.writes.items) (sym c.self.view_is) c.requires.0

pub invariant_of-self : goal.invariant_of-self
unfolding CanBeMade
invariant_of-self c =
    let made = all_office_writes c.args.change.writes.items in
    either (IsSoundOffice c.apply.new.self) c.apply.result
    (on_ok_weaker c.apply.result (λ e. subst IsSoundOffice (sym (e ∙ ap made c.self.view_is)) c.requires.1) c.apply.ensures.ok)
    (on_err_weaker c.apply.result (λ e. subst IsSoundOffice (sym e) c.self.invariant) c.apply.ensures.err)
