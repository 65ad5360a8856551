use Rattle.std.proofs.Common.{refl, subst, sym}
use Rattle.std.specs.Option.{IsNone}
use Rattle.office_csv.specs.ImportRows.{named}
use Rattle.office_wire.proofs.Calls.{called, not_called}
use Rattle.office_wire.proofs.record_import.take_row.Goals as goal

pub returns-in-Ok-write_line : goal.returns-in-Ok-write_line
returns-in-Ok-write_line g c =
    called g.S.Store _ _ _ _ c.in-Ok.ensures (λ s it. (named c.in-Some.it, c.in-Some.ensures.some, (c.in-Ok.answer, it.0, it.1, it.2, c.in-Ok-write_line.ensures.ok, c.is_refusal.ensures)))

pub returns-in-Err-write_line : goal.returns-in-Err-write_line
returns-in-Err-write_line g c =
    called g.S.Store _ _ _ _ c.in-Ok.ensures (λ s it. (named c.in-Some.it, c.in-Ok.answer, it.0, c.in-Some.ensures.some, it.1, it.2, c.in-Err-write_line.ensures.err))

pub returns-in-Err : goal.returns-in-Err
returns-in-Err g c = called g.S.Store _ _ _ _ c.in-Err.ensures (λ s it. (named c.in-Some.it, c.in-Some.ensures.some, it, refl))

pub returns-in_default : goal.returns-in_default
returns-in_default g c = not_called g.S.Store _ _ (λ s at. (refl, c.row_in.ensures.none (subst (λ o. IsNone o) (sym c.in_default.is) refl), at, refl))
