use Rattle.std.proofs.Common.{arith, refl, subst, sym}
use Rattle.std.specs.Io.KnownBytes.{Appends}
use Rattle.office_base.specs.Output.{AppendsSome}
use Rattle.office_base.proofs.Written.{appends_both, on_err, some_before, some_then}
use Rattle.office_csv.specs.Registers.{entry_lines}
use Rattle.office_wire.proofs.Whatever.{on_ok}
use Rattle.office_wire.proofs.registers.write_entry_register.Goals as goal

pub returns-in_err-write_entry_header-clause-err : goal.returns-in_err-write_entry_header-clause-err
returns-in_err-write_entry_header-clause-err g c = on_err _ (some_before _ _ _ _ c.in_err-write_entry_header.ensures.err)

pub returns-in_err-write_entry_line-clause-err : goal.returns-in_err-write_entry_line-clause-err
returns-in_err-write_entry_line-clause-err g c =
    on_err _ (some_then _ _ _ _ _ c.in_ok-write_entry_header.ensures.ok ((c.loop-row.invariant _).1
    (subst (λ (x : _). AppendsSome (g.W.Write.contents c.loop-row.out) (g.W.Write.contents c.write_entry_line.new.out) (entry_lines x)) (sym c.in-Some.ensures.some) (some_before _ _ _ _ c.in_err-write_entry_line.ensures.err))))

pub loop-row-preserved : goal.loop-row-preserved
loop-row-preserved g c = λ new.
    let next = sym c.in-Some.ensures.some in (
      λ left. (c.loop-row.invariant new).0 (subst (λ (x : _). Appends (g.W.Write.contents c.loop-row.out) new (entry_lines x)) next (appends_both _ _ _ _ _ c.in_ok-write_entry_line.ensures.ok left)),
      λ some. (c.loop-row.invariant new).1 (subst (λ (x : _). AppendsSome (g.W.Write.contents c.loop-row.out) new (entry_lines x)) next (some_then _ _ _ _ _ c.in_ok-write_entry_line.ensures.ok some)),
    )

pub returns-clause-ok : goal.returns-clause-ok
returns-clause-ok g c = on_ok _ (appends_both _ _ _ _ _ c.in_ok-write_entry_header.ensures.ok ((c.loop-row.invariant _).0
    (subst (λ (x : _). Appends (g.W.Write.contents c.loop-row.out) (g.W.Write.contents c.flush.new.out) (entry_lines x)) (sym (c.in_default.ensures.none refl)) c.flush.ensures)))

pub returns-clause-err : goal.returns-clause-err
returns-clause-err g c = on_err _ (some_then _ _ _ _ _ c.in_ok-write_entry_header.ensures.ok ((c.loop-row.invariant _).1
    (subst (λ (x : _). AppendsSome (g.W.Write.contents c.loop-row.out) (g.W.Write.contents c.flush.new.out) (entry_lines x)) (sym (c.in_default.ensures.none refl)) (record { count = 0; within = omega arith; out = c.flush.ensures }))))
